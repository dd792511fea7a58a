-- What the line loop owes of any text is what is owed of a catalogue's. Assumes nothing.
use Rattle.catalogue.specs.Reading.{start}
use Rattle.catalogue.proofs.Finished.{begun, read_owed}
use Rattle.catalogue.proofs.reading.read.Goals as goal

pub read_text-requires-clause-begun : goal.read_text-requires-clause-begun
read_text-requires-clause-begun c = (start, rw c.none.ensures begun)

pub returns : goal.returns
returns c = read_owed (c.read_text.ensures.read start (rw c.none.ensures begun))
