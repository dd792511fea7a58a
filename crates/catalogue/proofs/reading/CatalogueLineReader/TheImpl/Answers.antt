-- Of a catalogue that stands for a reading, how many versions the root has in the tables is how many it has in the reading. Assumes nothing.
use mathlib.Core.Path.{◌∙◌, ap}
use Prim.Native.Nat.{ℕ}
use lib.Dec.{eqb}
use Rattle.rules.specs.Lines.{unless}
use Rattle.store.proofs.Kept.{count_law}
use Rattle.catalogue.proofs.reading.CatalogueLineReader.TheImpl.Goals as goal

pub last-tells : goal.last-tells
last-tells c = λ u h. c.ensures ∙ ap (λ (n : ℕ). unless (eqb n 1) 8) (count_law h.reads.tidy 0)
