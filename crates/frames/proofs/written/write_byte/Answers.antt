-- `frames::written::write_byte` meets its contract: the two stores are a run of stores.
use Rattle.frames.proofs.Areas.{byte_stored}
use Rattle.frames.proofs.written.write_byte.Goals as goal

pub returns : goal.returns
returns c = byte_stored _ _ _ c.hex.ensures c.hex-2.ensures
