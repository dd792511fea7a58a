-- `picker_io::answer::told` meets its contract: the frame's line fills the array.
use mathlib.Core.Path.{◌∙◌}
use Rattle.rules.proofs.Written.{frame_length}
use Rattle.picker_io.proofs.Stored.{whole_stored}
use Rattle.picker_io.proofs.answer.told.Goals as goal

pub returns : goal.returns
returns c = rw c.to_be_bytes.ensures at (c.write_frame.ensures.area ∙ whole_stored _ _ (frame_length _))
