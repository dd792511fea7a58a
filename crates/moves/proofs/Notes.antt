-- One line noted: what it leaves, with room and without (`told_over`, `told_noted`). Assumes nothing.
use mathlib.Core.Path.{◌≡◌, refl, sym}
use mathlib.Core.Bool.{Bool, true, false, ◌||◌}
use mathlib.Core.List.{List}
use Prim.Native.Nat.{ℕ, ◌+◌, ◌*◌, ◌-◌}
use lib.Dec.{ltb, leb}
use lib.ListN.{length}
use lib.Seq.{sets}
use Rattle.rules.specs.Frames.{frame_text}
use Rattle.rules.proofs.Lists.{cond_true, cond_false, not_both}
use Rattle.moves.specs.Noting.{Sheet, sheet, noted, is_over, note_in}

pub neither : (a b : Bool) → (a || b) ≡ false → (a ≡ false) × (b ≡ false)
neither true b e = absurd (not_both refl e)
neither false b e = (refl, e)

pub or_neither : (a b : Bool) → a ≡ false → b ≡ false → (a || b) ≡ false
or_neither a b e f = rw (e, f)

module _ (a : ℕ) (bs : List ℕ) (s : Sheet) where
  pub note_over : is_over a s ≡ true → note_in a bs s ≡ sheet s.area (noted s.noted.lines s.noted.end true)
  unfolding note_in
  note_over e = cond_true _ _ e

  pub note_room : is_over a s ≡ false →
      note_in a bs s ≡ sheet (sets s.area s.noted.end (frame_text bs)) (noted (s.noted.lines + 1) (s.noted.end + (2 * length bs + 3)) false)
  unfolding note_in
  note_room e = cond_false _ _ e

-- what the code reads of the room that is left
module _ (a : ℕ) (s : Sheet) {room : ℕ} (is-room : room ≡ length s.area - s.noted.end) where
  abbrev as_read : Bool
  as_read = s.noted.over || leb a s.noted.lines || ltb room 15

  as_read_lem : {b : Bool} → as_read ≡ b → is_over a s ≡ b
  as_read_lem e = rw (← is-room) e

  module _ (bs : List ℕ) where
    pub told_over : as_read ≡ true → sheet s.area (noted s.noted.lines s.noted.end true) ≡ note_in a bs s
    told_over e = sym (note_over a bs s (as_read_lem e))

    pub told_noted : {area : List ℕ} {end : ℕ} → as_read ≡ false → end ≡ s.noted.end + (2 * length bs + 3) →
        area ≡ sets s.area s.noted.end (frame_text bs) → sheet area (noted (s.noted.lines + 1) end false) ≡ note_in a bs s
    told_noted e p q = rw (p, q) (sym (note_room a bs s (as_read_lem e)))
