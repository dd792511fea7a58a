-- A sheet's text: its three parts, stored one behind the other, make it (`sheet_stored`), and it is the rules' text of the sheet (`sheet_is_the_rules`).
-- Assumes nothing.
use mathlib.Core.Path.{◌≡◌, ◌∙◌, ap}
use mathlib.Core.List.{List, ◌++◌, flat_map}
use Prim.Native.Nat.{ℕ, ◌+◌, ◌/◌, ◌%◌, ◌<◌}
use native.Mathlib.Omega.{arith}
use lib.ListN.{length, length-append}
use lib.Seq.{sets}
use Rattle.rules.specs.Sheet.{Entry, entry_text, sheet_text}
use Rattle.rules.proofs.Written.{frame_length}
use Rattle.frames.proofs.Areas.{sets_append}
use Rattle.picker.specs.Written.{head_of, end_line, sheet_in}

module _ (lines : List ℕ) (count : ℕ) where
  head_length : length (head_of count) ≡ 9
  head_length = frame_length _

  pub sheet_length : length (sheet_in lines count) ≡ length lines + 14
  unfolding sheet_in
  sheet_length =
      let head = head_length in
      let last : length end_line ≡ 5 = frame_length _ in
      rw (length-append (head_of count ++ lines) end_line, length-append (head_of count) lines) (omega arith)

  -- head, lines and end, as the calls say where they are stored
  pub sheet_stored : (old : List ℕ) {headed lined ended : List ℕ} {start end stop r : ℕ} → length lines ≡ end → start ≡ 9 →
      headed ≡ sets old 0 (head_of count) → stop ≡ start + end → lined ≡ sets headed start lines → r ≡ stop + 5 → ended ≡ sets lined stop end_line →
      (r ≡ length (sheet_in lines count)) × (ended ≡ sets old 0 (sheet_in lines count))
  unfolding sheet_in
  sheet_stored old {headed} {lined} {ended} {start} {end} {stop} {r} n s h e l z x =
      (omega (arith, sheet_length), x ∙ rw (l, h) (ap (λ (area : List ℕ). sets area stop end_line) behind_head ∙ behind_lines))
    where
      behind_head : sets (sets old 0 (head_of count)) start lines ≡ sets old 0 (head_of count ++ lines)
      behind_head = sets_append old 0 (head_of count) lines (omega (arith, head_length))

      behind_lines : sets (sets old 0 (head_of count ++ lines)) stop end_line ≡ sets old 0 (head_of count ++ lines ++ end_line)
      behind_lines = sets_append old 0 (head_of count ++ lines) end_line (omega (arith, length-append (head_of count) lines, head_length))

-- THE LAW: with the text of a sheet's lines and their number it is the sheet's text
pub sheet_is_the_rules : (es : List Entry) → length es < 65536 → sheet_in (flat_map entry_text es) (length es) ≡ sheet_text es
unfolding sheet_in sheet_text
sheet_is_the_rules es l =
    let high : length es / 256 % 256 ≡ length es / 256 = omega arith in
    rw high
