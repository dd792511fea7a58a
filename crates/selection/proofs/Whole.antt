-- The whole text: how many lines it has, how long it is, and that its three parts, stored one behind the other, make it. Assumes nothing.
use mathlib.Core.Path.{◌≡◌, ◌∙◌, ap}
use mathlib.Core.List.{List, [], ◌∷◌, ◌++◌, flat_map}
use Prim.Native.Nat.{ℕ, ◌+◌, ◌*◌, ◌%◌, ◌≤◌}
use native.Mathlib.Omega.{arith}
use lib.ListN.{length, length-append}
use lib.Seq.{sets}
use Rattle.rules.specs.Lists.{below}
use Rattle.rules.proofs.Lists.{kept_length, flat_length, length_up_from}
use Rattle.rules.proofs.Written.{frame_length}
use Rattle.frames.proofs.Areas.{sets_append}
use Rattle.selection.specs.Written.{is_settled, settled_in, line_in, head_of, end_line, text_in}

-- of n modules no more than n have a version chosen
pub settled_few : (chosen : List ℕ) (n : ℕ) → length (settled_in chosen n) ≤ n
settled_few chosen n = let l = kept_length (is_settled chosen) (below n) in let e = length_up_from 0 n in omega arith

module _ (vs ch : List ℕ) where
  pub line_length : (m : ℕ) → length (line_in vs ch m) ≡ 13
  line_length m = frame_length _

  module _ (n : ℕ) where
    pub text_length : length (text_in vs ch n) ≡ 12 + 13 * length (settled_in ch n)
    unfolding text_in
    text_length =
        let head : length (head_of (length (settled_in ch n))) ≡ 7 = frame_length _ in
        let last : length end_line ≡ 5 = frame_length _ in
        let ls = flat_length (line_in vs ch) 13 line_length (settled_in ch n) in
        rw (length-append (head_of (length (settled_in ch n)) ++ flat_map (line_in vs ch) (settled_in ch n)) end_line)
        (rw (length-append (head_of (length (settled_in ch n))) (flat_map (line_in vs ch) (settled_in ch n))) (omega arith))

    -- head, lines and end, as the calls say where they are stored
    pub text_stored : (old : List ℕ) {headed lined ended : List ℕ} {count start end r : ℕ} → count ≡ length (settled_in ch n) → start ≡ 7 →
        headed ≡ sets old 0 (head_of count) → end ≡ start + 13 * length (settled_in ch n) →
        lined ≡ sets headed start (flat_map (line_in vs ch) (settled_in ch n)) → r ≡ end + 5 → ended ≡ sets lined end end_line →
        (r ≡ length (text_in vs ch n)) × (ended ≡ sets old 0 (text_in vs ch n))
    unfolding text_in
    text_stored old {headed} {lined} {ended} {count} {start} {end} {r} c s h e l z x =
        (omega (arith, text_length), x ∙ rw (l, h, c) (ap (λ (area : List ℕ). sets area end end_line) behind_head ∙ behind_lines))
      where
        head : List ℕ
        head = head_of (length (settled_in ch n))

        lines : List ℕ
        lines = flat_map (line_in vs ch) (settled_in ch n)

        head_length : length head ≡ 7
        head_length = frame_length (17 ∷ length (settled_in ch n) % 256 ∷ [])

        behind_head : sets (sets old 0 head) start lines ≡ sets old 0 (head ++ lines)
        behind_head = sets_append old 0 head lines (omega (arith, head_length))

        behind_lines : sets (sets old 0 (head ++ lines)) end end_line ≡ sets old 0 (head ++ lines ++ end_line)
        behind_lines =
            sets_append old 0 (head ++ lines) end_line
            (omega (arith, length-append head lines, head_length, flat_length (line_in vs ch) 13 line_length (settled_in ch n)))
