-- What a reader knows inside a line: the digits read so far, as the bytes of a frame, their number and their sum (`InLine`). It holds where a line
-- begins (`line_start`) and after one more byte (`line_byte`); a line feed ends the line with the digits read (`line_feed_lem`), and something wrong makes
-- the line misshapen (`line_wrong`). This is the same for every reader. Assumes nothing.
use mathlib.Core.Path.{◌≡◌, refl, sym, ◌∙◌, ap}
use mathlib.Core.Logic.{◌⊎◌, inl, inr, ⊎_elim, ◌≢◌}
use mathlib.Core.Bool.{Bool, true, false}
use mathlib.Core.List.{List, [], ◌∷◌, ◌++◌}
use Prim.Native.Nat.{ℕ, zero, suc, ◌+◌, ◌*◌, ◌%◌, ◌≤◌, ◌<◌}
use native.Mathlib.Omega.{arith}
use lib.Dec.{ltb}
use lib.ListN.{length, get_or, drop, set, replicate, length-append, length-set, get_or-eq_default, get_or-append}
use lib.Seq.{get_or-set_same, get_or-set_other, get_or-append_seam}
use borrow.Author.Tests.{ltb-true, ltb-false}
use Rattle.rules.specs.Lists.{all, sum}
use Rattle.rules.specs.Lines.{line, lines_of, is_digit}
use Rattle.rules.specs.Frames.{frame_of, byte_at}
use Rattle.rules.proofs.Lists.{same_or_not, longer, length_last}
use Rattle.rules.proofs.Written.{sum_last}
use Rattle.frames.specs.Digits.{pair_at}
use Rattle.frames.specs.declared.digits.Pair.TheVariants.{Byte, LineFeed, Wrong}
use Rattle.frames.proofs.Pairs.{IsByte}
use Rattle.frames.proofs.Lines.{with_bytes, byte_stands, byte_more, feed_lines, feed_more, digits_more, frame_append, frame_size}
use Rattle.frames.proofs.Lines.{Misshapen, wrong_first}

-- the longest frame
abbrev pub longest : ℕ
longest = 9

-- the line began at `from`; `frame` has the first bytes of it, `bytes` says how many there are, `total` is their sum modulo 256
pub record InLine (text : List ℕ) (from at : ℕ) (frame : List ℕ) (bytes total : ℕ) : Type 0 where
  pub digits : List ℕ
  pub good : all is_digit digits ≡ true
  pub even : length digits % 2 ≡ 0
  pub size : length frame ≡ longest
  pub frame_is : (i : ℕ) → i < longest → byte_at frame i ≡ byte_at (frame_of digits) i
  pub bytes_are : bytes ≡ length (frame_of digits)
  pub total_is : total ≡ sum (frame_of digits) % 256
  pub within : at ≤ length text
  pub passed : from + length digits ≡ at
  pub begun : (at < length text) ⊎ (0 < length digits)
  pub lines : lines_of (drop from text) ≡ with_bytes digits (lines_of (drop at text))

-- LISTS: zeros are 0 everywhere
pub get_or_zeros : (n i : ℕ) → get_or {A = ℕ} (replicate n 0) i 0 ≡ 0
get_or_zeros zero i = refl
get_or_zeros (suc n) zero = refl
get_or_zeros (suc n) (suc i) = get_or_zeros n i

-- a list with one more element is as it was but at the new place
pub longer_other : {A : Type 0} (d : A) (xs : List A) (x : A) (i : ℕ) → i ≢ length xs → get_or (longer xs x) i d ≡ get_or xs i d
longer_other {A} d xs x i h = go (ltb i (length xs)) refl
  where
    go : (b : Bool) → ltb i (length xs) ≡ b → get_or (longer xs x) i d ≡ get_or xs i d
    go true e = get_or-append xs (x ∷ []) d i (ltb-true _ _ e)
    go false e =
        let g : length xs ≤ i = ltb-false _ _ e in
        let k : length (longer xs x) ≤ i = omega (arith, length_last xs x) in
        get_or-eq_default (longer xs x) d k ∙ sym (get_or-eq_default xs d g)

-- FRAMES: one more byte, put into the frame, is one more of its bytes
longer_frame : (f g : List ℕ) (b i : ℕ) → length f ≡ longest → i < longest → byte_at f i ≡ byte_at g i →
    byte_at (set f (length g) b) i ≡ byte_at (g ++ (b ∷ [])) i
longer_frame f g b i l h e = ⊎_elim new old (same_or_not i (length g))
  where
    new : i ≡ length g → byte_at (set f (length g) b) i ≡ byte_at (g ++ (b ∷ [])) i
    new p = rw p (get_or-set_same f (length g) b 0 (omega arith) ∙ sym (get_or-append_seam g b [] 0))

    old : i ≢ length g → byte_at (set f (length g) b) i ≡ byte_at (g ++ (b ∷ [])) i
    old p = get_or-set_other f (length g) i b 0 p ∙ (e ∙ sym (longer_other 0 g b i p))

module _ (text : List ℕ) where
  -- where a line begins nothing of it is read
  pub line_start : (at : ℕ) → at < length text → InLine text at at (replicate longest 0) 0 0
  unfolding with_bytes frame_of all sum
  line_start at h =
      record {
        digits = [];
        good = refl;
        even = refl;
        size = refl;
        frame_is = λ i l. zeros i;
        bytes_are = refl;
        total_is = refl;
        within = omega arith;
        passed = omega arith;
        begun = inl h;
        lines = refl;
      }
    where
      zeros : (i : ℕ) → byte_at (replicate longest 0) i ≡ byte_at [] i
      zeros i = get_or_zeros longest i

  module _ (from at : ℕ) (frame : List ℕ) (bytes total : ℕ) (q : InLine text from at frame bytes total) where
    -- one more byte
    pub line_byte : (b : ℕ) → pair_at text at ≡ Byte b → InLine text from (at + 2) (set frame bytes b) (bytes + 1) ((total + b) % 256)
    line_byte b e =
        record {
          digits = more;
          good = digits_more text at q.digits b e q.good;
          even = omega (arith, two_more, q.even);
          size = length-set frame bytes b ∙ q.size;
          frame_is = λ i h. frame_more i h;
          bytes_are = rw (frame_longer, length-append (frame_of q.digits) (b ∷ []), q.bytes_are);
          total_is = total_more;
          within = stands.within;
          passed = omega (arith, two_more, q.passed);
          begun = inr (omega (arith, two_more));
          lines = q.lines ∙ byte_more text at q.digits b e;
        }
      where
        stands : IsByte text at b
        stands = byte_stands text at b e

        more : List ℕ
        more = q.digits ++ (get_or text at 0 ∷ get_or text (at + 1) 0 ∷ [])

        two_more : length more ≡ length q.digits + 2
        two_more = length-append q.digits _

        frame_longer : frame_of more ≡ frame_of q.digits ++ (b ∷ [])
        frame_longer = frame_append q.digits _ _ q.even ∙ ap (λ (x : ℕ). frame_of q.digits ++ (x ∷ [])) (sym stands.value)

        frame_more : (i : ℕ) → i < longest → byte_at (set frame bytes b) i ≡ byte_at (frame_of more) i
        frame_more i h = rw (frame_longer, q.bytes_are) (longer_frame frame (frame_of q.digits) b i q.size h (q.frame_is i h))

        total_more : (total + b) % 256 ≡ sum (frame_of more) % 256
        total_more = rw frame_longer (omega (arith, q.total_is, sum_last (frame_of q.digits) b))

    -- the line's end
    pub line_feed_lem : pair_at text at ≡ LineFeed → (at < length text) × (lines_of (drop from text) ≡ line q.digits true ∷ lines_of (drop (at + 1) text))
    line_feed_lem e = ((feed_lines text at e).0, q.lines ∙ feed_more text at q.digits e)

    -- something wrong in the line
    pub line_wrong : pair_at text at ≡ Wrong → Misshapen (lines_of (drop from text))
    line_wrong e = rw q.lines (wrong_first text at q.digits e q.even q.begun)

    -- a byte is two characters of the line
    pub line_size : bytes * 2 + from ≡ at
    line_size = omega (arith, frame_size q.digits q.even, q.bytes_are, q.passed)
