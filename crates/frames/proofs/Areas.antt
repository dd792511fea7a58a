-- A frame's line in an area: a store behind a run of stores is a longer run. A frame is written byte by byte (`nothing_yet`, `one_more`), and with
-- the check byte and the line feed behind its bytes its text stands in the area (`finished`). Assumes nothing.
use mathlib.Core.Path.{◌≡◌, refl, ◌∙◌, ap}
use mathlib.Core.List.{List, [], ◌∷◌, ◌++◌}
use Prim.Native.Nat.{ℕ, suc, ◌+◌, ◌*◌, ◌-◌, ◌/◌, ◌%◌, ◌≤◌, ◌<◌}
use native.Mathlib.Omega.{arith}
use native.Mathlib.Numerals.{add-one}
use lib.ListN.{length, get_or, take, set, length-append}
use lib.Seq.{sets, length-sets, take-suc, take_all, length-take-le}
use Rattle.rules.specs.Lists.{sum}
use Rattle.rules.specs.Lines.{line_feed}
use Rattle.rules.specs.Frames.{digit_byte, hex_of, checked, frame_text}
use Rattle.rules.proofs.Written.{hex_length, sum_last}

-- A RUN OF STORES behind another is one run
pub sets_append : (l : List ℕ) (i : ℕ) (xs ys : List ℕ) {j : ℕ} → j ≡ i + length xs → sets (sets l i xs) j ys ≡ sets l i (xs ++ ys)
sets_append l i [] ys e = ap (λ (k : ℕ). sets l k ys) (omega arith)
sets_append l i (a ∷ xs) ys e = sets_append (set l i a) (suc i) xs ys (omega arith)

-- HEX of two lists, one behind the other
hex_append : (xs ys : List ℕ) → hex_of (xs ++ ys) ≡ hex_of xs ++ hex_of ys
unfolding hex_of
hex_append [] ys = refl
hex_append (a ∷ xs) ys = rw (hex_append xs ys)

-- A PAIR OF DIGITS is stored side by side
pub byte_stored : (l : List ℕ) (at b : ℕ) {high low : ℕ} → high ≡ digit_byte (b / 16) → low ≡ digit_byte (b % 16) →
    set (set l at high) (at + 1) low ≡ sets l at (hex_of (b ∷ []))
unfolding hex_of
byte_stored l at b p q = rw (p, q, add-one)

-- and follows the bytes stored before it
next_stored : (l : List ℕ) (at b : ℕ) (xs : List ℕ) {end : ℕ} → end ≡ at + 2 * length xs →
    sets (sets l at (hex_of xs)) end (hex_of (b ∷ [])) ≡ sets l at (hex_of (xs ++ (b ∷ [])))
next_stored l at b xs e =
    rw (hex_append xs (b ∷ [])) (sets_append l at (hex_of xs) (hex_of (b ∷ [])) (omega (arith, hex_length xs)))

-- WRITTEN SO FAR: the first `i` bytes of a frame, from `at` up to `end`, with their sum
pub record Written (old : List ℕ) (at : ℕ) (bytes : List ℕ) (area : List ℕ) (total i end : ℕ) : Type 0 where
  pub within : i ≤ length bytes
  pub ends : end ≡ at + 2 * i
  pub sums : total ≡ sum (take i bytes) % 256
  pub size : length area ≡ length old
  pub stored : area ≡ sets old at (hex_of (take i bytes))

module _ (old : List ℕ) (at : ℕ) (bytes : List ℕ) where
  -- at first nothing is written
  pub nothing_yet : Written old at bytes old 0 0 at
  unfolding hex_of sum
  nothing_yet = record { within = omega arith; ends = omega arith; sums = refl; size = refl; stored = refl }

  module _ {area next : List ℕ} {total i end : ℕ} (w : Written old at bytes area total i end) where
    -- the next byte, written behind the others
    pub one_more : i < length bytes → next ≡ sets area end (hex_of (get_or bytes i 0 ∷ [])) →
        Written old at bytes next ((total + get_or bytes i 0) % 256) (i + 1) (end + 2)
    one_more h e =
        record {
          within = omega arith;
          ends = omega (arith, w.ends);
          sums = rw taken (omega (arith, w.sums, sum_last (take i bytes) b));
          size = ap length e ∙ length-sets area end (hex_of (b ∷ [])) ∙ w.size;
          stored = e ∙ rw (w.stored, taken) (next_stored old at b (take i bytes) (omega (arith, w.ends, length-take-le i bytes w.within)));
        }
      where
        b : ℕ
        b = get_or bytes i 0

        taken : take (i + 1) bytes ≡ take i bytes ++ (b ∷ [])
        taken = rw add-one (take-suc bytes i 0 h)

    -- the check byte and the line feed, written behind all of them
    pub finished : length bytes ≤ i → next ≡ sets area end (hex_of ((256 - total) % 256 ∷ [])) →
        set next (end + 2) line_feed ≡ sets old at (frame_text bytes)
    unfolding frame_text
    finished h e =
        ap (λ (l : List ℕ). set l (end + 2) line_feed) checked_stored ∙
        sets_append old at (hex_of (checked bytes)) (line_feed ∷ []) ends
      where
        all_taken : take i bytes ≡ bytes
        all_taken = take_all i bytes h

        check : (256 - total) % 256 ≡ (256 - sum bytes % 256) % 256
        check = rw (w.sums, all_taken)

        checked_stored : next ≡ sets old at (hex_of (checked bytes))
        checked_stored =
            e ∙ rw (check, w.stored, all_taken) (next_stored old at ((256 - sum bytes % 256) % 256) bytes (omega (arith, w.ends, w.within)))

        ends : end + 2 ≡ at + length (hex_of (checked bytes))
        ends = rw (hex_length (checked bytes), length-append bytes _) (omega (arith, w.ends, w.within))
