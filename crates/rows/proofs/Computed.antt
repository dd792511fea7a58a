-- The words of one bit and of all bits as numbers, computed at every bit of a word: two lists of values that compute to the same have the same at each
-- place. Assumes nothing.
use mathlib.Core.Path.{◌≡◌, sym, ◌∙◌, ap}
use mathlib.Core.Bool.{true, false}
use mathlib.Core.List.{map}
use Prim.Native.Nat.{ℕ, zero, suc, ◌+◌, ◌*◌, ◌%◌, ◌^◌, ◌≤◌, ◌<◌}
use native.Mathlib.Omega.{arith}
use native.Mathlib.Nat.{not-suc-le-zero, min-eq_right}
use borrow.Author.Tests.{ne_eqb}
use lib.Dec.{eqb}
use lib.ListN.{get_or}
use Rattle.rules.specs.Lists.{up_from, below}
use Rattle.rows.specs.Bits.{bits_of, all_bits, one_bit}
use Rattle.rows.proofs.Building.{bits_agree}

-- what a list of a function's values has at a place
module _ (f : ℕ → ℕ) where
  value_from : (i n k : ℕ) → k < n → get_or (map f (up_from i n)) k 0 ≡ f (i + k)
  unfolding up_from
  value_from i zero k l = absurd (not-suc-le-zero l)
  value_from i (suc n) zero l = ap f (omega arith)
  value_from i (suc n) (suc k) l = value_from (suc i) n k (omega arith) ∙ ap f (omega arith)

  value_at : (n k : ℕ) → k < n → get_or (map f (below n)) k 0 ≡ f k
  value_at n k l = value_from 0 n k l ∙ ap f (omega arith)

-- ONE BIT is a power of two
pub one_is : (k : ℕ) → k < 32 → 1 * 2 ^ k % 4294967296 ≡ one_bit k
unfolding bits_of up_from
one_is k l = sym (value_at (λ i. 1 * 2 ^ i % 4294967296) 32 k l) ∙ value_at one_bit 32 k l

-- there is none past a word's last
pub one_past : (k : ℕ) → 32 ≤ k → 0 ≡ one_bit k
unfolding bits_of
one_past k l = sym (bits_agree (λ i. eqb i k) (λ i. false) 0 0 32 (λ j h. ne_eqb _ k (λ e. omega arith)))

-- ALL BITS before one bit are one less
pub all_before : (k : ℕ) → k < 32 → all_bits k + 1 ≡ one_bit k
unfolding bits_of up_from
all_before k l = sym (value_at (λ i. all_bits i + 1) 32 k l) ∙ value_at one_bit 32 k l

-- and of a whole word the largest
pub all_of_word : (k : ℕ) → 32 ≤ k → 4294967295 ≡ all_bits k
unfolding bits_of
all_of_word k l = sym (ap (bits_of (λ i. true) 0) (min-eq_right l))
