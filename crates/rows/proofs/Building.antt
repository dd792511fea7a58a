-- Words built from the last bit down, bits read by a shift, and tests over all modules: what holds at each turn of a loop, and the loop's lemmas.
-- Assumes nothing.
use mathlib.Core.Path.{◌≡◌, refl, sym, ◌∙◌, ap, ap₂}
use mathlib.Core.Bool.{Bool, true, false, ◌&&◌}
use Prim.Native.Nat.{ℕ, zero, suc, ◌+◌, ◌*◌, ◌-◌, ◌/◌, ◌%◌, ◌^◌, ◌≤◌, ◌<◌}
use native.Mathlib.Omega.{arith}
use native.Mathlib.Numerals.{add-one}
use native.Mathlib.Nat.{pow-suc, min-le_right, lt_of_lt_of_le, mul_comm, div-eq_of_lt, div-div-eq-div-mul}
use lib.Arith.{digits_lt}
use lib.Bits.{bit_and}
use lib.Dec.{eqb}
use lib.Pow.{pow_mono}
use Rattle.std.proofs.lemmas.Nat.{and_mask}
use Rattle.rules.specs.Lists.{all, up_from, below}
use Rattle.rows.specs.Bits.{digit, has_bit, bits_of, in_word}

-- a bit is 0 or 1
pub digit_small : (b : Bool) → digit b < 2
digit_small true = omega arith
digit_small false = omega arith

pub in_word_small : (n : ℕ) → in_word n ≤ 32
in_word_small n = min-le_right n 32

-- n bits make a number below 2 ^ n
bits_below : (f : ℕ → Bool) (i n : ℕ) → bits_of f i n < 2 ^ n
unfolding bits_of
bits_below f i zero = omega arith
bits_below f i (suc n) = rw (pow-suc 2 n) (digits_lt (bits_below f (suc i) n) (digit_small (f i)))

-- tests that agree give the same bits
pub bits_agree : (f g : ℕ → Bool) (i k n : ℕ) → ((j : ℕ) → j < n → f (i + j) ≡ g (k + j)) → bits_of f i n ≡ bits_of g k n
unfolding bits_of
bits_agree f g i k zero h = refl
bits_agree f g i k (suc n) h =
    ap₂ (λ (q d : ℕ). q * 2 + d)
    (bits_agree f g (suc i) (suc k) n (λ j l. ap f (omega arith) ∙ h (suc j) (omega arith) ∙ ap g (omega arith)))
    (ap digit (ap f (omega arith) ∙ h 0 (omega arith) ∙ ap g (omega arith)))

-- BUILT SO FAR: the bits from k on
pub record Built (f : ℕ → Bool) (first count word k : ℕ) : Type 0 where
  pub within : k ≤ count
  pub same : word ≡ bits_of f (first + k) (count - k)

module _ (f : ℕ → Bool) (first count : ℕ) where
  pub none_built : {k : ℕ} → k ≡ count → Built f first count 0 k
  unfolding bits_of
  none_built {k} e = let z : count - k ≡ 0 = omega arith in record { within = omega arith; same = rw z }

  module _ {word k : ℕ} (b : Built f first count word k) where
    -- a word has room for one bit more
    pub has_room : 0 < k → count ≤ 32 → word < 2147483648
    has_room l h =
        rw b.same (lt_of_lt_of_le (bits_below f (first + k) (count - k)) (pow_mono {i = count - k} {j = 31} (omega (arith, b.within))))

    pub bit_built : {i d : ℕ} {bit : Bool} → 0 < k → i ≡ first + (k - 1) → bit ≡ f i → d ≡ digit bit → Built f first count (word * 2 + d) (k - 1)
    unfolding bits_of
    bit_built l e h n =
        let s : count - (k - 1) ≡ suc (count - k) = omega (arith, b.within) in
        let after : suc (first + (k - 1)) ≡ first + k = omega arith in
        record { within = omega (arith, b.within); same = rw (s, after, b.same, n, h, e) }

-- A BIT READ BY A SHIFT
bit_of_half : (x k : ℕ) → has_bit x k ≡ eqb (x / 2 ^ k % 2) 1
unfolding has_bit
bit_of_half x zero = let e : x / 2 ^ 0 ≡ x = omega arith in rw e
bit_of_half x (suc k) =
    bit_of_half (x / 2) k ∙ ap (λ (y : ℕ). eqb (y % 2) 1) (div-div-eq-div-mul x 2 (2 ^ k) ∙ ap (λ (n : ℕ). x / n) (mul_comm 2 (2 ^ k) ∙ sym (pow-suc 2 k)))

pub bit_shifted : (x k : ℕ) → eqb (bit_and (x / 2 ^ k) 1) 1 ≡ has_bit x k
bit_shifted x k = ap (λ (y : ℕ). eqb y 1) (and_mask (x / 2 ^ k) 1) ∙ sym (bit_of_half x k)

-- a word has no bit past its last
pub bit_past : (x k : ℕ) → x < 4294967296 → 32 ≤ k → false ≡ has_bit x k
bit_past x k l h =
    let z : x / 2 ^ k ≡ 0 = div-eq_of_lt (lt_of_lt_of_le l (pow_mono {i = 32} {j = k} h)) in
    sym (bit_of_half x k ∙ ap (λ (y : ℕ). eqb (y % 2) 1) z)

-- PASSED SO FAR: the test of all numbers below n comes to the test of those from k on
pub record Passed (f : ℕ → Bool) (n k : ℕ) : Type 0 where
  pub within : k ≤ n
  pub same : all f (below n) ≡ all f (up_from k (n - k))

module _ (f : ℕ → Bool) (n : ℕ) where
  module _ {k : ℕ} (p : Passed f n k) where
    next : k < n → all f (below n) ≡ (f k && all f (up_from (k + 1) (n - (k + 1))))
    unfolding all up_from
    next l = let s : n - k ≡ suc (n - (k + 1)) = omega arith in p.same ∙ rw (s, add-one)

    pub one_passed : k < n → f k ≡ true → Passed f n (k + 1)
    one_passed l e = record { within = omega arith; same = next l ∙ rw e }

    pub one_failed : k < n → f k ≡ false → all f (below n) ≡ false
    one_failed l e = next l ∙ rw e

    pub all_passed : n ≤ k → all f (below n) ≡ true
    unfolding all up_from
    all_passed l = let z : n - k ≡ 0 = omega arith in p.same ∙ rw z
