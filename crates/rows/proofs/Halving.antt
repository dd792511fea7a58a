-- Laws of bits: a built word has the bits it was built from (`bits_read`), `|` and `&` go bit by bit (`or_bits`, `and_bits`), a number cut to n bits
-- keeps those (`bits_cut`), and a word is that of all of n bits just if it has each of them and no other (`full_word`). Assumes nothing.
use mathlib.Core.Path.{◌≡◌, refl, sym, ◌∙◌, ap, ap₂}
use mathlib.Core.Logic.{⊎_elim, ◌≢◌}
use mathlib.Core.Bool.{Bool, true, false, ◌&&◌, ◌||◌}
use Prim.Native.Nat.{ℕ, zero, suc, ◌+◌, ◌*◌, ◌/◌, ◌%◌, ◌^◌, ◌≤◌, ◌<◌, min, max}
use native.Mathlib.Omega.{arith}
use native.Mathlib.Nat.{pow-suc, mod-one}
use borrow.Author.Tests.{eqb-true, eqb-false, eq-eqb, ne_eqb, le-ltb, lt-ltb}
use lib.Arith.{bin_ind, mod-mul}
use lib.Bits.{bit_and, bit_or, and_step, or_step}
use lib.Dec.{ltb, eqb, leb-suc-suc}
use lib.Pow.{pow_pos}
use Rattle.rules.specs.Lists.{all, up_from}
use Rattle.rules.proofs.Lists.{same_or_not}
use Rattle.rows.specs.Bits.{digit, has_bit, bits_of}
use Rattle.rows.proofs.Building.{digit_small}

-- A NUMBER BY ITS HALF AND ITS LAST BIT
digit_bit : (b : Bool) → eqb (digit b) 1 ≡ b
digit_bit true = refl
digit_bit false = refl

last_digit : (x : ℕ) → x % 2 ≡ digit (eqb (x % 2) 1)
last_digit x = go (eqb (x % 2) 1) refl
  where
    go : (b : Bool) → eqb (x % 2) 1 ≡ b → x % 2 ≡ digit b
    go true e = eqb-true (x % 2) 1 e
    go false e = let n = eqb-false (x % 2) 1 e in omega arith

module _ (q : ℕ) (b : Bool) where
  half_of : (q * 2 + digit b) / 2 ≡ q
  half_of = let l = digit_small b in omega arith

  first_bit : has_bit (q * 2 + digit b) 0 ≡ b
  unfolding has_bit
  first_bit =
      let l = digit_small b in
      let e : (q * 2 + digit b) % 2 ≡ digit b = omega arith in
      rw e (digit_bit b)

  later_bit : (j : ℕ) → has_bit (q * 2 + digit b) (suc j) ≡ has_bit q j
  unfolding has_bit
  later_bit j = rw half_of

bit_zero : (x : ℕ) → has_bit x 0 ≡ eqb (x % 2) 1
unfolding has_bit
bit_zero x = refl

bit_suc : (x j : ℕ) → has_bit x (suc j) ≡ has_bit (x / 2) j
unfolding has_bit
bit_suc x j = refl

no_bit : (j : ℕ) → has_bit 0 j ≡ false
unfolding has_bit
no_bit zero = refl
no_bit (suc j) = no_bit j

-- A BUILT WORD has the bits that it was built from
pub bits_read : (f : ℕ → Bool) (i n j : ℕ) → has_bit (bits_of f i n) j ≡ (ltb j n && f (i + j))
unfolding bits_of
bits_read f i zero j = rw (le-ltb j 0 (omega arith)) (no_bit j)
bits_read f i (suc n) zero = rw (lt-ltb 0 (suc n) (omega arith)) (first_bit (bits_of f (suc i) n) (f i) ∙ ap f (omega arith))
bits_read f i (suc n) (suc j) =
    later_bit (bits_of f (suc i) n) (f i) j ∙ bits_read f (suc i) n j ∙
    ap₂ (λ (a : Bool) (k : ℕ). a && f k) (sym (leb-suc-suc (suc j) n)) (omega arith)

-- AN OPERATION THAT GOES BY HALVES, and on last bits is `op`, is `op` on each bit
module _
    (g digits : ℕ → ℕ → ℕ) (op : Bool → Bool → Bool)
    (step : (a b : ℕ) → g a b ≡ g (a / 2) (b / 2) * 2 + digits (a % 2) (b % 2))
    (on_digits : (p q : Bool) → digits (digit p) (digit q) ≡ digit (op p q))
  where
    by_halves : (a b : ℕ) → g a b ≡ g (a / 2) (b / 2) * 2 + digit (op (eqb (a % 2) 1) (eqb (b % 2) 1))
    by_halves a b =
        step a b ∙
        ap (λ (d : ℕ). g (a / 2) (b / 2) * 2 + d) (ap₂ digits (last_digit a) (last_digit b) ∙ on_digits (eqb (a % 2) 1) (eqb (b % 2) 1))

    bitwise_bits : (a b j : ℕ) → has_bit (g a b) j ≡ op (has_bit a j) (has_bit b j)
    unfolding has_bit
    bitwise_bits a b zero = ap (λ (x : ℕ). has_bit x 0) (by_halves a b) ∙ first_bit (g (a / 2) (b / 2)) (op (eqb (a % 2) 1) (eqb (b % 2) 1))
    bitwise_bits a b (suc j) =
        ap (λ (x : ℕ). has_bit x (suc j)) (by_halves a b) ∙ later_bit (g (a / 2) (b / 2)) (op (eqb (a % 2) 1) (eqb (b % 2) 1)) j ∙
        bitwise_bits (a / 2) (b / 2) j

pub or_bits : (a b j : ℕ) → has_bit (bit_or a b) j ≡ (has_bit a j || has_bit b j)
or_bits = bitwise_bits bit_or max (λ p q. p || q) or_step on_digits
  where
    on_digits : (p q : Bool) → max (digit p) (digit q) ≡ digit (p || q)
    on_digits true true = refl
    on_digits true false = refl
    on_digits false true = refl
    on_digits false false = refl

pub and_bits : (a b j : ℕ) → has_bit (bit_and a b) j ≡ (has_bit a j && has_bit b j)
and_bits = bitwise_bits bit_and min (λ p q. p && q) and_step on_digits
  where
    on_digits : (p q : Bool) → min (digit p) (digit q) ≡ digit (p && q)
    on_digits true true = refl
    on_digits true false = refl
    on_digits false true = refl
    on_digits false false = refl

-- CUT TO n BITS a number keeps those
pub bits_cut : (x n j : ℕ) → has_bit (x % 2 ^ n) j ≡ (ltb j n && has_bit x j)
bits_cut x zero j = rw (le-ltb j 0 (omega arith), mod-one x) (no_bit j)
bits_cut x (suc n) j = ap (λ (y : ℕ). has_bit y j) halves ∙ go j (λ i. bits_cut (x / 2) n i)
  where
    halves : x % 2 ^ suc n ≡ x / 2 % 2 ^ n * 2 + digit (eqb (x % 2) 1)
    halves =
        ap (λ (m : ℕ). x % m) (pow-suc 2 n) ∙ mod-mul x {m = 2 ^ n} {c = 2} (pow_pos n) (omega arith) ∙
        ap (λ (d : ℕ). x / 2 % 2 ^ n * 2 + d) (last_digit x)

    go : (i : ℕ) → ((k : ℕ) → has_bit (x / 2 % 2 ^ n) k ≡ (ltb k n && has_bit (x / 2) k)) →
        has_bit (x / 2 % 2 ^ n * 2 + digit (eqb (x % 2) 1)) i ≡ (ltb i (suc n) && has_bit x i)
    go zero r = first_bit (x / 2 % 2 ^ n) (eqb (x % 2) 1) ∙ rw (lt-ltb 0 (suc n) (omega arith)) (sym (bit_zero x))
    go (suc i) r = later_bit (x / 2 % 2 ^ n) (eqb (x % 2) 1) i ∙ r i ∙
        ap₂ (λ (a b : Bool). a && b) (sym (leb-suc-suc (suc i) n)) (sym (bit_suc x i))

-- A WORD WITHOUT BITS is 0
no_bits : (x : ℕ) → ((j : ℕ) → has_bit x j ≡ false) → x ≡ 0
no_bits = bin_ind (λ (x : ℕ). ((j : ℕ) → has_bit x j ≡ false) → x ≡ 0) (λ h. refl) next
  where
    next : (x : ℕ) → (((j : ℕ) → has_bit (x / 2) j ≡ false) → x / 2 ≡ 0) → ((j : ℕ) → has_bit x j ≡ false) → x ≡ 0
    next x r h =
        let half = r (λ j. sym (bit_suc x j) ∙ h (suc j)) in
        let odd = eqb-false (x % 2) 1 (sym (bit_zero x) ∙ h 0) in
        omega arith

-- to be an odd number is to be odd with its half
odd_same : (x q : ℕ) → eqb x (q * 2 + 1) ≡ (eqb (x % 2) 1 && eqb (x / 2) q)
odd_same x q = ⊎_elim is (λ n. ne_eqb x (q * 2 + 1) n ∙ sym (other n)) (same_or_not x (q * 2 + 1))
  where
    is : x ≡ q * 2 + 1 → eqb x (q * 2 + 1) ≡ (eqb (x % 2) 1 && eqb (x / 2) q)
    is e = eq-eqb x (q * 2 + 1) e ∙ sym (ap₂ (λ (a b : Bool). a && b) (eq-eqb (x % 2) 1 (omega arith)) (eq-eqb (x / 2) q (omega arith)))

    other : x ≢ q * 2 + 1 → (eqb (x % 2) 1 && eqb (x / 2) q) ≡ false
    other n =
        ⊎_elim (λ e. rw (eq-eqb (x % 2) 1 e) (ne_eqb (x / 2) q (λ h. n (omega arith)))) (λ e. rw (ne_eqb (x % 2) 1 e)) (same_or_not (x % 2) 1)

-- THE WORD OF ALL OF n BITS: each of them passes the test that the word's bits are, and it has no other
pub full_word : (g : ℕ → Bool) (n i first x : ℕ) → ((j : ℕ) → j < n → has_bit x j ≡ g (first + j)) → ((j : ℕ) → n ≤ j → has_bit x j ≡ false) →
    eqb x (bits_of (λ k. true) i n) ≡ all g (up_from first n)
unfolding bits_of all up_from
full_word g zero i first x h u = eq-eqb x 0 (no_bits x (λ j. u j (omega arith)))
full_word g (suc n) i first x h u =
    odd_same x (bits_of (λ k. true) (suc i) n) ∙
    ap₂ (λ (a b : Bool). a && b) (sym (bit_zero x) ∙ h 0 (omega arith) ∙ ap g (omega arith))
    (full_word g n (suc i) (suc first) (x / 2)
    (λ j l. sym (bit_suc x j) ∙ h (suc j) (omega arith) ∙ ap g (omega arith)) (λ j l. sym (bit_suc x j) ∙ u (suc j) (omega arith)))
