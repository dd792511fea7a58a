-- Pairs of digits: the pair at a place of a text tells what stands there (`stands`), and what stands there tells the pair (`told`), also by what the
-- two characters are worth as digits (`first_wrong` to `both_right`). Assumes nothing.
use mathlib.Core.Path.{◌≡◌, refl, ap}
use mathlib.Core.Logic.{⊎_elim, ◌≢◌}
use mathlib.Core.Bool.{Bool, true, false, ◌&&◌, cond}
use mathlib.Core.List.{List}
use Prim.Native.Nat.{ℕ, ◌+◌, ◌*◌, ◌≤◌, ◌<◌}
use native.Mathlib.Omega.{arith}
use lib.Dec.{ltb, leb, eqb}
use borrow.Author.Tests.{ltb-true, ltb-false, leb-true, eqb-true, eqb-false, lt-ltb, le-ltb, le-leb, lt-leb, eq-eqb, ne_eqb}
use lib.ListN.{length, get_or}
use Rattle.std.specs.declared.option.Option.{Option}
use Rattle.std.specs.declared.option.Option.TheVariants.{None, Some}
use Rattle.rules.specs.Lists.{is_in}
use Rattle.rules.specs.Lines.{line_feed, is_digit}
use Rattle.rules.specs.Frames.{digit_of}
use Rattle.rules.proofs.Lists.{and_fst, and_snd, or_cases}
use Rattle.frames.specs.Digits.{digit_in, pair_of, pair_at}
use Rattle.frames.specs.declared.digits.Pair.{Pair}
use Rattle.frames.specs.declared.digits.Pair.TheVariants.{Byte, LineFeed, Wrong}

-- DIGITS: a digit is no character below 48, and worth less than 16
pub digit_range : (c : ℕ) → is_digit c ≡ true → (48 ≤ c) × (digit_of c < 16)
digit_range c e = ⊎_elim low high (or_cases (is_in 48 57 c) _ e)
  where
    low : is_in 48 57 c ≡ true → (48 ≤ c) × (digit_of c < 16)
    low p =
        let a = leb-true 48 c (and_fst _ _ p) in
        let b = leb-true c 57 (and_snd (leb 48 c) _ p) in
        rw (le-leb c 57 b) (a, omega arith)

    high : is_in 65 70 c ≡ true → (48 ≤ c) × (digit_of c < 16)
    high p =
        let a = leb-true 65 c (and_fst _ _ p) in
        let b = leb-true c 70 (and_snd (leb 65 c) _ p) in
        rw (lt-leb c 57 (omega arith)) (omega arith, omega arith)

pub no_feed : (c : ℕ) → is_digit c ≡ true → c ≢ line_feed
no_feed c e p = let h = (digit_range c e).0 in omega arith

-- an optional number as a number
number : Option ℕ → ℕ
number None = 0
number (Some r) = r + 1

-- a character that is worth nothing is no digit, and one that is worth something is that digit
digit_wrong : (c : ℕ) → None ≡ digit_in c → is_digit c ≡ false
unfolding number
digit_wrong c e = go (is_digit c) e
  where
    go : (b : Bool) → ◌≡◌ {A = Option ℕ} None (cond b (Some (digit_of c)) None) → b ≡ false
    go true q = let e : ◌≡◌ {A = ℕ} 0 (digit_of c + 1) = ap number q in absurd (omega arith)
    go false q = refl

digit_right : (c : ℕ) {r : ℕ} → Some r ≡ digit_in c → (is_digit c ≡ true) × (r ≡ digit_of c)
unfolding number
digit_right c {r} e = go (is_digit c) e
  where
    go : (b : Bool) → ◌≡◌ {A = Option ℕ} (Some r) (cond b (Some (digit_of c)) None) → (b ≡ true) × (r ≡ digit_of c)
    go true q = let e : r + 1 ≡ digit_of c + 1 = ap number q in (refl, omega arith)
    go false q = let e : ◌≡◌ {A = ℕ} (r + 1) 0 = ap number q in absurd (omega arith)

-- WHAT STANDS AT A PLACE
-- two digits, and the byte that they are worth
pub record IsByte (t : List ℕ) (i b : ℕ) : Type 0 where
  pub within : i + 2 ≤ length t
  pub first : is_digit (get_or t i 0) ≡ true
  pub second : is_digit (get_or t (i + 1) 0) ≡ true
  pub value : b ≡ 16 * digit_of (get_or t i 0) + digit_of (get_or t (i + 1) 0)

-- no character; one that is neither a digit nor a line feed; a digit with no character behind it; a digit with something else behind it
pub data IsWrong (t : List ℕ) (i : ℕ) : Type 0 where
  past : length t ≤ i → IsWrong t i
  no_digit : i < length t → get_or t i 0 ≢ line_feed → is_digit (get_or t i 0) ≡ false → IsWrong t i
  alone : i + 1 ≡ length t → is_digit (get_or t i 0) ≡ true → IsWrong t i
  no_second : i + 2 ≤ length t → is_digit (get_or t i 0) ≡ true → is_digit (get_or t (i + 1) 0) ≡ false → IsWrong t i

-- what stands where a pair is told
abbrev pub Stands : List ℕ → ℕ → Pair → Type 0
Stands t i (Byte b) = IsByte t i b
Stands t i LineFeed = (i < length t) × (get_or t i 0 ≡ line_feed)
Stands t i Wrong = IsWrong t i

module _ (t : List ℕ) (i : ℕ) where
  -- the pair tells what stands there,
  pub stands : Stands t i (pair_at t i)
  unfolding pair_at pair_of
  stands = inside (ltb i (length t)) refl
    where
      c : ℕ
      c = get_or t i 0

      d : ℕ
      d = get_or t (i + 1) 0

      digits : i < length t → c ≢ line_feed → (x z y : Bool) → is_digit c ≡ x → ltb (i + 1) (length t) ≡ z → is_digit d ≡ y →
          Stands t i (cond (x && (z && y)) (Byte (16 * digit_of c + digit_of d)) Wrong)
      digits h n false z y p q r = no_digit h n p
      digits h n true false y p q r = let g = ltb-false (i + 1) (length t) q in alone (omega arith) p
      digits h n true true false p q r = let g = ltb-true (i + 1) (length t) q in no_second (omega arith) p r
      digits h n true true true p q r =
          let g = ltb-true (i + 1) (length t) q in
          record { within = omega arith; first = p; second = r; value = refl }

      found : i < length t → (b : Bool) → eqb c line_feed ≡ b →
          Stands t i (cond b LineFeed (cond (is_digit c && (ltb (i + 1) (length t) && is_digit d)) (Byte (16 * digit_of c + digit_of d)) Wrong))
      found h true e = (h, eqb-true c line_feed e)
      found h false e = digits h (eqb-false c line_feed e) (is_digit c) (ltb (i + 1) (length t)) (is_digit d) refl refl refl

      inside : (b : Bool) → ltb i (length t) ≡ b → Stands t i (cond b (pair_of c d (ltb (i + 1) (length t))) Wrong)
      inside true e = found (ltb-true i (length t) e) (eqb c line_feed) refl
      inside false e = past (ltb-false i (length t) e)

  -- and what stands there tells the pair
  pub told : (p : Pair) → Stands t i p → p ≡ pair_at t i
  unfolding pair_at pair_of
  told (Byte b) s =
      let h = s.within in
      rw (lt-ltb i (length t) (omega arith), ne_eqb _ _ (no_feed _ s.first), s.first, lt-ltb (i + 1) (length t) (omega arith), s.second)
      (ap Byte s.value)
  told LineFeed s = rw (lt-ltb i (length t) s.0, eq-eqb _ _ s.1)
  told Wrong (past h) = rw (le-ltb i (length t) h)
  told Wrong (no_digit h n e) = rw (lt-ltb i (length t) h, ne_eqb _ _ n, e)
  told Wrong (alone h e) =
      rw (lt-ltb i (length t) (omega arith), ne_eqb _ _ (no_feed _ e), e, le-ltb (i + 1) (length t) (omega arith))
  told Wrong (no_second h e n) =
      rw (lt-ltb i (length t) (omega arith), ne_eqb _ _ (no_feed _ e), e, lt-ltb (i + 1) (length t) (omega arith), n)

  -- the same, by what the characters are worth as digits
  pub first_wrong : None ≡ digit_in (get_or t i 0) → i < length t → get_or t i 0 ≢ line_feed → Wrong ≡ pair_at t i
  first_wrong e h n = told Wrong (no_digit h n (digit_wrong (get_or t i 0) e))

  pub second_missing : {x : ℕ} → Some x ≡ digit_in (get_or t i 0) → i + 1 ≡ length t → Wrong ≡ pair_at t i
  second_missing e h = told Wrong (alone h (digit_right (get_or t i 0) e).0)

  module _ {x : ℕ} (e : Some x ≡ digit_in (get_or t i 0)) (inside : i + 2 ≤ length t) where
    pub second_wrong : None ≡ digit_in (get_or t (i + 1) 0) → Wrong ≡ pair_at t i
    second_wrong f = told Wrong (no_second inside (digit_right (get_or t i 0) e).0 (digit_wrong (get_or t (i + 1) 0) f))

    pub both_right : {y : ℕ} → Some y ≡ digit_in (get_or t (i + 1) 0) → Byte (x * 16 + y) ≡ pair_at t i
    both_right {y} f =
        let high = digit_right (get_or t i 0) e in
        let low = digit_right (get_or t (i + 1) 0) f in
        told (Byte (x * 16 + y)) (record { within = inside; first = high.0; second = low.0; value = omega arith })
