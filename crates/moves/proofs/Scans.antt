-- Laws of the scans: a scan from where a loop stands finds what the whole scan finds. Assumes nothing.
use mathlib.Core.Path.{◌≡◌, refl, sym, ◌∙◌, ap}
use mathlib.Core.Bool.{Bool, true, false, cond}
use Prim.Native.Nat.{ℕ, zero, suc, ◌+◌, ◌-◌, ◌≤◌, ◌<◌}
use native.Mathlib.Omega.{arith}
use native.Mathlib.Numerals.{add-one, unary_clauses}
use native.Mathlib.Nat.{not-suc-le-zero}
use Rattle.std.specs.Prelude.{Option, Some, None, is_some}
use Rattle.std.specs.Option.{option_or}
use Rattle.rules.proofs.Lists.{cond_true, cond_false, not_both}
use Rattle.moves.specs.Scan.{first_in, over_in}

-- what a whole scan finds is what the scan from here to the end finds
pub record Left (scan : ℕ → ℕ → Option ℕ) (whole : Option ℕ) (end here : ℕ) : Type 0 where
  pub within : here ≤ end
  pub same : whole ≡ scan here (end - here)

-- a scan of numbers
module _ (f : ℕ → Bool) where
  first_step : (k n : ℕ) → 0 < n → first_in f k n ≡ cond (f k) (Some k) (first_in f (k + 1) (n - 1))
  unfolding first_in
  first_step k zero h = absurd (not-suc-le-zero h)
  first_step k (suc n) h = simp (add-one, unary_clauses)

  first_none : (k n : ℕ) → n ≡ 0 → first_in f k n ≡ None
  unfolding first_in
  first_none k n e = rw e

  module _ {whole : Option ℕ} {end k : ℕ} (l : Left (first_in f) whole end k) where
    pub first_hit : {b : Bool} → b ≡ f k → k < end → b ≡ true → Some k ≡ whole
    first_hit t h e = sym (l.same ∙ first_step k (end - k) (omega arith) ∙ cond_true _ _ (sym t ∙ e))

    pub first_passed : {b : Bool} → b ≡ f k → k < end → b ≡ false → Left (first_in f) whole end (k + 1)
    first_passed t h e =
        let n : (end - k) - 1 ≡ end - (k + 1) = omega arith in
        record {
          within = omega arith;
          same = l.same ∙ first_step k (end - k) (omega arith) ∙ cond_false _ _ (sym t ∙ e) ∙ ap (first_in f (k + 1)) n;
        }

    pub first_done : end ≤ k → None ≡ whole
    first_done h = sym (l.same ∙ first_none k (end - k) (omega arith))

-- the first of two answers
is_first : (x y : Option ℕ) → is_some x ≡ true → option_or x y ≡ x
is_first None y h = absurd (not_both h refl)
is_first (Some k) y h = refl

is_second : (x y : Option ℕ) → is_some x ≡ false → option_or x y ≡ y
is_second None y h = refl
is_second (Some k) y h = absurd (not_both refl h)

-- a run of scans
module _ (g : ℕ → Option ℕ) where
  over_step : (k n : ℕ) → 0 < n → over_in g k n ≡ option_or (g k) (over_in g (k + 1) (n - 1))
  unfolding over_in
  over_step k zero h = absurd (not-suc-le-zero h)
  over_step k (suc n) h = simp (add-one, unary_clauses)

  over_none : (k n : ℕ) → n ≡ 0 → over_in g k n ≡ None
  unfolding over_in
  over_none k n e = rw e

  module _ {whole : Option ℕ} {end k : ℕ} (l : Left (over_in g) whole end k) where
    pub over_hit : {r : Option ℕ} → r ≡ g k → k < end → is_some r ≡ true → r ≡ whole
    over_hit {r} t h n = sym (l.same ∙ over_step k (end - k) (omega arith) ∙ rw (← t) (is_first r _ n))

    pub over_passed : {r : Option ℕ} → r ≡ g k → k < end → is_some r ≡ false → Left (over_in g) whole end (k + 1)
    over_passed {r} t h e =
        let n : (end - k) - 1 ≡ end - (k + 1) = omega arith in
        record {
          within = omega arith;
          same = l.same ∙ over_step k (end - k) (omega arith) ∙ rw (← t) (is_second r _ e) ∙ ap (over_in g (k + 1)) n;
        }

    pub over_done : end ≤ k → None ≡ whole
    over_done h = sym (l.same ∙ over_none k (end - k) (omega arith))
