-- Folds over a run of numbers, as a loop makes them: what holds at each turn, and the lemmas of a turn and of the end. Assumes nothing.
use mathlib.Core.Path.{◌≡◌, sym, ◌∙◌, ap}
use Prim.Native.Nat.{ℕ, suc, ◌+◌, ◌-◌, ◌≤◌, ◌<◌}
use native.Mathlib.Omega.{arith}
use native.Mathlib.Numerals.{add-one}
use Rattle.moves.specs.Wanted.{fold_in}

-- the numbers from `first` to `k` are done and gave `now`; going on from here gives what the whole run gives
pub record Folded {A : Type 0} (h : ℕ → A → A) (start : A) (first count : ℕ) (now : A) (k : ℕ) : Type 0 where
  pub within : k ≤ first + count
  pub same : fold_in h start first count ≡ fold_in h now k (first + count - k)

module _ {A : Type 0} (h : ℕ → A → A) (start : A) (first count : ℕ) where
  module _ {now : A} {k : ℕ} (f : Folded h start first count now k) where
    -- one turn
    pub one_done : (next : A) → k < first + count → next ≡ h k now → Folded h start first count next (k + 1)
    unfolding fold_in
    one_done next l e =
        let s : first + count - k ≡ suc (first + count - (k + 1)) = omega arith in
        record { within = omega arith; same = rw (e, add-one) (f.same ∙ rw (s, add-one)) }

    -- after the last
    pub all_done : first + count ≤ k → now ≡ fold_in h start first count
    unfolding fold_in
    all_done l =
        let z : first + count - k ≡ 0 = omega arith in
        sym (f.same ∙ ap (fold_in h now k) z)
