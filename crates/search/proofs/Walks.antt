-- The ways out of a trial and of a place, one lemma each, and the turns of a place's loop over its versions (`Going`). Assumes nothing.
use mathlib.Core.Path.{◌≡◌, refl, sym, ◌∙◌, ap, subst}
use mathlib.Core.Logic.{◌≢◌}
use mathlib.Core.Bool.{Bool, true, false, cond}
use mathlib.Core.List.{List}
use Prim.Native.Nat.{ℕ, zero, suc, ◌+◌, ◌-◌, ◌≤◌, ◌<◌}
use native.Mathlib.Omega.{arith}
use native.Mathlib.Nat.{not-suc-le-zero}
use lib.ListN.{set}
use Rattle.std.specs.Prelude.{Option, Some, None, Ok, Err}
use Rattle.rules.specs.Sheet.{cites, resolves}
use Rattle.rules.proofs.Lists.{cond_true, cond_false}
use Rattle.search.specs.declared.choices.Choices.{Choices}
use Rattle.moves.specs.declared.wanted.Wanted.{Wanted}
use Rattle.moves.specs.Wanted.{if_any}
use Rattle.search.specs.Choosing.{choices, falling}
use Rattle.moves.specs.Noting.{Sheet, note_in, number_in, entry_bytes}
use Rattle.search.specs.Walking.{Moves, Walked, walked, told, if_wanted, try_walk, each_walk, walk_in}

-- HOW A CALL ENDS, by what it hands back and the sheet
pub found_is : {x : Walked} {r : Choices} {s : Sheet} → Ok r ≡ told x → s ≡ x.sheet → walked true r s ≡ x
found_is {x} {r} {s} e f = go x.found e
  where
    go : (z : Bool) → Ok r ≡ cond z (Ok x.choices) (Err x.choices) → walked true r s ≡ walked z x.choices x.sheet
    go true q = cc
    go false q = cc

pub failed_is : {x : Walked} {r : Choices} {s : Sheet} → Err r ≡ told x → s ≡ x.sheet → walked false r s ≡ x
failed_is {x} {r} {s} e f = go x.found e
  where
    go : (z : Bool) → Err r ≡ cond z (Ok x.choices) (Err x.choices) → walked false r s ≡ walked z x.choices x.sheet
    go true q = cc
    go false q = cc

-- and the other way round
pub both_told : {x y : Walked} → x ≡ y → (told x ≡ told y) × (x.sheet ≡ y.sheet)
both_told e = (ap told e, ap (λ (x : Walked). x.sheet) e)

-- by an equal allowance a trial ends in the same way, and so does a line
pub try_with : (v : Moves) (f : ℕ) (w : Wanted) (i : ℕ) (r : Choices) (s : Sheet) {a b : ℕ} {t : Walked} → b ≡ a →
    t ≡ try_walk v b (walk_in f v b) w i r s → t ≡ try_walk v a (walk_in f v a) w i r s
try_with v f w i r s {t = t} e q = subst (λ (x : ℕ). t ≡ try_walk v x (walk_in f v x) w i r s) e q

pub note_with : (bs : List ℕ) (s : Sheet) {a b : ℕ} {t : Sheet} → b ≡ a → t ≡ note_in b bs s → t ≡ note_in a bs s
note_with bs s {t = t} e q = subst (λ (x : ℕ). t ≡ note_in x bs s) e q

module _ (v : Moves) (a : ℕ) where
  -- A TRIAL: barred, found, failed
  module _ (go : Choices → Sheet → Walked) (w : Wanted) (i : ℕ) (r : Choices) (s : Sheet) {fit : Bool} (is-fit : fit ≡ v.fits r.chosen w i) where
    pub try_barred : fit ≡ false → {next : Sheet} → next ≡ note_in a (entry_bytes (cites (v.bar r.chosen w.owner.0 i))) s →
        walked false r next ≡ try_walk v a go w i r s
    unfolding try_walk
    try_barred n e = rw e (sym (cond_false _ _ (sym is-fit ∙ n)))

    module _ (fits : fit ≡ true) {chosen : Choices} (is-chosen : chosen ≡ choices (set r.chosen w.owner.0 (suc i)) r.next)
        {t : Walked} (is-go : t ≡ go chosen s) where
      pub try_found : t.found ≡ true → t ≡ try_walk v a go w i r s
      unfolding try_walk
      try_found z = rw (← is-chosen, ← is-go) (sym (cond_true _ _ (sym is-fit ∙ fits) ∙ cond_true _ _ z))

      pub try_failed : t.found ≡ false → {back : Choices} → back ≡ choices (set t.choices.chosen w.owner.0 0) w →
          walked false back t.sheet ≡ try_walk v a go w i r s
      unfolding try_walk
      try_failed z b = rw (b, ← is-chosen, ← is-go) (sym (cond_true _ _ (sym is-fit ∙ fits) ∙ cond_false _ _ z))

  -- A PLACE: no fuel, nothing wanted, or the versions of what is wanted
  module _ (r : Choices) (s : Sheet) where
    pub place_out : (f : ℕ) → f ≡ 0 → walked true r s ≡ walk_in f v a r s
    unfolding walk_in
    place_out f e = rw e

    -- what follows where a module may be wanted
    walk_of : (f : ℕ) (now : Choices) → Option Wanted → Walked
    walk_of f now n =
        if_wanted n (walked true now s)
        (λ w. each_walk v a (walk_in f v a) w (number_in s) (v.tries w.owner.0) now (note_in a (entry_bytes (cites w.need)) s))

    module _ {asked : Choices} (is-asked : asked ≡ choices r.chosen (v.next r.chosen)) where
      walk_is : (f : ℕ) → f ≢ 0 → walk_in f v a r s ≡ walk_of (f - 1) asked (if_any asked.next)
      unfolding walk_in walk_of
      walk_is zero n = absurd (n refl)
      walk_is (suc f) n = let less : suc f - 1 ≡ f = omega arith in rw (less, is-asked)

      pub place_found : (f : ℕ) → f ≢ 0 → if_any asked.next ≡ None → walked true asked s ≡ walk_in f v a r s
      unfolding walk_of
      place_found f n e = sym (walk_is f n ∙ ap (walk_of (f - 1) asked) e)

      pub place_begun : (f : ℕ) → f ≢ 0 → {w : Wanted} → if_any asked.next ≡ Some w → {places : List ℕ} → places ≡ v.tries w.owner.0 →
          {next : Sheet} → next ≡ note_in a (entry_bytes (cites w.need)) s →
          walk_in f v a r s ≡ each_walk v a (walk_in (f - 1) v a) w (number_in s) places asked next
      unfolding walk_of
      place_begun f n m p e = walk_is f n ∙ ap (walk_of (f - 1) asked) m ∙ rw (p, e)

  -- THE LOOP OF A PLACE
  module _ (go : Choices → Sheet → Walked) (w : Wanted) (first : ℕ) where
    -- what follows a trial
    abbrev after : (came left : ℕ) → Walked → Walked
    after k n t =
        cond t.found t
        (each_walk v a go w (number_in t.sheet) (falling first n) t.choices
        (note_in a (entry_bytes (resolves k (number_in t.sheet - 1) w.owner.0)) t.sheet))

    each_step : (k n : ℕ) (r : Choices) (s : Sheet) → 0 < n →
        each_walk v a go w k (falling first n) r s ≡ after k (n - 1) (try_walk v a go w (first + (n - 1)) r s)
    unfolding each_walk falling
    each_step k zero r s l = absurd (not-suc-le-zero l)
    each_step k (suc n) r s l = let less : suc n - 1 ≡ n = omega arith in rw less

    each_none : (k n : ℕ) (r : Choices) (s : Sheet) → n ≡ 0 → each_walk v a go w k (falling first n) r s ≡ walked false r s
    unfolding each_walk falling
    each_none k n r s e = rw e

    -- going on from here with the versions not tried yet gives what the whole place gives
    pub record Going (whole : Walked) (now : Choices) (untried came : ℕ) (s : Sheet) : Type 0 where
      pub same : whole ≡ each_walk v a go w came (falling first untried) now s

    module _ {whole : Walked} {now : Choices} {untried came : ℕ} {s : Sheet} (g : Going whole now untried came s) where
      -- one version is tried, the newest of those not tried yet
      module _ (left : 0 < untried) {t : Walked} (is-try : t ≡ try_walk v a go w (first + (untried - 1)) now s) where
        goes : whole ≡ after came (untried - 1) t
        goes = g.same ∙ each_step came untried now s left ∙ ap (after came (untried - 1)) (sym is-try)

        pub going_found : t.found ≡ true → t ≡ whole
        going_found z = sym (goes ∙ cond_true _ _ z)

        pub going_on : t.found ≡ false → {last : ℕ} → last ≡ number_in t.sheet - 1 → {next : Sheet} →
            next ≡ note_in a (entry_bytes (resolves came last w.owner.0)) t.sheet → Going whole t.choices (untried - 1) (number_in t.sheet) next
        going_on z p e = record { same = goes ∙ cond_false _ _ z ∙ rw (e, p) }

      pub going_done : untried ≤ 0 → walked false now s ≡ whole
      going_done l = sym (g.same ∙ each_none came untried now s (omega arith))
