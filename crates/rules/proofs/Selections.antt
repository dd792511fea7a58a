-- Selections: what the tests of specs/Selection.antt say. The last lemmas say that `is_valid` passes exactly where the record Valid holds. Assumes nothing.
use mathlib.Core.Path.{◌≡◌, refl, sym, ap, subst}
use mathlib.Core.Logic.{◌⊎◌, inl, inr, ⊎_elim, ◌≢◌}
use mathlib.Core.Bool.{true, ◌&&◌, ◌||◌, false≢true}
use mathlib.Core.List.Memᴰ.{head as here}
use mathlib.Core.List.Memᴰ.{not-nil}
use mathlib.Core.List.{List, [], ◌∷◌, Memᴰ as Mem}
use Prim.Native.Nat.{ℕ, zero, suc, ◌<◌}
use native.Mathlib.Omega.{arith}
use native.Mathlib.Nat.{lt_of_not-le}
use lib.Dec.{ltb, eqb}
use lib.ListN.{length, get_or-eq_default}
use lib.Seq.{get_or-set_same, get_or-set_other}
use borrow.Author.Tests.{ltb-true, lt-ltb, eqb-true, eq-eqb}
use Rattle.rules.specs.Lists.{all, among, below}
use Rattle.rules.specs.Catalogue.{Catalogue, Need, version_at_place, need_at, is_of, places_of, in_range}
use Rattle.rules.specs.Selection.{Selection, chosen_at, with_choice, needs_at, asked, is_state, meets, is_met, reached, is_valid, is_asked}
use Rattle.rules.specs.Selection.{next_modules}
use Rattle.rules.specs.Search.{Keeps}
use Rattle.rules.proofs.Lists.{and_fst, and_snd, and_both, or_cases, or_fst, or_snd, all_mem, mem_all, mem_any, any_mem, mem_keep, keep_mem}
use Rattle.rules.proofs.Lists.{mem_flat_map, flat_map_mem, among_mem, mem_among, mem_below, below_mem, all_below, below_all}

-- STATES
pub suc_not_zero : {x i : ℕ} → x ≡ suc i → x ≢ 0
suc_not_zero e z = omega arith

-- what is chosen is within the selection
pub chosen_lt : (s : Selection) (m i : ℕ) → chosen_at s m ≡ suc i → m < length s
chosen_lt s m i e = lt_of_not-le (λ h. suc_not_zero e (get_or-eq_default s 0 h))

-- a choice is made
pub chosen_new : (s : Selection) (m i : ℕ) → m < length s → chosen_at (with_choice s m i) m ≡ suc i
chosen_new s m i h = get_or-set_same s m (suc i) 0 h

-- and changes no other
pub chosen_old : (s : Selection) (m i k : ℕ) → k ≢ m → chosen_at (with_choice s m i) k ≡ chosen_at s k
chosen_old s m i k n = get_or-set_other s m k (suc i) 0 n

-- a state is absent, or at a version
abbrev pub AbsentOrAt : (state : ℕ) → Type 0
AbsentOrAt x = (x ≡ 0) ⊎ ((i : ℕ) × (x ≡ suc i))

pub absent_or_at : (x : ℕ) → AbsentOrAt x
absent_or_at zero = inl refl
absent_or_at (suc i) = inr (i, refl)

-- the version at a place is one of the module: it is there, and the module is its owner
pub of_parts : (c : Catalogue) (m i : ℕ) → is_of c m i ≡ true → (i < length c.versions) × ((version_at_place c i).owner ≡ m)
unfolding is_of
of_parts c m i e = (ltb-true _ _ (and_fst _ _ e), eqb-true _ _ (and_snd (ltb i (length c.versions)) _ e))

pub mem_places : (c : Catalogue) (m i : ℕ) → is_of c m i ≡ true → Mem i (places_of c m)
mem_places c m i e = mem_keep (is_of c m) (mem_below (of_parts c m i e).0) e

pub places_mem : (c : Catalogue) (m : ℕ) {i : ℕ} → Mem i (places_of c m) → is_of c m i ≡ true
places_mem c m {i} h = (keep_mem (is_of c m) i (below (length c.versions)) h).1

-- NEEDS that chosen versions bring
pub needs_at_mem : (c : Catalogue) (x : ℕ) {k : ℕ} → Mem k (needs_at c x) → (x ≡ suc (need_at c k).version) × (k < length c.needs)
needs_at_mem c zero h = absurd (not-nil h)
needs_at_mem c (suc i) {k} h =
    let r = keep_mem (λ (j : ℕ). eqb (need_at c j).version i) k (below (length c.needs)) h in
    (ap suc (sym (eqb-true _ _ r.1)), below_mem r.0)

-- a need of the version that is chosen
pub mem_needs_at : (c : Catalogue) (x k : ℕ) → x ≡ suc (need_at c k).version → k < length c.needs → Mem k (needs_at c x)
mem_needs_at c x k e h =
    subst (λ (y : ℕ). Mem k (needs_at c y)) (sym e)
    (mem_keep (λ (j : ℕ). eqb (need_at c j).version (need_at c k).version) (mem_below h) (eq-eqb (need_at c k).version _ refl))

-- need k is a chosen version's, at module m
pub record Asked (c : Catalogue) (s : Selection) (k : ℕ) : Type 0 where
  pub needy : ℕ
  pub fits : needy < c.modules
  pub chosen : chosen_at s needy ≡ suc (need_at c k).version
  pub is_need : k < length c.needs

pub asked_mem : (c : Catalogue) (s : Selection) {k : ℕ} → Mem k (asked c s) → Asked c s k
unfolding asked
asked_mem c s {k} h =
    let r = flat_map_mem (λ (m : ℕ). needs_at c (chosen_at s m)) (below c.modules) h in
    let n = needs_at_mem c (chosen_at s r.0) r.1.1 in
    record { needy = r.0; fits = below_mem r.1.0; chosen = n.0; is_need = n.1 }

pub mem_asked : (c : Catalogue) (s : Selection) (k m : ℕ) → m < c.modules → chosen_at s m ≡ suc (need_at c k).version → k < length c.needs →
    Mem k (asked c s)
unfolding asked
mem_asked c s k m h e n =
    mem_flat_map (λ (j : ℕ). needs_at c (chosen_at s j)) (mem_below h) (mem_needs_at c (chosen_at s m) k e n)

-- a selection that keeps the choices has their needs
pub asked_keeps : (c : Catalogue) (p s : Selection) {k : ℕ} → Keeps p s → Mem k (asked c p) → Mem k (asked c s)
asked_keeps c p s {k} e h =
    let a = asked_mem c p h in mem_asked c s k a.needy a.fits (e _ _ a.chosen) a.is_need

pub is_asked_mem : (c : Catalogue) (s : Selection) (m : ℕ) → is_asked c s m ≡ true → (k : ℕ) × (Mem k (asked c s) × ((need_at c k).target ≡ m))
is_asked_mem c s m e =
    let r = any_mem (λ (k : ℕ). eqb (need_at c k).target m) (asked c s) e in (r.0, (r.1.0, eqb-true _ _ r.1.1))

pub mem_is_asked : (c : Catalogue) (s : Selection) {k : ℕ} → Mem k (asked c s) → is_asked c s (need_at c k).target ≡ true
mem_is_asked c s {k} h = mem_any (λ (j : ℕ). eqb (need_at c j).target (need_at c k).target) h (eq-eqb (need_at c k).target _ refl)

-- NEXT MODULE
pub record Next (c : Catalogue) (p : Selection) (m : ℕ) : Type 0 where
  pub fits : m < c.modules
  pub unset : chosen_at p m ≡ 0
  pub needed : is_asked c p m ≡ true

pub next_mem : (c : Catalogue) (p : Selection) {m : ℕ} → Mem m (next_modules c p) → Next c p m
unfolding next_modules
next_mem c p {m} h =
    let r = keep_mem (λ (k : ℕ). eqb (chosen_at p k) 0 && is_asked c p k) m (below c.modules) h in
    record { fits = below_mem r.0; unset = eqb-true _ _ (and_fst _ _ r.1); needed = and_snd (eqb (chosen_at p m) 0) _ r.1 }

pub mem_next : (c : Catalogue) (p : Selection) (m : ℕ) → Next c p m → Mem m (next_modules c p)
unfolding next_modules
mem_next c p m n =
    mem_keep (λ (k : ℕ). eqb (chosen_at p k) 0 && is_asked c p k) (mem_below n.fits) (and_both (eq-eqb _ _ n.unset) n.needed)

-- the first of the next modules is one
pub next_first : (c : Catalogue) (p : Selection) (m : ℕ) (ms : List ℕ) → next_modules c p ≡ m ∷ ms → Next c p m
next_first c p m ms e = next_mem c p (subst (λ (l : List ℕ). Mem m l) (sym e) (here refl))

-- nothing is next: every needed module is chosen
pub next_none : (c : Catalogue) (p : Selection) (m : ℕ) → next_modules c p ≡ [] → m < c.modules → is_asked c p m ≡ true →
    (i : ℕ) × (chosen_at p m ≡ suc i)
next_none c p m e h a = ⊎_elim (λ z. absurd (none z)) (λ i. i) (absent_or_at (chosen_at p m))
  where
    none : chosen_at p m ≡ 0 → ⊥
    none z = not-nil (subst (λ (l : List ℕ). Mem m l) e (mem_next c p m (record { fits = h; unset = z; needed = a })))

-- VALID, as a record
pub record Valid (c : Catalogue) (s : Selection) : Type 0 where
  pub size : length s ≡ c.modules
  pub states : (m i : ℕ) → chosen_at s m ≡ suc i → is_of c m i ≡ true
  pub root : (i : ℕ) × (chosen_at s 0 ≡ suc i)
  pub met : (k : ℕ) → Mem k (asked c s) → (i : ℕ) × (chosen_at s (need_at c k).target ≡ suc i) × (in_range c (need_at c k) i ≡ true)
  pub reach : (m i : ℕ) → chosen_at s m ≡ suc i → Mem m (reached c s)

-- a state that meets a need is a version in its range
meets_parts : (c : Catalogue) (n : Need) (x : ℕ) → meets c n x ≡ true → (i : ℕ) × (x ≡ suc i) × (in_range c n i ≡ true)
meets_parts c n zero e = absurd (false≢true e)
meets_parts c n (suc i) e = (i, refl, e)

-- a selection that passes the test is valid
pub valid_parts : (c : Catalogue) (s : Selection) → is_valid c s ≡ true → Valid c s
unfolding is_valid
valid_parts c s e =
    record {
      size = size;
      states = λ m i h. subst (λ (x : ℕ). is_state c m x ≡ true) h (all_below (λ (k : ℕ). is_state c k (chosen_at s k)) states (within m i h));
      root = positive (chosen_at s 0) (search (and_fst, and_snd));
      met = λ k h. meets_parts c (need_at c k) (chosen_at s (need_at c k).target) (all_mem (is_met c s) met h);
      reach = λ m i h. among_mem m (reached c s) (selected m i h (or_cases (eqb (chosen_at s m) 0) _ (all_below _ reach (within m i h))));
    }
  where
    size : length s ≡ c.modules
    size = eqb-true _ _ (search (and_fst, and_snd))

    states : all (λ (m : ℕ). is_state c m (chosen_at s m)) (below c.modules) ≡ true
    states = search (and_fst, and_snd)

    met : all (is_met c s) (asked c s) ≡ true
    met = search (and_fst, and_snd)

    reach : all (λ (m : ℕ). eqb (chosen_at s m) 0 || among m (reached c s)) (below c.modules) ≡ true
    reach = search (and_fst, and_snd)

    within : (m i : ℕ) → chosen_at s m ≡ suc i → m < c.modules
    within m i h = let l = chosen_lt s m i h in omega (arith, size)

    positive : (x : ℕ) → ltb 0 x ≡ true → (i : ℕ) × (x ≡ suc i)
    positive zero h = absurd (false≢true h)
    positive (suc i) h = (i, refl)

    selected : (m i : ℕ) → chosen_at s m ≡ suc i → (eqb (chosen_at s m) 0 ≡ true) ⊎ (among m (reached c s) ≡ true) → among m (reached c s) ≡ true
    selected m i h (inl z) = absurd (suc_not_zero h (eqb-true _ _ z))
    selected m i h (inr r) = r

-- each module of a valid selection is in a state of its own
pub valid_state : (c : Catalogue) (s : Selection) → Valid c s → (m : ℕ) → is_state c m (chosen_at s m) ≡ true
valid_state c s v m = state (absent_or_at (chosen_at s m))
  where
    state : AbsentOrAt (chosen_at s m) → is_state c m (chosen_at s m) ≡ true
    state (inl z) = rw z
    state (inr r) = rw r.1 (v.states m r.0 r.1)

-- and a valid one passes it
pub parts_valid : (c : Catalogue) (s : Selection) → Valid c s → is_valid c s ≡ true
unfolding is_valid
parts_valid c s v = and_both (and_both (and_both (and_both (eq-eqb _ _ v.size) states) root) met) reach
  where
    states : all (λ (m : ℕ). is_state c m (chosen_at s m)) (below c.modules) ≡ true
    states = below_all (λ (m : ℕ). is_state c m (chosen_at s m)) c.modules (λ m h. valid_state c s v m)

    root : ltb 0 (chosen_at s 0) ≡ true
    root = lt-ltb 0 (chosen_at s 0) (let r = v.root.1 in omega arith)

    met : all (is_met c s) (asked c s) ≡ true
    met = mem_all (is_met c s) (asked c s) (λ k h. let r = v.met k h in rw r.1 r.2)

    reach : all (λ (m : ℕ). eqb (chosen_at s m) 0 || among m (reached c s)) (below c.modules) ≡ true
    reach = below_all (λ (m : ℕ). eqb (chosen_at s m) 0 || among m (reached c s)) c.modules (λ m h. reaches m (absent_or_at (chosen_at s m)))
      where
        reaches : (m : ℕ) → AbsentOrAt (chosen_at s m) → (eqb (chosen_at s m) 0 || among m (reached c s)) ≡ true
        reaches m (inl z) = or_fst (among m (reached c s)) (eq-eqb _ _ z)
        reaches m (inr r) = or_snd (eqb (chosen_at s m) 0) (mem_among (v.reach m r.0 r.1))
