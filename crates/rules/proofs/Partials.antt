-- Partial selections as the search builds them: what a choice that no need bars keeps, and the last lemmas: with no next module such a partial
-- selection is valid, and it is the only valid selection that keeps its choices. Assumes nothing.
use mathlib.Core.Path.{◌≡◌, refl, sym, ◌∙◌, ap, subst}
use mathlib.Core.Logic.{◌⊎◌, inl, inr, ⊎_elim, ◌≢◌}
use mathlib.Core.Bool.{Bool, true, false, ◌&&◌, ◌||◌, cond, false≢true}
use mathlib.Core.List.Memᴰ
use mathlib.Core.List.Memᴰ.{head as here}
use mathlib.Core.List.{List, [], ◌∷◌, Memᴰ as Mem}
use mathlib.Core.Option.{none, some}
use Prim.Native.Nat.{ℕ, zero, suc, ◌-◌, ◌≤◌, ◌<◌}
use native.Mathlib.Omega.{arith}
use native.Mathlib.Nat.{not-suc-le-zero}
use native.Mathlib.Decide.{le_ind}
use lib.Dec.{eqb}
use lib.ListN.{length, get_or, set, replicate, length-set, length-replicate}
use lib.Seq.{ext_get_or}
use borrow.Author.Tests.{eqb-true, eq-eqb, eqb-false, ne_eqb, not-true}
use Rattle.rules.specs.Lists.{any, count_of, below}
use Rattle.rules.specs.Catalogue.{Catalogue, version_at_place, need_at, is_of, places_of, in_range, WellFormed}
use Rattle.rules.specs.Selection.{Selection, chosen_at, with_choice, nothing, root_only, needs_at, asked, asks, reached_in, is_asked, next_modules}
use Rattle.rules.specs.Search.{Keeps, leaves_out, bars, barring}
use Rattle.rules.proofs.Lists.{and_fst, and_snd, or_cases, or_snd, not_both, true_or_false, mem_any, any_mem, mem_keep, keep_mem, first_mem}
use Rattle.rules.proofs.Lists.{first_none, mem_below, below_mem, same_or_not, get_or_mem, mem_count}
use Rattle.rules.proofs.Selections.{suc_not_zero, chosen_lt, chosen_new, chosen_old, AbsentOrAt, absent_or_at, of_parts, places_mem}
use Rattle.rules.proofs.Selections.{needs_at_mem, mem_needs_at, Asked, asked_mem, mem_asked, asked_keeps, is_asked_mem, mem_is_asked, Next}
use Rattle.rules.proofs.Selections.{next_none, Valid}

-- REACHING by depth
asks_mem : (c : Catalogue) (s : Selection) (k m : ℕ) → asks c s k m ≡ true →
    (j : ℕ) × (chosen_at s k ≡ suc (need_at c j).version) × (j < length c.needs) × ((need_at c j).target ≡ m)
asks_mem c s k m e =
    let r = any_mem (λ (j : ℕ). eqb (need_at c j).target m) (needs_at c (chosen_at s k)) e in
    let n = needs_at_mem c (chosen_at s k) r.1.0 in
    (r.0, n.0, n.1, eqb-true _ _ r.1.1)

-- the need of a chosen version that names a module asks for it
mem_asks : (c : Catalogue) (s : Selection) (k j : ℕ) → chosen_at s k ≡ suc (need_at c j).version → j < length c.needs →
    asks c s k (need_at c j).target ≡ true
mem_asks c s k j e h =
    mem_any (λ (i : ℕ). eqb (need_at c i).target (need_at c j).target) (mem_needs_at c (chosen_at s k) j e h) (eq-eqb (need_at c j).target _ refl)

-- a selection that keeps the choices asks for as much
asks_keeps : (c : Catalogue) (p s : Selection) (k m : ℕ) → Keeps p s → asks c p k m ≡ true → asks c s k m ≡ true
asks_keeps c p s k m e a =
    let r = asks_mem c p k m a in
    subst (λ (x : ℕ). asks c s k x ≡ true) r.3 (mem_asks c s k r.0 (e _ _ r.1) r.2)

module _ (c : Catalogue) (s : Selection) where
  -- the root, or asked for by a module that is reached in one step less
  abbrev RootOrAsked : (n m : ℕ) → Type 0
  RootOrAsked n m = (m ≡ 0) ⊎ ((k : ℕ) × (Mem k (reached_in n c s) × (asks c s k m ≡ true)))

  reached_cases : (n m : ℕ) → Mem m (reached_in (suc n) c s) → RootOrAsked n m
  unfolding reached_in
  reached_cases n m h =
      let r = keep_mem (λ (x : ℕ). eqb x 0 || any (λ (k : ℕ). asks c s k x) (reached_in n c s)) m (below c.modules) h in
      ⊎_elim (λ e. inl (eqb-true m 0 e)) (λ e. inr (any_mem (λ (k : ℕ). asks c s k m) (reached_in n c s) e)) (or_cases (eqb m 0) _ r.1)

  reached_root : (n : ℕ) → 0 < c.modules → Mem 0 (reached_in n c s)
  unfolding reached_in
  reached_root zero h = here refl
  reached_root (suc n) h = mem_keep (λ (x : ℕ). eqb x 0 || any (λ (k : ℕ). asks c s k x) (reached_in n c s)) (mem_below h) refl

  -- one step more
  reached_step : (n k m : ℕ) → Mem k (reached_in n c s) → asks c s k m ≡ true → m < c.modules → Mem m (reached_in (suc n) c s)
  unfolding reached_in
  reached_step n k m h a l =
      mem_keep (λ (x : ℕ). eqb x 0 || any (λ (j : ℕ). asks c s j x) (reached_in n c s)) (mem_below l)
      (or_snd (eqb m 0) (mem_any (λ (j : ℕ). asks c s j m) h a))

  reached_lt : (n m : ℕ) → 0 < c.modules → Mem m (reached_in n c s) → m < c.modules
  unfolding reached_in
  reached_lt zero m h r = let e = Memᴰ.eq_of_singleton r in omega arith
  reached_lt (suc n) m h r = below_mem (keep_mem (λ (x : ℕ). eqb x 0 || any (λ (k : ℕ). asks c s k x) (reached_in n c s)) m (below c.modules) r).0

  -- what is reached in n steps is reached in one more
  reached_more : (n m : ℕ) → 0 < c.modules → Mem m (reached_in n c s) → Mem m (reached_in (suc n) c s)
  unfolding reached_in
  reached_more zero m h r =
      subst (λ (x : ℕ). Mem x (reached_in 1 c s)) (sym (Memᴰ.eq_of_singleton r)) (reached_root 1 h)
  reached_more (suc n) m h r = go (reached_cases n m r) (λ k x. reached_more n k h x)
    where
      go : RootOrAsked n m → ((k : ℕ) → Mem k (reached_in n c s) → Mem k (reached_in (suc n) c s)) → Mem m (reached_in (suc (suc n)) c s)
      go (inl e) more = subst (λ (x : ℕ). Mem x (reached_in (suc (suc n)) c s)) (sym e) (reached_root (suc (suc n)) h)
      go (inr x) more = reached_step (suc n) x.0 m (more x.0 x.1.0) x.1.1 (reached_lt (suc n) m h r)

  pub reached_le : (n k m : ℕ) → n ≤ k → 0 < c.modules → Mem m (reached_in n c s) → Mem m (reached_in k c s)
  reached_le n k m l h r = le_ind (λ (j : ℕ). Mem m (reached_in j c s)) r (λ j g x. reached_more j m h x) k l

-- a selection that keeps the choices reaches as much
reached_keeps : (c : Catalogue) (p s : Selection) (n m : ℕ) → Keeps p s → 0 < c.modules → Mem m (reached_in n c p) → Mem m (reached_in n c s)
unfolding reached_in
reached_keeps c p s zero m e h r = r
reached_keeps c p s (suc n) m e h r = go (reached_cases c p n m r) (λ k x. reached_keeps c p s n k e h x)
  where
    go : RootOrAsked c p n m → ((k : ℕ) → Mem k (reached_in n c p) → Mem k (reached_in n c s)) → Mem m (reached_in (suc n) c s)
    go (inl z) more = subst (λ (x : ℕ). Mem x (reached_in (suc n) c s)) (sym z) (reached_root c s (suc n) h)
    go (inr x) more =
        reached_step c s n x.0 m (more x.0 x.1.0) (asks_keeps c p s x.0 m e x.1.1) (reached_lt c p (suc n) m h r)

-- UNSET MODULES: the measure of the search
pub unset_choice : (p : Selection) (m i : ℕ) → m < length p → chosen_at p m ≡ 0 → suc (count_of 0 (with_choice p m i)) ≡ count_of 0 p
unfolding count_of
unset_choice [] m i h e = absurd (not-suc-le-zero h)
unset_choice (x ∷ xs) zero i h e = rw (ne_eqb 0 (suc i) (λ z. omega arith), eq-eqb 0 x (sym e))
unset_choice (x ∷ xs) (suc m) i h e = go (eqb 0 x) (unset_choice xs m i (omega arith) e)
  where
    go : (b : Bool) → suc (count_of 0 (with_choice xs m i)) ≡ count_of 0 xs →
        suc (cond b (suc (count_of 0 (with_choice xs m i))) (count_of 0 (with_choice xs m i))) ≡ cond b (suc (count_of 0 xs)) (count_of 0 xs)
    go true r = ap suc r
    go false r = r

-- an unset module is counted
pub unset_left : (p : Selection) (m : ℕ) → m < length p → chosen_at p m ≡ 0 → 0 < count_of 0 p
unset_left p m h e = mem_count (subst (λ (x : ℕ). Mem x p) e (get_or_mem 0 p m h))

pub unset_most : (p : Selection) → count_of 0 p ≤ length p
unfolding count_of
unset_most [] = omega arith
unset_most (x ∷ xs) = go (eqb 0 x) (unset_most xs)
  where
    go : (b : Bool) → count_of 0 xs ≤ length xs → cond b (suc (count_of 0 xs)) (count_of 0 xs) ≤ suc (length xs)
    go true r = omega arith
    go false r = omega arith

-- WHAT THE SEARCH KEEPS of its partial selection: every module is unset or at one of its versions, the root is set, no need between set modules
-- leaves one out, and every set module is reached
pub record Partial (c : Catalogue) (p : Selection) : Type 0 where
  pub size : length p ≡ c.modules
  pub states : (m i : ℕ) → chosen_at p m ≡ suc i → is_of c m i ≡ true
  pub root : (i : ℕ) × (chosen_at p 0 ≡ suc i)
  pub clear : (k i : ℕ) → Mem k (asked c p) → chosen_at p (need_at c k).target ≡ suc i → in_range c (need_at c k) i ≡ true
  pub reach : (m i : ℕ) → chosen_at p m ≡ suc i → Mem m (reached_in (c.modules - count_of 0 p) c p)

-- a next module is one of the partial selection's
pub next_within : {c : Catalogue} {p : Selection} {m : ℕ} → Partial c p → Next c p m → m < length p
next_within g n = let f = n.fits in let z = g.size in omega arith

-- the root's one version is a version of the root
pub root_place : (c : Catalogue) → WellFormed c → is_of c 0 (get_or (places_of c 0) 0 0) ≡ true
root_place c w = places_mem c 0 (subst (λ (l : List ℕ). Mem (get_or l 0 0) l) (sym w.root.1) (here refl))

pub root_fits_lem : (c : Catalogue) → WellFormed c → 0 < c.modules
root_fits_lem c w =
    let r = of_parts c 0 (get_or (places_of c 0) 0 0) (root_place c w) in
    subst (λ (m : ℕ). m < c.modules) r.1 (w.owners _ r.0)

pub root_chosen : (c : Catalogue) → WellFormed c → chosen_at (root_only c) 0 ≡ suc (get_or (places_of c 0) 0 0)
root_chosen c w = chosen_new (nothing c) 0 (get_or (places_of c 0) 0 0) (rw length-replicate (root_fits_lem c w))

-- where nothing is chosen every state is absent
unset_nothing : (n m : ℕ) → chosen_at (replicate n 0) m ≡ 0
unset_nothing zero m = refl
unset_nothing (suc n) zero = refl
unset_nothing (suc n) (suc m) = unset_nothing n m

-- no module but the root is set at the start
pub start_unset : (c : Catalogue) → WellFormed c → (m : ℕ) → m ≢ 0 → chosen_at (root_only c) m ≡ 0
start_unset c w m n = chosen_old (nothing c) 0 (get_or (places_of c 0) 0 0) m n ∙ unset_nothing c.modules m

-- the only choice at the start is the root's
pub root_only_lem : (c : Catalogue) → WellFormed c → (m i : ℕ) → chosen_at (root_only c) m ≡ suc i → (m ≡ 0) × (i ≡ get_or (places_of c 0) 0 0)
root_only_lem c w m i e = ⊎_elim at_root elsewhere (same_or_not m 0)
  where
    at_root : m ≡ 0 → (m ≡ 0) × (i ≡ get_or (places_of c 0) 0 0)
    at_root z =
        let h = subst (λ (x : ℕ). chosen_at (root_only c) x ≡ suc i) z e in
        let r = root_chosen c w in
        (z, omega arith)

    elsewhere : m ≢ 0 → (m ≡ 0) × (i ≡ get_or (places_of c 0) 0 0)
    elsewhere n =
        absurd (suc_not_zero e (start_unset c w m n))

-- the search begins with a partial selection
pub root_partial : (c : Catalogue) → WellFormed c → Partial c (root_only c)
root_partial c w =
    record {
      size = length-set (nothing c) 0 _ ∙ length-replicate c.modules 0;
      states = states;
      root = (get_or (places_of c 0) 0 0, root_chosen c w);
      clear = λ k i h e. absurd (own k i (asked_mem c (root_only c) h) e);
      reach = λ m i e. subst (λ (x : ℕ). Mem x (reached_in (c.modules - count_of 0 (root_only c)) c (root_only c))) (sym (root_only_lem c w m i e).0)
          (reached_root c (root_only c) _ (root_fits_lem c w));
    }
  where
    states : (m i : ℕ) → chosen_at (root_only c) m ≡ suc i → is_of c m i ≡ true
    states m i e = let r = root_only_lem c w m i e in rw (r.0, r.1) (root_place c w)

    -- a need of the root names another module
    own : (k i : ℕ) → Asked c (root_only c) k → chosen_at (root_only c) (need_at c k).target ≡ suc i → ⊥
    own k i a e =
        let n = root_only_lem c w a.needy _ a.chosen in
        let owner = (of_parts c a.needy _ (states a.needy _ a.chosen)).1 in
        w.others k a.is_need ((root_only_lem c w _ i e).0 ∙ sym (owner ∙ n.0))

-- CHOICES: what is chosen after a choice is that choice, or was chosen before
abbrev pub NewOrOld : Selection → (owner place : ℕ) → (k j : ℕ) → Type 0
NewOrOld p m i k j = ((k ≡ m) × (j ≡ i)) ⊎ ((k ≢ m) × (chosen_at p k ≡ suc j))

module _ (p : Selection) (m i : ℕ) (fits : m < length p) where
  pub choice_cases : (k j : ℕ) → chosen_at (with_choice p m i) k ≡ suc j → NewOrOld p m i k j
  choice_cases k j e = ⊎_elim same other (same_or_not k m)
    where
      same : k ≡ m → NewOrOld p m i k j
      same z =
          let h = subst (λ (x : ℕ). chosen_at (with_choice p m i) x ≡ suc j) z e in
          let r = chosen_new p m i fits in
          inl (z, omega arith)

      other : k ≢ m → NewOrOld p m i k j
      other n = inr (n, sym (chosen_old p m i k n) ∙ e)

  pub choice_keeps : chosen_at p m ≡ 0 → Keeps p (with_choice p m i)
  choice_keeps z k j e = chosen_old p m i k (λ q. suc_not_zero e (subst (λ (x : ℕ). chosen_at p x ≡ 0) (sym q) z)) ∙ e

-- a need leaves a state out: it is a version outside its range
pub leaves_out_parts : (c : Catalogue) (k x : ℕ) → leaves_out c k x ≡ true → (j : ℕ) × (x ≡ suc j) × (in_range c (need_at c k) j ≡ false)
leaves_out_parts c k zero e = absurd (false≢true e)
leaves_out_parts c k (suc j) e = (j, refl, not-true _ e)

-- what a need that bars a choice says: it is the version's own, or names the module
pub bars_cases : (c : Catalogue) (p : Selection) (m i k : ℕ) → bars c p m i k ≡ true →
    (((need_at c k).version ≡ i) × (leaves_out c k (chosen_at p (need_at c k).target) ≡ true)) ⊎
    (((need_at c k).version ≢ i) × ((need_at c k).target ≡ m) × (leaves_out c k (suc i) ≡ true))
bars_cases c p m i k e = go (eqb (need_at c k).version i) refl e
  where
    own : Bool
    own = leaves_out c k (chosen_at p (need_at c k).target)

    named : Bool
    named = eqb (need_at c k).target m && leaves_out c k (suc i)

    go : (b : Bool) → eqb (need_at c k).version i ≡ b → cond b own named ≡ true →
        (((need_at c k).version ≡ i) × (own ≡ true)) ⊎ (((need_at c k).version ≢ i) × ((need_at c k).target ≡ m) × (leaves_out c k (suc i) ≡ true))
    go true q h = inl (eqb-true _ _ q, h)
    go false q h = inr (eqb-false _ _ q, eqb-true _ _ (and_fst _ _ h), and_snd (eqb (need_at c k).target m) _ h)

module _ (c : Catalogue) (p : Selection) (m i : ℕ) (w : WellFormed c) (g : Partial c p) (n : Next c p m) where
  -- one more module is set
  deeper : c.modules - count_of 0 (with_choice p m i) ≡ suc (c.modules - count_of 0 p)
  deeper =
      let one = unset_choice p m i (next_within g n) n.unset in
      let most = unset_most p in
      let z = g.size in
      omega arith

  -- with one of the module's versions chosen, every module is still unset or at one of its versions
  pub choice_states : is_of c m i ≡ true → (k j : ℕ) → chosen_at (with_choice p m i) k ≡ suc j → is_of c k j ≡ true
  choice_states o k j e = ⊎_elim (λ r. rw (r.0, r.1) o) (λ r. g.states k j r.1) (choice_cases p m i (next_within g n) k j e)

  -- a choice of the next module that no need bars keeps what the search keeps
  pub choice_partial : is_of c m i ≡ true → barring c p m i ≡ none → Partial c (with_choice p m i)
  unfolding barring
  choice_partial o b =
      record {
        size = length-set p m (suc i) ∙ g.size;
        states = choice_states o;
        root = (g.root.0, kept 0 _ g.root.1);
        clear = λ k j h e. clear k j h e (asked_mem c (with_choice p m i) h);
        reach = λ k j e. subst (λ (d : ℕ). Mem k (reached_in d c (with_choice p m i))) (sym deeper) (reach k j (cases k j e));
      }
    where
      chosen : Selection
      chosen = with_choice p m i

      cases : (k j : ℕ) → chosen_at chosen k ≡ suc j → NewOrOld p m i k j
      cases = choice_cases p m i (next_within g n)

      kept : Keeps p chosen
      kept = choice_keeps p m i (next_within g n) n.unset

      passes : (k : ℕ) → Mem k (asked c chosen) → bars c p m i k ≡ true → ⊥
      passes k h t = not_both t (first_none (bars c p m i) b h)

      -- the version's own need, and a set module's need of the chosen one
      own : (k j : ℕ) → Mem k (asked c chosen) → (need_at c k).version ≡ i → NewOrOld p m i (need_at c k).target j → k < length c.needs →
          (in_range c (need_at c k) j ≡ true) ⊎ (in_range c (need_at c k) j ≡ false) → in_range c (need_at c k) j ≡ true
      own k j h v t l (inl r) = r
      own k j h v (inl t) l (inr r) =
          absurd (w.others k l (t.0 ∙ sym (ap (λ (x : ℕ). (version_at_place c x).owner) v ∙ (of_parts c m i o).1)))
      own k j h v (inr t) l (inr r) = absurd (passes k h (rw (eq-eqb _ i v, t.1, r)))

      other : (k j x : ℕ) → Mem k (asked c chosen) → x ≢ m → x < c.modules → chosen_at p x ≡ suc (need_at c k).version →
          NewOrOld p m i (need_at c k).target j → k < length c.needs →
          (in_range c (need_at c k) j ≡ true) ⊎ (in_range c (need_at c k) j ≡ false) → in_range c (need_at c k) j ≡ true
      other k j x h z f e t l (inl r) = r
      other k j x h z f e (inr t) l (inr r) = g.clear k j (mem_asked c p k x f e l) t.1
      other k j x h z f e (inl t) l (inr r) =
          let differs : (need_at c k).version ≢ i =
          λ v. z (sym (of_parts c x _ (g.states x _ e)).1 ∙ (ap (λ (y : ℕ). (version_at_place c y).owner) v ∙ (of_parts c m i o).1)) in
          absurd (passes k h (rw (ne_eqb _ i differs, eq-eqb _ m t.0, ← t.1, r)))

      clear : (k j : ℕ) → Mem k (asked c chosen) → chosen_at chosen (need_at c k).target ≡ suc j → Asked c chosen k → in_range c (need_at c k) j ≡ true
      clear k j h e a =
          ⊎_elim
          (λ r. own k j h r.1 (cases _ j e) a.is_need (true_or_false _))
          (λ r. other k j a.needy h r.0 a.fits r.1 (cases _ j e) a.is_need (true_or_false _))
          (cases a.needy _ a.chosen)

      -- the need that asks for the module
      asker : (k : ℕ) × (Mem k (asked c p) × ((need_at c k).target ≡ m))
      asker = is_asked_mem c p m n.needed

      reach : (k j : ℕ) → NewOrOld p m i k j → Mem k (reached_in (suc (c.modules - count_of 0 p)) c chosen)
      reach k j (inr r) =
          reached_more c chosen _ k (root_fits_lem c w) (reached_keeps c p chosen _ k kept (root_fits_lem c w) (g.reach k j r.1))
      reach k j (inl r) =
          let a = asked_mem c p asker.1.0 in
          let there = reached_keeps c p chosen _ a.needy kept (root_fits_lem c w) (g.reach a.needy _ a.chosen) in
          let asked = mem_asks c chosen a.needy asker.0 (kept _ _ a.chosen) a.is_need in
          reached_step c chosen _ a.needy k there (subst (λ (x : ℕ). asks c chosen a.needy x ≡ true) (asker.1.1 ∙ sym r.0) asked)
          (subst (λ (x : ℕ). x < c.modules) (sym r.0) n.fits)

  -- a choice that a need bars is kept by no valid selection
  pub barred_refuted : (k : ℕ) (o : Selection) → barring c p m i ≡ some k → Valid c o → Keeps (with_choice p m i) o → ⊥
  unfolding barring
  barred_refuted k o b v e = ⊎_elim own named (bars_cases c p m i k hit.1)
    where
      hit : Mem k (asked c (with_choice p m i)) × (bars c p m i k ≡ true)
      hit = first_mem (bars c p m i) (asked c (with_choice p m i)) k b

      met : (x : ℕ) × (chosen_at o (need_at c k).target ≡ suc x) × (in_range c (need_at c k) x ≡ true)
      met = v.met k (asked_keeps c (with_choice p m i) o e hit.0)

      -- the version that the selection has at the target is left out
      clash : (j : ℕ) → chosen_at o (need_at c k).target ≡ suc j → in_range c (need_at c k) j ≡ false → ⊥
      clash j h r =
          let same : met.0 ≡ j = (let one = met.1 in omega arith) in
          not_both (subst (λ (x : ℕ). in_range c (need_at c k) x ≡ true) same met.2) r

      own : ((need_at c k).version ≡ i) × (leaves_out c k (chosen_at p (need_at c k).target) ≡ true) → ⊥
      own r =
          let l = leaves_out_parts c k _ r.1 in
          clash l.0 (e _ _ (choice_keeps p m i (next_within g n) n.unset _ _ l.1)) l.2

      named : ((need_at c k).version ≢ i) × ((need_at c k).target ≡ m) × (leaves_out c k (suc i) ≡ true) → ⊥
      named r =
          clash i (subst (λ (x : ℕ). chosen_at o x ≡ suc i) (sym r.1) (e m i (chosen_new p m i (next_within g n)))) (not-true _ r.2)

-- with nothing next it is valid
pub whole_valid : (c : Catalogue) (p : Selection) → WellFormed c → Partial c p → next_modules c p ≡ [] → Valid c p
whole_valid c p w g e =
    record {
      size = g.size;
      states = g.states;
      root = g.root;
      met = λ k h. met k h (next_none c p (need_at c k).target e (w.targets k (asked_mem c p h).is_need) (mem_is_asked c p h));
      reach = λ m i h. reached_le c p (c.modules - count_of 0 p) c.modules m (omega arith) (root_fits_lem c w) (g.reach m i h);
    }
  where
    met : (k : ℕ) → Mem k (asked c p) → (i : ℕ) × (chosen_at p (need_at c k).target ≡ suc i) →
        (i : ℕ) × (chosen_at p (need_at c k).target ≡ suc i) × (in_range c (need_at c k) i ≡ true)
    met k h r = (r.0, r.1, g.clear k r.0 h r.1)

-- with nothing next, what a valid selection that keeps the choices reaches is set
reached_set : (c : Catalogue) (p o : Selection) (n m : ℕ) → WellFormed c → Partial c p → next_modules c p ≡ [] → Keeps p o → Mem m (reached_in n c o) →
    (i : ℕ) × (chosen_at p m ≡ suc i)
unfolding reached_in
reached_set c p o zero m w g e k h =
    (g.root.0, subst (λ (x : ℕ). chosen_at p x ≡ suc g.root.0) (sym (Memᴰ.eq_of_singleton h)) g.root.1)
reached_set c p o (suc n) m w g e k h = go (reached_cases c o n m h) (λ x r. reached_set c p o n x w g e k r)
  where
    go : RootOrAsked c o n m → ((x : ℕ) → Mem x (reached_in n c o) → (i : ℕ) × (chosen_at p x ≡ suc i)) → (i : ℕ) × (chosen_at p m ≡ suc i)
    go (inl z) set = (g.root.0, subst (λ (x : ℕ). chosen_at p x ≡ suc g.root.0) (sym z) g.root.1)
    go (inr r) set =
        let a = asks_mem c o r.0 m r.1.1 in
        let s = set r.0 r.1.0 in
        let version : chosen_at p r.0 ≡ suc (need_at c a.0).version = s.1 ∙ (sym (k _ _ s.1) ∙ a.1) in
        let fits : r.0 < c.modules = (let f = chosen_lt p r.0 _ s.1 in let z = g.size in omega arith) in
        let asked = mem_is_asked c p (mem_asked c p a.0 r.0 fits version a.2) in
        next_none c p m e (reached_lt c o (suc n) m (root_fits_lem c w) h) (subst (λ (x : ℕ). is_asked c p x ≡ true) a.3 asked)

-- with no next module it is the only valid selection that keeps its choices
pub whole_only : (c : Catalogue) (p o : Selection) → WellFormed c → Partial c p → next_modules c p ≡ [] → Valid c o → Keeps p o → o ≡ p
whole_only c p o w g e v k = ext_get_or 0 o p (v.size ∙ sym g.size) (λ m h. same m (absent_or_at (chosen_at p m)) (absent_or_at (chosen_at o m)))
  where
    same : (m : ℕ) → AbsentOrAt (chosen_at p m) → AbsentOrAt (chosen_at o m) → chosen_at o m ≡ chosen_at p m
    same m (inr r) q = k m r.0 r.1 ∙ sym r.1
    same m (inl z) (inl y) = y ∙ sym z
    same m (inl z) (inr q) =
        absurd (suc_not_zero (reached_set c p o c.modules m w g e k (v.reach m q.0 q.1)).1 z)
