-- Incompatibilities: every line of a fitting sheet is true of every valid selection (`lines_hold`), so a refuting sheet means that there is none
-- (`refuting_none`, the last lemma). Assumes nothing.
use mathlib.Core.Path.{◌≡◌, refl, sym, ◌∙◌, ap, subst}
use mathlib.Core.Logic.{◌⊎◌, inl, inr, ⊎_elim, ◌≢◌}
use mathlib.Core.Bool.{true, false, ◌&&◌, ◌||◌, not}
use mathlib.Core.List.{List, [], ◌∷◌, ◌++◌}
use Prim.Native.Nat.{ℕ, zero, suc, ◌+◌, ◌<◌}
use native.Mathlib.Omega.{arith}
use lib.Dec.{eqb}
use lib.ListN.{length, get_or, get_or-append}
use borrow.Author.Tests.{eq-eqb, ne_eqb, eqb-true, ltb-true}
use Rattle.rules.specs.Lists.{all}
use Rattle.rules.specs.Catalogue.{Catalogue, need_at, needy_of, is_of, places_of, WellFormed}
use Rattle.rules.specs.Selection.{Selection, chosen_at, meets, is_state}
use Rattle.rules.specs.Sheet.{Incompatibility, no_incompatibility, is_full, is_inside, need_line, resolved, refutes, Entry, cites, resolves, line_of}
use Rattle.rules.specs.Sheet.{lines_from, entry_fits, entries_fit}
use Rattle.rules.proofs.Lists.{and_fst, and_snd, and_both, or_cases, not_both, true_or_false, mem_all, all_mem, all_below, below_all}
use Rattle.rules.proofs.Lists.{same_or_not, longer, length_last, one_more}
use Rattle.rules.proofs.Selections.{mem_places, places_mem, mem_asked, Valid, valid_state}

-- no valid selection has every module inside the sets
abbrev pub Holds : Catalogue → Incompatibility → Type 0
Holds c f = (o : Selection) → Valid c o → is_inside c f o ≡ true → ⊥

-- what a need line's sets hold: the needing module's, the needed one's, any other's
module _ (c : Catalogue) (k : ℕ) where
  pub need_needy : (m x : ℕ) → m ≡ needy_of c k → need_line c k m x ≡ eqb x (suc (need_at c k).version)
  unfolding need_line
  need_needy m x e = rw (eq-eqb m _ e)

  pub need_target : (m x : ℕ) → m ≢ needy_of c k → m ≡ (need_at c k).target → need_line c k m x ≡ not (meets c (need_at c k) x)
  unfolding need_line
  need_target m x n e = rw (ne_eqb m _ n, eq-eqb m (need_at c k).target e)

  pub need_other : (m x : ℕ) → m ≢ needy_of c k → m ≢ (need_at c k).target → need_line c k m x ≡ true
  unfolding need_line
  need_other m x n e = rw (ne_eqb m _ n, ne_eqb m (need_at c k).target e)

  -- a need line is true: a valid selection with the needing version meets the need
  pub need_holds : WellFormed c → k < length c.needs → Holds c (need_line c k)
  unfolding is_inside
  need_holds w l o v i = not_both outside (ap not met)
    where
      inside : (m : ℕ) → m < c.modules → need_line c k m (chosen_at o m) ≡ true
      inside m h = all_below (λ (x : ℕ). need_line c k x (chosen_at o x)) i h

      fits : needy_of c k < c.modules
      fits = w.owners _ (w.needies k l)

      chosen : chosen_at o (needy_of c k) ≡ suc (need_at c k).version
      chosen = eqb-true _ _ (sym (need_needy (needy_of c k) _ refl) ∙ inside _ fits)

      outside : not (meets c (need_at c k) (chosen_at o (need_at c k).target)) ≡ true
      outside = sym (need_target (need_at c k).target _ (w.others k l) refl) ∙ inside _ (w.targets k l)

      met : meets c (need_at c k) (chosen_at o (need_at c k).target) ≡ true
      met = let r = v.met k (mem_asked c o k (needy_of c k) fits chosen l) in rw r.1 r.2

-- a resolved line's set at its module, and at any other
pub resolved_at : (m : ℕ) (f g : Incompatibility) (k x : ℕ) → k ≡ m → resolved m f g k x ≡ (f k x || g k x)
unfolding resolved
resolved_at m f g k x e = rw (eq-eqb k m e)

pub resolved_off : (m : ℕ) (f g : Incompatibility) (k x : ℕ) → k ≢ m → resolved m f g k x ≡ (f k x && g k x)
unfolding resolved
resolved_off m f g k x e = rw (ne_eqb k m e)

-- a line resolved from two true lines is true
pub resolved_holds : (c : Catalogue) (m : ℕ) (f g : Incompatibility) → Holds c f → Holds c g → Holds c (resolved m f g)
unfolding is_inside
resolved_holds c m f g p q o v i = ⊎_elim one other (true_or_false (f m (chosen_at o m)))
  where
    inside : (k : ℕ) → k < c.modules → resolved m f g k (chosen_at o k) ≡ true
    inside k h = all_below (λ (x : ℕ). resolved m f g x (chosen_at o x)) i h

    off : (k : ℕ) → k < c.modules → k ≢ m → (f k (chosen_at o k) && g k (chosen_at o k)) ≡ true
    off k h n = sym (resolved_off m f g k _ n) ∙ inside k h

    at : (k : ℕ) → k < c.modules → k ≡ m → (f k (chosen_at o k) || g k (chosen_at o k)) ≡ true
    at k h e = sym (resolved_at m f g k _ e) ∙ inside k h

    one : f m (chosen_at o m) ≡ true → ⊥
    one t =
        p o v
        (below_all (λ (k : ℕ). f k (chosen_at o k)) c.modules
        (λ k h. ⊎_elim (λ e. rw e t) (λ n. and_fst _ _ (off k h n)) (same_or_not k m)))

    other : f m (chosen_at o m) ≡ false → ⊥
    other t =
        let left : (k : ℕ) → (f k (chosen_at o k) || g k (chosen_at o k)) ≡ true → k ≡ m → g k (chosen_at o k) ≡ true =
        λ k u e. ⊎_elim (λ z. absurd (not_both z (rw e t))) (λ z. z) (or_cases (f k (chosen_at o k)) _ u) in
        q o v
        (below_all (λ (k : ℕ). g k (chosen_at o k)) c.modules
        (λ k h. ⊎_elim (λ e. left k (at k h e) e) (λ n. and_snd (f k (chosen_at o k)) _ (off k h n)) (same_or_not k m)))

-- THE LINES of a sheet, one after the other
pub lines_length : (c : Catalogue) (fs : List Incompatibility) (es : List Entry) → length (lines_from c fs es) ≡ length fs + length es
unfolding lines_from
lines_length c fs [] = omega arith
lines_length c fs (e ∷ es) = lines_length c (longer fs (line_of c fs e)) es ∙ omega (arith, length_last fs (line_of c fs e))

-- later lines leave the earlier ones as they are
pub lines_earlier : (c : Catalogue) (fs : List Incompatibility) (es : List Entry) (i : ℕ) → i < length fs →
    get_or (lines_from c fs es) i no_incompatibility ≡ get_or fs i no_incompatibility
unfolding lines_from
lines_earlier c fs [] i h = refl
lines_earlier c fs (e ∷ es) i h =
    lines_earlier c (longer fs (line_of c fs e)) es i (omega (arith, length_last fs (line_of c fs e))) ∙
    get_or-append fs (line_of c fs e ∷ []) no_incompatibility i h

-- the lines of two lists one after the other
pub lines_append : (c : Catalogue) (fs : List Incompatibility) (xs ys : List Entry) → lines_from c fs (xs ++ ys) ≡ lines_from c (lines_from c fs xs) ys
unfolding lines_from
lines_append c fs [] ys = refl
lines_append c fs (x ∷ xs) ys = lines_append c (longer fs (line_of c fs x)) xs ys

-- two lists that fit one after the other fit together
pub fit_append : (c : Catalogue) (n : ℕ) (xs ys : List Entry) → entries_fit c n xs ≡ true → entries_fit c (n + length xs) ys ≡ true →
    entries_fit c n (xs ++ ys) ≡ true
unfolding entries_fit
fit_append c n [] ys p q = subst (λ (k : ℕ). entries_fit c k ys ≡ true) (omega arith) q
fit_append c n (x ∷ xs) ys p q =
    and_both (and_fst (entry_fits c n x) _ p)
    (fit_append c (suc n) xs ys (and_snd (entry_fits c n x) _ p) (subst (λ (k : ℕ). entries_fit c k ys ≡ true) (omega arith) q))

-- every line of a fitting sheet is true
abbrev AllHold : Catalogue → List Incompatibility → Type 0
AllHold c fs = (i : ℕ) → i < length fs → Holds c (get_or fs i no_incompatibility)

entry_holds : (c : Catalogue) (fs : List Incompatibility) (e : Entry) → WellFormed c → AllHold c fs →
    entry_fits c (length fs) e ≡ true → Holds c (line_of c fs e)
entry_holds c fs (cites k) w h t = need_holds c k w (ltb-true _ _ t)
entry_holds c fs (resolves a b m) w h t =
    resolved_holds c m _ _ (h a (ltb-true _ _ (search (and_fst, and_snd)))) (h b (ltb-true _ _ (search (and_fst, and_snd))))

pub lines_hold : (c : Catalogue) (fs : List Incompatibility) (es : List Entry) → WellFormed c → AllHold c fs → entries_fit c (length fs) es ≡ true →
    AllHold c (lines_from c fs es)
unfolding lines_from entries_fit
lines_hold c fs [] w h t = h
lines_hold c fs (e ∷ es) w h t =
    lines_hold c (longer fs (line_of c fs e)) es w
    (one_more no_incompatibility fs (line_of c fs e) (λ i f. Holds c f) h (entry_holds c fs e w h (and_fst _ _ t)))
    (subst (λ (k : ℕ). entries_fit c k es ≡ true) (sym (length_last fs (line_of c fs e))) (and_snd (entry_fits c (length fs) e) _ t))

-- a full set holds every state of its module
pub full_state : (c : Catalogue) (f : Incompatibility) (m x : ℕ) → is_full c f m ≡ true → is_state c m x ≡ true → f m x ≡ true
full_state c f m zero h s = and_fst _ _ h
full_state c f m (suc i) h s = all_mem (λ (j : ℕ). f m (suc j)) (and_snd (f m 0) _ h) (mem_places c m i s)

-- a set that holds absent and every version is full
pub state_full : (c : Catalogue) (f : Incompatibility) (m : ℕ) → f m 0 ≡ true → ((i : ℕ) → is_of c m i ≡ true → f m (suc i) ≡ true) → is_full c f m ≡ true
state_full c f m z h = and_both z (mem_all (λ (i : ℕ). f m (suc i)) (places_of c m) (λ i x. h i (places_mem c m x)))

-- an incompatibility that refutes and is true leaves no valid selection
pub refuting_none : (c : Catalogue) (f : Incompatibility) → refutes c f ≡ true → Holds c f → (o : Selection) → Valid c o → ⊥
unfolding refutes is_inside
refuting_none c f r h o v = h o v (below_all (λ (m : ℕ). f m (chosen_at o m)) c.modules (λ m l. inside m l (or_cases (eqb m 0) _ (full m l))))
  where
    root : (i : ℕ) → is_of c 0 i ≡ true → f 0 (suc i) ≡ true
    root i e = all_mem (λ (j : ℕ). f 0 (suc j)) (and_fst _ _ r) (mem_places c 0 i e)

    full : (m : ℕ) → m < c.modules → (eqb m 0 || is_full c f m) ≡ true
    full m l = all_below (λ (k : ℕ). eqb k 0 || is_full c f k) (and_snd (all (λ (j : ℕ). f 0 (suc j)) (places_of c 0)) _ r) l

    inside : (m : ℕ) → m < c.modules → (eqb m 0 ≡ true) ⊎ (is_full c f m ≡ true) → f m (chosen_at o m) ≡ true
    inside m l (inl e) =
        let z = eqb-true m 0 e in
        subst (λ (k : ℕ). f k (chosen_at o k) ≡ true) (sym z) (rw v.root.1 (root _ (v.states 0 _ v.root.1)))
    inside m l (inr e) = full_state c f m (chosen_at o m) e (valid_state c o v m)
