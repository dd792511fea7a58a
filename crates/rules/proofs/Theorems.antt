-- The theorems about the rules, under the names of the promises in specs/Promises.antt and of the claim in specs/Samples.antt. Assumes nothing.
use mathlib.Core.Path.{◌≡◌, refl, ◌∙◌, subst}
use mathlib.Core.Bool.{Bool, true, false, cond}
use mathlib.Core.Logic.{⊎_elim, inl, inr}
use mathlib.Core.List.{List, [], Memᴰ as Mem}
use mathlib.Core.Option.{Option, none, some}
use Prim.Native.Nat.{ℕ, ◌+◌, ◌*◌, ◌-◌, ◌≤◌, ◌<◌}
use native.Mathlib.Omega.{arith}
use native.Mathlib.Nat.{not-suc-le-zero}
use lib.Dec.{eqb, ltb}
use lib.ListN.{length, get_or}
use borrow.Author.Tests.{lt-ltb, le-leb, leb-true, ltb-true, eq-eqb}
use Rattle.rules.specs.Lists.{ahead, down_from, count_of}
use Rattle.rules.specs.Catalogue.{Catalogue, version_at_place, is_of, is_older, WellFormed}
use Rattle.rules.specs.Selection.{Selection, root_only, next_modules, chosen_at}
use Rattle.rules.specs.Search.{Tries, IsTries, newest_first, search, best, trials_of, is_tried_first, is_newer, Certified}
use Rattle.rules.specs.Sheet.{no_incompatibility, is_inside, blocks_at, Blocks}
use Rattle.rules.specs.Sheet.{Entry, derived, last_line, is_refuting, most_lines, sheet_of}
use Rattle.rules.specs.Promises.{SomeValid, ReadsWellFormed, NewestFirstTries, FindsValid}
use Rattle.rules.specs.Promises.{PicksValid, FactsHold, SheetsTell, BlockingRefutes, AcceptsExactly}
use Rattle.rules.specs.Promises.{FindsFirst, PicksBest, FindsCertified, OrderWhole, NextIsLowest, TextTells}
use Rattle.rules.specs.Samples.{Samples}
use Rattle.rules.proofs.Lists.{and_fst, and_snd, and_both, or_cases, true_or_false}
use Rattle.rules.proofs.Lists.{count_keep, count_down_from, ahead_greater, mem_among, not_both, below_all}
use Rattle.rules.proofs.Lists.{same_false, keep_least, mem_below}
use Rattle.rules.proofs.Selections.{of_parts, Next, next_first, AbsentOrAt, absent_or_at, Valid, valid_parts, valid_state, parts_valid}
use Rattle.rules.proofs.Partials.{root_partial}
use Rattle.rules.proofs.Searches.{tried, Outcome, search_outcome}
use Rattle.rules.proofs.Certificates.{certified_found, certified_best, start_fits, start_kept}
use Rattle.rules.proofs.Certificates as Certificates
use Rattle.rules.proofs.Incompatibilities.{Holds, lines_length, lines_hold, refuting_none, full_state}
use Rattle.rules.proofs.Sheets.{Derives, search_derives, blocks_refutes}
use Rattle.rules.proofs.Reading as Reading
use Rattle.rules.proofs.SheetText as SheetText
use Rattle.rules.proofs.SelectionText as SelectionText
use Rattle.rules.proofs.Bench as Bench

-- READING
pub reads_well_formed : ReadsWellFormed
reads_well_formed = Reading.reads_well_formed

-- THE SEARCH, over any tries
pub newest_first_tries : NewestFirstTries
newest_first_tries c m i h = count_keep (is_of c m) i (down_from (length c.versions)) ∙ go (is_of c m i) refl
  where
    go : (b : Bool) → is_of c m i ≡ b → cond b (count_of i (down_from (length c.versions))) 0 ≡ cond {A = ℕ} b 1 0
    go true e = count_down_from (length c.versions) i ∙ rw (lt-ltb i _ (of_parts c m i e).0)
    go false e = refl

module _ (c : Catalogue) (t : Tries) (w : WellFormed c) (τ : IsTries c t) where
  -- the outcome of the whole search
  whole : Outcome c.modules c t (root_only c) (search c t).found
  unfolding search
  whole = search_outcome c t w τ c.modules (root_only c) (root_partial c w) (start_fits c w)

  -- what it finds is valid and certified
  found_valid : (s : Selection) → (search c t).found ≡ some s → Valid c s × Certified c t s
  found_valid s e =
      let o = subst (λ (x : Option Selection). Outcome c.modules c t (root_only c) x) e whole in
      (o.0, o.2)

  -- where it finds none there is none
  found_none : (search c t).found ≡ none → (s : Selection) → Valid c s → ⊥
  found_none e s v =
      let o = subst (λ (x : Option Selection). Outcome c.modules c t (root_only c) x) e whole in
      o s (parts_valid c s v) (start_kept c w s v)

pub finds_valid : FindsValid
finds_valid c t w τ = (λ s e. parts_valid c s (found_valid c t w τ s e).0, (none_valid, none_found (search c t).found refl))
  where
    none_valid : (search c t).found ≡ none → SomeValid c → ⊥
    none_valid e v = found_none c t w τ e v.0 (valid_parts c v.0 v.1)

    none_found : (x : Option Selection) → (search c t).found ≡ x → (SomeValid c → ⊥) → (search c t).found ≡ none
    none_found none e h = e
    none_found (some s) e h = absurd (h (s, parts_valid c s (found_valid c t w τ s e).0))

pub picks_valid : PicksValid
unfolding best
picks_valid c w = finds_valid c (newest_first c) w (newest_first_tries c)

-- SHEETS
pub facts_hold : FactsHold
facts_hold c es i s w f h v = ⊎_elim (λ e. absurd (true_of_all e)) (λ e. e) (true_or_false (is_inside c (get_or (derived c es) i no_incompatibility) s))
  where
    true_of_all : is_inside c (get_or (derived c es) i no_incompatibility) s ≡ true → ⊥
    true_of_all = lines_hold c [] es w (λ j l. absurd (not-suc-le-zero l)) f i (omega (arith, lines_length c [] es)) s (valid_parts c s v)

-- a refuting sheet leaves no valid selection
refuted : (c : Catalogue) (es : List Entry) → WellFormed c → is_refuting c es ≡ true → SomeValid c → ⊥
unfolding is_refuting
refuted c es w r v = refuting_none c (last_line c es) (Prim.search (and_fst, and_snd)) holds v.0 (valid_parts c v.0 v.1)
  where
    some_line : 1 ≤ length es
    some_line = leb-true 1 (length es) (Prim.search (and_fst, and_snd))

    holds : Holds c (last_line c es)
    holds =
        lines_hold c [] es w (λ j l. absurd (not-suc-le-zero l)) (Prim.search (and_fst, and_snd)) (length es - 1)
        (omega (arith, some_line, lines_length c [] es))

pub sheets_tell : SheetsTell
unfolding best trials_of search is_refuting
sheets_tell c w = (λ e. ((made e).1, λ most. refuting e most), λ es r. (picks_valid c w).1.1 (refuted c es w r))
  where
    t : Tries
    t = newest_first c

    lines : ℕ
    lines = length (sheet_of c t)

    made : best c ≡ none → Derives c [] (sheet_of c t) (root_only c) × (length (sheet_of c t) ≡ 2 * trials_of c + 1)
    made e = search_derives c t w (newest_first_tries c) c.modules (root_only c) (root_partial c w) (start_fits c w) e []

    refuting : best c ≡ none → 2 * trials_of c + 1 ≤ most_lines → is_refuting c (sheet_of c t) ≡ true
    refuting e most =
        and_both
        (and_both (and_both (le-leb 1 lines (omega (arith, (made e).1))) (le-leb lines most_lines (omega (arith, (made e).1)))) (made e).0.fits)
        (blocks_refutes c w (last_line c (sheet_of c t))
        (subst (λ (k : ℕ). Blocks c (get_or (derived c (sheet_of c t)) k no_incompatibility) (root_only c)) (omega arith) (made e).0.blocks))

pub blocking_refutes : BlockingRefutes
unfolding is_inside
blocking_refutes c f p h b o v k =
    not_both (below_all (λ (m : ℕ). f m (chosen_at o m)) c.modules (λ m l. inside m l (absent_or_at (chosen_at p m)))) (h o v)
  where
    valid : Valid c o
    valid = valid_parts c o v

    inside : (m : ℕ) → m < c.modules → AbsentOrAt (chosen_at p m) → f m (chosen_at o m) ≡ true
    inside m l (inl z) = full_state c f m (chosen_at o m) (subst (λ (x : ℕ). blocks_at c f m x ≡ true) z (b m l)) (valid_state c o valid m)
    inside m l (inr r) = rw (k m r.0 r.1) (subst (λ (x : ℕ). blocks_at c f m x ≡ true) r.1 (b m l))

pub accepts_exactly : AcceptsExactly
accepts_exactly = SheetText.accepts_exactly

-- THE BEST SELECTION
pub finds_first : FindsFirst
finds_first c t s o w τ e u d =
    let f = found_valid c t w τ s e in
    certified_best c t w τ (is_tried_first t) (λ m x y h p q a. mem_among a) s o f.0 (valid_parts c o u) (same_false s o d) f.1

-- what stands ahead among a module's versions, newest first, is newer
ahead_newer : (c : Catalogue) → WellFormed c → (m x y : ℕ) → m < c.modules → is_of c m x ≡ true → is_of c m y ≡ true →
    Mem x (ahead (newest_first c m) y) → is_newer c m x y ≡ true
unfolding is_older
ahead_newer c w m x y h p q a =
    ⊎_elim (λ e. absurd (apart e)) (λ e. and_snd (eqb (version_at_place c y).owner (version_at_place c x).owner) _ e) (or_cases _ _ older)
  where
    above : y < x
    above = ahead_greater (is_of c m) (length c.versions) a (tried c (newest_first c) (newest_first_tries c) m y h q)

    older : is_older (version_at_place c y) (version_at_place c x) ≡ true
    older = w.rising y x above (of_parts c m x p).0

    apart : ltb (version_at_place c y).owner (version_at_place c x).owner ≡ true → ⊥
    apart e =
        let less = ltb-true (version_at_place c y).owner (version_at_place c x).owner e in
        let one = (of_parts c m x p).1 in
        let other = (of_parts c m y q).1 in
        omega arith

pub picks_best : PicksBest
unfolding best
picks_best c s o w e u d =
    let f = found_valid c (newest_first c) w (newest_first_tries c) s e in
    certified_best c (newest_first c) w (newest_first_tries c) (is_newer c) (ahead_newer c w) s o f.0 (valid_parts c o u) (same_false s o d) f.1

pub finds_certified : FindsCertified
unfolding search
finds_certified c t s w τ = (λ e. let f = found_valid c t w τ s e in (parts_valid c s f.0, f.1), λ x. found (valid_parts c s x.0) x.1)
  where
    found : Valid c s → Certified c t s → (search c t).found ≡ some s
    found v x = certified_found c t w τ c.modules s (root_only c) (root_partial c w) (start_fits c w) v (start_kept c w s v) x

pub order_whole : OrderWhole
order_whole c s m w v h = Certificates.order_whole c w s m (valid_parts c s v)

pub next_is_lowest : NextIsLowest
unfolding next_modules
next_is_lowest c p m ms e = ((first.unset, first.needed), λ k h u a. keep_least _ 0 c.modules m k ms e (mem_below h) (and_both (eq-eqb _ 0 u) a))
  where
    first : Next c p m
    first = next_first c p m ms e

-- THE SELECTION'S TEXT
pub text_tells : TextTells
text_tells = SelectionText.text_tells

-- THE BENCH SAMPLES
pub samples_hold : Samples
samples_hold = Bench.samples_hold
