-- The sheet of a failing search: its lines fit, its last line blocks what the search began with, and it has 2W + 1 lines (`search_derives`). The last
-- lemma says that what blocks the root alone refutes. Assumes nothing.
use mathlib.Core.Path.{◌≡◌, refl, sym, ◌∙◌, ap, subst, subst₂}
use mathlib.Core.Logic.{◌⊎◌, inl, inr, ⊎_elim, ◌≢◌}
use mathlib.Core.Bool.{true, false, ◌||◌, not}
use mathlib.Core.List.Memᴰ.{head as here}
use mathlib.Core.List.Memᴰ.{not-nil}
use mathlib.Core.List.Memᴰ.{tail as there}
use mathlib.Core.List.{List, [], ◌∷◌, ◌++◌, Memᴰ as Mem}
use mathlib.Core.List.Memᴰ
use mathlib.Core.Option
use mathlib.Core.Option.{Option, none, some, none-ne-some}
use Prim.Native.Nat.{ℕ, zero, suc, ◌+◌, ◌*◌, ◌-◌, ◌≤◌, ◌<◌}
use native.Mathlib.Omega.{arith}
use lib.Dec.{eqb}
use lib.ListN.{length, get_or, length-append}
use lib.Seq.{get_or-append_seam, get_or_at}
use borrow.Author.Tests.{eq-eqb, eqb-true, lt-ltb, not-true}
use Rattle.rules.specs.Lists.{first_of, count_of}
use Rattle.rules.specs.Catalogue.{Catalogue, need_at, needy_of, is_of, places_of, in_range, WellFormed}
use Rattle.rules.specs.Selection.{Selection, chosen_at, with_choice, root_only, asked, is_asked, next_modules}
use Rattle.rules.specs.Search.{Tries, IsTries, leaves_out, bars, barring, Searched, trial_by, and_then, try_each, search_from}
use Rattle.rules.specs.Sheet.{Incompatibility, no_incompatibility, is_full, blocks_at, Blocks, need_line, resolved, refutes, Entry, cites, resolves, line_of}
use Rattle.rules.specs.Sheet.{lines_from, entry_fits, entries_fit, trial_lines, tries_lines, asking, search_lines}
use Rattle.rules.proofs.Lists.{and_both, or_fst, or_snd, not_both, mem_all, any_mem, first_mem, first_none, below_all, same_or_not, longer}
use Rattle.rules.proofs.Lists.{length_last}
use Rattle.rules.proofs.Selections.{chosen_new, chosen_old, of_parts, Asked, asked_mem, Next, next_first}
use Rattle.rules.proofs.Partials.{leaves_out_parts, bars_cases, root_chosen, root_fits_lem, start_unset, Partial, next_within, choice_keeps}
use Rattle.rules.proofs.Partials.{choice_states, choice_partial}
use Rattle.rules.proofs.Searches.{next_cases, search_done, search_next, tried, try_of, fewer}
use Rattle.rules.proofs.Incompatibilities.{need_needy, need_target, need_other, resolved_at, resolved_off, lines_length, lines_earlier}
use Rattle.rules.proofs.Incompatibilities.{lines_append, fit_append, state_full, full_state}

-- BLOCKING, module by module. A set that holds every state blocks whatever is chosen
blocks_all : (c : Catalogue) (f : Incompatibility) (m x : ℕ) → ((y : ℕ) → f m y ≡ true) → blocks_at c f m x ≡ true
blocks_all c f m zero h = state_full c f m (h 0) (λ i e. h (suc i))
blocks_all c f m (suc i) h = h (suc i)

-- a set that holds the chosen version blocks
blocks_chosen : (c : Catalogue) (f : Incompatibility) (m : ℕ) {x i : ℕ} → x ≡ suc i → f m (suc i) ≡ true → blocks_at c f m x ≡ true
blocks_chosen c f m e h = rw e h

-- a need line blocks every module but the needed one, where the needing version is chosen
need_blocks : (c : Catalogue) (k : ℕ) (q : Selection) (m : ℕ) → chosen_at q (needy_of c k) ≡ suc (need_at c k).version → m ≢ (need_at c k).target →
    blocks_at c (need_line c k) m (chosen_at q m) ≡ true
need_blocks c k q m e n = ⊎_elim needy other (same_or_not m (needy_of c k))
  where
    needy : m ≡ needy_of c k → blocks_at c (need_line c k) m (chosen_at q m) ≡ true
    needy z =
        blocks_chosen c (need_line c k) m (ap (λ (x : ℕ). chosen_at q x) z ∙ e)
        (need_needy c k m _ z ∙ eq-eqb (suc (need_at c k).version) _ refl)

    other : m ≢ needy_of c k → blocks_at c (need_line c k) m (chosen_at q m) ≡ true
    other z = blocks_all c (need_line c k) m (chosen_at q m) (λ y. need_other c k m y z n)

-- the module that has need k is the one at which its version is chosen
needy_of_lem : (c : Catalogue) (q : Selection) (k : ℕ) → ((m i : ℕ) → chosen_at q m ≡ suc i → is_of c m i ≡ true) → (a : Asked c q k) → needy_of c k ≡ a.needy
needy_of_lem c q k states a = (of_parts c a.needy _ (states _ _ a.chosen)).1

-- so that module has the needing version
needy_chosen : (c : Catalogue) (q : Selection) (k : ℕ) → ((m i : ℕ) → chosen_at q m ≡ suc i → is_of c m i ≡ true) → Asked c q k →
    chosen_at q (needy_of c k) ≡ suc (need_at c k).version
needy_chosen c q k states a = ap (λ (m : ℕ). chosen_at q m) (needy_of_lem c q k states a) ∙ a.chosen

module _ (c : Catalogue) (p : Selection) (m i : ℕ) (w : WellFormed c) (g : Partial c p) (n : Next c p m) (o : is_of c m i ≡ true) where
  -- the need that bars a choice, as a line, blocks it
  barred_blocks : (k : ℕ) → barring c p m i ≡ some k → Blocks c (need_line c k) (with_choice p m i)
  unfolding barring
  barred_blocks k b x h = ⊎_elim target (λ z. need_blocks c k (with_choice p m i) x chosen z) (same_or_not x (need_at c k).target)
    where
      hit : Mem k (asked c (with_choice p m i)) × (bars c p m i k ≡ true)
      hit = first_mem (bars c p m i) (asked c (with_choice p m i)) k b

      a : Asked c (with_choice p m i) k
      a = asked_mem c (with_choice p m i) hit.0

      chosen : chosen_at (with_choice p m i) (needy_of c k) ≡ suc (need_at c k).version
      chosen = needy_chosen c (with_choice p m i) k (choice_states c p m i w g n o) a

      -- the version at the needed module lies outside
      outside : (j : ℕ) × (chosen_at (with_choice p m i) (need_at c k).target ≡ suc j) × (in_range c (need_at c k) j ≡ false)
      outside = ⊎_elim own named (bars_cases c p m i k hit.1)
        where
          own : ((need_at c k).version ≡ i) × (leaves_out c k (chosen_at p (need_at c k).target) ≡ true) →
              (j : ℕ) × (chosen_at (with_choice p m i) (need_at c k).target ≡ suc j) × (in_range c (need_at c k) j ≡ false)
          own r =
              let l = leaves_out_parts c k _ r.1 in
              (l.0, choice_keeps p m i (next_within g n) n.unset _ _ l.1, l.2)

          named : ((need_at c k).version ≢ i) × ((need_at c k).target ≡ m) × (leaves_out c k (suc i) ≡ true) →
              (j : ℕ) × (chosen_at (with_choice p m i) (need_at c k).target ≡ suc j) × (in_range c (need_at c k) j ≡ false)
          named r = (i, subst (λ (y : ℕ). chosen_at (with_choice p m i) y ≡ suc i) (sym r.1) (chosen_new p m i (next_within g n)), not-true _ r.2)

      target : x ≡ (need_at c k).target → blocks_at c (need_line c k) x (chosen_at (with_choice p m i) x) ≡ true
      target z =
          blocks_chosen c (need_line c k) x (ap (λ (y : ℕ). chosen_at (with_choice p m i) y) z ∙ outside.1)
          (need_target c k x _ (λ y. w.others k a.is_need (sym z ∙ y)) z ∙ ap not outside.2)

-- what bars a choice is a need
pub barring_need : (c : Catalogue) (p : Selection) (m i k : ℕ) → barring c p m i ≡ some k → k < length c.needs
unfolding barring
barring_need c p m i k e =
    (asked_mem c (with_choice p m i) (first_mem (bars c p m i) (asked c (with_choice p m i)) k e).0).is_need

-- what a place has come to while some of its module's versions are still to be given up
record Pending (c : Catalogue) (f : Incompatibility) (p : Selection) (m : ℕ) (is : List ℕ) : Type 0 where
  elsewhere : (k : ℕ) → k < c.modules → k ≢ m → blocks_at c f k (chosen_at p k) ≡ true
  absent : f m 0 ≡ true
  given : (i : ℕ) → is_of c m i ≡ true → (f m (suc i) ≡ true) ⊎ Mem i is

-- it begins with the need that asks for the module
asking_pending : (c : Catalogue) (t : Tries) (p : Selection) (m k : ℕ) → WellFormed c → IsTries c t → Partial c p → Next c p m → asking c p m ≡ some k →
    (k < length c.needs) × Pending c (need_line c k) p m (t m)
unfolding asking
asking_pending c t p m k w τ g n b = (a.is_need, record { elsewhere = elsewhere; absent = absent; given = given })
  where
    hit : Mem k (asked c p) × (eqb (need_at c k).target m ≡ true)
    hit = first_mem (λ (j : ℕ). eqb (need_at c j).target m) (asked c p) k b

    target : (need_at c k).target ≡ m
    target = eqb-true _ _ hit.1

    a : Asked c p k
    a = asked_mem c p hit.0

    elsewhere : (x : ℕ) → x < c.modules → x ≢ m → blocks_at c (need_line c k) x (chosen_at p x) ≡ true
    elsewhere x l z = need_blocks c k p x (needy_chosen c p k g.states a) (λ e. z (e ∙ target))

    absent : need_line c k m 0 ≡ true
    absent = need_target c k m 0 (λ e. w.others k a.is_need (target ∙ e)) (sym target)

    given : (i : ℕ) → is_of c m i ≡ true → (need_line c k m (suc i) ≡ true) ⊎ Mem i (t m)
    given i o = inr (tried c t τ m i n.fits o)

-- two lines that block at another module block there once resolved
both_block : (c : Catalogue) (f h : Incompatibility) (m k x : ℕ) → k ≢ m → blocks_at c f k x ≡ true → blocks_at c h k x ≡ true →
    blocks_at c (resolved m f h) k x ≡ true
both_block c f h m k zero n p q =
    state_full c (resolved m f h) k (resolved_off m f h k 0 n ∙ and_both (full_state c f k 0 p refl) (full_state c h k 0 q refl))
    (λ i o. resolved_off m f h k (suc i) n ∙ and_both (full_state c f k (suc i) p o) (full_state c h k (suc i) q o))
both_block c f h m k (suc i) n p q = resolved_off m f h k (suc i) n ∙ and_both p q

-- a line that blocks the choice of one of them is taken in by resolution
resolved_pending : (c : Catalogue) (f h : Incompatibility) (p : Selection) (m i : ℕ) (is : List ℕ) → m < length p → m < c.modules →
    Pending c f p m (i ∷ is) → Blocks c h (with_choice p m i) → Pending c (resolved m f h) p m is
resolved_pending c f h p m i is l z q b = record { elsewhere = elsewhere; absent = absent; given = λ j o. given j (q.given j o) }
  where
    elsewhere : (k : ℕ) → k < c.modules → k ≢ m → blocks_at c (resolved m f h) k (chosen_at p k) ≡ true
    elsewhere k y n =
        both_block c f h m k (chosen_at p k) n (q.elsewhere k y n)
        (subst (λ (x : ℕ). blocks_at c h k x ≡ true) (chosen_old p m i k n) (b k y))

    absent : resolved m f h m 0 ≡ true
    absent = resolved_at m f h m 0 refl ∙ or_fst (h m 0) q.absent

    now : h m (suc i) ≡ true
    now = subst (λ (x : ℕ). blocks_at c h m x ≡ true) (chosen_new p m i l) (b m z)

    at : (j : ℕ) → (f m (suc j) || h m (suc j)) ≡ true → (resolved m f h m (suc j) ≡ true) ⊎ Mem j is
    at j e = inl (resolved_at m f h m (suc j) refl ∙ e)

    given : (j : ℕ) → (f m (suc j) ≡ true) ⊎ Mem j (i ∷ is) → (resolved m f h m (suc j) ≡ true) ⊎ Mem j is
    given j (inl e) = at j (or_fst (h m (suc j)) e)
    given j (inr (here e)) = at j (or_snd (f m (suc j)) (subst (λ (x : ℕ). h m (suc x) ≡ true) (sym e) now))
    given j (inr (there x)) = inr x

-- with none left it blocks
pending_blocks : (c : Catalogue) (f : Incompatibility) (p : Selection) (m : ℕ) → chosen_at p m ≡ 0 → Pending c f p m [] → Blocks c f p
pending_blocks c f p m z q k h = ⊎_elim at (λ n. q.elsewhere k h n) (same_or_not k m)
  where
    full : is_full c f m ≡ true
    full = state_full c f m q.absent (λ i o. ⊎_elim (λ e. e) (λ x. absurd (not-nil x)) (q.given i o))

    at : k ≡ m → blocks_at c f k (chosen_at p k) ≡ true
    at e = rw (e, z) full

-- WHAT LINES DERIVE after earlier lines: they fit, and the last of all lines blocks p
pub record Derives (c : Catalogue) (fs : List Incompatibility) (es : List Entry) (p : Selection) : Type 0 where
  pub fits : entries_fit c (length fs) es ≡ true
  pub blocks : Blocks c (get_or (lines_from c fs es) (length fs + length es - 1) no_incompatibility) p

-- a trial derives that its choice is blocked, in two lines a trial with the one that resolves them
record TrialDerives (c : Catalogue) (fs : List Incompatibility) (es : List Entry) (q : Selection) (trials : ℕ) : Type 0 where
  derives : Derives c fs es q
  count : length es + 1 ≡ 2 * trials

-- a barred trial derives that its choice is blocked by citing the need that bars it
barred_derives : (c : Catalogue) (fs : List Incompatibility) (k : ℕ) (q : Selection) → k < length c.needs → Blocks c (need_line c k) q →
    TrialDerives c fs (cites k ∷ []) q 1
unfolding entries_fit lines_from
barred_derives c fs k q l b =
    record {
      derives = record { fits = and_both (lt-ltb k _ l) refl; blocks = subst (λ (f : Incompatibility). Blocks c f q) (sym last) b };
      count = refl;
    }
  where
    last : get_or (longer fs (need_line c k)) (length fs + 1 - 1) no_incompatibility ≡ need_line c k
    last = get_or_at fs (need_line c k) [] no_incompatibility (length fs + 1 - 1) (omega arith)

-- lines, one line more, and what is derived after them
module _ (c : Catalogue) (fs : List Incompatibility) (ls : List Entry) (e : Entry) where
  before : List Incompatibility
  before = lines_from c fs ls

  after : List Incompatibility
  after = longer before (line_of c before e)

  after_length : length after ≡ suc (length fs + length ls)
  unfolding after before
  after_length = length_last (lines_from c fs ls) _ ∙ ap suc (lines_length c fs ls)

  after_last : get_or after (length fs + length ls) no_incompatibility ≡ line_of c before e
  unfolding after before
  after_last = get_or_at (lines_from c fs ls) _ [] no_incompatibility (length fs + length ls) (lines_length c fs ls)

  -- lines that fit, a line that fits after them, and what is derived after both
  derives_join : (es : List Entry) (p : Selection) → entries_fit c (length fs) ls ≡ true → entry_fits c (length fs + length ls) e ≡ true →
      Derives c after es p → Derives c fs (ls ++ (e ∷ es)) p
  unfolding entries_fit lines_from after before
  derives_join es p f g d =
      record {
        fits =
            fit_append c (length fs) ls (e ∷ es) f
            (and_both g (subst (λ (k : ℕ). entries_fit c k es ≡ true) after_length d.fits));
        blocks =
            subst₂ (λ (gs : List Incompatibility) (k : ℕ). Blocks c (get_or gs k no_incompatibility) p) (sym (lines_append c fs ls (e ∷ es))) same
            d.blocks;
      }
    where
      same : length after + length es - 1 ≡ length fs + length (ls ++ (e ∷ es)) - 1
      same = omega (arith, after_length, length-append ls (e ∷ es))

-- a failed trial and the rest: both failed
then_none : (x : Option Selection) (n : ℕ) (b : Searched) → (and_then x n b).found ≡ none → (x ≡ none) × (b.found ≡ none)
then_none none n b e = (refl, e)
then_none (some s) n b e = absurd (none-ne-some _ (sym e))

-- the trials of a failed trial and of the rest add up
then_trials : (x : Option Selection) (n : ℕ) (b : Searched) → x ≡ none → (and_then x n b).trials ≡ n + b.trials
then_trials x n b e = rw e

-- a failing trial of place i derives that its choice is blocked, after any earlier lines
abbrev Fails : Catalogue → Selection → (owner : ℕ) → (Selection → Searched) → (Selection → ℕ → List Entry) → (place : ℕ) → Type 0
Fails c p m search lines i =
    (trial_by (barring c p m i) search (with_choice p m i)).found ≡ none → (fs : List Incompatibility) →
    TrialDerives c fs (trial_lines (barring c p m i) lines (with_choice p m i) (length fs)) (with_choice p m i)
    (trial_by (barring c p m i) search (with_choice p m i)).trials

-- the lines of a place's tries derive that p is blocked, in two lines a trial
abbrev TriesDerive : Catalogue → Selection → (owner : ℕ) → (Selection → Searched) → (Selection → ℕ → List Entry) → (places : List ℕ) → (came at : ℕ) →
    List Incompatibility → Type 0
TriesDerive c p m search lines is a k fs =
    Derives c fs (tries_lines c lines p m a k is) p × (length (tries_lines c lines p m a k is) ≡ 2 * (try_each c search p m is).trials)

module _ (c : Catalogue) (p : Selection) (m : ℕ) (l : m < length p) (z : m < c.modules) (u : chosen_at p m ≡ 0)
    (search : Selection → Searched) (lines : Selection → ℕ → List Entry) where
  abbrev trial : ℕ → Searched
  trial i = trial_by (barring c p m i) search (with_choice p m i)

  abbrev Derive : List ℕ → (came at : ℕ) → List Incompatibility → Type 0
  Derive = TriesDerive c p m search lines

  -- what follows a trial's lines and the line that resolves them
  trial_then : (i : ℕ) (is : List ℕ) (a : ℕ) (fs : List Incompatibility) → length fs ≡ suc a → Pending c (get_or fs a no_incompatibility) p m (i ∷ is) →
      (trial i).found ≡ none → Fails c p m search lines i →
      ((b : ℕ) (gs : List Incompatibility) → length gs ≡ suc b → Pending c (get_or gs b no_incompatibility) p m is → Derive is b (length gs) gs) →
      Derive (i ∷ is) a (length fs) fs
  unfolding try_each tries_lines before
  trial_then i is a fs n q given_up fails rest = (derives_join c fs ls e more p t.derives.fits fits next.0, count)
    where
      ls : List Entry
      ls = trial_lines (barring c p m i) lines (with_choice p m i) (length fs)

      t : TrialDerives c fs ls (with_choice p m i) (trial i).trials
      t = fails given_up fs

      some_line : 0 < length ls
      some_line = let k = t.count in omega arith

      e : Entry
      e = resolves a (length fs + length ls - 1) m

      gs : List Incompatibility
      gs = after c fs ls e

      more : List Entry
      more = tries_lines c lines p m (length fs + length ls) (suc (length fs + length ls)) is

      last : Incompatibility
      last = get_or (lines_from c fs ls) (length fs + length ls - 1) no_incompatibility

      kept : get_or (lines_from c fs ls) a no_incompatibility ≡ get_or fs a no_incompatibility
      kept = lines_earlier c fs ls a (omega arith)

      fits : entry_fits c (length fs + length ls) e ≡ true
      fits = and_both (and_both (lt-ltb a _ (omega arith)) (lt-ltb (length fs + length ls - 1) _ (omega (arith, some_line)))) (lt-ltb m _ z)

      pending : Pending c (get_or gs (length fs + length ls) no_incompatibility) p m is
      pending =
          subst (λ (f : Incompatibility). Pending c f p m is) (sym (after_last c fs ls e ∙ ap (λ (f : Incompatibility). resolved m f last) kept))
          (resolved_pending c (get_or fs a no_incompatibility) last p m i is l z q t.derives.blocks)

      next : Derive is (length fs + length ls) (suc (length fs + length ls)) gs
      next =
          subst (λ (k : ℕ). Derive is (length fs + length ls) k gs)
          (after_length c fs ls e) (rest (length fs + length ls) gs (after_length c fs ls e) pending)

      count : length (ls ++ (e ∷ more)) ≡ 2 * (and_then (trial i).found (trial i).trials (try_each c search p m is)).trials
      count =
          rw (then_trials (trial i).found (trial i).trials (try_each c search p m is) given_up)
          (omega (arith, length-append ls (e ∷ more), t.count, next.1))

  -- a place whose trials all fail derives that p is blocked
  tries_derive : (is : List ℕ) → ((i : ℕ) → Mem i is → Fails c p m search lines i) → (try_each c search p m is).found ≡ none →
      (a : ℕ) (fs : List Incompatibility) → length fs ≡ suc a → Pending c (get_or fs a no_incompatibility) p m is → Derive is a (length fs) fs
  unfolding try_each tries_lines lines_from entries_fit
  tries_derive [] fails e a fs n q = (
    record {
      fits = refl;
      blocks = subst (λ (k : ℕ). Blocks c (get_or fs k no_incompatibility) p) (omega arith) (pending_blocks c (get_or fs a no_incompatibility) p m u q);
    },
    refl,
  )
  tries_derive (i ∷ is) fails e a fs n q =
      let r = then_none (trial i).found (trial i).trials (try_each c search p m is) e in
      trial_then i is a fs n q r.0 (fails i (here refl))
      (λ b gs k x. tries_derive is (λ j y. fails j (there y)) r.1 b gs k x)

-- THE SEARCH and its lines
module _ (n : ℕ) (c : Catalogue) (t : Tries) (p : Selection) (at : ℕ) where
  -- the lines of a search are those of its next module's place
  pub lines_next : (m : ℕ) (ms : List ℕ) → next_modules c p ≡ m ∷ ms →
      search_lines (suc n) c t p at ≡ cites (Option.get_or (asking c p m) 0) ∷ tries_lines c (search_lines n c t) p m at (suc at) (t m)
  unfolding search_lines
  lines_next m ms e = rw (e, search_lines)

-- a module that is asked for is asked for by a first need
asking_some : (c : Catalogue) (p : Selection) (m : ℕ) → is_asked c p m ≡ true → (k : ℕ) × (asking c p m ≡ some k)
unfolding asking
asking_some c p m a = go (first_of (λ (j : ℕ). eqb (need_at c j).target m) (asked c p)) refl
  where
    go : (x : Option ℕ) → first_of (λ (j : ℕ). eqb (need_at c j).target m) (asked c p) ≡ x →
        (k : ℕ) × (first_of (λ (j : ℕ). eqb (need_at c j).target m) (asked c p) ≡ some k)
    go (some k) e = (k, e)
    go none e =
        let r = any_mem (λ (j : ℕ). eqb (need_at c j).target m) (asked c p) a in
        absurd (not_both r.1.1 (first_none (λ (j : ℕ). eqb (need_at c j).target m) e r.1.0))

-- a place: the need that asks for its module, then its tries
place_derives : (c : Catalogue) (p : Selection) (k : ℕ) (fs : List Incompatibility) (es : List Entry) → k < length c.needs →
    Derives c (longer fs (need_line c k)) es p → Derives c fs (cites k ∷ es) p
unfolding entries_fit lines_from after before
place_derives c p k fs es l d = derives_join c fs [] (cites k) es p refl (lt-ltb k _ l) d

-- the sheet of a failing search from p, after earlier lines
abbrev pub SearchDerives : ℕ → Catalogue → Tries → Selection → Type 0
SearchDerives n c t p =
    (fs : List Incompatibility) →
    Derives c fs (search_lines n c t p (length fs)) p × (length (search_lines n c t p (length fs)) ≡ 2 * (search_from n c t p).trials + 1)

module _ (c : Catalogue) (t : Tries) (w : WellFormed c) (τ : IsTries c t) where
  -- a trial that fails: barred by a need, or further on
  trial_derives : (n : ℕ) (p : Selection) (m i : ℕ) → Partial c p → Next c p m → is_of c m i ≡ true →
      (barring c p m i ≡ none → (search_from n c t (with_choice p m i)).found ≡ none → SearchDerives n c t (with_choice p m i)) →
      Fails c p m (search_from n c t) (search_lines n c t) i
  unfolding trial_by trial_lines
  trial_derives n p m i g x o deeper = go (barring c p m i) refl
    where
      q : Selection
      q = with_choice p m i

      go : (b : Option ℕ) → barring c p m i ≡ b → (trial_by b (search_from n c t) q).found ≡ none → (fs : List Incompatibility) →
          TrialDerives c fs (trial_lines b (search_lines n c t) q (length fs)) q (trial_by b (search_from n c t) q).trials
      go (some k) e f fs = barred_derives c fs k q (barring_need c p m i k e) (barred_blocks c p m i w g x o k e)
      go none e f fs =
          let d = deeper e f fs in
          record { derives = d.0; count = omega (arith, d.1) }

  -- the sheet of a failing search
  pub search_derives : (n : ℕ) (p : Selection) → Partial c p → count_of 0 p ≤ n → (search_from n c t p).found ≡ none → SearchDerives n c t p
  unfolding search_from
  search_derives zero p g z e fs = absurd (none-ne-some _ (sym e))
  search_derives (suc n) p g z e fs = ⊎_elim done (next (λ q h l f. search_derives n q h l f)) (next_cases c p)
    where
      Goal : List Entry → Searched → Type 0
      Goal es r = Derives c fs es p × (length es ≡ 2 * r.trials + 1)

      done : next_modules c p ≡ [] → Goal (search_lines (suc n) c t p (length fs)) (search_from (suc n) c t p)
      done d = absurd (none-ne-some _ (sym e ∙ ap (λ (r : Searched). r.found) (search_done n c t p d)))

      next : ((q : Selection) → Partial c q → count_of 0 q ≤ n → (search_from n c t q).found ≡ none → SearchDerives n c t q) →
          (m : ℕ) × (ms : List ℕ) × (next_modules c p ≡ m ∷ ms) → Goal (search_lines (suc n) c t p (length fs)) (search_from (suc n) c t p)
      next deeper (m, ms, d) =
          subst₂ Goal (sym (lines_next n c t p (length fs) m ms d ∙ ap (λ (k : ℕ). cites k ∷ rest) asker)) (sym (search_next n c t p m ms d))
          (place_derives c p ask.0 fs rest begun.0 tries.0, omega (arith, tries.1))
        where
          first : Next c p m
          first = next_first c p m ms d

          ask : (k : ℕ) × (asking c p m ≡ some k)
          ask = asking_some c p m first.needed

          asker : Option.get_or (asking c p m) 0 ≡ ask.0
          asker = rw ask.1

          begun : (ask.0 < length c.needs) × Pending c (need_line c ask.0) p m (t m)
          begun = asking_pending c t p m ask.0 w τ g first ask.1

          gs : List Incompatibility
          gs = longer fs (need_line c ask.0)

          one_more_line : length gs ≡ suc (length fs)
          one_more_line = length_last fs _

          rest : List Entry
          rest = tries_lines c (search_lines n c t) p m (length fs) (suc (length fs)) (t m)

          fails : (i : ℕ) → Mem i (t m) → Fails c p m (search_from n c t) (search_lines n c t) i
          fails i x =
              let o = try_of c t τ m i first.fits x in
              trial_derives n p m i g first o
              (λ b f. deeper (with_choice p m i) (choice_partial c p m i w g first o b) (fewer c p m i n g first z) f)

          found : (try_each c (search_from n c t) p m (t m)).found ≡ none
          found = sym (ap (λ (r : Searched). r.found) (search_next n c t p m ms d)) ∙ e

          PlaceDerives : ℕ → Type 0
          PlaceDerives k = TriesDerive c p m (search_from n c t) (search_lines n c t) (t m) (length fs) k gs

          tries : PlaceDerives (suc (length fs))
          tries =
              subst PlaceDerives one_more_line
              (tries_derive c p m (next_within g first) first.fits first.unset (search_from n c t) (search_lines n c t) (t m) fails found (length fs) gs
              one_more_line
              (subst (λ (f : Incompatibility). Pending c f p m (t m)) (sym (get_or-append_seam fs _ [] no_incompatibility)) begun.1))

-- what blocks the start refutes
pub blocks_refutes : (c : Catalogue) (w : WellFormed c) (f : Incompatibility) → Blocks c f (root_only c) → refutes c f ≡ true
unfolding refutes
blocks_refutes c w f b =
    and_both (mem_all (λ (i : ℕ). f 0 (suc i)) (places_of c 0) (λ i x. root i (subst (λ (l : List ℕ). Mem i l) w.root.1 x)))
    (below_all (λ (m : ℕ). eqb m 0 || is_full c f m) c.modules
    (λ m h. ⊎_elim (λ e. or_fst (is_full c f m) (eq-eqb m 0 e)) (λ n. or_snd (eqb m 0) (full m h n)) (same_or_not m 0)))
  where
    root : (i : ℕ) → Mem i (w.root.0 ∷ []) → f 0 (suc i) ≡ true
    root i x =
        let same : get_or (places_of c 0) 0 0 ≡ i =
        ap (λ (l : List ℕ). get_or l 0 0) w.root.1 ∙ sym (Memᴰ.eq_of_singleton x) in
        subst (λ (j : ℕ). f 0 (suc j) ≡ true) same
        (subst (λ (y : ℕ). blocks_at c f 0 y ≡ true) (root_chosen c w) (b 0 (root_fits_lem c w)))

    full : (m : ℕ) → m < c.modules → m ≢ 0 → is_full c f m ≡ true
    full m h n = subst (λ (y : ℕ). blocks_at c f m y ≡ true) (start_unset c w m n) (b m h)
