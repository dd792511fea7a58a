-- The backtracking search ("the plain walk") over any tries, its trials W, and what shows a selection best. Assumes nothing: these are definitions.
use Rattle.std.specs.Prelude.{◌≡◌, Bool, true, false, ◌&&◌, not, cond, List, [], ◌∷◌, ℕ, zero, suc, ◌+◌, ◌-◌, ◌<◌, ltb, eqb, length, set}
use Rattle.std.proofs.Math.Option.{Option, none, some}
use Rattle.rules.specs.Lists.{keep, first_of, among, count_of, ahead, down_from}
use Rattle.rules.specs.Catalogue.{Catalogue, version_at_place, need_at, is_of, in_range}
use Rattle.rules.specs.Selection.{Selection, chosen_at, with_choice, root_only, asked, is_valid, next_modules, Choice}

abbrev pub Tries : Type 0  -- TRIES: for each module the places of its versions, in the order in which they are tried
Tries = (owner : ℕ) → List ℕ

abbrev pub IsTries : Catalogue → Tries → Type 0  -- each version of the module once, and nothing else
IsTries c t = (m i : ℕ) → m < c.modules → count_of i (t m) ≡ cond (is_of c m i) 1 0

abbrev pub newest_first : Catalogue → Tries  -- "newest first"
newest_first c m = keep (is_of c m) (down_from (length c.versions))

abbrev pub leaves_out : Catalogue → (number state : ℕ) → Bool  -- the need leaves the state out, where a version is chosen
leaves_out c k zero = false
leaves_out c k (suc i) = not (in_range c (need_at c k) i)

-- need k makes a trial of place i fail at once: it is the version's own and "leaves out a chosen version of the needed module", or it is a chosen
-- version's, names module m, and "the version lies outside" it
abbrev pub bars : Catalogue → Selection → (owner place number : ℕ) → Bool
bars c s m i k = cond (eqb (need_at c k).version i) (leaves_out c k (chosen_at s (need_at c k).target))
    (eqb (need_at c k).target m && leaves_out c k (suc i))

unfoldable pub barring : Catalogue → Selection → (owner place : ℕ) → Option ℕ  -- the first such need, by the needing module
barring c s m i = first_of (bars c s m i) (asked c (with_choice s m i))

pub record Searched : Type 0 where  -- what a search finds, and its trials
  pub found : Option Selection
  pub trials : ℕ

abbrev pub searched : Option Selection → (trials : ℕ) → Searched
searched x n = record { found = x; trials = n }

-- TRIAL: it fails at once, or the search goes on to the next place; the trial itself counts
unfoldable pub trial_by : Option ℕ → (go : Selection → Searched) → Selection → Searched
trial_by (some k) go s = searched none 1
trial_by none go s = searched (go s).found (suc (go s).trials)

abbrev pub and_then : Option Selection → (trials : ℕ) → Searched → Searched  -- a success ends it; else the next version, trials added up
and_then none n b = searched b.found (n + b.trials)
and_then (some s) n b = searched (some s) n

-- PLACE: "Try all its versions" in turn
unfoldable pub try_each : Catalogue → (go : Selection → Searched) → Selection → (owner : ℕ) → (places : List ℕ) → Searched
try_each c go s m [] = searched none 0
try_each c go s m (i ∷ is) = let r = trial_by (barring c s m i) go (with_choice s m i) in and_then r.found r.trials (try_each c go s m is)

unfoldable pub search_from : (fuel : ℕ) → Catalogue → Tries → Selection → Searched  -- "No next module: success"; fuel: the modules
search_from zero c t s = searched (some s) 0
search_from (suc n) c t s = elim (next_modules c s) [ [] ↦ searched (some s) 0 | m ∷ ms ↦ try_each c (search_from n c t) s m (t m) ]

unfoldable pub search : Catalogue → Tries → Searched  -- "Start with the root chosen"
search c t = search_from c.modules c t (root_only c)

unfoldable pub best : Catalogue → Option Selection
best c = (search c (newest_first c)).found

unfoldable pub trials_of : Catalogue → ℕ  -- W: "the number of trials made until success or until nothing is left"
trials_of c = (search c (newest_first c)).trials

-- DEMAND 3's order: the first of our choices that differs is of the same module, theirs is a version, and ours stands better
unfoldable pub is_ahead_by : (stands : (owner ours theirs : ℕ) → Bool) → (ours theirs : List Choice) → Bool
is_ahead_by g [] ys = false
is_ahead_by g (x ∷ xs) [] = false
is_ahead_by g (x ∷ xs) (y ∷ ys) = cond (eqb x.owner y.owner && eqb x.state y.state) (is_ahead_by g xs ys)
    (eqb x.owner y.owner && ltb 0 x.state && ltb 0 y.state && g x.owner (x.state - 1) (y.state - 1))

abbrev pub is_tried_first : Tries → (owner ours theirs : ℕ) → Bool  -- ours stands ahead in the module's tries
is_tried_first t m x y = among x (ahead (t m) y)

abbrev pub is_newer : Catalogue → (owner ours theirs : ℕ) → Bool  -- ours is the newer
is_newer c m x y = ltb (version_at_place c y).value (version_at_place c x).value

abbrev pub Keeps : (part whole : Selection) → Type 0  -- a partial selection whose choices are kept
Keeps p s = (m i : ℕ) → chosen_at p m ≡ suc i → chosen_at s m ≡ suc i

abbrev pub Refuted : Catalogue → (part : Selection) → Type 0
Refuted c p = (o : Selection) → is_valid c o ≡ true → Keeps p o → ⊥

-- CERTIFICATE: at each choice of `s` that follows those of `p`, every version ahead in the tries is refuted given the choices before
unfoldable pub CertifiedFrom : (fuel : ℕ) → Catalogue → Tries → (s p : Selection) → Type 0
CertifiedFrom zero c t s p = Unit {0}
CertifiedFrom (suc n) c t s p = elim (next_modules c p) [
  | [] ↦ Unit {0}
  | m ∷ ms ↦ ((i : ℕ) → among i (ahead (t m) (chosen_at s m - 1)) ≡ true → Refuted c (with_choice p m i)) ×
      CertifiedFrom n c t s (set p m (chosen_at s m))
]

abbrev pub Certified : Catalogue → Tries → Selection → Type 0
Certified c t s = CertifiedFrom c.modules c t s (root_only c)
