-- What is promised of every text and catalogue: types, proved by the theorems of these names in proofs/Theorems.antt. Assumes nothing: definitions.
use Rattle.std.specs.Prelude.{◌≡◌, ◌↔◌, true, false, cond, List, ◌∷◌, map, ℕ, ◌+◌, ◌*◌, ◌≤◌, ◌<◌, eqb, length, get_or}
use Rattle.std.proofs.Math.Option.{none, some}
use Rattle.rules.specs.Lists.{same, count_of}
use Rattle.rules.specs.Lines.{fine}
use Rattle.rules.specs.Catalogue.{Catalogue, Limits, CarriedLimits, Carried, WellFormed, text_fault, catalogue_of}
use Rattle.rules.specs.Selection.{Selection, chosen_at, is_valid, is_asked, next_modules, Choice, order_of, selection_text}
use Rattle.rules.specs.Search.{Tries, IsTries, newest_first, search, best, trials_of, is_ahead_by, is_tried_first, is_newer, Refuted, Certified}
use Rattle.rules.specs.Sheet.{Incompatibility, Blocks, Entry, entries_fit, derived, no_incompatibility}
use Rattle.rules.specs.Sheet.{is_inside, is_refuting, most_lines, sheet_fault, sheet_text, sheet_of}

abbrev pub SomeValid : Catalogue → Type 0
SomeValid c = (s : Selection) × (is_valid c s ≡ true)

-- READING: a text that is not refused gives a well-formed catalogue that the frames can carry, whatever the limits
abbrev pub ReadsWellFormed : Type 0
ReadsWellFormed = (l : Limits) (t : List ℕ) → CarriedLimits l → text_fault l t ≡ fine → WellFormed (catalogue_of l t) × Carried (catalogue_of l t)

abbrev pub NewestFirstTries : Type 0  -- "newest first" tries each version once
NewestFirstTries = (c : Catalogue) → IsTries c (newest_first c)

abbrev pub FindsValid : Type 0  -- DEMAND 2: what the search finds is valid, and it finds none exactly when no valid selection exists
FindsValid = (c : Catalogue) (t : Tries) → WellFormed c → IsTries c t →
    ((s : Selection) → (search c t).found ≡ some s → is_valid c s ≡ true) × (((search c t).found ≡ none) ↔ (SomeValid c → ⊥))

abbrev pub PicksValid : Type 0
PicksValid = (c : Catalogue) → WellFormed c → ((s : Selection) → best c ≡ some s → is_valid c s ≡ true) × ((best c ≡ none) ↔ (SomeValid c → ⊥))

abbrev pub FactsHold : Type 0  -- every line of a fitting sheet is true: no valid selection has every module inside its sets
FactsHold = (c : Catalogue) (es : List Entry) (i : ℕ) (s : Selection) → WellFormed c → entries_fit c 0 es ≡ true → i < length es →
    is_valid c s ≡ true → is_inside c (get_or (derived c es) i no_incompatibility) s ≡ false

-- where no selection is valid the search leaves a sheet of 2W + 1 lines, which refutes if a sheet can have so many; a refuting sheet means none is
abbrev pub SheetsTell : Type 0
SheetsTell = (c : Catalogue) → WellFormed c →
    (best c ≡ none → (length (sheet_of c (newest_first c)) ≡ 2 * trials_of c + 1) ×
    (2 * trials_of c + 1 ≤ most_lines → is_refuting c (sheet_of c (newest_first c)) ≡ true)) ×
    ((es : List Entry) → is_refuting c es ≡ true → best c ≡ none)

-- a true incompatibility that blocks a partial selection refutes it: no valid selection keeps its choices
abbrev pub BlockingRefutes : Type 0
BlockingRefutes = (c : Catalogue) (f : Incompatibility) (p : Selection) → ((o : Selection) → is_valid c o ≡ true → is_inside c f o ≡ false) →
    Blocks c f p → Refuted c p

abbrev pub AcceptsExactly : Type 0  -- the checker accepts exactly the texts of refuting sheets
AcceptsExactly = (l : Limits) (c : Catalogue) (t : List ℕ) → CarriedLimits l → Carried c →
    (sheet_fault l c t ≡ fine) ↔ ((es : List Entry) × (is_refuting c es ≡ true) × (t ≡ sheet_text es))

-- DEMAND 3: for every other valid selection there is a first choice in our order where the two differ; there both have a version of the same
-- module, and ours stands ahead in the tries, for newest first: ours is the newer
abbrev pub FindsFirst : Type 0
FindsFirst = (c : Catalogue) (t : Tries) (s o : Selection) → WellFormed c → IsTries c t → (search c t).found ≡ some s → is_valid c o ≡ true →
    same s o ≡ false → is_ahead_by (is_tried_first t) (order_of c s) (order_of c o) ≡ true

abbrev pub PicksBest : Type 0
PicksBest = (c : Catalogue) (s o : Selection) → WellFormed c → best c ≡ some s → is_valid c o ≡ true → same s o ≡ false →
    is_ahead_by (is_newer c) (order_of c s) (order_of c o) ≡ true

abbrev pub FindsCertified : Type 0  -- a selection is the one that the search finds exactly when it is valid and certified
FindsCertified = (c : Catalogue) (t : Tries) (s : Selection) → WellFormed c → IsTries c t →
    ((search c t).found ≡ some s) ↔ ((is_valid c s ≡ true) × Certified c t s)

abbrev pub OrderWhole : Type 0  -- every selected module stands in the choice order exactly once, and no other
OrderWhole = (c : Catalogue) (s : Selection) (m : ℕ) → WellFormed c → is_valid c s ≡ true → m < c.modules →
    count_of m (map (λ (x : Choice). x.owner) (order_of c s)) ≡ cond (eqb (chosen_at s m) 0) 0 1

abbrev pub NextIsLowest : Type 0  -- the next module is needed and unchosen, and no lower one is
NextIsLowest = (c : Catalogue) (p : Selection) (m : ℕ) (ms : List ℕ) → next_modules c p ≡ m ∷ ms →
    ((chosen_at p m ≡ 0) × (is_asked c p m ≡ true)) × ((k : ℕ) → k < c.modules → chosen_at p k ≡ 0 → is_asked c p k ≡ true → m ≤ k)

abbrev pub TextTells : Type 0  -- the text names the selection whole: two valid selections of one catalogue never share a text
TextTells = (c : Catalogue) (s o : Selection) → WellFormed c → Carried c → is_valid c s ≡ true → is_valid c o ≡ true →
    selection_text c s ≡ selection_text c o → s ≡ o
