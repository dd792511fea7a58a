-- Derivation sheets: incompatibilities ("facts"), sheets read and judged, and the sheet of a failing search. Assumes nothing: these are definitions.
use Rattle.std.specs.Prelude.{◌≡◌, Bool, true, false, ◌&&◌, ◌||◌, not, cond, ℕ, zero, suc, ◌+◌, ◌-◌, ◌<◌, ltb, eqb, length, get_or}
use mathlib.Core.List.{List, [], ◌∷◌, ◌++◌, flat_map}
use Rattle.std.proofs.Math.Option
use Rattle.std.proofs.Math.Option.{Option, none, some}
use Rattle.rules.specs.Lists.{is_in, all, below, first_of}
use Rattle.rules.specs.Lines.{Fault, or_else, unless}
use Rattle.rules.specs.Frames.{kind_of, byte_at, pair_at, sheets, Reader, Read, read_text, fault_of, frame_text, pair_bytes}
use Rattle.rules.specs.Catalogue.{Catalogue, Limits, need_at, needy_of, places_of}
use Rattle.rules.specs.Selection.{Selection, chosen_at, with_choice, root_only, asked, meets, next_modules}
use Rattle.rules.specs.Search.{Tries, barring}

-- INCOMPATIBILITY ("fact"): "gives each module a set of states, where a state is one of its versions or absent", by the test of what is in the set
abbrev pub Incompatibility : Type 0
Incompatibility = (owner state : ℕ) → Bool

abbrev pub no_incompatibility : Incompatibility
no_incompatibility = λ m x. false

abbrev pub is_full : Catalogue → Incompatibility → (owner : ℕ) → Bool  -- a module's set holds absent and every version of it
is_full c f m = f m 0 && all (λ (i : ℕ). f m (suc i)) (places_of c m)

-- it "says that no valid selection has every module inside its set"
unfoldable pub is_inside : Catalogue → Incompatibility → Selection → Bool
is_inside c f s = all (λ (m : ℕ). f m (chosen_at s m)) (below c.modules)

-- it blocks a partial selection: each chosen module's state is in its set, and each unchosen module's set is full
abbrev pub blocks_at : Catalogue → Incompatibility → (owner state : ℕ) → Bool
blocks_at c f m zero = is_full c f m
blocks_at c f m (suc i) = f m (suc i)

abbrev pub Blocks : Catalogue → Incompatibility → Selection → Type 0
Blocks c f p = (m : ℕ) → m < c.modules → blocks_at c f m (chosen_at p m) ≡ true

-- NEED LINE: "the needing module's set is that one version; the needed module's set is absent and every version outside the range; all others full"
unfoldable pub need_line : Catalogue → (number : ℕ) → Incompatibility
need_line c k = λ m x. cond (eqb m (needy_of c k)) (eqb x (suc (need_at c k).version))
    (cond (eqb m (need_at c k).target) (not (meets c (need_at c k) x)) true)

-- RESOLVED LINE: "That module's set is the union of the two, every other is the intersection"
unfoldable pub resolved : (at : ℕ) → (one other : Incompatibility) → Incompatibility
resolved m f g = λ k x. cond (eqb k m) (f k x || g k x) (f k x && g k x)

unfoldable pub refutes : Catalogue → Incompatibility → Bool  -- "the root's set contains the root's version and every other set is full"
refutes c f = all (λ (i : ℕ). f 0 (suc i)) (places_of c 0) && all (λ (m : ℕ). eqb m 0 || is_full c f m) (below c.modules)

pub data Entry : Type 0 where  -- SHEET LINES, the need line and the resolved line
  cites : (number : ℕ) → Entry
  resolves : (first second at : ℕ) → Entry

abbrev pub line_of : Catalogue → (earlier : List Incompatibility) → Entry → Incompatibility
line_of c fs (cites k) = need_line c k
line_of c fs (resolves a b m) = resolved m (get_or fs a no_incompatibility) (get_or fs b no_incompatibility)

-- the incompatibilities of a sheet's lines, after earlier ones
unfoldable pub lines_from : Catalogue → (earlier : List Incompatibility) → List Entry → List Incompatibility
lines_from c fs [] = fs
lines_from c fs (e ∷ es) = lines_from c (fs ++ (line_of c fs e ∷ [])) es

abbrev pub derived : Catalogue → List Entry → List Incompatibility
derived c es = lines_from c [] es

abbrev pub entry_fits : Catalogue → (at : ℕ) → Entry → Bool  -- "from two earlier lines and one module"; `at` is the line's own number
entry_fits c i (cites k) = ltb k (length c.needs)
entry_fits c i (resolves a b m) = ltb a i && ltb b i && ltb m c.modules

unfoldable pub entries_fit : Catalogue → (at : ℕ) → List Entry → Bool
entries_fit c i [] = true
entries_fit c i (e ∷ es) = entry_fits c i e && entries_fit c (suc i) es

abbrev pub last_line : Catalogue → List Entry → Incompatibility
last_line c es = get_or (derived c es) (length es - 1) no_incompatibility

abbrev pub most_lines : ℕ
most_lines = 480

unfoldable pub is_refuting : Catalogue → List Entry → Bool  -- a sheet: "there are 1 to 480" lines, each fits, and the last refutes
is_refuting c es = is_in 1 most_lines (length es) && entries_fit c 0 es && refutes c (last_line c es)

-- KINDS of a sheet's frames
abbrev pub is_sheet_head : (frame : List ℕ) → Bool
is_sheet_head f = eqb (kind_of f) 32

abbrev pub is_need_line : (frame : List ℕ) → Bool
is_need_line f = eqb (kind_of f) 33

abbrev pub is_resolved : (frame : List ℕ) → Bool
is_resolved f = eqb (kind_of f) 34

abbrev pub is_sheet_end : (frame : List ℕ) → Bool
is_sheet_end f = eqb (kind_of f) 36

abbrev pub entry_in : (frame : List ℕ) → Entry
entry_in f = cond (is_need_line f) (cites (pair_at f 1)) (resolves (pair_at f 1) (pair_at f 3) (byte_at f 5))

-- what is known while a sheet is read: 0 before the head, 1 with so many lines due, 2 after the end; and the lines so far
pub record SheetReading : Type 0 where
  pub stands : ℕ
  pub due : ℕ
  pub entries : List Entry

abbrev pub sheet_reading : (stands due : ℕ) → List Entry → SheetReading
sheet_reading n d es = record { stands = n; due = d; entries = es }

-- 5: "more or fewer lines than the head says is 5 at the first line out of place"
unfoldable pub sheet_order_fits : SheetReading → (frame : List ℕ) → Bool
sheet_order_fits s f = cond (eqb s.stands 0) (is_sheet_head f)
    (eqb s.stands 1 && cond (eqb s.due 0) (is_sheet_end f) (is_need_line f || is_resolved f))

-- 6: "a count outside 1 to 480, a need number that doesn't exist, a cited line that isn't earlier, or a module not below M"
unfoldable pub sheet_content_fits : Catalogue → SheetReading → (frame : List ℕ) → Bool
sheet_content_fits c s f = cond (is_sheet_head f) (is_in 1 most_lines (pair_at f 1)) (is_sheet_end f || entry_fits c (length s.entries) (entry_in f))

unfoldable pub with_sheet_frame : SheetReading → (frame : List ℕ) → SheetReading
with_sheet_frame s f = cond (is_sheet_head f) (sheet_reading 1 (pair_at f 1) [])
    (cond (is_sheet_end f) (sheet_reading 2 0 s.entries) (sheet_reading 1 (s.due - 1) (s.entries ++ (entry_in f ∷ []))))

abbrev pub sheet_reader : Catalogue → Reader SheetReading  -- 13: "sheet well formed, doesn't refute"
sheet_reader c = record {
  text = sheets;
  fault = λ s f. or_else (unless (sheet_order_fits s f) 5) (unless (sheet_content_fits c s f) 6);
  after = with_sheet_frame;
  is_ended = λ s. eqb s.stands 2;
  last = λ s. unless (refutes c (last_line c s.entries)) 13;
}

abbrev pub read_sheet : Limits → Catalogue → (text : List ℕ) → Read SheetReading
read_sheet l c t = read_text (sheet_reader c) l.bytes (sheet_reading 0 0 []) t

abbrev pub sheet_fault : Limits → Catalogue → (text : List ℕ) → Fault
sheet_fault l c t = fault_of (read_sheet l c t)

-- SHEET TEXT
unfoldable pub entry_text : Entry → List ℕ
entry_text (cites k) = frame_text (33 ∷ pair_bytes k)
entry_text (resolves a b m) = frame_text (34 ∷ pair_bytes a ++ pair_bytes b ++ (m ∷ []))

unfoldable pub sheet_text : List Entry → List ℕ
sheet_text es = frame_text (32 ∷ pair_bytes (length es)) ++ flat_map entry_text es ++ frame_text (36 ∷ [])

-- THE SHEET OF A FAILING SEARCH. A trial that fails at once cites the need that bars it, any other leaves the lines of the search that went on from it
unfoldable pub trial_lines : Option ℕ → (go : Selection → (at : ℕ) → List Entry) → Selection → (at : ℕ) → List Entry
trial_lines (some k) go s i = cites k ∷ []
trial_lines none go s i = go s i

-- each trial's last line is resolved, at the place's module, with the line that the place has come to; `at` is the next line's number
unfoldable pub tries_lines : Catalogue → (go : Selection → (at : ℕ) → List Entry) → Selection → (owner came at : ℕ) → (places : List ℕ) → List Entry
tries_lines c go s m a n [] = []
tries_lines c go s m a n (i ∷ is) = let ls = trial_lines (barring c s m i) go (with_choice s m i) n in
    ls ++ (resolves a (n + length ls - 1) m ∷ tries_lines c go s m (n + length ls) (suc (n + length ls)) is)

unfoldable pub asking : Catalogue → Selection → (owner : ℕ) → Option ℕ  -- the first need that asks for a module, by the needing module
asking c s m = first_of (λ (k : ℕ). eqb (need_at c k).target m) (asked c s)

-- a place begins with the need that asks for its module
unfoldable pub search_lines : (fuel : ℕ) → Catalogue → Tries → Selection → (at : ℕ) → List Entry
search_lines zero c t s n = []
search_lines (suc k) c t s n =
    elim (next_modules c s) [ [] ↦ [] | m ∷ ms ↦ cites (Option.get_or (asking c s m) 0) ∷ tries_lines c (search_lines k c t) s m n (suc n) (t m) ]

abbrev pub sheet_of : Catalogue → Tries → List Entry
sheet_of c t = search_lines c.modules c t (root_only c) 0
