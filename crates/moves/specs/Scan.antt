-- Scans of needs as the code makes them. Assumes nothing: these are definitions.
use Rattle.std.specs.Prelude.{Bool, false, ◌&&◌, not, cond, List, ℕ, zero, suc, ◌-◌, eqb, get_or, Option, Some, None, unwrap_or}
use Rattle.std.specs.Option.{option_or}
use Rattle.rules.specs.Catalogue.{is_within}
use Rattle.store.specs.declared.tables.Tables.{Tables}

-- what a line cites where no need bars a trial
abbrev pub no_number : ℕ
no_number = 4294967295

-- the need that a line cites
abbrev pub number_of : Option ℕ → ℕ
number_of x = unwrap_or x no_number

-- need k leaves a state out, where a version is chosen
abbrev pub leaves_out_in : Tables → (number state : ℕ) → Bool
leaves_out_in t k zero = false
leaves_out_in t k (suc i) = not (is_within (get_or t.lows k 0) (get_or t.highs k 0) (get_or t.values i 0))

-- need k bars the trial of module m at state x: its own need against what is chosen, or another's need that names m
abbrev pub bars_in : Tables → (chosen : List ℕ) → (own : Bool) → (owner state number : ℕ) → Bool
bars_in t ch own m x k =
    cond own (leaves_out_in t k (get_or ch (get_or t.targets k 0) 0)) (eqb (get_or t.targets k 0) m && leaves_out_in t k x)

-- the first number of a run that passes a test
unfoldable pub first_in : (ℕ → Bool) → (first count : ℕ) → Option ℕ
first_in f i zero = None
first_in f i (suc n) = cond (f i) (Some i) (first_in f (suc i) n)

-- the first hit among the needs that a state brings
abbrev pub scan_state : Tables → (ℕ → Bool) → (state : ℕ) → Option ℕ
scan_state t f zero = None
scan_state t f (suc j) = first_in f (get_or t.starts j 0) (get_or t.marks j 0 - 1)

-- the same for module k, where module m is at state x and every other as chosen
abbrev pub scan_in : Tables → (chosen : List ℕ) → (owner state : ℕ) → (scanned : ℕ) → Option ℕ
scan_in t ch m x k = scan_state t (bars_in t ch (eqb k m) m x) (cond (eqb k m) x (get_or ch k 0))

-- the first hit of a run of scans
unfoldable pub over_in : (ℕ → Option ℕ) → (first count : ℕ) → Option ℕ
over_in g k zero = None
over_in g k (suc n) = option_or (g k) (over_in g (suc k) n)
