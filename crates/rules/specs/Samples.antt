-- The bench samples B1 to B10 as one table, and one claim about it. Assumes nothing: these are definitions.
use Rattle.std.specs.Prelude.{◌≡◌, Bool, true, false, ◌&&◌, not, List, [], ◌∷◌, ℕ, ◌+◌, ◌*◌, eqb}
use Rattle.std.proofs.Math.Option.{Option, none, some}
use Rattle.rules.specs.Lists.{all, same}
use Rattle.rules.specs.Catalogue.{Version, Need, Catalogue, catalogue}
use Rattle.rules.specs.Selection.{Selection, is_valid}
use Rattle.rules.specs.Search.{best, trials_of}
use Rattle.rules.specs.Sheet.{Entry, cites, resolves, is_refuting}

abbrev v : (owner major minor : ℕ) → Version
v m a b = record { owner = m; value = a * 65536 + b * 256 }

abbrev n : (version target low high : ℕ) → Need
n i m a b = record { version = i; target = m; low = a * 65536; high = b * 65536 }

-- A ROW OF THE TABLE: what a catalogue gives; none, with its W and a sheet that refutes it; a W; a selection that is not valid
pub data Row : Type 0 where
  gives : Catalogue → Selection → Row
  has_none : Catalogue → (trials : ℕ) → List Entry → Row
  takes : Catalogue → (trials : ℕ) → Row
  rejects : Catalogue → Selection → Row

-- B4's sheet is the paper's linear error. B5 stands twice, then with the root's needs turned round: the lowest number goes first, not the first need
unfoldable pub samples : List Row
samples =
    gives (catalogue 3 (v 0 1 0 ∷ v 1 1 0 ∷ v 2 1 0 ∷ v 2 2 0 ∷ []) (n 0 1 1 2 ∷ n 1 2 1 2 ∷ [])) (1 ∷ 2 ∷ 3 ∷ []) ∷  -- B1
    gives (catalogue 3 (v 0 1 0 ∷ v 1 1 0 ∷ v 1 1 1 ∷ v 2 1 0 ∷ v 2 1 1 ∷ v 2 2 0 ∷ []) (n 0 1 1 2 ∷ n 0 2 1 2 ∷ n 2 2 2 3 ∷ [])) (1 ∷ 2 ∷ 5 ∷ []) ∷  -- B2
    gives (catalogue 3 (v 0 1 0 ∷ v 1 1 0 ∷ v 1 2 0 ∷ v 2 1 0 ∷ []) (n 0 1 1 255 ∷ n 2 2 1 2 ∷ n 3 1 1 2 ∷ [])) (1 ∷ 2 ∷ 0 ∷ []) ∷  -- B3
    has_none (catalogue 4 (v 0 1 0 ∷ v 1 1 0 ∷ v 2 2 0 ∷ v 3 1 0 ∷ v 3 3 0 ∷ []) (n 0 1 1 2 ∷ n 0 3 1 2 ∷ n 1 2 2 3 ∷ n 2 3 3 4 ∷ [])) 4  -- B4
    (cites 2 ∷ cites 3 ∷ resolves 0 1 2 ∷ cites 1 ∷ resolves 2 3 3 ∷ cites 0 ∷ resolves 4 5 1 ∷ []) ∷
    gives (catalogue 3 (v 0 1 0 ∷ v 1 1 0 ∷ v 1 2 0 ∷ v 2 1 0 ∷ v 2 2 0 ∷ []) (n 0 1 1 255 ∷ n 0 2 1 255 ∷ n 2 2 1 2 ∷ [])) (1 ∷ 3 ∷ 4 ∷ []) ∷  -- B5
    gives (catalogue 3 (v 0 1 0 ∷ v 1 1 0 ∷ v 1 2 0 ∷ v 2 1 0 ∷ v 2 2 0 ∷ []) (n 0 2 1 255 ∷ n 0 1 1 255 ∷ n 2 2 1 2 ∷ [])) (1 ∷ 3 ∷ 4 ∷ []) ∷
    gives (catalogue 1 (v 0 1 0 ∷ []) []) (1 ∷ []) ∷ takes (catalogue 1 (v 0 1 0 ∷ []) []) 0 ∷  -- B6
    has_none (catalogue 2 (v 0 1 0 ∷ []) (n 0 1 0 255 ∷ [])) 0 (cites 0 ∷ []) ∷  -- B7
    gives (catalogue 3 (v 0 1 0 ∷ v 1 1 0 ∷ v 2 1 0 ∷ []) (n 0 1 1 2 ∷ n 1 2 1 2 ∷ n 2 1 1 2 ∷ [])) (1 ∷ 2 ∷ 3 ∷ []) ∷  -- B8
    gives (catalogue 3 (v 0 1 0 ∷ v 1 1 0 ∷ v 2 1 0 ∷ []) (n 1 2 1 2 ∷ n 2 1 1 2 ∷ [])) (1 ∷ 0 ∷ 0 ∷ []) ∷  -- B9
    rejects (catalogue 3 (v 0 1 0 ∷ v 1 1 0 ∷ v 2 1 0 ∷ []) (n 1 2 1 2 ∷ n 2 1 1 2 ∷ [])) (1 ∷ 2 ∷ 3 ∷ []) ∷
    gives (catalogue 2 (v 0 1 0 ∷ v 1 1 0 ∷ v 1 2 0 ∷ []) (n 0 1 1 2 ∷ [])) (1 ∷ 2 ∷ []) ∷ []  -- B10

unfoldable pub is_found : Option Selection → Selection → Bool
is_found none s = false
is_found (some r) s = same r s

unfoldable pub is_none : Option Selection → Bool
is_none none = true
is_none (some r) = false

unfoldable pub row_holds : Row → Bool
row_holds (gives c s) = is_found (best c) s
row_holds (has_none c w es) = is_none (best c) && eqb (trials_of c) w && is_refuting c es
row_holds (takes c w) = eqb (trials_of c) w
row_holds (rejects c s) = not (is_valid c s)

abbrev pub Samples : Type 0  -- THE CLAIM
Samples = all row_holds samples ≡ true
