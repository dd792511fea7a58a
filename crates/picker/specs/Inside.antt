-- What a pick rests on inside: the numbers of its outcomes, areas with room, and the search over tables. Assumes nothing: these are definitions.
use Rattle.std.specs.Prelude.{List, ℕ, ◌≤◌, length, get_or}
use Rattle.rules.specs.Sheet.{most_lines}
use Rattle.store.specs.declared.tables.Tables.{Tables}
use Rattle.moves.specs.Noting.{fresh}
use Rattle.search.specs.Walking.{moves_in, Walked, search_in}
use Rattle.picker.specs.declared.Outcome.{Outcome}
use Rattle.picker.specs.declared.Outcome.TheVariants.{Selected, Refuted, NoSheet, Unfit}
use Rattle.picker.specs.Entry.{selection_least, sheet_least, work_least}

-- the number that tells how a call ends
abbrev pub outcome_number : Outcome → ℕ
outcome_number Selected = 0
outcome_number Refuted = 9
outcome_number NoSheet = 10
outcome_number Unfit = 11

-- areas that fit have room for every text, and the allowance is one that a sheet can have
pub record HasRoom (selection sheet work : List ℕ) (allowance : ℕ) : Type 0 where
  pub selection_room : selection_least ≤ length selection
  pub sheet_room : sheet_least ≤ length sheet
  pub work_room : work_least ≤ length work
  pub few_lines : allowance ≤ most_lines

-- a whole search over the tables, of so many modules
abbrev pub search_of : Tables → (modules allowance : ℕ) → (work : List ℕ) → Walked
search_of t n a w =
    search_in (moves_in t n) n a (get_or t.firsts 0 0) (fresh w)
