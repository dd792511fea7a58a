-- The laws of rows, over tables that hold a catalogue: what a row stands for after each function. Assumes nothing: these are the statements.
use Rattle.std.specs.Prelude.{◌≡◌, ◌≢◌, List, ℕ}
use Rattle.rules.specs.Catalogue.{Catalogue, WellFormed}
use Rattle.rules.specs.Sheet.{Incompatibility, need_line, resolved, refutes}
use Rattle.store.specs.Tables.{Holds}
use Rattle.store.specs.declared.tables.Tables.{Tables}
use Rattle.store.specs.Lent.{lent_by}
use Rattle.rows.specs.Area.{with_row}
use Rattle.rows.specs.Needed.{need_row}
use Rattle.rows.specs.Derived.{resolved_row, refutes_in}
use Rattle.rows.specs.Stands.{Stands, HasRow, Narrow}

-- the row of need line k stands for it
abbrev pub NeedStands : Type 0
NeedStands = (t : Tables) (c : Catalogue) → Holds t c → Narrow t c → (area : List ℕ) (row number : ℕ) → HasRow area row →
    Stands t c (need_row area row (lent_by t c.modules) number) row (need_line c number)

-- the row of a resolved line stands for it, where the rows of both earlier lines stand for those
abbrev pub ResolvedStands : Type 0
ResolvedStands = (t : Tables) (c : Catalogue) → Narrow t c → (area : List ℕ) (row one other at : ℕ) (f g : Incompatibility) →
    HasRow area row → Stands t c area one f → Stands t c area other g →
    Stands t c (resolved_row area row c.modules one other at) row (resolved at f g)

-- writing a row leaves what another row stands for
abbrev pub OthersKept : Type 0
OthersKept = (t : Tables) (c : Catalogue) → Narrow t c → (area : List ℕ) (row other : ℕ) (value : ℕ → ℕ) (f : Incompatibility) →
    other ≢ row → Stands t c area other f → Stands t c (with_row area row c.modules value) other f

-- a row refutes just if the incompatibility that it stands for does
abbrev pub RefutesLaw : Type 0
RefutesLaw = (t : Tables) (c : Catalogue) → Holds t c → WellFormed c → Narrow t c → (area : List ℕ) (row : ℕ) (f : Incompatibility) →
    Stands t c area row f → refutes_in area row (lent_by t c.modules) ≡ refutes c f
