-- Whether the version that is tried fits with those chosen, as the code finds it. Assumes nothing: these are definitions.
use Rattle.std.specs.Prelude.{Bool, true, ◌&&◌, List, ℕ, suc, get_or, is_none}
use Rattle.rules.specs.Catalogue.{is_within}
use Rattle.store.specs.declared.tables.Tables.{Tables}
use Rattle.moves.specs.Scan.{bars_in, scan_state}
use Rattle.moves.specs.declared.wanted.Wanted.{Wanted}

-- the version at place i lies in the range that is left to the wanted module, and none of its own needs leaves out a chosen version
abbrev pub fits_in : Tables → (chosen : List ℕ) → Wanted → (place : ℕ) → Bool
fits_in t ch w i =
    is_within w.low.0 w.high.0 (get_or t.values i 0) && is_none (scan_state t (bars_in t ch true w.owner.0 (suc i)) (suc i))
