-- The record of choices, and the versions of a module in the order in which they are tried. Assumes nothing: these are definitions.
use Rattle.std.specs.Prelude.{List, [], ◌∷◌, ℕ, zero, suc, ◌+◌}
use Rattle.search.specs.declared.choices.Choices.{Choices}
use Rattle.moves.specs.declared.wanted.Wanted.{Wanted}

abbrev pub choices : (chosen : List ℕ) → (next : Wanted) → Choices
choices xs w = record { chosen = xs; next = w }

-- a run of places from its last to its first
unfoldable pub falling : (first count : ℕ) → List ℕ
falling i zero = []
falling i (suc n) = (i + n) ∷ falling i n
