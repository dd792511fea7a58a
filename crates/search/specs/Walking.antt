-- The search as place and trial make it: the record of choices and the sheet go into each move and come back. Assumes nothing: these are definitions.
use Rattle.std.specs.Prelude.{Bool, true, false, cond, List, [], ◌∷◌, ℕ, zero, suc, ◌+◌, ◌-◌, ◌≤◌, ◌<◌, get_or, set, replicate}
use Rattle.std.specs.Prelude.{Option, Some, None, Result, Ok, Err}
use Rattle.rules.specs.Sheet.{cites, resolves}
use Rattle.store.specs.declared.tables.Tables.{Tables}
use Rattle.search.specs.declared.choices.Choices.{Choices}
use Rattle.moves.specs.declared.wanted.Wanted.{Wanted}
use Rattle.search.specs.Choosing.{choices, falling}
use Rattle.moves.specs.Fitting.{fits_in}
use Rattle.moves.specs.Scan.{number_of, scan_in, over_in}
use Rattle.moves.specs.Wanted.{none_wanted, if_any, wanted_in}
use Rattle.moves.specs.Noting.{Sheet, note_in, number_in, entry_bytes}

-- what a search asks of the tables: the module that is wanted next, its versions in the order of their trials, whether a version fits, and the need
-- that bars it where it does not
pub record Moves : Type 0 where
  pub next : (chosen : List ℕ) → Wanted
  pub tries : (owner : ℕ) → List ℕ
  pub fits : (chosen : List ℕ) → Wanted → (place : ℕ) → Bool
  pub bar : (chosen : List ℕ) → (owner place : ℕ) → ℕ

abbrev pub moves_in : Tables → (modules : ℕ) → Moves
moves_in t n =
    record {
      next = λ ch. wanted_in t ch n;
      tries = λ m. falling (get_or t.firsts m 0) (get_or t.counts m 0);
      fits = λ ch w i. fits_in t ch w i;
      bar = λ ch m i. number_of (over_in (scan_in t ch m (suc i)) 0 n);
    }

-- every place of a module's versions, where it has any, and the one past them, is a number of 16 bits
abbrev pub PlacesFit : Tables → Type 0
PlacesFit t = (m : ℕ) → 0 < get_or t.counts m 0 → get_or t.firsts m 0 + get_or t.counts m 0 ≤ 65535

-- how a search ends: whether it found a selection, the record of choices, and the sheet
pub record Walked : Type 0 where
  pub found : Bool
  pub choices : Choices
  pub sheet : Sheet

abbrev pub walked : (found : Bool) → Choices → Sheet → Walked
walked z r s = record { found = z; choices = r; sheet = s }

-- what is told of it beside the sheet
abbrev pub told : Walked → Result Choices Choices
told w = cond w.found (Ok w.choices) (Err w.choices)

-- after a failure the choice is taken back
abbrev pub taken_back : Wanted → Walked → Walked
taken_back w r = cond r.found r (walked false (choices (set r.choices.chosen w.owner.0 0) w) r.sheet)

-- TRIAL of the wanted module at a place: the search goes on with the choice made, or the need that bars it is cited
unfoldable pub try_walk : Moves → (allowance : ℕ) → (go : Choices → Sheet → Walked) → Wanted → (place : ℕ) → Choices → Sheet → Walked
try_walk v a go w i r s =
    cond (v.fits r.chosen w i)
    (taken_back w (go (choices (set r.chosen w.owner.0 (suc i)) r.next) s))
    (walked false r (note_in a (entry_bytes (cites (v.bar r.chosen w.owner.0 i))) s))

-- the versions in turn, until one is found with; each failed trial's last line is resolved with the line that the place has come to
unfoldable pub each_walk :
    Moves → (allowance : ℕ) → (go : Choices → Sheet → Walked) → Wanted → (came : ℕ) → (places : List ℕ) → Choices → Sheet → Walked
each_walk v a go w k [] r s = walked false r s
each_walk v a go w k (i ∷ is) r s = let t = try_walk v a go w i r s in
    cond t.found t
    (each_walk v a go w (number_in t.sheet) is t.choices
    (note_in a (entry_bytes (resolves k (number_in t.sheet - 1) w.owner.0)) t.sheet))

-- the walk of a wanted module, or how it ends where none is
abbrev pub if_wanted : Option Wanted → (found : Walked) → (go : Wanted → Walked) → Walked
if_wanted None u go = u
if_wanted (Some w) u go = go w

-- PLACE: nothing wanted, and it is found; else the wanted module's versions, behind the need that asks for it. Fuel: the modules
unfoldable pub walk_in : (fuel : ℕ) → Moves → (allowance : ℕ) → Choices → Sheet → Walked
walk_in zero v a r s = walked true r s
walk_in (suc f) v a r s = let now = choices r.chosen (v.next r.chosen) in
    if_wanted (if_any now.next) (walked true now s)
    (λ w. each_walk v a (walk_in f v a) w (number_in s) (v.tries w.owner.0) now (note_in a (entry_bytes (cites w.need)) s))

-- A WHOLE SEARCH, from the root's first version on, behind the lines that the sheet has
abbrev pub started : (root : ℕ) → Choices
started i = choices (set (replicate 32 0) 0 (suc i)) none_wanted

abbrev pub search_in : Moves → (modules allowance root : ℕ) → Sheet → Walked
search_in v n a i s = walk_in n v a (started i) s
