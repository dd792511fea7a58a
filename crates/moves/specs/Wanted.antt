-- The next module to choose, the need that asks for it and the range that is left to it, as the code finds them. Assumes nothing: these are definitions.
use Rattle.std.specs.Prelude.{cond, List, ℕ, zero, suc, ◌-◌, min, max, ltb, eqb, get_or, Option, Some, None}
use Rattle.store.specs.Frame.{module_no, version}
use Rattle.store.specs.declared.tables.Tables.{Tables}
use Rattle.moves.specs.Scan.{no_number}
use Rattle.moves.specs.declared.wanted.Wanted.{Wanted}

-- no module yet: the greatest number, which every other is below
abbrev pub no_module : ℕ
no_module = 65535

abbrev pub wanted_by : (owner need low high : ℕ) → Wanted
wanted_by m k a b = record { owner = module_no m; need = k; low = version a; high = version b }

-- nothing is wanted yet, and no version left out
abbrev pub none_wanted : Wanted
none_wanted = wanted_by no_module no_number 0 16777215

-- the same module, with what a need's range leaves of the range that it had
abbrev pub narrowed : (low high : ℕ) → Wanted → Wanted
narrowed a b w = wanted_by w.owner.0 w.need (max a w.low.0) (min b w.high.0)

-- what is wanted after need k: nothing else where it names a higher module; less of the module's range where it names the module; the module that it
-- names where that is lower and not chosen
abbrev pub better_in : Tables → (chosen : List ℕ) → (number : ℕ) → Wanted → Wanted
better_in t ch k w =
    cond (ltb w.owner.0 (get_or t.targets k 0)) w
    (cond (eqb (get_or t.targets k 0) w.owner.0) (narrowed (get_or t.lows k 0) (get_or t.highs k 0) w)
    (cond (eqb (get_or ch (get_or t.targets k 0) 0) 0) (wanted_by (get_or t.targets k 0) k (get_or t.lows k 0) (get_or t.highs k 0)) w))

-- what a step makes of a value over a run of numbers, lowest first
unfoldable pub fold_in : {A : Type 0} → (ℕ → A → A) → A → (first count : ℕ) → A
fold_in h b i zero = b
fold_in h b i (suc n) = fold_in h (h i b) (suc i) n

-- what is wanted after the needs that a state brings
abbrev pub wanted_state : Tables → (chosen : List ℕ) → (state : ℕ) → Wanted → Wanted
wanted_state t ch zero w = w
wanted_state t ch (suc j) w = fold_in (better_in t ch) w (get_or t.starts j 0) (get_or t.marks j 0 - 1)

-- and after those of module k's state
abbrev pub wanted_at : Tables → (chosen : List ℕ) → (owner : ℕ) → Wanted → Wanted
wanted_at t ch k w = wanted_state t ch (get_or ch k 0) w

-- a module that is wanted, if there is one
abbrev pub if_any : Wanted → Option Wanted
if_any w = cond (eqb w.owner.0 no_module) None (Some w)

-- what is wanted after the needs of the first n modules' states
abbrev pub wanted_in : Tables → (chosen : List ℕ) → (modules : ℕ) → Wanted
wanted_in t ch n = fold_in (wanted_at t ch) none_wanted 0 n
