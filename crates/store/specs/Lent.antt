-- What a checker of sheets is lent of a catalogue. Assumes nothing: these are definitions.
use Rattle.std.specs.Prelude.{List, ℕ}
use Rattle.store.specs.declared.tables.Tables.{Tables}
use Rattle.store.specs.declared.lent.Lent.{Lent as Slices}

-- WHAT IS LENT: the lists of a catalogue's tables, and how many modules it has
pub record Lent : Type 0 where
  pub values : List ℕ
  pub owners : List ℕ
  pub firsts : List ℕ
  pub counts : List ℕ
  pub needies : List ℕ
  pub targets : List ℕ
  pub lows : List ℕ
  pub highs : List ℕ
  pub modules : ℕ

abbrev pub lent : (values owners firsts counts needies targets lows highs : List ℕ) → (modules : ℕ) → Lent
lent vs os fs ns ys ts ls hs m =
    record { values = vs; owners = os; firsts = fs; counts = ns; needies = ys; targets = ts; lows = ls; highs = hs; modules = m }

abbrev pub lent_by : Tables → (modules : ℕ) → Lent
lent_by t m = lent t.values t.owners t.firsts t.counts t.needies t.targets t.lows t.highs m

-- what the slices hold that the code is lent
abbrev pub lent_of : Slices → Lent
lent_of l = lent l.values.now l.owners.now l.firsts.now l.counts.now l.needies.now l.targets.now l.lows.now l.highs.now l.modules
