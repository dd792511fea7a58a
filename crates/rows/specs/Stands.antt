-- What a row stands for. Assumes nothing: these are definitions.
use Rattle.std.specs.Prelude.{◌≡◌, false, List, ℕ, suc, ◌+◌, ◌*◌, ◌≤◌, ◌<◌, length, get_or}
use Rattle.rules.specs.Catalogue.{Catalogue}
use Rattle.rules.specs.Sheet.{Incompatibility}
use Rattle.store.specs.declared.tables.Tables.{Tables}
use Rattle.rows.specs.Bits.{has_bit}
use Rattle.rows.specs.Area.{word_at, absent_word}

-- a row of the area stands for an incompatibility of a catalogue that the tables hold: a module's word has bit j just if the module's j-th version,
-- oldest first, is in its set, and no bit that stands for no version; the word of absent has a module's bit just if absent is in its set
pub record Stands (t : Tables) (c : Catalogue) (area : List ℕ) (row : ℕ) (f : Incompatibility) : Type 0 where
  pub absent : (m : ℕ) → m < c.modules → has_bit (word_at area row (absent_word c.modules)) m ≡ f m 0
  pub versions : (m j : ℕ) → m < c.modules → j < get_or t.counts m 0 → has_bit (word_at area row m) j ≡ f m (suc (get_or t.firsts m 0 + j))
  pub unused : (m j : ℕ) → m < c.modules → get_or t.counts m 0 ≤ j → has_bit (word_at area row m) j ≡ false

-- a row lies inside the area
abbrev pub HasRow : (area : List ℕ) → (row : ℕ) → Type 0
HasRow l r = 132 * r + 132 ≤ length l

-- a catalogue whose incompatibilities fit into rows: no more modules, and no more versions of a module, than a word has bits
pub record Narrow (t : Tables) (c : Catalogue) : Type 0 where
  pub modules : c.modules ≤ 32
  pub versions : (m : ℕ) → get_or t.counts m 0 ≤ 32
