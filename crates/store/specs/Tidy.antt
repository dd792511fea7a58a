-- Tables as a reading leaves them: of the code's sizes, holding the catalogue read so far, and within the limits. Assumes nothing: these are definitions.
use Rattle.std.specs.Prelude.{◌≡◌, ℕ, ◌+◌, ◌*◌, ◌-◌, ◌≤◌, ◌<◌, length, get_or}
use Rattle.rules.specs.Catalogue.{Catalogue, no_catalogue, last_version, Reading}
use Rattle.store.specs.declared.tables.Tables.{Tables}
use Rattle.store.specs.Tables.{Holds}

-- their sizes are the code's
pub record Sizes (t : Tables) : Type 0 where
  pub values : length t.values ≡ 512
  pub owners : length t.owners ≡ 512
  pub starts : length t.starts ≡ 512
  pub marks : length t.marks ≡ 512
  pub firsts : length t.firsts ≡ 32
  pub counts : length t.counts ≡ 32
  pub needies : length t.needies ≡ 1024
  pub targets : length t.targets ≡ 1024
  pub lows : length t.lows ≡ 1024
  pub highs : length t.highs ≡ 1024

-- the needs of the last version are the last needs, the versions of its module, `o`, are the last versions, and later modules have none. As a
-- module has 16 versions at most, the number of versions is bounded by `o`
pub record Ends (t : Tables) (c : Catalogue) : Type 0 where
  pub tip : get_or t.starts (length c.versions - 1) 0 + (get_or t.marks (length c.versions - 1) 0 - 1) ≡ length c.needs
  pub tail : get_or t.firsts (last_version c).owner 0 + get_or t.counts (last_version c).owner 0 ≡ length c.versions
  pub later : (m : ℕ) → (last_version c).owner < m → get_or t.counts m 0 ≡ 0
  pub bound : length c.versions ≤ (last_version c).owner * 16 + get_or t.counts (last_version c).owner 0

-- tables of the code's sizes that hold a catalogue, within the limits
pub record Tidy (t : Tables) (c : Catalogue) : Type 0 where
  pub holds : Holds t c
  pub sizes : Sizes t
  pub ends : 0 < length c.versions → Ends t c
  pub modules_fit : c.modules ≤ 32
  pub versions_fit : length c.versions ≤ 512
  pub needs_fit : length c.needs ≤ 1024
  pub counts_fit : (m : ℕ) → get_or t.counts m 0 ≤ 16
  pub marks_fit : (i : ℕ) → get_or t.marks i 0 ≤ 17

-- THE READING: tidy tables, and nothing before the head
pub record Reads (t : Tables) (u : Reading) : Type 0 where
  pub tidy : Tidy t u.sofar
  pub none : u.stands ≡ 0 → u.sofar ≡ no_catalogue
