-- The tables of a catalogue, and when they hold one. Assumes nothing: these are definitions.
use Rattle.std.specs.Prelude.{◌≡◌, Bool, ◌&&◌, ◌||◌, not, cond, List, ℕ, ◌+◌, ◌-◌, ltb, eqb, length, get_or, set, replicate}
use Rattle.rules.specs.Lists.{up_from}
use Rattle.rules.specs.Catalogue.{Catalogue, version_at_place, need_at, places_of, needs_of}
use Rattle.store.specs.Frame.{module_no, place, version, Fields, State}
use Rattle.store.specs.declared.frame.Last.{Last}
use Rattle.store.specs.declared.lookup.Need.{Need}
use Rattle.store.specs.declared.lookup.Span.{Span}
use Rattle.store.specs.declared.tables.Tables.{Tables}

-- tables that hold nothing
abbrev pub no_tables : Tables
no_tables =
    record {
      values = replicate 512 0;
      owners = replicate 512 0;
      starts = replicate 512 0;
      marks = replicate 512 0;
      firsts = replicate 32 0;
      counts = replicate 32 0;
      needies = replicate 1024 0;
      targets = replicate 1024 0;
      lows = replicate 1024 0;
      highs = replicate 1024 0;
    }

-- a list with a number put in at an index, if it is wanted
abbrev pub kept_at : (wanted : Bool) → (at x : ℕ) → List ℕ → List ℕ
kept_at z i x xs = cond z (set xs i x) xs

-- what the tables tell of the version last read, of so many
abbrev pub last_in : (values owners marks : List ℕ) → (versions : ℕ) → Last
last_in vs os ms n =
    record {
      place = place (n - 1);
      owner = module_no (get_or os (n - 1) 0);
      value = version (get_or vs (n - 1) 0);
      needs = get_or ms (n - 1) 0 - 1;
    }

-- frames that add a version, and a need
abbrev pub is_version : Fields → Bool
is_version f = eqb f.kind 2

abbrev pub is_need : Fields → Bool
is_need f = eqb f.kind 3 || eqb f.kind 5

-- the tables after a frame: `s` is the state before it, `count` how many versions its module has before it
abbrev pub kept : Tables → State → Last → (count : ℕ) → Fields → Tables
kept t s z n f =
    record {
      values = kept_at (is_version f) s.versions f.low.0 t.values;
      owners = kept_at (is_version f) s.versions f.owner.0 t.owners;
      starts = kept_at (is_version f) s.versions s.needs t.starts;
      marks = kept_at (is_need f) z.place.0 (z.needs + 2) (kept_at (is_version f) s.versions 1 t.marks);
      firsts = kept_at (is_version f && eqb n 0) f.owner.0 s.versions t.firsts;
      counts = kept_at (is_version f) f.owner.0 (n + 1) t.counts;
      needies = kept_at (is_need f) s.needs z.place.0 t.needies;
      targets = kept_at (is_need f) s.needs f.owner.0 t.targets;
      lows = kept_at (is_need f) s.needs f.low.0 t.lows;
      highs = kept_at (is_need f) s.needs f.high.0 t.highs;
    }

-- the tables after a version's frame alone, and after a need's
abbrev pub version_kept : Tables → State → (count : ℕ) → Fields → Tables
version_kept t s n f =
    record {
      values = set t.values s.versions f.low.0;
      owners = set t.owners s.versions f.owner.0;
      starts = set t.starts s.versions s.needs;
      marks = set t.marks s.versions 1;
      firsts = cond (eqb n 0) (set t.firsts f.owner.0 s.versions) t.firsts;
      counts = set t.counts f.owner.0 (n + 1);
      needies = t.needies;
      targets = t.targets;
      lows = t.lows;
      highs = t.highs;
    }

abbrev pub need_kept : Tables → State → Last → Fields → Tables
need_kept t s z f =
    record {
      values = t.values;
      owners = t.owners;
      starts = t.starts;
      marks = set t.marks z.place.0 (z.needs + 2);
      firsts = t.firsts;
      counts = t.counts;
      needies = set t.needies s.needs z.place.0;
      targets = set t.targets s.needs f.owner.0;
      lows = set t.lows s.needs f.low.0;
      highs = set t.highs s.needs f.high.0;
    }

-- tables that hold a catalogue, at every index: past the last version or need they are 0
pub record Holds (t : Tables) (c : Catalogue) : Type 0 where
  pub values : (i : ℕ) → get_or t.values i 0 ≡ (version_at_place c i).value
  pub owners : (i : ℕ) → get_or t.owners i 0 ≡ (version_at_place c i).owner
  pub used : (i : ℕ) → eqb (get_or t.marks i 0) 0 ≡ not (ltb i (length c.versions))
  pub needs : (i : ℕ) → needs_of c i ≡ up_from (get_or t.starts i 0) (get_or t.marks i 0 - 1)
  pub places : (m : ℕ) → places_of c m ≡ up_from (get_or t.firsts m 0) (get_or t.counts m 0)
  pub needies : (k : ℕ) → get_or t.needies k 0 ≡ (need_at c k).version
  pub targets : (k : ℕ) → get_or t.targets k 0 ≡ (need_at c k).target
  pub lows : (k : ℕ) → get_or t.lows k 0 ≡ (need_at c k).low
  pub highs : (k : ℕ) → get_or t.highs k 0 ≡ (need_at c k).high

-- WHAT THE TABLES TELL: numbers side by side
abbrev pub span : (first count : ℕ) → Span
span i n = record { first = i; count = n }

-- the places of a module's versions
abbrev pub places_in : (firsts counts : List ℕ) → (owner : ℕ) → Span
places_in fs ns m = span (get_or fs m 0) (get_or ns m 0)

-- the numbers of the needs of the version at a place
abbrev pub needs_in : (starts marks : List ℕ) → (number : ℕ) → Span
needs_in ss ms i = span (get_or ss i 0) (get_or ms i 0 - 1)

-- need k
abbrev pub need_in : (targets lows highs : List ℕ) → (number : ℕ) → Need
need_in ts ls hs k = record { target = module_no (get_or ts k 0); low = version (get_or ls k 0); high = version (get_or hs k 0) }
