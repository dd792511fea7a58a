-- The row of a need line, from the tables of a catalogue. Assumes nothing: these are definitions.
use Rattle.std.specs.Prelude.{Bool, true, ◌||◌, not, cond, List, ℕ, eqb, get_or}
use Rattle.rules.specs.Catalogue.{is_within}
use Rattle.store.specs.Frame.{module_no, place, version}
use Rattle.store.specs.Lent.{Lent}
use Rattle.rows.specs.Bits.{bits_of, in_word, all_but}
use Rattle.rows.specs.Area.{with_row, absent_word}
use Rattle.rows.specs.declared.needed.Cited.{Cited}

-- need k as a need line cites it
abbrev pub cited_in : Lent → (number : ℕ) → Cited
cited_in l k =
    record {
      needy = module_no (get_or l.owners (get_or l.needies k 0) 0);
      place = place (get_or l.needies k 0);
      target = module_no (get_or l.targets k 0);
      low = version (get_or l.lows k 0);
      high = version (get_or l.highs k 0);
    }

-- the need names a module, as the one that needs or the one that is needed
abbrev pub names : Cited → (owner : ℕ) → Bool
names n m = eqb m n.needy.0 || eqb m n.target.0

-- the version at a place is in the set of a module that the need names: the needing module's set is that one version, the needed module's every version
-- outside the range
abbrev pub named_bit : Lent → Cited → (owner place : ℕ) → Bool
named_bit l n m i = cond (eqb m n.needy.0) (eqb i n.place.0) (not (is_within n.low.0 n.high.0 (get_or l.values i 0)))

-- the version at a place is in its module's set: every version of a module that the need does not name is
abbrev pub need_bit : Lent → Cited → (owner place : ℕ) → Bool
need_bit l n m i = cond (names n m) (named_bit l n m i) true

-- a module's word: its versions that are in its set
abbrev pub need_versions : Lent → Cited → (owner : ℕ) → ℕ
need_versions l n m = bits_of (need_bit l n m) (get_or l.firsts m 0) (in_word (get_or l.counts m 0))

-- absent is in every set but the needing module's
abbrev pub need_absent : (modules : ℕ) → Cited → ℕ
need_absent ms n = all_but ms n.needy.0

-- a word of the row: the modules' words, and behind them the word of absent, word `absent`
abbrev pub need_word : Lent → (absent : ℕ) → Cited → (word : ℕ) → ℕ
need_word l w n j = cond (eqb j w) (need_absent w n) (need_versions l n j)

-- the area after the row of need line k is written
abbrev pub need_row : (area : List ℕ) → (row : ℕ) → Lent → (number : ℕ) → List ℕ
need_row a r l k = with_row a r l.modules (need_word l (absent_word l.modules) (cited_in l k))
