-- Over tables that hold a catalogue the row of a need line stands for the line (`need_stands`). Assumes nothing.
use mathlib.Core.Path.{◌≡◌, refl, sym, ◌∙◌, ap}
use mathlib.Core.Bool.{Bool, true, false, ◌||◌, not, cond}
use Prim.Native.Nat.{ℕ, suc, ◌+◌, ◌≤◌, ◌<◌}
use native.Mathlib.Omega.{arith}
use borrow.Author.Tests.{eq-eqb, ne_eqb}
use lib.Dec.{eqb, eqb-zero-suc, eqb-suc-suc}
use lib.ListN.{get_or}
use Rattle.rules.specs.Catalogue.{Catalogue, version_at_place, need_at, needy_of, is_within, in_range}
use Rattle.rules.specs.Sheet.{need_line}
use Rattle.rules.proofs.Lists.{cond_true, cond_false}
use Rattle.store.specs.Tables.{Holds}
use Rattle.store.specs.declared.tables.Tables.{Tables}
use Rattle.store.specs.Lent.{Lent, lent_by}
use Rattle.rows.specs.Bits.{has_bit}
use Rattle.rows.specs.Area.{absent_word}
use Rattle.rows.specs.Needed.{cited_in, need_bit, need_versions, need_word}
use Rattle.rows.specs.Stands.{Narrow}
use Rattle.rows.specs.Laws.{NeedStands}
use Rattle.rows.specs.declared.needed.Cited.{Cited}
use Rattle.rows.proofs.Building.{in_word_small}
use Rattle.rows.proofs.Standing.{row_bit, row_no_bit, built_bit, no_built_bit, before_absent}

-- a test that asks first whether either of two holds
either_first : (b y e v : Bool) → cond (b || e) (cond b y v) true ≡ cond b y (cond e v true)
either_first true y e v = refl
either_first false y e v = refl

-- tests of the same parts
same_test : {a b x y d e u v : Bool} → a ≡ b → x ≡ y → d ≡ e → u ≡ v → cond (a || d) (cond a x u) true ≡ cond b y (cond e v true)
same_test {b = b} {y = y} {e = e} {v = v} p q r s = rw (p, q, r, s) (either_first b y e v)

-- absent is no version of the needing module, and is in every other set
absent_test : (b e : Bool) {x : Bool} → x ≡ false → not b ≡ cond b x (cond e true true)
absent_test true e h = sym h
absent_test false true h = refl
absent_test false false h = refl

module _ (t : Tables) (c : Catalogue) (holds : Holds t c) (k : ℕ) where
  -- the tables as they are lent, and the need as they have it
  abbrev tables : Lent
  tables = lent_by t c.modules

  abbrev need : Cited
  need = cited_in tables k

  needy_is : need.needy.0 ≡ needy_of c k
  needy_is = holds.owners (get_or t.needies k 0) ∙ ap (λ (i : ℕ). (version_at_place c i).owner) (holds.needies k)

  outside_same : (i : ℕ) → not (is_within (get_or t.lows k 0) (get_or t.highs k 0) (get_or t.values i 0)) ≡ not (in_range c (need_at c k) i)
  unfolding in_range
  outside_same i = rw (holds.lows k, holds.highs k, holds.values i)

  -- a version is in the set by the tables just if it is by the rules
  version_in_lem : (m i : ℕ) → need_bit tables need m i ≡ need_line c k m (suc i)
  unfolding need_line
  version_in_lem m i =
      same_test (ap (eqb m) needy_is) (ap (eqb i) (holds.needies k) ∙ sym (eqb-suc-suc i (need_at c k).version)) (ap (eqb m) (holds.targets k))
      (outside_same i)

  -- and so is absent
  absent_in : (m : ℕ) → not (eqb m need.needy.0) ≡ need_line c k m 0
  unfolding need_line
  absent_in m =
      ap (λ (n : ℕ). not (eqb m n)) needy_is ∙
      absent_test (eqb m (needy_of c k)) (eqb m (need_at c k).target) (eqb-zero-suc (need_at c k).version)

  module _ (narrow : Narrow t c) where
    abbrev absent : ℕ
    absent = absent_word c.modules

    abbrev word : ℕ → ℕ
    word = need_word tables absent need

    -- a module's word is no word of absent
    word_is : (m : ℕ) → m < c.modules → word m ≡ need_versions tables need m
    word_is m l = cond_false _ _ (ne_eqb m absent (λ e. omega (arith, before_absent narrow l)))

    absent_bit : (m : ℕ) → m < c.modules → has_bit (word absent) m ≡ need_line c k m 0
    absent_bit m l =
        ap (λ (x : ℕ). has_bit x m) (cond_true _ _ (eq-eqb absent absent refl)) ∙
        built_bit (λ i. not (eqb i need.needy.0)) 0 absent m (in_word_small c.modules) (before_absent narrow l) ∙
        ap (λ (i : ℕ). not (eqb i need.needy.0)) (omega arith) ∙ absent_in m

    version_bit : (m j : ℕ) → m < c.modules → j < get_or t.counts m 0 → has_bit (word m) j ≡ need_line c k m (suc (get_or t.firsts m 0 + j))
    version_bit m j l i =
        ap (λ (x : ℕ). has_bit x j) (word_is m l) ∙
        built_bit (need_bit tables need m) (get_or t.firsts m 0) (get_or t.counts m 0) j (narrow.versions m) i ∙
        version_in_lem m (get_or t.firsts m 0 + j)

    no_version_bit : (m j : ℕ) → m < c.modules → get_or t.counts m 0 ≤ j → has_bit (word m) j ≡ false
    no_version_bit m j l i =
        ap (λ (x : ℕ). has_bit x j) (word_is m l) ∙
        no_built_bit (need_bit tables need m) (get_or t.firsts m 0) (get_or t.counts m 0) j (narrow.versions m) i

-- THE LAW
pub need_stands : NeedStands
need_stands t c holds narrow area row k fits =
    record {
      absent = λ m l.
          row_bit area row c.modules g fits (absent_word c.modules) m (omega arith) (omega (arith, narrow.modules)) ∙
          absent_bit t c holds k narrow m l;
      versions = λ m j l i.
          row_bit area row c.modules g fits m j (omega (arith, before_absent narrow l)) (omega (arith, narrow.versions m)) ∙
          version_bit t c holds k narrow m j l i;
      unused = λ m j l i.
          row_no_bit area row c.modules g fits m j (omega (arith, before_absent narrow l)) (no_version_bit t c holds k narrow m j l i);
    }
  where
    g : ℕ → ℕ
    g = word t c holds k narrow
