-- The bits of a row as it was written (`row_bit`), and that writing a row leaves what another row stands for (`others_kept`). Assumes nothing.
use mathlib.Core.Path.{◌≡◌, ◌∙◌, ap}
use mathlib.Core.Bool.{Bool, false, ◌&&◌, and-false}
use mathlib.Core.List.{List}
use Prim.Native.Nat.{ℕ, suc, ◌+◌, ◌≤◌, ◌<◌}
use native.Mathlib.Omega.{arith}
use native.Mathlib.Nat.{min-eq_left}
use borrow.Author.Tests.{lt-ltb, le-ltb}
use lib.Dec.{ltb}
use Rattle.rules.specs.Catalogue.{Catalogue}
use Rattle.store.specs.declared.tables.Tables.{Tables}
use Rattle.rows.specs.Bits.{has_bit, bits_of, in_word}
use Rattle.rows.specs.Area.{word_at, with_row, absent_word}
use Rattle.rows.specs.Stands.{HasRow, Narrow}
use Rattle.rows.specs.Laws.{OthersKept}
use Rattle.rows.proofs.Building.{in_word_small}
use Rattle.rows.proofs.Words.{words_other, words_same}
use Rattle.rows.proofs.Halving.{bits_read, bits_cut}

-- A ROW AS WRITTEN has the bits of the words that were written
module _ (area : List ℕ) (row ms : ℕ) (g : ℕ → ℕ) (fits : HasRow area row) (word j : ℕ) (l : word ≤ absent_word ms) where
  cut_bit : has_bit (word_at (with_row area row ms g) row word) j ≡ (ltb j 32 && has_bit (g word) j)
  cut_bit =
      ap (λ (x : ℕ). has_bit x j) (words_same area row g (suc (absent_word ms)) word (omega arith) (omega (arith, in_word_small ms))) ∙
      bits_cut (g word) 32 j

  pub row_bit : j < 32 → has_bit (word_at (with_row area row ms g) row word) j ≡ has_bit (g word) j
  row_bit h = cut_bit ∙ ap (λ (b : Bool). b && has_bit (g word) j) (lt-ltb j 32 h)

  -- a bit that a word does not have is not there afterwards
  pub row_no_bit : has_bit (g word) j ≡ false → has_bit (word_at (with_row area row ms g) row word) j ≡ false
  row_no_bit h = cut_bit ∙ ap (λ (b : Bool). ltb j 32 && b) h ∙ and-false (ltb j 32)

-- no more numbers than a word has bits
pub in_word_lem : (n : ℕ) → n ≤ 32 → in_word n ≡ n
in_word_lem n l = min-eq_left l

-- A WORD AS BUILT, of no more bits than a word has
module _ (f : ℕ → Bool) (first n j : ℕ) (l : n ≤ 32) where
  built_read : has_bit (bits_of f first (in_word n)) j ≡ (ltb j n && f (first + j))
  built_read = ap (λ (k : ℕ). has_bit (bits_of f first k) j) (in_word_lem n l) ∙ bits_read f first n j

  pub built_bit : j < n → has_bit (bits_of f first (in_word n)) j ≡ f (first + j)
  built_bit h = built_read ∙ ap (λ (b : Bool). b && f (first + j)) (lt-ltb j n h)

  pub no_built_bit : n ≤ j → has_bit (bits_of f first (in_word n)) j ≡ false
  no_built_bit h = built_read ∙ ap (λ (b : Bool). b && f (first + j)) (le-ltb j n h)

-- a module's word stands before the word of absent
pub before_absent : {t : Tables} {c : Catalogue} {m : ℕ} → Narrow t c → m < c.modules → m < absent_word c.modules
before_absent {c = c} narrow l = omega (arith, in_word_lem c.modules narrow.modules)

-- THE LAW: other rows are read as before
pub others_kept : OthersKept
others_kept t c narrow area row other g f n s =
    record {
      absent = λ m l. rw (kept (absent_word c.modules) (omega arith)) (s.absent m l);
      versions = λ m j l i. rw (kept m (omega (arith, before_absent narrow l))) (s.versions m j l i);
      unused = λ m j l i. rw (kept m (omega (arith, before_absent narrow l))) (s.unused m j l i);
    }
  where
    kept : (word : ℕ) → word ≤ absent_word c.modules → word_at (with_row area row c.modules g) other word ≡ word_at area other word
    kept word l =
        words_other area row g (suc (absent_word c.modules)) other word (λ j i e. n (omega (arith, in_word_small c.modules)))
