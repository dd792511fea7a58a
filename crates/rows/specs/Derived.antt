-- The row of a resolved line, and the test that a row refutes. Assumes nothing: these are definitions.
use Rattle.std.specs.Prelude.{Bool, ◌&&◌, ◌||◌, cond, List, ℕ, eqb, get_or}
use Rattle.std.specs.Int.Bits.{bit_and, bit_or}
use Rattle.rules.specs.Lists.{all, below}
use Rattle.store.specs.Lent.{Lent}
use Rattle.rows.specs.Bits.{has_bit, all_bits, one_bit}
use Rattle.rows.specs.Area.{word_at, with_row, absent_word}

-- two words of absent: the union at one module's bit, the intersection at every other
abbrev pub resolved_absent : (at one other : ℕ) → ℕ
resolved_absent m x y = bit_or (bit_and x y) (bit_and (bit_or x y) (one_bit m))

-- word j of a line resolved at module m: the union at m, the intersection everywhere else; word `absent` is the word of absent
abbrev pub resolved_word : (absent at one other word : ℕ) → ℕ
resolved_word w m x y j = cond (eqb j w) (resolved_absent m x y) (cond (eqb j m) (bit_or x y) (bit_and x y))

-- the area after the row of the line resolved from rows a and b at module m is written
abbrev pub resolved_row : (area : List ℕ) → (row modules one other at : ℕ) → List ℕ
resolved_row l r ms a b m = with_row l r ms (λ j. resolved_word (absent_word ms) m (word_at l a j) (word_at l b j) j)

-- a module's set has absent and every version; word `absent` is the word of absent
abbrev pub is_full_in : (area : List ℕ) → (row absent : ℕ) → Lent → (owner : ℕ) → Bool
is_full_in a r w l m = has_bit (word_at a r w) m && eqb (word_at a r m) (all_bits (get_or l.counts m 0))

-- "the root's set contains the root's version and every other set is full"
unfoldable pub refutes_in : (area : List ℕ) → (row : ℕ) → Lent → Bool
refutes_in a r l = has_bit (word_at a r 0) 0 && all (λ (m : ℕ). eqb m 0 || is_full_in a r (absent_word l.modules) l m) (below l.modules)
