-- A byte area as rows of words, each of four bytes, high byte first; a row has room for 33. Assumes nothing: these are definitions.
use Rattle.std.specs.Prelude.{List, ℕ, zero, suc, ◌+◌, ◌*◌, ◌/◌, ◌%◌, get_or, set}
use Rattle.rows.specs.Bits.{in_word}

-- where a word of a row begins
abbrev pub byte_of : (row word : ℕ) → ℕ
byte_of r j = 132 * r + 4 * j

-- a word as it is read: a byte past the end is 0
unfoldable pub word_at : (area : List ℕ) → (row word : ℕ) → ℕ
word_at l r j = get_or l (byte_of r j) 0 * 16777216 + get_or l (byte_of r j + 1) 0 * 65536 + get_or l (byte_of r j + 2) 0 * 256 + get_or l (byte_of r j + 3) 0

-- the area after a word is written: nothing is written past the end
unfoldable pub with_word : (area : List ℕ) → (row word value : ℕ) → List ℕ
with_word l r j x =
    set (set (set (set l (byte_of r j) (x / 16777216 % 256)) (byte_of r j + 1) (x / 65536 % 256)) (byte_of r j + 2) (x / 256 % 256)) (byte_of r j + 3)
    (x % 256)

-- the area after the first words of a row are written; `value` gives each word
unfoldable pub with_words : (area : List ℕ) → (row : ℕ) → (value : ℕ → ℕ) → (count : ℕ) → List ℕ
with_words l r g zero = l
with_words l r g (suc n) = with_word (with_words l r g n) r n (g n)

-- the word of a row that says which modules' sets have absent: it stands behind the modules' words, which are no more than a word has bits
abbrev pub absent_word : (modules : ℕ) → ℕ
absent_word ms = in_word ms

-- the area after a row is written: the modules' words, and the word of absent
abbrev pub with_row : (area : List ℕ) → (row modules : ℕ) → (value : ℕ → ℕ) → List ℕ
with_row l r ms g = with_words l r g (suc (absent_word ms))
