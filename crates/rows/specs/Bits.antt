-- Words as sets of numbers, by their bits. Assumes nothing: these are definitions.
use Rattle.std.specs.Prelude.{Bool, true, false, not, ℕ, zero, suc, ◌+◌, ◌*◌, ◌/◌, ◌%◌, min, eqb}

-- a bit as a number
abbrev pub digit : Bool → ℕ
digit false = 0
digit true = 1

-- bit `at` of a word; the lowest is bit 0
unfoldable pub has_bit : (word at : ℕ) → Bool
has_bit x zero = eqb (x % 2) 1
has_bit x (suc j) = has_bit (x / 2) j

-- the word whose bit j, for each j below `count`, is a test's answer to first + j; every other bit is 0
unfoldable pub bits_of : (ℕ → Bool) → (first count : ℕ) → ℕ
bits_of f i zero = 0
bits_of f i (suc n) = bits_of f (suc i) n * 2 + digit (f i)

-- no more bits than a word has
abbrev pub in_word : (count : ℕ) → ℕ
in_word n = min n 32

-- the word of one bit: it has none where the bit is past a word's last
abbrev pub one_bit : (at : ℕ) → ℕ
one_bit k = bits_of (λ i. eqb i k) 0 32

-- the word of all of the first bits
abbrev pub all_bits : (count : ℕ) → ℕ
all_bits n = bits_of (λ i. true) 0 (in_word n)

-- the word of all of the first bits but one
abbrev pub all_but : (count at : ℕ) → ℕ
all_but n k = bits_of (λ i. not (eqb i k)) 0 (in_word n)
