-- A text as lines of digits, and the number and line by which a text is refused. Assumes nothing: these are definitions.
use Rattle.std.specs.Prelude.{Bool, true, false, ◌&&◌, ◌||◌, cond, List, [], ◌∷◌, ℕ, ◌%◌, leb, eqb, length}
use Rattle.rules.specs.Lists.{is_in, all}

pub record Fault : Type 0 where  -- FAULT: "When the box says no": a number of the table and the line told; number 0 is no fault
  pub number : ℕ
  pub line : ℕ

abbrev pub fault : (number line : ℕ) → Fault
fault n i = record { number = n; line = i }

abbrev pub fine : Fault
fine = fault 0 0

abbrev pub or_else : (first second : ℕ) → ℕ  -- the order of checks: the first number that is not 0
or_else n m = cond (eqb n 0) m n

abbrev pub unless : (passes : Bool) → (number : ℕ) → ℕ  -- a number where a test fails
unless z n = cond z 0 n

pub record Line : Type 0 where  -- LINE: what stands before a line feed, and whether there was one
  pub digits : List ℕ
  pub is_ended : Bool

abbrev pub line : (digits : List ℕ) → (is_ended : Bool) → Line
line ds z = record { digits = ds; is_ended = z }

unfoldable pub with_byte : ℕ → List Line → List Line
with_byte c [] = line (c ∷ []) false ∷ []
with_byte c (l ∷ ls) = line (c ∷ l.digits) l.is_ended ∷ ls

abbrev pub line_feed : ℕ
line_feed = 10

unfoldable pub lines_of : (text : List ℕ) → List Line
lines_of [] = []
lines_of (c ∷ cs) = cond (eqb c line_feed) (line [] true ∷ lines_of cs) (with_byte c (lines_of cs))

abbrev pub is_digit : ℕ → Bool  -- "digits 0-9 A-F"
is_digit c = is_in 48 57 c || is_in 65 70 c

unfoldable pub shape_fits : Line → Bool  -- 2: "4 or more digits, an even number, ended by one LF"
shape_fits l = l.is_ended && leb 4 (length l.digits) && eqb (length l.digits % 2) 0 && all is_digit l.digits
