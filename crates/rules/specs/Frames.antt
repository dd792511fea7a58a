-- Frames: a line's bytes, the one table of kinds, the loop over lines that all readers share, written frames. Assumes nothing: these are definitions.
use Rattle.std.specs.Prelude.{Bool, ◌&&◌, cond, List, [], ◌∷◌, ◌++◌, ℕ, suc, ◌+◌, ◌*◌, ◌-◌, ◌/◌, ◌%◌, ltb, leb, eqb, length, get_or}
use Rattle.rules.specs.Lists.{sum}
use Rattle.rules.specs.Lines.{Fault, fault, fine, or_else, unless, Line, lines_of, line_feed, shape_fits}

abbrev pub digit_of : ℕ → ℕ
digit_of c = cond (leb c 57) (c - 48) (c - 55)

unfoldable pub frame_of : (digits : List ℕ) → List ℕ  -- FRAME: the bytes of a line's pairs of digits
frame_of [] = []
frame_of (a ∷ []) = []
frame_of (a ∷ b ∷ ds) = (16 * digit_of a + digit_of b) ∷ frame_of ds

unfoldable pub sum_fits : Line → Bool  -- 3: "The bytes of a frame add up to 0 modulo 256"
sum_fits l = eqb (sum (frame_of l.digits) % 256) 0

abbrev pub byte_at : (frame : List ℕ) → (place : ℕ) → ℕ
byte_at f i = get_or f i 0

abbrev pub kind_of : (frame : List ℕ) → ℕ
kind_of f = byte_at f 0

abbrev pub pair_at : (frame : List ℕ) → (place : ℕ) → ℕ  -- "Two-byte numbers have the high byte first"
pair_at f i = byte_at f i * 256 + byte_at f (i + 1)

abbrev pub version_at : (frame : List ℕ) → (place : ℕ) → ℕ  -- a version as one number, "major, minor and patch, compared in that order"
version_at f i = byte_at f i * 65536 + byte_at f (i + 1) * 256 + byte_at f (i + 2)

-- THE TABLE OF KINDS of frames: "The length of each kind stands in one table". A text goes by the number that tells which was at fault
abbrev pub catalogues : ℕ
catalogues = 1

abbrev pub sheets : ℕ
sheets = 2

pub record Kind : Type 0 where
  pub text : ℕ
  pub kind : ℕ
  pub digits : ℕ  -- of its line
  pub first : ℕ  -- where in the frame its first, second and third field stand; 0 where it has none
  pub second : ℕ
  pub third : ℕ

abbrev row : (text kind digits first second third : ℕ) → Kind
row t k n a b c = record { text = t; kind = k; digits = n; first = a; second = b; third = c }

unfoldable pub kinds : List Kind
kinds = row catalogues 1 6 1 0 0 ∷ row catalogues 2 12 1 2 0 ∷ row catalogues 3 18 1 2 5 ∷ row catalogues 5 12 1 2 0 ∷ row catalogues 4 4 0 0 0 ∷
    row sheets 32 8 1 0 0 ∷ row sheets 33 8 1 0 0 ∷ row sheets 34 14 1 3 5 ∷ row sheets 36 4 0 0 0 ∷ []

unfoldable pub row_in : List Kind → (text kind : ℕ) → Kind  -- one with no digits for a kind that the text doesn't have
row_in [] t k = row t k 0 0 0 0
row_in (r ∷ rs) t k = cond (eqb r.text t && eqb r.kind k) r (row_in rs t k)

abbrev pub digits_for : (text kind : ℕ) → ℕ
digits_for t k = (row_in kinds t k).digits

-- 4: "a kind that this text doesn't have, or a wrong number of digits for it". A good line has 4 digits or more, so 0 is never its number
unfoldable pub kind_fits : (text : ℕ) → Line → Bool
kind_fits t l = eqb (length l.digits) (digits_for t (kind_of (frame_of l.digits)))

pub record Reader (S : Type 0) : Type 0 where  -- A READER OF TEXTS: `S` is what is known after the lines read so far
  pub text : ℕ
  pub fault : S → (frame : List ℕ) → ℕ  -- 5 or more for a good frame that does not fit
  pub after : S → (frame : List ℕ) → S
  pub is_ended : S → Bool
  pub last : S → ℕ  -- what is wrong at the end's line when every line is good

pub data Read (S : Type 0) : Type 0 where
  bad : Fault → Read S
  got : S → Read S

unfoldable pub line_fault : {S : Type 0} → Reader S → S → Line → ℕ  -- "in it the smallest number"
line_fault r s l = or_else (unless (shape_fits l) 2)
    (or_else (unless (sum_fits l) 3) (or_else (unless (kind_fits r.text l) 4) (r.fault s (frame_of l.digits))))

-- "then the first faulty line"; "no end (line: one past the last)" is 5. `at` is the next line's number
unfoldable pub read_from : {S : Type 0} → Reader S → (at : ℕ) → S → List Line → Read S
read_from r i s [] = cond (r.is_ended s) (cond (eqb (r.last s) 0) (got s) (bad (fault (r.last s) (i - 1)))) (bad (fault 5 i))
read_from r i s (l ∷ ls) = cond (eqb (line_fault r s l) 0) (read_from r (suc i) (r.after s (frame_of l.digits)) ls)
    (bad (fault (line_fault r s l) i))

-- 1, then the lines, which "count from 1"
unfoldable pub read_text : {S : Type 0} → Reader S → (bytes : ℕ) → S → (text : List ℕ) → Read S
read_text r most s t = cond (ltb most (length t)) (bad (fault 1 0)) (read_from r 1 s (lines_of t))

abbrev pub fault_of : {S : Type 0} → Read S → Fault
fault_of (bad x) = x
fault_of (got s) = fine

abbrev pub read_or : {S : Type 0} → S → Read S → S
read_or d (bad x) = d
read_or d (got s) = s

-- WRITTEN FRAMES: "the last byte is there for that", then an LF
abbrev pub digit_byte : ℕ → ℕ
digit_byte d = cond (ltb d 10) (48 + d) (55 + d)

unfoldable pub hex_of : (bytes : List ℕ) → List ℕ
hex_of [] = []
hex_of (b ∷ bs) = digit_byte (b / 16) ∷ digit_byte (b % 16) ∷ hex_of bs

abbrev pub checked : (bytes : List ℕ) → List ℕ
checked bs = bs ++ ((256 - sum bs % 256) % 256 ∷ [])

unfoldable pub frame_text : (bytes : List ℕ) → List ℕ
frame_text bs = hex_of (checked bs) ++ (line_feed ∷ [])

abbrev pub pair_bytes : ℕ → List ℕ
pair_bytes k = k / 256 ∷ k % 256 ∷ []

abbrev pub version_bytes : ℕ → List ℕ
version_bytes v = v / 65536 ∷ v / 256 % 256 ∷ v % 256 ∷ []
