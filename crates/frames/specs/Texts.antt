-- What a reader's code owes of a frame, of a line and of a text, by the rules' reader: `stands` says for which reading of the rules the code's own
-- state stands. Assumes nothing: these are definitions.
use Rattle.std.specs.Prelude.{◌≡◌, ◌≢◌, cond, List, [], ◌∷◌, ℕ, ◌≤◌, ◌<◌, ltb, eqb, length}
use Rattle.std.specs.declared.result.Result.{Result}
use Rattle.std.specs.declared.result.Result.TheVariants.{Ok, Err}
use Rattle.rules.specs.Lines.{Fault, fault, Line, lines_of}
use Rattle.rules.specs.Frames.{frame_of, byte_at, kind_of, digits_for, Reader, Read, bad, line_fault, read_from, read_text, fault_of}
use Rattle.frames.specs.Faults.{number_of, line_fault_of}
use Rattle.frames.specs.Kinds.{row_for}
use Rattle.frames.specs.declared.faults.Fault as Told

-- of a frame whose line fits its kind: the kind is one of the text's, its bytes are bytes, and those that were kept are all of them
pub record Kept (text : ℕ) (kept frame : List ℕ) : Type 0 where
  pub known : digits_for text (kind_of frame) ≢ 0
  pub small : (i : ℕ) → byte_at frame i < 256
  pub alike : (i : ℕ) → byte_at kept i ≡ byte_at frame i

-- the state in which a reader meets the first faulty line, or the end
unfoldable pub reached_from : {S : Type 0} → Reader S → S → List Line → S
reached_from r s [] = s
reached_from r s (l ∷ ls) = cond (eqb (line_fault r s l) 0) (reached_from r (r.after s (frame_of l.digits)) ls) s

-- how a reading goes on after all its lines, by the line past them, or by the fault found in them
abbrev pub read_on : {K : Type 0} → Reader K → K → Result ℕ Told.Fault → Read K
read_on r u (Ok i) = read_from r i u []
read_on r u (Err x) = bad (fault (number_of x.refusal) x.line)

module _ {K S : Type 0} (r : Reader K) (stands : S → K → Type 0) where
  -- A FRAME of a line that fits its kind: the number told is that of the rules' reader, and a good frame leads to the reading after it
  pub record FrameTaken (old new : S) (bytes : List ℕ) (number : ℕ) : Type 0 where
    pub number_is : (u : K) (f : List ℕ) → stands old u → Kept r.text bytes f → number ≡ r.fault u f
    pub goes_on : (u : K) (f : List ℕ) → stands old u → Kept r.text bytes f → number ≡ 0 → stands new (r.after u f)
    pub stays : (u : K) → stands old u → number ≢ 0 → stands new u

  -- A LINE, by the bytes kept of it, how many there are and their sum
  pub record LineTaken (old new : S) (bytes : List ℕ) (size total number : ℕ) : Type 0 where
    pub taken : (u : K) (f : List ℕ) → stands old u → (line_fault_of size total (row_for r.text (byte_at bytes 0)) 0 ≡ 0 → Kept r.text bytes f) →
        (number ≡ line_fault_of size total (row_for r.text (byte_at bytes 0)) (r.fault u f)) × (number ≡ 0 → stands new (r.after u f))
    pub stays : (u : K) → stands old u → number ≢ 0 → stands new u

  -- ALL LINES as far as the first faulty one
  pub record LinesTaken (u : K) (text : List ℕ) (new : S) (x : Result ℕ Told.Fault) : Type 0 where
    pub reached : stands new (reached_from r u (lines_of text))
    pub outcome : read_from r 1 u (lines_of text) ≡ read_on r (reached_from r u (lines_of text)) x
    pub counted : (i : ℕ) → x ≡ Ok i → 1 ≤ i

  -- A TEXT of at most so many bytes: its fault is the one that the rules' reader finds; one that is too long is not read
  pub record TextRead (most : ℕ) (u : K) (text : List ℕ) (new : S) (x : Fault) : Type 0 where
    pub fault_is : x ≡ fault_of (read_text r most u text)
    pub reached : stands new (cond (ltb most (length text)) u (reached_from r u (lines_of text)))
