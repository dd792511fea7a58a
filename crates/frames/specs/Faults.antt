-- The numbers of refusals, and the fault of a line as the code tells it. Assumes nothing: these are definitions.
use Rattle.std.specs.Prelude.{Bool, cond, ℕ, ◌*◌, ◌-◌, leb, eqb}
use Rattle.std.specs.declared.result.Result.{Result}
use Rattle.std.specs.declared.result.Result.TheVariants.{Ok, Err}
use Rattle.rules.specs.Frames as Rules
use Rattle.rules.specs.Lines as Texts
use Rattle.rules.specs.Lines.{fine, or_else, unless}
use Rattle.frames.specs.declared.faults.Refusal.{Refusal}
use Rattle.frames.specs.declared.faults.Refusal.TheVariants.{Length, Shape, Sum, Kind, Order, Content, Room, Root, Unrefuting}
use Rattle.frames.specs.declared.faults.Fault.{Fault}

-- THE TABLE's number of each refusal
abbrev pub number_of : Refusal → ℕ
number_of Length = 1
number_of Shape = 2
number_of Sum = 3
number_of Kind = 4
number_of Order = 5
number_of Content = 6
number_of Room = 7
number_of Root = 8
number_of Unrefuting = 13

-- the number told by an answer; 0 where nothing is refused
abbrev pub told : {A : Type 0} → Result A Refusal → ℕ
told (Ok x) = 0
told (Err r) = number_of r

-- the fault told by an answer
abbrev pub fault_told : {A : Type 0} → Result A Fault → Texts.Fault
fault_told (Ok x) = fine
fault_told (Err f) = Texts.fault (number_of f.refusal) f.line

-- 2, 3 and 4 by the bytes of a line and their sum, and then what is wrong with the frame
unfoldable pub line_fault_of : (bytes sum : ℕ) → Rules.Kind → (frame : ℕ) → ℕ
line_fault_of n x r y = or_else (unless (leb 2 n) 2) (or_else (unless (eqb x 0) 3) (or_else (unless (eqb r.digits (n * 2)) 4) y))

-- the fault told behind the last line: the one found in the lines; else 5 where there is no end, and what is wrong at the end's line
unfoldable pub end_fault : (number line : ℕ) → (is_ended : Bool) → (last : ℕ) → Texts.Fault
end_fault n i z k = cond (eqb n 0) (cond z (cond (eqb k 0) fine (Texts.fault k (i - 1))) (Texts.fault 5 i)) (Texts.fault n i)
