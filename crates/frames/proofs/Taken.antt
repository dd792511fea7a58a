-- What a line is judged by: the fault of its shape, its sum or its kind comes before that of its frame, and a line without these has its frame's
-- (`line_refused`, `line_taken`); and what is owed of a faulty and of a good frame (`frame_refused`, `frame_kept`). Assumes nothing.
use mathlib.Core.Path.{◌≡◌, refl, sym, ◌∙◌}
use mathlib.Core.Logic.{◌≢◌}
use mathlib.Core.Bool.{Bool, true, false}
use mathlib.Core.List.{List}
use Prim.Native.Nat.{ℕ, ◌*◌}
use native.Mathlib.Omega.{arith}
use lib.Dec.{leb, eqb}
use Rattle.rules.specs.Lines.{or_else, unless}
use Rattle.rules.specs.Frames as Rules
use Rattle.rules.specs.Frames.{byte_at, Reader}
use Rattle.frames.specs.Faults.{number_of, line_fault_of}
use Rattle.frames.specs.declared.faults.Refusal.{Refusal}
use Rattle.frames.specs.declared.faults.Refusal.TheVariants.{Length, Shape, Sum, Kind, Order, Content, Room, Root, Unrefuting}
use Rattle.frames.specs.Kinds.{row_for}
use Rattle.frames.specs.Texts.{Kept, FrameTaken, LineTaken}

-- no refusal has the number 0
pub some_number : (x : Refusal) → number_of x ≢ 0
some_number Length e = omega arith
some_number Shape e = omega arith
some_number Sum e = omega arith
some_number Kind e = omega arith
some_number Order e = omega arith
some_number Content e = omega arith
some_number Room e = omega arith
some_number Root e = omega arith
some_number Unrefuting e = omega arith

-- the tests of a line, and then a number
tests : (a b d : Bool) → ℕ → ℕ
tests a b d y = or_else (unless a 2) (or_else (unless b 3) (or_else (unless d 4) y))

tests_fail : (a b d : Bool) → tests a b d 0 ≢ 0 → (y : ℕ) → tests a b d y ≡ tests a b d 0
unfolding tests
tests_fail false b d z y = refl
tests_fail true false d z y = refl
tests_fail true true false z y = refl
tests_fail true true true z y = absurd (z refl)

tests_pass : (a b d : Bool) → tests a b d 0 ≡ 0 → (y : ℕ) → tests a b d y ≡ y
unfolding tests
tests_pass false b d z y = absurd (omega arith)
tests_pass true false d z y = absurd (omega arith)
tests_pass true true false z y = absurd (omega arith)
tests_pass true true true z y = refl

-- the row of the kind that a line's first byte tells
abbrev row_at : (text : ℕ) → (bytes : List ℕ) → Rules.Kind
row_at t bs = row_for t (byte_at bs 0)

module _ {K S : Type 0} (r : Reader K) (stands : S → K → Type 0) {old : S} {bytes : List ℕ} {size total : ℕ} where
  -- what is wrong with the line itself is told, whatever its frame
  pub line_refused : {n : ℕ} → n ≢ 0 → n ≡ line_fault_of size total (row_at r.text bytes) 0 → LineTaken r stands old old bytes size total n
  unfolding line_fault_of tests
  line_refused {n} some e =
      record {
        taken = λ u f h kept. (
          e ∙ sym (tests_fail (leb 2 size) (eqb total 0) (eqb (row_at r.text bytes).digits (size * 2)) (λ z. some (e ∙ z)) (r.fault u f)),
          λ z. absurd (some z),
        );
        stays = λ u h z. h;
      }

  -- where nothing is, what the reader tells of the frame is told
  pub line_taken : {new : S} {n : ℕ} → line_fault_of size total (row_at r.text bytes) 0 ≡ 0 → FrameTaken r stands old new bytes n →
      LineTaken r stands old new bytes size total n
  unfolding line_fault_of tests
  line_taken {new} {n} fine t =
      record {
        taken = λ u f h kept. (
          t.number_is u f h (kept fine) ∙ sym (tests_pass (leb 2 size) (eqb total 0) (eqb (row_at r.text bytes).digits (size * 2)) fine (r.fault u f)),
          t.goes_on u f h (kept fine),
        );
        stays = t.stays;
      }

-- where the number told of a frame is the reader's, a faulty frame need change nothing, and a good one need lead to the reading after it
module _ {K S : Type 0} (r : Reader K) (stands : S → K → Type 0) {old : S} {bytes : List ℕ} {n : ℕ}
    (is : (u : K) (f : List ℕ) → stands old u → Kept r.text bytes f → n ≡ r.fault u f) where
  pub frame_refused : n ≢ 0 → FrameTaken r stands old old bytes n
  frame_refused some = record { number_is = is; goes_on = λ u f h kept none. absurd (some none); stays = λ u h z. h }

  pub frame_kept : {new : S} → n ≡ 0 → ((u : K) (f : List ℕ) → stands old u → Kept r.text bytes f → r.fault u f ≡ 0 → stands new (r.after u f)) →
      FrameTaken r stands old new bytes n
  frame_kept none goes =
      record { number_is = is; goes_on = λ u f h kept z. goes u f h kept (sym (is u f h kept) ∙ z); stays = λ u h some. absurd (some none) }
