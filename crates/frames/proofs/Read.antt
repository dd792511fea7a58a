-- The reading of lines by a reader's code: what it stands for at the start of each line (`Under`), that a good line keeps it so (`line_good`), and what is
-- owed where the reading stops (`ends`, `wrong`, `line_refused`), and of the whole text (`too_long`, `faulty_lines`, `good_lines`). Assumes nothing.
use mathlib.Core.Path.{◌≡◌, refl, sym, ◌∙◌, ap, subst}
use mathlib.Core.Logic.{◌≢◌}
use mathlib.Core.Bool.{true, false, cond}
use mathlib.Core.List.{List, []}
use Prim.Native.Nat.{ℕ, ◌+◌, ◌-◌, ◌≤◌, ◌<◌}
use native.Mathlib.Omega.{arith}
use lib.Dec.{eqb}
use lib.ListN.{length}
use borrow.Author.Tests.{ne_eqb, lt-ltb, le-ltb}
use Rattle.std.specs.declared.result.Result.{Result}
use Rattle.std.specs.declared.result.Result.TheVariants.{Ok, Err}
use Rattle.rules.specs.Lines.{Fault, fault, fine, lines_of}
use Rattle.rules.specs.Frames.{frame_of, Reader, bad, read_from, read_text, fault_of}
use Rattle.frames.specs.Digits.{pair_at}
use Rattle.frames.specs.Faults.{number_of, end_fault}
use Rattle.frames.specs.Texts.{read_on, reached_from, LineTaken, LinesTaken, TextRead}
use Rattle.frames.specs.declared.digits.Pair.TheVariants.{LineFeed, Wrong}
use Rattle.frames.specs.declared.faults.Fault as Told
use Rattle.frames.specs.declared.faults.Refusal.{Refusal}
use Rattle.frames.specs.declared.faults.Refusal.TheVariants.{Shape}
use Rattle.frames.proofs.InLine.{InLine}
use Rattle.frames.proofs.Judged.{fits_kept}
use Rattle.frames.proofs.Taken.{some_number}
use Rattle.frames.proofs.Steps.{AtLine, Stopped, Counted, end_stops, wrong_stops, line_stops, line_goes_on, stopped_fault}

-- the line of an answer, and whether it has one
line_in : Result ℕ Told.Fault → ℕ
line_in (Ok i) = i + 1
line_in (Err x) = 0

ok_same : {i j : ℕ} → ◌≡◌ {A = Result ℕ Told.Fault} (Ok i) (Ok j) → i ≡ j
unfolding line_in
ok_same {i} {j} e = let same : i + 1 ≡ j + 1 = ap line_in e in omega arith

no_ok : {x : Told.Fault} {j : ℕ} → ◌≡◌ {A = Result ℕ Told.Fault} (Err x) (Ok j) → ⊥
unfolding line_in
no_ok {x} {j} e = let none : ◌≡◌ {A = ℕ} 0 (j + 1) = ap line_in e in omega arith

module _ {K S : Type 0} (r : Reader K) (stands : S → K → Type 0) where
  -- whatever the code stood for when the text began, it now stands for the reading of the lines before this one
  abbrev pub Under : (text : List ℕ) → (at number : ℕ) → (begin now : S) → Type 0
  Under text at number a b = (u : K) → stands a u → (v : K) × AtLine r u text at number v × stands b v

  -- what is owed where the reading stops with a reading that the code stands for
  owed : {text : List ℕ} {b : S} (u v : K) (n i : ℕ) (x : Result ℕ Told.Fault) → Stopped r u text n i v → stands b v →
      ((w : K) → cond (eqb n 0) (read_from r i w []) (bad (fault n i)) ≡ read_on r w x) → ((j : ℕ) → x ≡ Ok j → 1 ≤ j) →
      LinesTaken r stands u text b x
  owed {text} {b} u v n i x s h same counted =
      record {
        reached = subst (stands b) s.reach h;
        outcome = s.outcome ∙ same v ∙ ap (λ (w : K). read_on r w x) s.reach;
        counted = counted;
      }

  module _ {text : List ℕ} {at number : ℕ} {a b : S} (h : Under text at number a b) (u : K) (z : stands a u) where
    here : (v : K) × AtLine r u text at number v × stands b v
    here = h u z

    -- at the end of the text
    pub ends : Counted text at number → length text ≤ at → LinesTaken r stands u text b (Ok number)
    ends c e =
        let (v, line, there) = here in
        owed u v 0 number (Ok number) (end_stops r u line e) there (λ w. refl) (λ j e. subst (λ (i : ℕ). 1 ≤ i) (ok_same e) c.first)

    -- at a fault of its number
    faulty : (x : Refusal) {n : ℕ} {b' : S} → n ≡ number_of x → (v : K) → Stopped r u text n number v → stands b' v →
        LinesTaken r stands u text b' (Err (record { refusal = x; line = number }))
    faulty x {n} same v s there =
        owed u v n number (Err (record { refusal = x; line = number })) s there
        (λ w. rw (ne_eqb n 0 (λ e. some_number x (sym same ∙ e))) (ap (λ (k : ℕ). bad (fault k number)) same)) (λ j e. absurd (no_ok e))

    -- at something wrong in a line
    pub wrong : {to : ℕ} {bytes : List ℕ} {size total : ℕ} → InLine text at to bytes size total → pair_at text to ≡ Wrong →
        LinesTaken r stands u text b (Err (record { refusal = Shape; line = number }))
    wrong q e = let (v, line, there) = here in faulty Shape refl v (wrong_stops r u line q e) there

    -- at a line's end, by what is told of the line
    module _ {to : ℕ} {bytes : List ℕ} {size total n : ℕ} {b' : S} (q : InLine text at to bytes size total) (e : pair_at text to ≡ LineFeed)
        (t : LineTaken r stands b b' bytes size total n) where
      pub line_refused : (x : Refusal) → n ≡ number_of x → LinesTaken r stands u text b' (Err (record { refusal = x; line = number }))
      line_refused x same =
          let (v, line, there) = here in
          let some = λ (e : n ≡ 0). some_number x (sym same ∙ e) in
          faulty x same v (line_stops r u line q e (λ k. refl) (t.taken v (frame_of q.digits) there (fits_kept r.text q)).0 some) (t.stays v there some)

      pub line_good : n ≡ 0 → (v : K) × AtLine r u text (to + 1) (number + 1) v × stands b' v
      line_good z =
          let (v, line, there) = here in
          let taken = t.taken v (frame_of q.digits) there (fits_kept r.text q) in
          (r.after v (frame_of q.digits), line_goes_on r u line q e (λ k. refl) taken.0 z, taken.1 z)

-- WHAT IS TOLD behind the last line, by the reader's own tests
module _ {K : Type 0} (r : Reader K) (i : ℕ) (v : K) where
  abbrev Told_by : Fault → Type 0
  Told_by x = x ≡ end_fault 0 i (r.is_ended v) (r.last v)

  pub not_ended : r.is_ended v ≡ false → Told_by (fault 5 i)
  unfolding end_fault
  not_ended e = rw e

  pub last_faulty : {n : ℕ} → r.is_ended v ≡ true → n ≡ r.last v → n ≢ 0 → Told_by (fault n (i - 1))
  unfolding end_fault
  last_faulty {n} e same some = rw (e, ne_eqb (r.last v) 0 (λ z. some (same ∙ z))) (ap (λ (k : ℕ). fault k (i - 1)) same)

  pub all_good : r.is_ended v ≡ true → r.last v ≡ 0 → Told_by fine
  unfolding end_fault
  all_good e same = rw (e, same)

-- THE WHOLE TEXT: one that is too long, one with a fault in its lines, and one without
module _ {K S : Type 0} (r : Reader K) (stands : S → K → Type 0) {most : ℕ} {text : List ℕ} {u : K} {b : S} where
  pub too_long : most < length text → stands b u → TextRead r stands most u text b (fault 1 0)
  unfolding read_text
  too_long h z =
      record {
        fault_is = rw (lt-ltb most (length text) h);
        reached = rw (lt-ltb most (length text) h) z;
      }

  whole : {x : Result ℕ Told.Fault} {y : Fault} → length text ≤ most → LinesTaken r stands u text b x →
      y ≡ fault_of (read_from r 1 u (lines_of text)) → TextRead r stands most u text b y
  unfolding read_text
  whole h t same =
      record {
        fault_is = rw (le-ltb most (length text) h) same;
        reached = rw (le-ltb most (length text) h) t.reached;
      }

  pub faulty_lines : {x : Told.Fault} → length text ≤ most → LinesTaken r stands u text b (Err x) →
      TextRead r stands most u text b (fault (number_of x.refusal) x.line)
  faulty_lines h t = whole h t (ap fault_of (sym t.outcome))

  pub good_lines : {i : ℕ} {y : Fault} → length text ≤ most → LinesTaken r stands u text b (Ok i) →
      Told_by r i (reached_from r u (lines_of text)) y → TextRead r stands most u text b y
  good_lines h t same = whole h t (same ∙ stopped_fault r (reached_from r u (lines_of text)) (record { reach = refl; outcome = t.outcome }))
