-- The line loop that all readers share: a text is read without a fault exactly when there is a run through its lines, and what holds at the
-- start of a run and is kept by each good line holds at its end. Two readers that find the same in every frame tell the same fault (`same_told`).
-- Assumes nothing.
use mathlib.Core.Path.{◌≡◌, refl, ap}
use mathlib.Core.Logic.{◌≢◌}
use mathlib.Core.Bool.{Bool, true, false, cond}
use mathlib.Core.List.{List, [], ◌∷◌}
use Prim.Native.Nat.{ℕ, suc, ◌-◌, ◌≤◌}
use native.Mathlib.Omega.{arith}
use lib.Dec.{ltb, eqb}
use lib.ListN.{length}
use borrow.Author.Tests.{leb-true, eqb-true, eqb-false, ltb-false, le-ltb}
use Rattle.rules.specs.Lines.{Fault, fault, fine, or_else, unless, Line, lines_of, shape_fits}
use Rattle.rules.specs.Frames.{frame_of, kind_of, digits_for, sum_fits, kind_fits, Reader, Read, bad, got, line_fault, read_from, read_text, fault_of}
use Rattle.rules.proofs.Lists.{and_fst, and_snd}

-- a run of a reader from a state through lines to a state: every line is good, and the last is the end
pub data Run {S : Type 0} (r : Reader S) : S → List Line → S → Type 0 where
  stop : {s : S} → r.is_ended s ≡ true → r.last s ≡ 0 → Run r s [] s
  step : {s u : S} {l : Line} {ls : List Line} → line_fault r s l ≡ 0 → Run r (r.after s (frame_of l.digits)) ls u → Run r s (l ∷ ls) u

-- a line with no fault passes each of the tests
pub record Good {S : Type 0} (r : Reader S) (s : S) (l : Line) : Type 0 where
  pub shape : shape_fits l ≡ true
  pub sum : sum_fits l ≡ true
  pub kind : kind_fits r.text l ≡ true
  pub content : r.fault s (frame_of l.digits) ≡ 0

-- the order of checks tells no fault exactly when there is none
pub or_else_none : (n m : ℕ) → or_else n m ≡ 0 → (n ≡ 0) × (m ≡ 0)
or_else_none n m e = go (eqb n 0) refl e
  where
    go : (b : Bool) → eqb n 0 ≡ b → cond b m n ≡ 0 → (n ≡ 0) × (m ≡ 0)
    go true p q = (eqb-true n 0 p, q)
    go false p q = absurd (eqb-false n 0 p q)

-- a test that tells no fault passes
pub unless_none : (b : Bool) (n : ℕ) → n ≢ 0 → unless b n ≡ 0 → b ≡ true
unless_none true n h e = refl
unless_none false n h e = absurd (h e)

module _ {S : Type 0} (r : Reader S) where
  pub good_line : (s : S) (l : Line) → line_fault r s l ≡ 0 → Good r s l
  unfolding line_fault
  good_line s l e =
      let one = or_else_none (unless (shape_fits l) 2) _ e in
      let two = or_else_none (unless (sum_fits l) 3) _ one.1 in
      let three = or_else_none (unless (kind_fits r.text l) 4) _ two.1 in
      record {
        shape = unless_none (shape_fits l) 2 (omega arith) one.0;
        sum = unless_none (sum_fits l) 3 (omega arith) two.0;
        kind = unless_none (kind_fits r.text l) 4 (omega arith) three.0;
        content = three.1;
      }

  pub line_good : (s : S) (l : Line) → Good r s l → line_fault r s l ≡ 0
  unfolding line_fault
  line_good s l g = rw (g.shape, g.sum, g.kind) g.content

  -- a run is what the loop gives
  pub run_got : (i : ℕ) {s u : S} {ls : List Line} → Run r s ls u → read_from r i s ls ≡ got u
  unfolding read_from
  run_got i (stop e z) = rw (e, z)
  run_got i (step e n) = rw e (run_got (suc i) n)

  -- the fault told is fine only where the text is read
  pub fine_run : (i : ℕ) (s : S) (ls : List Line) → fault_of (read_from r i s ls) ≡ fine → (u : S) × (read_from r i s ls ≡ got u) × Run r s ls u
  unfolding read_from
  fine_run i s [] e = go (r.is_ended s) refl (eqb (r.last s) 0) refl e
    where
      five_not_zero : (◌≡◌ {A = ℕ} 5 0) → ⊥
      five_not_zero h = omega arith

      ended : Bool → Bool → Read S
      ended a b = cond a (cond b (got s) (bad (fault (r.last s) (i - 1)))) (bad (fault 5 i))

      go : (a : Bool) → r.is_ended s ≡ a → (b : Bool) → eqb (r.last s) 0 ≡ b → fault_of (ended a b) ≡ fine →
          (u : S) × (ended a b ≡ got u) × Run r s [] u
      go true p true q h = (s, refl, stop p (eqb-true (r.last s) 0 q))
      go true p false q h = absurd (eqb-false (r.last s) 0 q (ap (λ (x : Fault). x.number) h))
      go false p b q h = absurd (five_not_zero (ap (λ (x : Fault). x.number) h))
  fine_run i s (l ∷ ls) e = go (eqb (line_fault r s l) 0) refl e (λ h. fine_run (suc i) (r.after s (frame_of l.digits)) ls h)
    where
      rest : Read S
      rest = read_from r (suc i) (r.after s (frame_of l.digits)) ls

      read : Bool → Read S
      read b = cond b rest (bad (fault (line_fault r s l) i))

      go : (b : Bool) → eqb (line_fault r s l) 0 ≡ b → fault_of (read b) ≡ fine →
          (fault_of rest ≡ fine → (u : S) × (rest ≡ got u) × Run r (r.after s (frame_of l.digits)) ls u) →
          (u : S) × (read b ≡ got u) × Run r s (l ∷ ls) u
      go true p h k = ((k h).0, (k h).1, step (eqb-true (line_fault r s l) 0 p) (k h).2)
      go false p h k = absurd (eqb-false (line_fault r s l) 0 p (ap (λ (x : Fault). x.number) h))

  -- a text is read without a fault: it is not too long, and there is a run through its lines
  pub fine_text : (most : ℕ) (s : S) (t : List ℕ) → fault_of (read_text r most s t) ≡ fine →
      (u : S) × (read_text r most s t ≡ got u) × (length t ≤ most) × Run r s (lines_of t) u
  unfolding read_text
  fine_text most s t e = go (ltb most (length t)) refl e
    where
      read : Bool → Read S
      read b = cond b (bad (fault 1 0)) (read_from r 1 s (lines_of t))

      one_not_zero : (◌≡◌ {A = ℕ} 1 0) → ⊥
      one_not_zero h = omega arith

      go : (b : Bool) → ltb most (length t) ≡ b → fault_of (read b) ≡ fine →
          (u : S) × (read b ≡ got u) × (length t ≤ most) × Run r s (lines_of t) u
      go true p h = absurd (one_not_zero (ap (λ (x : Fault). x.number) h))
      go false p h = let k = fine_run 1 s (lines_of t) h in (k.0, k.1, ltb-false most (length t) p, k.2)

  -- a text that is not too long, with a run through its lines, is read
  pub run_text : (most : ℕ) (s u : S) (t : List ℕ) → length t ≤ most → Run r s (lines_of t) u → read_text r most s t ≡ got u
  unfolding read_text
  run_text most s u t h n = rw (le-ltb most (length t) h) (run_got 1 n)

  -- what each good line keeps
  pub run_keeps : (P : S → Type 0) → ((s : S) (l : Line) → P s → Good r s l → P (r.after s (frame_of l.digits))) →
      {s u : S} {ls : List Line} → P s → Run r s ls u → P u × (r.is_ended u ≡ true) × (r.last u ≡ 0)
  run_keeps P keeps p (stop e z) = (p, e, z)
  run_keeps P keeps p (step {s} {l = l} e n) = run_keeps P keeps (keeps s l p (good_line s l e)) n

-- equal tests in order, and what follows them where they pass
pub in_order : (a b d : Bool) (x y : ℕ) → (a ≡ true → d ≡ true → x ≡ y) →
    or_else (unless a 2) (or_else (unless b 3) (or_else (unless d 4) x)) ≡ or_else (unless a 2) (or_else (unless b 3) (or_else (unless d 4) y))
in_order false b d x y h = refl
in_order true false d x y h = refl
in_order true true false x y h = refl
in_order true true true x y h = rw (h refl refl)

-- a line that fits its kind is of a kind that the text has
fits_known : (text : ℕ) (l : Line) → shape_fits l ≡ true → kind_fits text l ≡ true → digits_for text (kind_of (frame_of l.digits)) ≢ 0
unfolding shape_fits kind_fits
fits_known text l a d z =
    let four = leb-true 4 (length l.digits) (search (and_fst, and_snd)) in
    let same = eqb-true (length l.digits) (digits_for text (kind_of (frame_of l.digits))) d in
    omega arith

-- TWO READERS of one text whose states go together: both find the same in a frame of a known kind, and stay together after a good one
module _ {S T : Type 0} (r : Reader S) (q : Reader T) (text : r.text ≡ q.text) (R : S → T → Type 0)
    (faults : (s : S) (t : T) → R s t → (f : List ℕ) → digits_for q.text (kind_of f) ≢ 0 → r.fault s f ≡ q.fault t f)
    (goes : (s : S) (t : T) → R s t → (f : List ℕ) → digits_for q.text (kind_of f) ≢ 0 → q.fault t f ≡ 0 → R (r.after s f) (q.after t f))
    (ends : (s : S) (t : T) → R s t → r.is_ended s ≡ q.is_ended t)
    (lasts : (s : S) (t : T) → R s t → q.is_ended t ≡ true → r.last s ≡ q.last t) where
  same_line : (s : S) (t : T) → R s t → (l : Line) → line_fault r s l ≡ line_fault q t l
  unfolding line_fault
  same_line s t p l =
      rw text
      (in_order (shape_fits l) (sum_fits l) (kind_fits q.text l) _ _ (λ a d. faults s t p (frame_of l.digits) (fits_known q.text l a d)))

  same_lines : (i : ℕ) (s : S) (t : T) → R s t → (ls : List Line) → fault_of (read_from r i s ls) ≡ fault_of (read_from q i t ls)
  unfolding read_from
  same_lines i s t p [] = rw (ends s t p) (go (q.is_ended t) refl)
    where
      tell : {A : Type 0} → A → ℕ → Bool → Bool → Read A
      tell x k a b = cond a (cond b (got x) (bad (fault k (i - 1)))) (bad (fault 5 i))

      last : (b : Bool) → fault_of (tell s (q.last t) true b) ≡ fault_of (tell t (q.last t) true b)
      last true = refl
      last false = refl

      go : (a : Bool) → q.is_ended t ≡ a → fault_of (tell s (r.last s) a (eqb (r.last s) 0)) ≡ fault_of (tell t (q.last t) a (eqb (q.last t) 0))
      go true e = rw (lasts s t p e) (last (eqb (q.last t) 0))
      go false e = refl
  same_lines i s t p (l ∷ ls) =
      rw (same_line s t p l) (go (eqb (line_fault q t l) 0) refl (λ h. same_lines (suc i) (r.after s f) (q.after t f) h ls))
    where
      f : List ℕ
      f = frame_of l.digits

      tell : {A : Type 0} → Read A → Bool → Read A
      tell x b = cond b x (bad (fault (line_fault q t l) i))

      go : (b : Bool) → eqb (line_fault q t l) 0 ≡ b →
          (R (r.after s f) (q.after t f) → fault_of (read_from r (suc i) (r.after s f) ls) ≡ fault_of (read_from q (suc i) (q.after t f) ls)) →
          fault_of (tell (read_from r (suc i) (r.after s f) ls) b) ≡ fault_of (tell (read_from q (suc i) (q.after t f) ls) b)
      go true e rest =
          let good = good_line q t l (eqb-true (line_fault q t l) 0 e) in
          rest (goes s t p f (fits_known q.text l good.shape good.kind) good.content)
      go false e rest = refl

  pub same_told : (most : ℕ) (s : S) (t : T) → R s t → (x : List ℕ) → fault_of (read_text r most s x) ≡ fault_of (read_text q most t x)
  unfolding read_text
  same_told most s t p x = go (ltb most (length x))
    where
      go : (b : Bool) → fault_of (cond b (bad (fault 1 0)) (read_from r 1 s (lines_of x))) ≡ fault_of (cond b (bad (fault 1 0)) (read_from q 1 t (lines_of x)))
      go true = refl
      go false = same_lines 1 s t p (lines_of x)
