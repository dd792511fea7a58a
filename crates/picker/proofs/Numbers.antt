-- The numbers of refusals: a refusal's number is not 0 and no more than its reader tells (`text_told`), so the number alone tells whether a text is
-- refused (`text_fine`, `sheet_fine`). Assumes nothing.
use mathlib.Core.Path.{◌≡◌, refl}
use mathlib.Core.Logic.{◌≢◌}
use mathlib.Core.Bool.{Bool, true, false, cond}
use mathlib.Core.List.{List, [], ◌∷◌}
use Prim.Native.Nat.{ℕ, suc, ◌-◌, ◌≤◌}
use native.Mathlib.Omega.{arith}
use lib.Dec.{ltb, eqb}
use lib.ListN.{length}
use borrow.Author.Tests.{eqb-false}
use Rattle.rules.specs.Lines.{fault, fine, or_else, unless, Line, lines_of, shape_fits}
use Rattle.rules.specs.Frames.{frame_of, sum_fits, kind_fits, Reader, Read, bad, got, line_fault, read_from, read_text, fault_of}
use Rattle.rules.specs.Catalogue.{Catalogue, Reading, reading, no_catalogue, limits, order_fits, content_fits, room_fits, root_fits, catalogue_reader, text_fault}
use Rattle.rules.specs.Sheet.{refutes, last_line, sheet_order_fits, sheet_content_fits, sheet_reader, sheet_reading, sheet_fault}

or_else_most : (n m most : ℕ) → n ≤ most → m ≤ most → or_else n m ≤ most
or_else_most n m most p q = go (eqb n 0)
  where
    go : (b : Bool) → cond b m n ≤ most
    go true = q
    go false = p

unless_most : (b : Bool) (n most : ℕ) → n ≤ most → unless b n ≤ most
unless_most true n most l = omega arith
unless_most false n most l = l

-- tests in their order
two_most : (a b : Bool) (x y most : ℕ) → x ≤ most → y ≤ most → or_else (unless a x) (unless b y) ≤ most
two_most a b x y most p q = or_else_most _ _ most (unless_most a x most p) (unless_most b y most q)

three_most : (a b d : Bool) (x y z most : ℕ) → x ≤ most → y ≤ most → z ≤ most → or_else (unless a x) (or_else (unless b y) (unless d z)) ≤ most
three_most a b d x y z most p q r =
    or_else_most _ _ most (unless_most a x most p) (two_most b d y z most q r)

-- A READER whose frames and end tell no number above `most`
module _ {S : Type 0} (r : Reader S) (most : ℕ) (five : 5 ≤ most) (of-frame : (s : S) (f : List ℕ) → r.fault s f ≤ most)
    (of_end : (s : S) → r.last s ≤ most) where
  abbrev Told : Read S → Type 0
  Told (bad x) = (x.number ≢ 0) × (x.number ≤ most)
  Told (got s) = Unit {0}

  line_most : (s : S) (l : Line) → line_fault r s l ≤ most
  unfolding line_fault
  line_most s l =
      or_else_most _ _ most (unless_most (shape_fits l) 2 most (omega arith))
      (or_else_most _ _ most (unless_most (sum_fits l) 3 most (omega arith))
      (or_else_most _ _ most (unless_most (kind_fits r.text l) 4 most (omega arith)) (of-frame s (frame_of l.digits))))

  lines_told : (i : ℕ) (s : S) (ls : List Line) → Told (read_from r i s ls)
  unfolding read_from
  lines_told i s [] = go (r.is_ended s) (eqb (r.last s) 0) refl
    where
      go : (a b : Bool) → eqb (r.last s) 0 ≡ b → Told (cond a (cond b (got s) (bad (fault (r.last s) (i - 1)))) (bad (fault 5 i)))
      go true true e = tt
      go true false e = (eqb-false (r.last s) 0 e, of_end s)
      go false b e = (λ h. omega arith, five)
  lines_told i s (l ∷ ls) = go (eqb (line_fault r s l) 0) refl (lines_told (suc i) (r.after s (frame_of l.digits)) ls)
    where
      rest : Read S
      rest = read_from r (suc i) (r.after s (frame_of l.digits)) ls

      go : (b : Bool) → eqb (line_fault r s l) 0 ≡ b → Told rest → Told (cond b rest (bad (fault (line_fault r s l) i)))
      go true e h = h
      go false e h = (eqb-false (line_fault r s l) 0 e, line_most s l)

  text_told : (bytes : ℕ) (s : S) (t : List ℕ) → Told (read_text r bytes s t)
  unfolding read_text
  text_told bytes s t = go (ltb bytes (length t)) (lines_told 1 s (lines_of t))
    where
      go : (b : Bool) → Told (read_from r 1 s (lines_of t)) → Told (cond b (bad (fault 1 0)) (read_from r 1 s (lines_of t)))
      go true h = (λ e. omega arith, omega arith)
      go false h = h

  module _ (bytes : ℕ) (s : S) (t : List ℕ) where
    fine_by_number : (fault_of (read_text r bytes s t)).number ≡ 0 → fault_of (read_text r bytes s t) ≡ fine
    fine_by_number = go (read_text r bytes s t) (text_told bytes s t)
      where
        go : (x : Read S) → Told x → (fault_of x).number ≡ 0 → fault_of x ≡ fine
        go (bad x) h e = absurd (h.0 e)
        go (got u) h e = refl

    number_most : (fault_of (read_text r bytes s t)).number ≤ most
    number_most = go (read_text r bytes s t) (text_told bytes s t)
      where
        go : (x : Read S) → Told x → (fault_of x).number ≤ most
        go (bad x) h = h.1
        go (got u) h = omega arith

-- OF A CATALOGUE'S TEXT no number above 8 is told
frame_most : (s : Reading) (f : List ℕ) → (catalogue_reader limits).fault s f ≤ 8
frame_most s f = three_most (order_fits s f) (content_fits s.sofar f) (room_fits limits s.sofar f) 5 6 7 8 (omega arith) (omega arith) (omega arith)

end_most : (s : Reading) → (catalogue_reader limits).last s ≤ 8
end_most s = unless_most (root_fits s.sofar) 8 8 (omega arith)

pub text_fine : (t : List ℕ) → (text_fault limits t).number ≡ 0 → text_fault limits t ≡ fine
text_fine t e = fine_by_number (catalogue_reader limits) 8 (omega arith) frame_most end_most limits.bytes (reading 0 no_catalogue) t e

pub text_most : (t : List ℕ) → (text_fault limits t).number ≤ 8
text_most t = number_most (catalogue_reader limits) 8 (omega arith) frame_most end_most limits.bytes (reading 0 no_catalogue) t

-- and of a sheet's none above 13
pub sheet_fine : (c : Catalogue) (h : List ℕ) → (sheet_fault limits c h).number ≡ 0 → sheet_fault limits c h ≡ fine
sheet_fine c h e =
    fine_by_number (sheet_reader c) 13 (omega arith)
    (λ s f. two_most (sheet_order_fits s f) (sheet_content_fits c s f) 5 6 13 (omega arith) (omega arith))
    (λ s. unless_most (refutes c (last_line c s.entries)) 13 13 (omega arith)) limits.bytes (sheet_reading 0 0 []) h e
