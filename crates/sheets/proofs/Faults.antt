-- A frame of a known kind: its fault (`fault_law`) and how the reading goes on (`after_law`) are those of the rules' reader, told by its fields and
-- the little that the code keeps beside the rows. Assumes nothing.
use mathlib.Core.Path.{◌≡◌, refl, sym, ◌∙◌, ap}
use mathlib.Core.Logic.{⊎_elim, ◌≢◌}
use mathlib.Core.Bool.{Bool, true, false, ◌&&◌, not, cond}
use mathlib.Core.List.{List}
use Prim.Native.Nat.{ℕ}
use native.Mathlib.Numerals.{add-one}
use lib.Dec.{eqb}
use lib.ListN.{length}
use borrow.Author.Tests.{ne_eqb}
use Rattle.rules.specs.Lines.{or_else, unless}
use Rattle.rules.specs.Frames.{kind_of, sheets, kinds, row_in, digits_for}
use Rattle.rules.specs.Catalogue.{Catalogue}
use Rattle.rules.specs.Sheet.{SheetReading, sheet_reader, sheet_order_fits, sheet_content_fits, with_sheet_frame}
use Rattle.rules.proofs.Lists.{same_or_not, length_last}
use Rattle.store.specs.Frame.{checks}
use Rattle.sheets.specs.Frame.{Fields, State, state_of, fields_at, fields_in, frame_fault, after}

-- THE KINDS of a sheet's frames
pub data Known (kind : ℕ) : Type 0 where
  a_head : kind ≡ 32 → Known kind
  a_need : kind ≡ 33 → Known kind
  a_resolved : kind ≡ 34 → Known kind
  an_end : kind ≡ 36 → Known kind

-- there is no other kind
pub known_kind : (k : ℕ) → digits_for sheets k ≢ 0 → Known k
unfolding row_in kinds
known_kind k h =
    ⊎_elim a_head (λ a. ⊎_elim a_need (λ b. ⊎_elim a_resolved (λ c. ⊎_elim an_end (λ d. absurd (h (none a b c d)))
    (same_or_not k 36)) (same_or_not k 34)) (same_or_not k 33)) (same_or_not k 32)
  where
    none : k ≢ 32 → k ≢ 33 → k ≢ 34 → k ≢ 36 → digits_for sheets k ≡ 0
    none a b c d =
        rw (
          ne_eqb 32 k (λ p. a (sym p)),
          digits_for,
          row_in,
          ne_eqb 33 k (λ p. b (sym p)),
          ne_eqb 34 k (λ p. c (sym p)),
          ne_eqb 36 k (λ p. d (sym p)),
        )

-- the fields of a frame by its row of the table of kinds
abbrev fields_by : (kind : ℕ) → (frame : List ℕ) → Fields
fields_by k f = fields_at (row_in kinds sheets k).first (row_in kinds sheets k).second (row_in kinds sheets k).third f

-- the places of the fields, kind by kind
module _ (f : List ℕ) where
  by_kind : (k : ℕ) → kind_of f ≡ k → fields_in f ≡ fields_by k f
  by_kind k e = ap (λ (n : ℕ). fields_by n f) e

  pub head_fields : kind_of f ≡ 32 → fields_in f ≡ fields_at 1 0 0 f
  unfolding row_in kinds
  head_fields e = by_kind 32 e

  pub need_fields_lem : kind_of f ≡ 33 → fields_in f ≡ fields_at 1 0 0 f
  unfolding row_in kinds
  need_fields_lem e = by_kind 33 e

  pub resolved_fields : kind_of f ≡ 34 → fields_in f ≡ fields_at 1 3 5 f
  unfolding row_in kinds
  resolved_fields e = by_kind 34 e

  pub end_fields : kind_of f ≡ 36 → fields_in f ≡ fields_at 0 0 0 f
  unfolding row_in kinds
  end_fields e = by_kind 36 e

-- CHECKS of the code and of the rules, test by test
checks_law : {a b x y : Bool} → a ≡ x → b ≡ y → checks a b true ≡ or_else (unless x 5) (unless y 6)
unfolding checks
checks_law {a} {b} p q = rw (← p, ← q) (go a b)
  where
    go : (x y : Bool) → or_else (unless x 5) (or_else (unless y 6) 0) ≡ or_else (unless x 5) (unless y 6)
    go true true = refl
    go true false = refl
    go false y = refl

-- what is tested in the body fails before the head
body_law : (n : ℕ) (b d : Bool) → b ≡ d → (eqb n 1 && b) ≡ cond (eqb n 0) false (eqb n 1 && d)
body_law n b d p = ⊎_elim (λ e. rw e) (λ e. rw (ne_eqb n 0 e, p)) (same_or_not n 0)

-- the head's place is before everything
head_law : (n : ℕ) (z : Bool) → eqb n 0 ≡ cond (eqb n 0) true (eqb n 1 && cond z false false)
head_law n z = go (eqb n 0) (eqb n 1) z
  where
    go : (x y d : Bool) → x ≡ cond x true (y && cond d false false)
    go true y d = refl
    go false true true = refl
    go false true false = refl
    go false false d = refl

-- lines are due, or none is
due_law : (z : Bool) → not z ≡ cond z false true
due_law true = refl
due_law false = refl

none_due_law : (z : Bool) → z ≡ cond z true false
none_due_law true = refl
none_due_law false = refl

module _ (c : Catalogue) (u : SheetReading) (f : List ℕ) where
  -- FAULTS, kind by kind: what the code tells, by the fields, is the reader's
  abbrev told : Fields → ℕ
  told g = frame_fault (state_of u) c.modules (length c.needs) g

  head_fault_lem : kind_of f ≡ 32 → told (fields_at 1 0 0 f) ≡ (sheet_reader c).fault u f
  unfolding frame_fault sheet_order_fits sheet_content_fits
  head_fault_lem e = rw e (checks_law (head_law u.stands (eqb u.due 0)) refl)

  need_fault_lem : kind_of f ≡ 33 → told (fields_at 1 0 0 f) ≡ (sheet_reader c).fault u f
  unfolding frame_fault sheet_order_fits sheet_content_fits
  need_fault_lem e = rw e (checks_law (body_law u.stands _ _ (due_law (eqb u.due 0))) refl)

  resolved_fault_lem : kind_of f ≡ 34 → told (fields_at 1 3 5 f) ≡ (sheet_reader c).fault u f
  unfolding frame_fault sheet_order_fits sheet_content_fits
  resolved_fault_lem e = rw e (checks_law (body_law u.stands _ _ (due_law (eqb u.due 0))) refl)

  end_fault_lem : kind_of f ≡ 36 → told (fields_at 0 0 0 f) ≡ (sheet_reader c).fault u f
  unfolding frame_fault sheet_order_fits sheet_content_fits
  end_fault_lem e = rw e (checks_law (body_law u.stands _ _ (none_due_law (eqb u.due 0))) refl)

  -- so it is for every known kind
  pub fault_law : digits_for sheets (kind_of f) ≢ 0 → frame_fault (state_of u) c.modules (length c.needs) (fields_in f) ≡ (sheet_reader c).fault u f
  fault_law h = go (known_kind (kind_of f) h)
    where
      go : Known (kind_of f) → told (fields_in f) ≡ (sheet_reader c).fault u f
      go (a_head e) = ap told (head_fields f e) ∙ head_fault_lem e
      go (a_need e) = ap told (need_fields_lem f e) ∙ need_fault_lem e
      go (a_resolved e) = ap told (resolved_fields f e) ∙ resolved_fault_lem e
      go (an_end e) = ap told (end_fields f e) ∙ end_fault_lem e

module _ (u : SheetReading) (f : List ℕ) where
  -- THE STATE after the frame, kind by kind: by the rules, and by the code from the fields
  abbrev next : State
  next = state_of (with_sheet_frame u f)

  abbrev goes : Fields → State
  goes g = after (state_of u) g

  head_next : kind_of f ≡ 32 → next ≡ goes (fields_at 1 0 0 f)
  unfolding with_sheet_frame after
  head_next e = rw e

  -- a line more, of either kind
  need_next : kind_of f ≡ 33 → next ≡ goes (fields_at 1 0 0 f)
  unfolding with_sheet_frame after
  need_next e = rw (e, length_last, add-one (length u.entries))

  resolved_next : kind_of f ≡ 34 → next ≡ goes (fields_at 1 3 5 f)
  unfolding with_sheet_frame after
  resolved_next e = rw (e, length_last, add-one (length u.entries))

  end_next : kind_of f ≡ 36 → next ≡ goes (fields_at 0 0 0 f)
  unfolding with_sheet_frame after
  end_next e = rw e

  -- so it is for every known kind
  pub after_law : digits_for sheets (kind_of f) ≢ 0 → state_of (with_sheet_frame u f) ≡ after (state_of u) (fields_in f)
  after_law h = go (known_kind (kind_of f) h)
    where
      go : Known (kind_of f) → next ≡ goes (fields_in f)
      go (a_head e) = head_next e ∙ ap goes (sym (head_fields f e))
      go (a_need e) = need_next e ∙ ap goes (sym (need_fields_lem f e))
      go (a_resolved e) = resolved_next e ∙ ap goes (sym (resolved_fields f e))
      go (an_end e) = end_next e ∙ ap goes (sym (end_fields f e))
