-- A frame of a sheet, in a line that fits its kind: the fields that the code gets of its bytes are the frame's, and what is owed of it holds (`refused`,
-- `taken`). Assumes nothing.
use mathlib.Core.Path.{◌≡◌, refl, sym, ◌∙◌, ap, subst}
use mathlib.Core.Logic.{◌≢◌}
use mathlib.Core.Bool.{◌&&◌, not, true}
use mathlib.Core.List.{List}
use Prim.Native.Nat.{ℕ, ◌+◌, ◌-◌, ◌≤◌}
use native.Mathlib.Omega.{arith}
use lib.Dec.{leb, eqb}
use borrow.Author.Tests.{leb-true, eqb-false, not-true}
use Rattle.rules.specs.Frames as Rules
use Rattle.rules.specs.Frames.{byte_at, kind_of, sheets}
use Rattle.rules.specs.Sheet.{most_lines}
use Rattle.rules.proofs.Lists.{and_snd}
use Rattle.frames.specs.Kinds.{row_for}
use Rattle.frames.specs.Texts.{Kept, FrameTaken}
use Rattle.frames.proofs.Taken.{frame_refused, frame_kept}
use Rattle.store.specs.Lent.{lent_of}
use Rattle.store.proofs.Kept.{checks_none}
use Rattle.sheets.specs.declared.reading.SheetReader.{SheetReader}
use Rattle.sheets.specs.Frame.{Fields, State, state_told, fields_at, fields_in, frame_fault, after}
use Rattle.sheets.specs.Reading.{kept_line, Held, held, reader, StandsFor}
use Rattle.sheets.proofs.Faults.{Known, a_head, a_need, a_resolved, an_end, known_kind}

-- a good frame leaves no more lines due and read than a sheet may have
module _ (s : State) (m n : ℕ) (f : Fields) (few : s.due + s.lines ≤ most_lines) where
  due_less : eqb s.stands 1 && not (eqb s.due 0) ≡ true → (s.due - 1) + (s.lines + 1) ≤ most_lines
  due_less e = let some = eqb-false s.due 0 (not-true _ (and_snd (eqb s.stands 1) _ e)) in omega (arith, few)

  few_step : Known f.kind → frame_fault s m n f ≡ 0 → (after s f).due + (after s f).lines ≤ most_lines
  unfolding frame_fault after
  few_step (a_head e) h =
      let most = leb-true f.first most_lines (and_snd (leb 1 f.first) _ (checks_none _ _ _ (rw e at h)).1) in rw e (omega (arith, most))
  few_step (a_need e) h = rw e (due_less (checks_none _ _ _ (rw e at h)).0)
  few_step (a_resolved e) h = rw e (due_less (checks_none _ _ _ (rw e at h)).0)
  few_step (an_end e) h = rw e (omega (arith, few))

-- what the code finds of a frame
abbrev found : SheetReader → Fields → ℕ
found s f = frame_fault (state_told s.state) s.lent.modules s.lent.needs f

few_now : (old new : SheetReader) (f : Fields) → Known f.kind → found old f ≡ 0 → state_told new.state ≡ after (state_told old.state) f →
    old.state.due + old.state.lines ≤ most_lines → new.state.due + new.state.lines ≤ most_lines
few_now old new f k e state few =
    let due = ap (λ (x : State). x.due) state in
    let lines = ap (λ (x : State). x.lines) state in
    omega (arith, due, lines, few_step (state_told old.state) old.lent.modules old.lent.needs f few k e)

-- the fields that the code gets are the frame's
module _ {bytes : List ℕ} {r : Rules.Kind} {f : Fields} (fields_are : f ≡ fields_at r.first r.second r.third bytes) (row_is : r ≡ row_for sheets (byte_at bytes 0)) where
  fields : {frame : List ℕ} → Kept sheets bytes frame → f ≡ fields_in frame
  fields k = rw (fields_are, row_is) (simp (k.alike))

  known : {frame : List ℕ} → Kept sheets bytes frame → Known f.kind
  known {frame} k = subst (λ (x : Fields). Known x.kind) (sym (fields k)) (known_kind (kind_of frame) k.known)

  -- WHAT IS OWED of a frame
  module _ (old : SheetReader) where
    fault_same : (h : Held) {frame : List ℕ} → StandsFor old h → Kept sheets bytes frame → found old f ≡ reader.fault h frame
    fault_same h {frame} z k = ap (frame_fault (state_told old.state) old.lent.modules old.lent.needs) (fields k) ∙ ap (λ (x : Held). reader.fault x frame) z.held_is

    -- a faulty frame changes nothing
    pub refused : {k : ℕ} → k ≢ 0 → k ≡ found old f → FrameTaken reader StandsFor old old bytes k
    refused some e = frame_refused reader StandsFor (λ u frame z kept. e ∙ fault_same u z kept) some

    -- a good one is kept
    module _ (new : SheetReader) (e : 0 ≡ found old f) (lent : lent_of new.lent ≡ lent_of old.lent)
        (needs : new.lent.needs ≡ old.lent.needs) (state : state_told new.state ≡ after (state_told old.state) f)
        (area : new.work.now ≡ kept_line (lent_of old.lent) old.work.now (state_told old.state) f) where
      goes_on : (u : Held) (frame : List ℕ) → StandsFor old u → Kept sheets bytes frame → StandsFor new (reader.after u frame)
      goes_on u frame z k =
          record {
            held_is = now ∙ ap (λ (x : Held). reader.after x frame) z.held_is;
            few = few_now old new f (known k) (sym e) state z.few;
          }
        where
          now : held (lent_of new.lent) new.lent.needs (state_told new.state) new.work.now ≡
              reader.after (held (lent_of old.lent) old.lent.needs (state_told old.state) old.work.now) frame
          now = rw (lent, needs, state, area, fields k)

      pub taken : FrameTaken reader StandsFor old new bytes 0
      taken = frame_kept reader StandsFor (λ u frame z kept. e ∙ fault_same u z kept) refl (λ u frame z kept none. goes_on u frame z kept)
