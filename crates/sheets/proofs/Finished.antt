-- A sheet's text judged: the fault told and the area are those of the reader over what is lent (`sheet_judged`), from what the line loop owes of any text.
-- Assumes nothing.
use mathlib.Core.Path.{◌≡◌, refl, sym, ◌∙◌, ap}
use mathlib.Core.Bool.{Bool, true, false, cond}
use mathlib.Core.List.{List}
use Prim.Native.Nat.{ℕ}
use native.Mathlib.Omega.{arith}
use lib.Dec.{ltb}
use lib.ListN.{length}
use Rattle.rules.specs.Lines.{Fault}
use Rattle.rules.specs.Catalogue.{limits}
use Rattle.frames.specs.Texts.{TextRead}
use Rattle.store.specs.Lent.{Lent, lent_of}
use Rattle.sheets.specs.declared.reading.SheetReader.{SheetReader}
use Rattle.sheets.specs.Frame.{State, state_told}
use Rattle.sheets.specs.Reading.{Held, held, start, reader, StandsFor, reached_in, SheetJudged}
use Rattle.sheets.proofs.Judging.{judged_as_rules}

-- before the first line
pub begun : (s : SheetReader) → state_told s.state ≡ start → StandsFor s (held (lent_of s.lent) s.lent.needs start s.work.now)
begun s e =
    record {
      held_is = ap (λ (x : State). held (lent_of s.lent) s.lent.needs x s.work.now) e;
      few = let due = ap (λ (x : State). x.due) e in let lines = ap (λ (x : State). x.lines) e in omega (arith, due, lines);
    }

module _ {l : Lent} {needs : ℕ} {text area exit : List ℕ} {s : SheetReader} {x : Fault} (same : s.work.now ≡ exit)
    (r : TextRead reader StandsFor limits.bytes (held l needs start area) text s x) where
  -- the two equations are all that is owed: the law of the rules follows from the first
  pub sheet_judged : SheetJudged l needs text area exit x
  sheet_judged =
      record {
        fault_is = r.fault_is;
        area_is = sym same ∙ ap (λ (h : Held). h.area) r.reached.held_is ∙ at_end (ltb limits.bytes (length text));
        as_rules = λ t c g. r.fault_is ∙ judged_as_rules l needs text area t c g;
      }
    where
      at_end : (b : Bool) → (cond b (held l needs start area) (reached_in l needs text area)).area ≡ cond b area (reached_in l needs text area).area
      at_end true = refl
      at_end false = refl
