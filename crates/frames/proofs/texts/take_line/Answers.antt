-- A line with something wrong of its own is told so; else the reader takes its frame. Assumes nothing.
use mathlib.Core.Path.{◌≡◌, sym, ◌∙◌, ap}
use Prim.Native.Nat.{ℕ}
use Rattle.std.proofs.Common.{rules}
use Rattle.rules.specs.Frames as Rules
use Rattle.rules.specs.Frames.{byte_at, kinds}
use Rattle.frames.specs.Faults.{number_of, told, line_fault_of}
use Rattle.frames.specs.Kinds.{row_for}
use Rattle.frames.proofs.Judged.{row_kind}
use Rattle.frames.proofs.Taken.{some_number, line_refused, line_taken}
use Rattle.frames.proofs.texts.take_line.Goals as goal

pub returns-in_err-row-clause-taken : goal.returns-in_err-row-clause-taken
returns-in_err-row-clause-taken g c =
    let same : told c.from_residual.result ≡ number_of c.in_err-row.field-0.0 = search rules in
    let number = c.in_err-row.ensures.number ∙
    ap (λ (t : ℕ). line_fault_of c.args.bytes c.args.sum (row_for t (byte_at c.args.kept 0)) 0) c.text.ensures in
    rw same (line_refused _ _ (some_number c.in_err-row.field-0.0) number)

-- the row that is found is of the kind that the line begins with
pub invariant_of-take : goal.invariant_of-take
invariant_of-take g c = record { begins = sym (ap (λ (r : Rules.Kind). r.kind) c.in_ok-row.ensures.row ∙ row_kind kinds _ _) }

pub returns-clause-taken : goal.returns-clause-taken
returns-clause-taken g c =
    let number = c.in_ok-row.ensures.number ∙
    ap (λ (t : ℕ). line_fault_of c.args.bytes c.args.sum (row_for t (byte_at c.args.kept 0)) 0) c.text.ensures in
    line_taken _ _ (sym number) c.take.ensures.taken
