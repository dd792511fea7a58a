-- Each way out has passed the tests before it and failed its own. Assumes nothing.
use Rattle.std.proofs.Common.{rules}
use Rattle.frames.specs.Faults.{line_fault_of}
use Rattle.frames.proofs.faults.line_row.Goals as goal

pub returns-in_err-ensure-clause-number : goal.returns-in_err-ensure-clause-number
unfolding line_fault_of
returns-in_err-ensure-clause-number c = rw (c.in_err-ensure.ensures.err.0) (search rules)

pub returns-in_err-ensure-2-clause-number : goal.returns-in_err-ensure-2-clause-number
unfolding line_fault_of
returns-in_err-ensure-2-clause-number c = rw (c.in_ok-ensure.ensures.ok, c.in_err-ensure-2.ensures.err.0) (search rules)

pub returns-in_default-clause-number : goal.returns-in_default-clause-number
unfolding line_fault_of
returns-in_default-clause-number c = rw (c.in_ok-ensure.ensures.ok, c.in_ok-ensure-2.ensures.ok, ← c.in_default.ensures) (search rules)

pub returns-in_err-ensure-3-clause-number : goal.returns-in_err-ensure-3-clause-number
unfolding line_fault_of
returns-in_err-ensure-3-clause-number c =
    rw (c.in_ok-ensure.ensures.ok, c.in_ok-ensure-2.ensures.ok, ← c.in-Some.ensures, c.in_err-ensure-3.ensures.err.0) (search rules)

pub returns-clause-number : goal.returns-clause-number
unfolding line_fault_of
returns-clause-number c =
    rw (c.in_ok-ensure.ensures.ok, c.in_ok-ensure-2.ensures.ok, ← c.in-Some.ensures, c.in_ok-ensure-3.ensures.ok)
