-- Each way out of a whole text's reading tells what the rules' reader tells. Assumes nothing.
use mathlib.Core.Path.{◌≡◌, sym}
use Rattle.std.proofs.Common.{rules}
use Rattle.rules.specs.Lines.{fault, lines_of}
use Rattle.frames.specs.Faults.{number_of, fault_told}
use Rattle.frames.specs.Texts.{reached_from}
use Rattle.frames.proofs.Read.{not_ended, last_faulty, all_good, too_long, faulty_lines, good_lines}
use Rattle.frames.proofs.Taken.{some_number}
use Rattle.frames.proofs.texts.read_text.Goals as goal

pub returns-then-most-text-clause-read : goal.returns-then-most-text-clause-read
returns-then-most-text-clause-read g c = λ u z. too_long _ _ c.if-most-text.true z

pub returns-in_err-line-clause-read : goal.returns-in_err-line-clause-read
returns-in_err-line-clause-read g c =
    let x = c.in_err-line.field-0.0 in
    let same : fault_told c.from_residual.result ≡ fault (number_of x.refusal) x.line = search rules in
    λ u z. rw same (faulty_lines _ _ c.if-most-text.false (c.in_err-line.ensures.read u z))

pub returns-then-not-is_ended-clause-read : goal.returns-then-not-is_ended-clause-read
returns-then-not-is_ended-clause-read g c =
    λ u z. let read = c.in_ok-line.ensures.read u z in
    let v = reached_from g.R.LineReader.reads u (lines_of c.args.text.now) in
    good_lines _ _ c.if-most-text.false read (not_ended g.R.LineReader.reads _ v (sym (c.if-not-is_ended.ensures _ read.reached)))

pub returns-in-Err-clause-read : goal.returns-in-Err-clause-read
returns-in-Err-clause-read g c =
    λ u z. let read = c.in_ok-line.ensures.read u z in
    let v = reached_from g.R.LineReader.reads u (lines_of c.args.text.now) in
    let ended = sym (c.if-not-is_ended.ensures _ read.reached) in
    good_lines _ _ c.if-most-text.false read (last_faulty g.R.LineReader.reads _ v ended (c.in-Err.ensures _ read.reached) (some_number c.in-Err.refusal))

pub returns-clause-read : goal.returns-clause-read
returns-clause-read g c =
    λ u z. let read = c.in_ok-line.ensures.read u z in
    let v = reached_from g.R.LineReader.reads u (lines_of c.args.text.now) in
    let ended = sym (c.if-not-is_ended.ensures _ read.reached) in
    good_lines _ _ c.if-most-text.false read (all_good g.R.LineReader.reads _ v ended (sym (c.in_default.ensures _ read.reached)))
