-- The two loops over lines and digits. At the start of each line the reader stands for the lines before it; inside a line InLine holds besides. A pair of
-- digits leads one byte further. At a line feed the reader takes the line, and a good one leads to the start of the next. Assumes nothing.
use mathlib.Core.Path.{◌≡◌, sym, ◌∙◌, ap, subst}
use mathlib.Core.List.{List}
use Prim.Native.Nat.{ℕ, ◌+◌, ◌%◌}
use native.Mathlib.Omega.{arith}
use lib.ListN.{set}
use Rattle.frames.specs.Digits.{pair_at}
use Rattle.frames.specs.Faults.{told}
use Rattle.frames.specs.declared.digits.Pair.TheVariants.{Byte}
use Rattle.frames.proofs.Lines.{byte_stands}
use Rattle.frames.proofs.InLine.{InLine, line_start, line_byte, line_size}
use Rattle.frames.proofs.Read.{ends, wrong, line_refused, line_good}
use Rattle.frames.proofs.Steps.{counted_next}
use Rattle.frames.proofs.texts.read_lines.Goals as goal

pub digits-init : goal.digits-init
digits-init g c = line_start c.args.text.now c.lines.at (omega arith)

-- A PAIR OF DIGITS: a byte is two characters of the line
pub overflow_add-bytes : goal.overflow_add-bytes
overflow_add-bytes g c =
    let there : pair_at c.args.text.now c.digits.at ≡ Byte c.in-Byte.b = sym c.pair_at-pair.ensures ∙ c.in-Byte.is in
    omega (arith, line_size _ _ _ _ _ _ c.digits.invariant, (byte_stands _ _ _ there).within, c.requires.size)

pub digits-smaller : goal.digits-smaller
digits-smaller g c =
    let there : pair_at c.args.text.now c.digits.at ≡ Byte c.in-Byte.b = sym c.pair_at-pair.ensures ∙ c.in-Byte.is in
    omega (arith, (byte_stands _ _ _ there).within)

pub digits-preserved : goal.digits-preserved
digits-preserved g c =
    let there : pair_at c.args.text.now c.digits.at ≡ Byte c.in-Byte.b = sym c.pair_at-pair.ensures ∙ c.in-Byte.is in
    let total = (c.digits.sum + c.in-Byte.b) % 256 in
    let longer = line_byte _ _ _ _ _ _ c.digits.invariant _ there in
    subst (λ (f : List ℕ). InLine c.args.text.now c.lines.at (c.digits.at + 2) f (c.digits.bytes + 1) total)
    {x = set c.digits.frame c.digits.bytes c.in-Byte.b} (sym c.put.ensures) longer

-- A LINE'S END
pub take_line-requires-clause-size : goal.take_line-requires-clause-size
take_line-requires-clause-size g c = omega (arith, line_size _ _ _ _ _ _ c.digits.invariant, c.digits.invariant.within, c.requires.size)

-- a good line is kept, and leads to the start of the next
pub lines-preserved : goal.lines-preserved
lines-preserved g c =
    let feed = sym c.pair_at-pair.ensures ∙ c.in-LineFeed.is in
    let (same, counted, under) = c.lines.invariant in (
      c.take_line.ensures.same ∙ same,
      counted_next counted c.digits.invariant feed,
      λ u z. line_good _ _ under u z c.digits.invariant feed c.take_line.ensures.taken (ap told c.in_default.is),
    )

-- THE WAYS OUT: at the end of the text, at something wrong in a line, at a faulty line
pub returns-then-text-at-clause-read : goal.returns-then-text-at-clause-read
returns-then-text-at-clause-read g c = let (same, counted, under) = c.lines.invariant in λ u z. ends _ _ under u z counted c.if-text-at.true

pub returns-in-Wrong-clause-read : goal.returns-in-Wrong-clause-read
returns-in-Wrong-clause-read g c =
    let (same, counted, under) = c.lines.invariant in
    λ u z. wrong _ _ under u z c.digits.invariant (sym c.pair_at-pair.ensures ∙ c.in-Wrong.is)

pub returns-in-Err-clause-read : goal.returns-in-Err-clause-read
returns-in-Err-clause-read g c =
    let feed = sym c.pair_at-pair.ensures ∙ c.in-LineFeed.is in
    let (same, counted, under) = c.lines.invariant in
    λ u z. line_refused _ _ under u z c.digits.invariant feed c.take_line.ensures.taken c.in-Err.refusal (ap told c.in-Err.is)
