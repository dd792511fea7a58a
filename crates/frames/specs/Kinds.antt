-- The texts and the kinds of frames as the code has them, by the rules' numbers; and the table of kinds. Assumes nothing: these are definitions.
use Rattle.std.specs.Prelude.{ℕ}
use Rattle.std.specs.declared.option.Option.{Option}
use Rattle.std.specs.declared.option.Option.TheVariants.{None, Some}
use Rattle.rules.specs.Frames.{row_in, kinds}
use Rattle.rules.specs.Frames as Rules
use Rattle.frames.specs.declared.kinds.Text.{Text}
use Rattle.frames.specs.declared.kinds.Text.TheVariants.{Catalogue, Sheet}
use Rattle.frames.specs.declared.kinds.Kind.{Kind}
use Rattle.frames.specs.declared.kinds.Kind.TheVariants.{Head, Version, Need, End, Caret, SelectionHead, Selected, SelectionEnd, Answer, SheetHead, NeedLine, Resolved, SheetEnd}
use Rattle.frames.specs.declared.kinds.Row.{Row}

abbrev pub text_number : Text → ℕ
text_number Catalogue = 1
text_number Sheet = 2

abbrev pub kind_number : Kind → ℕ
kind_number Head = 1
kind_number Version = 2
kind_number Need = 3
kind_number End = 4
kind_number Caret = 5
kind_number SelectionHead = 17
kind_number Selected = 18
kind_number SelectionEnd = 20
kind_number Answer = 31
kind_number SheetHead = 32
kind_number NeedLine = 33
kind_number Resolved = 34
kind_number SheetEnd = 36

-- the row of a kind in a text
abbrev pub row_for : (text kind : ℕ) → Rules.Kind
row_for t k = row_in kinds t k

-- a row as the rules have it
abbrev pub row_of : Row → Rules.Kind
row_of r =
    record { text = text_number r.text; kind = kind_number r.kind; digits = r.digits; first = r.first; second = r.second; third = r.third }

-- a row that is looked for, with no digits where there is none
abbrev pub row_found : (text kind : ℕ) → Option Row → Rules.Kind
row_found t k None = record { text = t; kind = k; digits = 0; first = 0; second = 0; third = 0 }
row_found t k (Some r) = row_of r
