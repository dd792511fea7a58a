-- `frames::kinds::look_up` meets its contract: the row at a place is the one looked for, or it is passed by. The rows are the rules', by computation.
use mathlib.Core.Path.{◌≡◌, sym, ◌∙◌, ap}
use mathlib.Core.Bool.{Bool, true, false, ◌&&◌, cond}
use mathlib.Core.List.{List, [], ◌∷◌}
use Prim.Native.Nat.{ℕ, ◌+◌, ◌≤◌, ◌<◌}
use native.Mathlib.Numerals.{add-one}
use lib.Dec.{eqb}
use lib.ListN.{length, get_or, drop, drop_of_length-le, get_or-map}
use lib.Seq.{drop-cons}
use Rattle.rules.specs.Frames as Rules
use Rattle.rules.specs.Frames.{row_in, kinds}
use Rattle.rules.proofs.Lists.{cond_true, cond_false}
use Rattle.frames.specs.Kinds.{row_of}
use Rattle.frames.specs.declared.kinds.Text.{Text}
use Rattle.frames.specs.declared.kinds.Text.TheVariants.{Catalogue, Sheet}
use Rattle.frames.specs.declared.kinds.Kind.{Kind}
use Rattle.frames.specs.declared.kinds.Kind.TheVariants.{Head, Version, Need, Caret, End, SheetHead, NeedLine, Resolved, SheetEnd}
use Rattle.frames.specs.declared.kinds.Row.{Row}
use Rattle.frames.proofs.kinds.look_up.Invariants.{Same}
use Rattle.frames.proofs.kinds.look_up.Goals as goal

module _ (rows : List Rules.Kind) (d : Rules.Kind) (t k i : ℕ) where
  abbrev here : Rules.Kind
  here = get_or rows i d

  abbrev Fits : Rules.Kind → Bool
  Fits r = eqb r.text t && eqb r.kind k

  -- the row at that place is tried first
  step : i < length rows → row_in (drop i rows) t k ≡ cond (Fits here) here (row_in (drop (i + 1) rows) t k)
  unfolding row_in
  step h = rw (add-one, drop-cons rows i d)

  module _ (x : Rules.Kind) (is : x ≡ here) (h : i < length rows) (same : Same rows t k i) where
    -- it is the row looked for, or it is passed by
    found : Fits x ≡ true → x ≡ row_in rows t k
    found e = is ∙ sym (same ∙ step h ∙ cond_true here _ (rw is at e))

    passed : Fits x ≡ false → Same rows t k (i + 1)
    passed e = same ∙ step h ∙ cond_false here _ (rw is at e)

  -- past the last row there is none
  none_left : length rows ≤ i → Same rows t k i → row_in [] t k ≡ row_in rows t k
  none_left h same = sym (same ∙ ap (λ (rs : List Rules.Kind). row_in rs t k) (drop_of_length-le rows h))

-- the code's table, and the row that stands past its end
row : Text → Kind → (digits first second third : ℕ) → Row
row t k n a b c = record { text = t; kind = k; digits = n; first = a; second = b; third = c }

table : List Row
unfolding row
table = row Catalogue Head 6 1 0 0 ∷ row Catalogue Version 12 1 2 0 ∷ row Catalogue Need 18 1 2 5 ∷ row Catalogue Caret 12 1 2 0 ∷
    row Catalogue End 4 0 0 0 ∷
    row Sheet SheetHead 8 1 0 0 ∷ row Sheet NeedLine 8 1 0 0 ∷ row Sheet Resolved 14 1 3 5 ∷ row Sheet SheetEnd 4 0 0 0 ∷ []

past : Row
past = record { text = Catalogue; kind = Head; digits = 0; first = 0; second = 0; third = 0 }

-- a row of the code's table is the rules' row at its place
row_there : (i : ℕ) → row_of (get_or table i past) ≡ get_or kinds i (row_of past)
unfolding kinds table past row
row_there i = sym (get_or-map row_of table i past)

pub returns-then-is_of : goal.returns-then-is_of
unfolding kinds table past row
returns-then-is_of c =
    found kinds (row_of past) _ _ c.loop-row.row-index _ (row_there c.loop-row.row-index) c.loop-row-test.true c.loop-row.invariant
    (sym c.is_of.ensures ∙ c.if-is_of.true)

pub loop-row-preserved : goal.loop-row-preserved
unfolding kinds table past row
loop-row-preserved c =
    passed kinds (row_of past) _ _ c.loop-row.row-index _ (row_there c.loop-row.row-index) c.loop-row-test.true c.loop-row.invariant
    (sym c.is_of.ensures ∙ c.if-is_of.false)

pub returns : goal.returns
unfolding row_in kinds
returns c = none_left kinds (row_of past) _ _ c.loop-row.row-index c.loop-row-test.false c.loop-row.invariant
