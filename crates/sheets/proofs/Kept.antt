-- What is kept of the rules' reading of a sheet: row i stands for line i, and the lines read and due are no more than there are rows (`Kept`). It holds at
-- the start (`kept_start`), and a good frame of a known kind keeps it (`kept_step`). Assumes nothing.
use mathlib.Core.Path.{◌≡◌, refl, sym, ◌∙◌, subst}
use mathlib.Core.Logic.{◌≢◌}
use mathlib.Core.Bool.{Bool, true, false, ◌&&◌, cond, false≢true}
use mathlib.Core.List.{List, [], ◌∷◌}
use Prim.Native.Nat.{ℕ, ◌+◌, ◌-◌, ◌≤◌, ◌<◌}
use native.Mathlib.Omega.{arith}
use native.Mathlib.Nat.{not-suc-le-zero}
use lib.Dec.{leb, eqb}
use lib.ListN.{length, get_or}
use borrow.Author.Tests.{ltb-true, leb-true, eqb-true, eqb-false}
use Rattle.rules.specs.Lines.{unless}
use Rattle.rules.specs.Frames.{kind_of, pair_at, byte_at, sheets, digits_for}
use Rattle.rules.specs.Catalogue.{Catalogue}
use Rattle.rules.specs.Sheet.{Incompatibility, no_incompatibility, Entry, cites, resolves, line_of, lines_from, derived, most_lines}
use Rattle.rules.specs.Sheet.{SheetReading, sheet_reading, sheet_reader, sheet_order_fits, sheet_content_fits, with_sheet_frame}
use Rattle.rules.proofs.Lists.{and_fst, and_snd, longer, length_last, one_more}
use Rattle.rules.proofs.Readers.{or_else_none, unless_none}
use Rattle.rules.proofs.Incompatibilities.{lines_length, lines_append}
use Rattle.store.specs.declared.tables.Tables.{Tables}
use Rattle.store.specs.Tables.{Holds}
use Rattle.rows.specs.Area.{with_row}
use Rattle.rows.specs.Stands.{Stands, HasRow, Narrow}
use Rattle.rows.proofs.Standing.{others_kept}
use Rattle.rows.proofs.NeedLines.{need_stands}
use Rattle.rows.proofs.Resolutions.{resolved_stands}
use Rattle.sheets.specs.Frame.{Fields, state_of, fields_at, fields_in}
use Rattle.sheets.specs.Reading.{kept_line, work_bytes}
use Rattle.store.specs.Lent.{lent_by}
use Rattle.sheets.proofs.Faults.{Known, a_head, a_need, a_resolved, an_end, known_kind}
use Rattle.sheets.proofs.Faults.{head_fields, need_fields_lem, resolved_fields, end_fields}

pub record Kept (t : Tables) (c : Catalogue) (area : List ℕ) (u : SheetReading) : Type 0 where
  pub rows : (i : ℕ) → i < length u.entries → Stands t c area i (get_or (derived c u.entries) i no_incompatibility)
  pub few : u.due + length u.entries ≤ most_lines
  pub some : u.stands ≢ 0 → 0 < u.due + length u.entries
  pub over : u.stands ≡ 2 → u.due ≡ 0

pub kept_start : (t : Tables) (c : Catalogue) (area : List ℕ) → Kept t c area (sheet_reading 0 0 [])
kept_start t c area =
    record {
      rows = λ i h. absurd (not-suc-le-zero h);
      few = omega arith;
      some = λ h. absurd (h refl);
      over = λ h. refl;
    }

-- WHERE LINES ARE DUE, or none is, by the test of the order
is_due : (stands due : ℕ) → cond (eqb stands 0) false (eqb stands 1 && cond (eqb due 0) false true) ≡ true → 0 < due
is_due n d e = go (eqb n 0) (eqb n 1) (eqb d 0) refl e
  where
    go : (x y z : Bool) → eqb d 0 ≡ z → cond x false (y && cond z false true) ≡ true → 0 < d
    go true y z p h = absurd (false≢true h)
    go false false z p h = absurd (false≢true h)
    go false true true p h = absurd (false≢true h)
    go false true false p h = let q = eqb-false d 0 p in omega arith

none_due : (stands due : ℕ) → cond (eqb stands 0) false (eqb stands 1 && cond (eqb due 0) true false) ≡ true → (stands ≡ 1) × (due ≡ 0)
none_due n d e = go (eqb n 0) (eqb n 1) refl (eqb d 0) refl e
  where
    go : (x y : Bool) → eqb n 1 ≡ y → (z : Bool) → eqb d 0 ≡ z → cond x false (y && cond z true false) ≡ true → (n ≡ 1) × (d ≡ 0)
    go true y p z q h = absurd (false≢true h)
    go false false p z q h = absurd (false≢true h)
    go false true p false q h = absurd (false≢true h)
    go false true p true q h = (eqb-true n 1 p, eqb-true d 0 q)

-- where the reading stands is one of three places
one_not_two : (◌≡◌ {A = ℕ} 1 2) → ⊥
one_not_two h = omega arith

one_not_zero : (◌≡◌ {A = ℕ} 1 0) → ⊥
one_not_zero h = omega arith

-- a line more is derived from those before it
derived_last : (c : Catalogue) (es : List Entry) (e : Entry) → derived c (longer es e) ≡ longer (derived c es) (line_of c (derived c es) e)
unfolding lines_from
derived_last c es e = lines_append c [] es (e ∷ [])

module _ {t : Tables} {c : Catalogue} (holds : Holds t c) (narrow : Narrow t c) {area : List ℕ} (u : SheetReading)
    (kept : Kept t c area u) (room : work_bytes ≤ length area) where
  -- A ROW MORE: where it stands for the next line, every row stands for its line
  abbrev next : ℕ
  next = length u.entries

  abbrev with_next : (value : ℕ → ℕ) → List ℕ
  with_next value = with_row area next c.modules value

  rows_more : (e : Entry) (value : ℕ → ℕ) → Stands t c (with_next value) next (line_of c (derived c u.entries) e) →
      (i : ℕ) → i < length (longer u.entries e) → Stands t c (with_next value) i (get_or (derived c (longer u.entries e)) i no_incompatibility)
  rows_more e value new i h =
      rw (derived_last c u.entries e)
      (one_more no_incompatibility (derived c u.entries) line (λ k f. Stands t c (with_next value) k f) old (rw count new) i
      (omega (arith, count, length_last (derived c u.entries) line, length_last u.entries e)))
    where
      line : Incompatibility
      line = line_of c (derived c u.entries) e

      count : length (derived c u.entries) ≡ length u.entries
      count = omega (arith, lines_length c [] u.entries)

      old : (k : ℕ) → k < length (derived c u.entries) → Stands t c (with_next value) k (get_or (derived c u.entries) k no_incompatibility)
      old k l = others_kept t c narrow area next k value _ (omega (arith, count)) (kept.rows k (omega (arith, count)))

  -- a frame that fits
  module _ (f : List ℕ) (good : (sheet_reader c).fault u f ≡ 0) where
    fits : (sheet_order_fits u f ≡ true) × (sheet_content_fits c u f ≡ true)
    fits =
        let both = or_else_none (unless (sheet_order_fits u f) 5) _ good in
        (unless_none (sheet_order_fits u f) 5 (omega arith) both.0, unless_none (sheet_content_fits c u f) 6 (omega arith) both.1)

    -- the area after it, by its fields
    abbrev goes : Fields → List ℕ
    goes g = kept_line (lent_by t c.modules) area (state_of u) g

    head_kept : kind_of f ≡ 32 → Kept t c (goes (fields_at 1 0 0 f)) (with_sheet_frame u f)
    unfolding kept_line with_sheet_frame sheet_content_fits
    head_kept e =
        let within = rw e at fits.1 in
        let least = leb-true 1 (pair_at f 1) (and_fst _ _ within) in
        let most = leb-true (pair_at f 1) most_lines (and_snd (leb 1 (pair_at f 1)) _ within) in
        rw e (record { rows = λ i h. absurd (not-suc-le-zero h); few = omega arith; some = λ h. omega arith; over = λ h. absurd (one_not_two h) })

    -- a line that is due leaves one less due and one more read
    line_kept : (e : Entry) (value : ℕ → ℕ) → 0 < u.due → Stands t c (with_next value) next (line_of c (derived c u.entries) e) →
        Kept t c (with_next value) (sheet_reading 1 (u.due - 1) (longer u.entries e))
    line_kept e value due new =
        let size = length_last u.entries e in
        record {
          rows = rows_more e value new;
          few = omega (arith, kept.few);
          some = λ h. omega arith;
          over = λ h. absurd (one_not_two h);
        }

    -- there is a row for it
    row_there : 0 < u.due → HasRow area next
    row_there due = omega (arith, kept.few)

    need_kept : kind_of f ≡ 33 → Kept t c (goes (fields_at 1 0 0 f)) (with_sheet_frame u f)
    unfolding kept_line with_sheet_frame sheet_order_fits
    need_kept e =
        let due = is_due u.stands u.due (rw e at fits.0) in
        rw e (line_kept (cites (pair_at f 1)) _ due (need_stands t c holds narrow area next (pair_at f 1) (row_there due)))

    resolved_kept : kind_of f ≡ 34 → Kept t c (goes (fields_at 1 3 5 f)) (with_sheet_frame u f)
    unfolding kept_line with_sheet_frame sheet_content_fits sheet_order_fits
    resolved_kept e =
        let due = is_due u.stands u.due (rw e at fits.0) in
        let cited = rw e at fits.1 in
        let one = ltb-true (pair_at f 1) next (search (and_fst, and_snd)) in
        let other = ltb-true (pair_at f 3) next (search (and_fst, and_snd)) in
        rw e (line_kept (resolves (pair_at f 1) (pair_at f 3) (byte_at f 5)) _ due
        (resolved_stands t c narrow area next (pair_at f 1) (pair_at f 3) (byte_at f 5) _ _ (row_there due) (kept.rows _ one) (kept.rows _ other)))

    end_kept : kind_of f ≡ 36 → Kept t c (goes (fields_at 0 0 0 f)) (with_sheet_frame u f)
    unfolding kept_line with_sheet_frame sheet_order_fits
    end_kept e =
        let (stands, due) = none_due u.stands u.due (rw e at fits.0) in
        let any = kept.some (λ z. one_not_zero (sym stands ∙ z)) in
        rw e (record { rows = kept.rows; few = omega (arith, kept.few); some = λ h. omega arith; over = λ h. refl })

    -- so it is for every known kind
    pub kept_step : digits_for sheets (kind_of f) ≢ 0 → Kept t c (goes (fields_in f)) (with_sheet_frame u f)
    kept_step h = go (known_kind (kind_of f) h)
      where
        kept_by : (g : Fields) → fields_in f ≡ g → Kept t c (goes g) (with_sheet_frame u f) → Kept t c (goes (fields_in f)) (with_sheet_frame u f)
        kept_by g e k = subst (λ (x : Fields). Kept t c (goes x) (with_sheet_frame u f)) (sym e) k

        go : Known (kind_of f) → Kept t c (goes (fields_in f)) (with_sheet_frame u f)
        go (a_head e) = kept_by _ (head_fields f e) (head_kept e)
        go (a_need e) = kept_by _ (need_fields_lem f e) (need_kept e)
        go (a_resolved e) = kept_by _ (resolved_fields f e) (resolved_kept e)
        go (an_end e) = kept_by _ (end_fields f e) (end_kept e)
