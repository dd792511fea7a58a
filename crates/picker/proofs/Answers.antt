-- Each way out of a pick whose text reads well is what it owes: a selection (`selected`), no sheet (`unsheeted`), a sheet (`sheeted`). Assumes nothing.
use mathlib.Core.Path.{◌≡◌, refl, sym, ◌∙◌, ap, ap₂, subst}
use mathlib.Core.Logic.{inl, inr}
use mathlib.Core.Bool.{true, false}
use mathlib.Core.List.{List}
use mathlib.Core.Option.{Option, none}
use Prim.Native.Nat.{ℕ, ◌+◌, ◌*◌, ◌≤◌}
use native.Mathlib.Omega.{arith}
use lib.ListN.{length, take, get_or, length-take}
use lib.Seq.{sets}
use Rattle.rules.specs.Lines.{fault, fine}
use Rattle.rules.specs.Catalogue.{Catalogue, limits, text_fault, catalogue_of}
use Rattle.rules.specs.Selection.{Selection, selection_text}
use Rattle.rules.specs.Search.{best, trials_of}
use Rattle.rules.specs.Sheet.{sheet_text}
use Rattle.rules.proofs.Lists.{not_both}
use Rattle.rules.proofs.Theorems.{sheets_tell}
use Rattle.rules.proofs.SheetText.{entries_length}
use Rattle.std.specs.declared.result.Result.TheVariants.{Ok, Err}
use Rattle.catalogue.specs.declared.reading.Catalogue as Code
use Rattle.catalogue.specs.Reading.{CatalogueRead}
use Rattle.moves.specs.Noting.{Sheet, fresh}
use Rattle.search.specs.declared.choices.Choices.{Choices}
use Rattle.search.specs.Walking.{moves_in, Walked, told, search_in}
use Rattle.selection.specs.Written.{text_in}
use Rattle.selection.proofs.Whole.{settled_few, text_length}
use Rattle.selection.proofs.Selected.{text_is_the_rules}
use Rattle.picker.specs.declared.Picked.{Picked}
use Rattle.picker.specs.Entry.{selection_least, sheet_least, over, picked, is_fine}
use Rattle.picker.specs.Entry.{SheetWritten, SheetOwes, OutcomeOwes, ReadOwes}
use Rattle.picker.specs.Inside.{HasRoom, search_of}
use Rattle.picker.specs.Written.{sheet_in}
use Rattle.picker.proofs.Stored.{stored_over}
use Rattle.picker.proofs.Sheets.{sheet_length, sheet_is_the_rules}
use Rattle.picker.proofs.Readings.{ReadWell, read_fine, read_well}
use Rattle.picker.proofs.Outcomes.{sheet_lines, SheetLeft, found_best, found_none, over_small, sheet_left}

-- READ: what is known of a pick whose text reads well
pub record Known (text selection sheet work : List ℕ) (allowance : ℕ) (l : Code.Catalogue) : Type 0 where
  pub room : HasRoom selection sheet work allowance
  pub fine_text : text_fault limits text ≡ fine
  pub well : ReadWell l (catalogue_of limits text)

pub known : {text s h w : List ℕ} {a : ℕ} {l : Code.Catalogue} → HasRoom s h w a → CatalogueRead text l fine → Known text s h w a l
known {text} {l = l} room read = record { room = room; fine_text = read_fine text l read; well = read_well text l read }

-- THE TEXTS as they are written: of a selection, from the tables and the choices, and of a sheet, from what is noted
abbrev pub text_of : Code.Catalogue → (chosen : List ℕ) → List ℕ
text_of l chosen = text_in l.tables.values chosen l.state.modules

abbrev pub sheet_from : Sheet → List ℕ
sheet_from s = sheet_in (take s.noted.end s.area) s.noted.lines

module _ {text s h w : List ℕ} {a : ℕ} {l : Code.Catalogue} (k : Known text s h w a l) where
  abbrev c : Catalogue
  c = catalogue_of limits text

  outcome_read : {r : Picked} {u v : List ℕ} → OutcomeOwes c (best c) s h a r u v → ReadOwes text s h a r u v
  outcome_read o = record { refused = λ q. absurd (not_both (ap is_fine k.fine_text) q); read = λ q. o }

  pub few_modules : l.state.modules ≤ 32
  few_modules = omega (arith, k.well.modules, k.well.carried.modules)

  -- a selection's text has room in its area
  pub text_fits : (chosen : List ℕ) → length (text_of l chosen) ≤ selection_least
  text_fits chosen =
      let few = settled_few chosen l.state.modules in
      let long = text_length l.tables.values chosen l.state.modules in
      omega (arith, few_modules)

  -- THE SEARCH, called with a sheet that has no line yet
  module _ {b : ℕ} {begun : Sheet} (empty : begun ≡ fresh w) (allowed : b ≡ a) where
    abbrev made : Walked
    made = search_in (moves_in l.tables l.state.modules) l.state.modules b (get_or l.tables.firsts 0 0) begun

    same : made ≡ search_of l.tables l.state.modules a w
    same = rw (empty, allowed)

    -- A SELECTION is written
    pub selected : {f : Choices} → Ok f ≡ told made → {r : Picked} {u : List ℕ} {size : ℕ} → size ≡ length (text_of l f.chosen) →
        u ≡ sets s 0 (text_of l f.chosen) → r ≡ picked fine size → ReadOwes text s h a r u h
    selected {f} found {r} {u} n e p =
        outcome_read (subst (λ (o : Option Selection). OutcomeOwes c o s h a r u h) (sym (found_best k.well a w (found ∙ ap (λ (x : Walked). told x) same))) (
          p ∙ ap (picked fine) (n ∙ ap length rules_text),
          e ∙ stored_over (text_of l f.chosen) s (omega (arith, text_fits f.chosen, k.room.selection_room)) ∙ ap (λ (t : List ℕ). over t s) rules_text,
          refl,
        ))
      where
        rules_text : text_of l f.chosen ≡ selection_text c (take c.modules f.chosen)
        rules_text =
            ap (text_in l.tables.values f.chosen) k.well.modules ∙
            text_is_the_rules l.tables c k.well.holds k.well.carried f.chosen

    module _ {f : Choices} (not_found : Err f ≡ told made) {z : Sheet} (is-sheet : z ≡ made.sheet) where
      none_best : best c ≡ none
      none_best = found_none k.well a w (not_found ∙ ap (λ (x : Walked). told x) same)

      -- the sheet's lines are 2W + 1
      count_lines : length (sheet_lines c) ≡ 2 * trials_of c + 1
      count_lines = ((sheets_tell c k.well.well_formed).0 none_best).0

      of_sheet : {r : Picked} {v : List ℕ} → SheetOwes c h a r v → ReadOwes text s h a r s v
      of_sheet {r} {v} o = outcome_read (subst (λ (x : Option Selection). OutcomeOwes c x s h a r s v) (sym none_best) (o, refl))

      -- NO SHEET: its lines are more than the allowance
      pub unsheeted : {r : Picked} → z.noted.over ≡ true → r ≡ picked (fault 10 0) 0 → ReadOwes text s h a r s h
      unsheeted {r} is-over p =
          of_sheet record {
            either = inr is_ten;
            line_none = ap (λ (x : Picked). x.line) p;
            unwritten = λ q. (ap (λ (x : Picked). x.size) p, refl);
            too_small = λ q.
                let sheet_is = is-sheet ∙ ap (λ (x : Walked). x.sheet) same in
                let small = over_small k.well a w none_best k.room.few_lines k.room.work_room sheet_is is-over in
                omega (arith, count_lines, small);
            none_allowed = λ q. is_ten;
            written = λ q. absurd (omega (arith, q, is_ten));
          }
        where
          is_ten : r.number ≡ 10
          is_ten = ap (λ (x : Picked). x.number) p

      -- A SHEET is written
      module _ (has_all : z.noted.over ≡ false) where
        left : SheetLeft c a z
        left = sheet_left k.well a w none_best k.room.few_lines k.room.work_room (is-sheet ∙ ap (λ (x : Walked). x.sheet) same) has_all

        -- its lines' text stands in the work area
        pub lines_there : z.noted.end ≤ length z.area
        lines_there =
            let long = length-take z.noted.end z.area in
            let text = ap length left.text in
            omega (arith, long, text, left.ends)

        -- and with head and end its whole text has room in the areas
        pub lines_fit : z.noted.end ≤ 7200
        lines_fit = omega (arith, left.ends, left.within, entries_length (sheet_lines c), k.room.few_lines)

        pub sheet_fits : length (sheet_from z) ≤ sheet_least
        sheet_fits = rw (sheet_length (take z.noted.end z.area) z.noted.lines, left.text) (omega (arith, lines_fit, left.ends))

        rules_sheet : sheet_from z ≡ sheet_text (sheet_lines c)
        rules_sheet = ap₂ sheet_in left.text left.count ∙ sheet_is_the_rules (sheet_lines c) (omega (arith, left.within, k.room.few_lines))

        pub sheeted : {r : Picked} {v : List ℕ} {size : ℕ} → size ≡ length (sheet_from z) → v ≡ sets h 0 (sheet_from z) → r ≡ picked (fault 9 0) size →
            ReadOwes text s h a r s v
        sheeted {r} {v} {size} n e p =
            of_sheet record {
              either = inl is_nine;
              line_none = ap (λ (x : Picked). x.line) p;
              unwritten = λ q. absurd (omega (arith, q, is_nine));
              too_small = λ q. absurd (omega (arith, q, is_nine));
              none_allowed = λ q. absurd (omega (arith, q, left.within, count_lines));
              written = λ q. is_written;
            }
          where
            is_nine : r.number ≡ 9
            is_nine = ap (λ (x : Picked). x.number) p

            is_written : SheetWritten c h a r v
            is_written =
                record {
                  entries = sheet_lines c;
                  refutes = ((sheets_tell c k.well.well_formed).0 none_best).1 (omega (arith, count_lines, left.within, k.room.few_lines));
                  within = left.within;
                  size = ap (λ (x : Picked). x.size) p ∙ n ∙ ap length rules_sheet;
                  text =
                      e ∙ stored_over (sheet_from z) h (omega (arith, sheet_fits, k.room.sheet_room)) ∙
                      ap (λ (t : List ℕ). over t h) rules_sheet;
                }
