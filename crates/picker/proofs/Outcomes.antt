-- How the search of a catalogue that was read ends, as the call of it tells: with the best selection (`found_best`), or with none (`found_none`), and
-- then with more lines than the allowance (`over_small`) or the text of the sheet's lines (`sheet_left`). Assumes nothing.
use mathlib.Core.Path.{◌≡◌, refl, sym, ◌∙◌, ap, ap₂}
use mathlib.Core.Logic.{◌⊎◌, inl, inr}
use mathlib.Core.Bool.{Bool, true, false, cond, false≢true}
use mathlib.Core.List.{List, flat_map}
use mathlib.Core.Option.{Option, none, some}
use Prim.Native.Nat.{ℕ, ◌≤◌, ◌<◌}
use native.Mathlib.Omega.{arith}
use lib.Dec.{leb}
use lib.ListN.{length, take}
use lib.Seq.{sets, take-append_seam}
use borrow.Author.Tests.{leb-true, leb-false}
use Rattle.rules.specs.Catalogue.{Catalogue}
use Rattle.rules.specs.Selection.{Selection}
use Rattle.rules.specs.Search.{newest_first, best}
use Rattle.rules.specs.Sheet.{Entry, most_lines, entry_text, sheet_of}
use Rattle.rules.proofs.Lists.{true_or_false, not_both}
use Rattle.rules.proofs.SheetText.{entries_length}
use Rattle.std.specs.declared.result.Result.{Result}
use Rattle.std.specs.declared.result.Result.TheVariants.{Ok, Err}
use Rattle.catalogue.specs.declared.reading.Catalogue as Code
use Rattle.search.specs.declared.choices.Choices.{Choices}
use Rattle.moves.specs.Noting.{Sheet, sheet, noted}
use Rattle.search.specs.Walking.{Walked, told}
use Rattle.search.proofs.Searched.{ended, search_finds, search_fails, search_over, search_sheet}
use Rattle.picker.specs.Entry.{work_least}
use Rattle.picker.specs.Inside.{search_of}
use Rattle.picker.proofs.Readings.{ReadWell}
use Rattle.picker.proofs.Stored.{stored_over}

-- the lines that a failing search leaves
abbrev pub sheet_lines : Catalogue → List Entry
sheet_lines c = sheet_of c (newest_first c)

-- THE SHEET LEFT: all its lines are within the allowance, and their text is noted
pub record SheetLeft (c : Catalogue) (allowance : ℕ) (s : Sheet) : Type 0 where
  pub within : length (sheet_lines c) ≤ allowance
  pub count : s.noted.lines ≡ length (sheet_lines c)
  pub ends : s.noted.end ≡ length (flat_map entry_text (sheet_lines c))
  pub text : take s.noted.end s.area ≡ flat_map entry_text (sheet_lines c)

-- whether an answer is a selection, and the record in it
is_ok : Result Choices Choices → Bool
is_ok (Ok r) = true
is_ok (Err r) = false

ok_or : Choices → Result Choices Choices → Choices
ok_or d (Ok r) = r
ok_or d (Err r) = d

module _ {l : Code.Catalogue} {c : Catalogue} (k : ReadWell l c) (a : ℕ) (work : List ℕ) where
  -- the search that the call makes
  abbrev made : Walked
  made = search_of l.tables l.state.modules a work

  abbrev walk : Walked
  walk = ended l.tables c k.holds k.well_formed k.carried.modules a work

  same_walk : made ≡ walk
  same_walk = ap (λ (n : ℕ). search_of l.tables n a work) k.modules

  finds : (s : Selection) → best c ≡ some s → (made.found ≡ true) × (take c.modules made.choices.chosen ≡ s)
  finds s e = rw same_walk (search_finds l.tables c k.holds k.well_formed k.carried.modules a work s e)

  fails : best c ≡ none → made.found ≡ false
  fails e = rw same_walk (search_fails l.tables c k.holds k.well_formed k.carried.modules a work e).0

  -- what is told of the search: a selection, or none
  found_is : {r : Choices} → Ok r ≡ told made → (made.found ≡ true) × (r ≡ made.choices)
  unfolding is_ok ok_or
  found_is {r} e = go made.found e
    where
      go : (b : Bool) → ◌≡◌ {A = Result Choices Choices} (Ok r) (cond b (Ok made.choices) (Err made.choices)) → (b ≡ true) × (r ≡ made.choices)
      go true q = (refl, ap (ok_or r) q)
      go false q = absurd (false≢true (sym (ap is_ok q)))

  none_is : {r : Choices} → Err r ≡ told made → made.found ≡ false
  unfolding is_ok
  none_is {r} e = go made.found e
    where
      go : (b : Bool) → ◌≡◌ {A = Result Choices Choices} (Err r) (cond b (Ok made.choices) (Err made.choices)) → b ≡ false
      go true q = absurd (false≢true (ap is_ok q))
      go false q = refl

  pub found_best : {r : Choices} → Ok r ≡ told made → best c ≡ some (take c.modules r.chosen)
  found_best {r} e = go (best c) refl
    where
      go : (x : Option Selection) → best c ≡ x → best c ≡ some (take c.modules r.chosen)
      go none q = absurd (not_both (found_is e).0 (fails q))
      go (some s) q = q ∙ ap some (sym (finds s q).1 ∙ ap (λ (x : Choices). take c.modules x.chosen) (sym (found_is e).1))

  pub found_none : {r : Choices} → Err r ≡ told made → best c ≡ none
  found_none e = go (best c) refl
    where
      go : (x : Option Selection) → best c ≡ x → best c ≡ none
      go none q = q
      go (some s) q = absurd (not_both (finds s q).0 (none_is e))

  module _ (e : best c ≡ none) (small : a ≤ most_lines) (room : work_least ≤ length work) {s : Sheet} (is-sheet : s ≡ made.sheet) where
    abbrev lines : List Entry
    lines = sheet_lines c

    abbrev text : List ℕ
    text = flat_map entry_text lines

    same_sheet : s ≡ walk.sheet
    same_sheet = is-sheet ∙ ap (λ (w : Walked). w.sheet) same_walk

    all_noted : length lines ≤ a → s ≡ sheet (sets work 0 text) (noted (length lines) (length text) false)
    all_noted h = same_sheet ∙ search_sheet l.tables c k.holds k.well_formed k.carried.modules a work k.carried e h small (omega arith)

    too_many : a < length lines → s.noted.over ≡ true
    too_many h = ap (λ (x : Sheet). x.noted.over) same_sheet ∙ search_over l.tables c k.holds k.well_formed k.carried.modules a work e h

    pub over_small : s.noted.over ≡ true → a < length lines
    over_small h = go (true_or_false (leb (length lines) a))
      where
        go : (leb (length lines) a ≡ true) ⊎ (leb (length lines) a ≡ false) → a < length lines
        go (inl b) = absurd (not_both h (ap (λ (x : Sheet). x.noted.over) (all_noted (leb-true _ a b))))
        go (inr b) = leb-false _ a b

    pub sheet_left : s.noted.over ≡ false → SheetLeft c a s
    sheet_left h = go (true_or_false (leb (length lines) a))
      where
        left : length lines ≤ a → SheetLeft c a s
        left b =
            let ends : s.noted.end ≡ length text = ap (λ (x : Sheet). x.noted.end) (all_noted b) in
            record {
              within = b;
              count = ap (λ (x : Sheet). x.noted.lines) (all_noted b);
              ends = ends;
              text =
                  ap₂ take ends (ap (λ (x : Sheet). x.area) (all_noted b) ∙ stored_over text work (omega (arith, entries_length lines))) ∙
                  take-append_seam text _;
            }

        go : (leb (length lines) a ≡ true) ⊎ (leb (length lines) a ≡ false) → SheetLeft c a s
        go (inl b) = left (leb-true _ a b)
        go (inr b) = absurd (not_both (too_many (leb-false _ a b)) h)
