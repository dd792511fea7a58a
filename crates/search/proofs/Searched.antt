-- The whole search over tables that hold a catalogue: it finds the best selection (`search_finds`); where there is none, it leaves the text of the
-- sheet's lines, or tells that they are more than the allowance (`search_fails`, `search_over`, `search_sheet`). Assumes nothing.
use mathlib.Core.Path.{◌≡◌, refl, sym, ◌∙◌, ap, ap₂, subst}
use mathlib.Core.Bool.{true, false, ◌&&◌}
use mathlib.Core.List.{List, [], ◌∷◌, ◌++◌, flat_map}
use mathlib.Core.Option.{Option, none, some}
use Prim.Native.Nat.{ℕ, suc, ◌+◌, ◌*◌, ◌/◌, ◌%◌, ◌≤◌, ◌<◌}
use native.Mathlib.Omega.{arith}
use lib.Dec.{ltb}
use lib.ListN.{length, get_or}
use lib.Seq.{sets}
use borrow.Author.Tests.{ltb-true}
use Rattle.rules.specs.Catalogue.{Catalogue, Carried, WellFormed}
use Rattle.rules.specs.Lists.{is_in}
use Rattle.rules.specs.Frames.{frame_text}
use Rattle.rules.specs.Selection.{Selection}
use Rattle.rules.specs.Search.{newest_first, search_from, best}
use Rattle.rules.specs.Sheet.{Entry, cites, resolves, entry_fits, entries_fit, entry_text, is_refuting, refutes, last_line, most_lines, sheet_of, search_lines}
use Rattle.rules.proofs.Lists.{and_fst, and_snd}
use Rattle.rules.proofs.Theorems.{sheets_tell}
use Rattle.store.specs.declared.tables.Tables.{Tables}
use Rattle.store.specs.Tables.{Holds}
use Rattle.moves.specs.Noting.{Sheet, sheet, noted, fresh, entry_bytes}
use Rattle.search.specs.Walking.{Moves, moves_in, Walked, started, search_in}
use Rattle.moves.proofs.NotedLines.{notes_in, lines_text, too_many, all_noted}
use Rattle.moves.proofs.Chosen.{chosen_of}
use Rattle.search.proofs.Follows.{Follows, tables_follow}
use Rattle.search.proofs.Ends.{Ends, walk_law}
use Rattle.search.proofs.Start.{best_found, start_in, start_root, start_chosen}

-- A FITTING LINE is noted as the rules write it: its numbers are such as its bytes can carry
module _ (c : Catalogue) (k : Carried c) where
  entry_noted : (i : ℕ) (e : Entry) → i < 65536 → entry_fits c i e ≡ true → frame_text (entry_bytes e) ≡ entry_text e
  unfolding entry_text
  entry_noted i (cites n) l f =
      let fits : n < length c.needs = ltb-true n (length c.needs) f in
      let few = k.needs in
      let high : n / 256 % 256 ≡ n / 256 = omega arith in
      rw high
  entry_noted i (resolves a b m) l f =
      let fits : (ltb a i && ltb b i && ltb m c.modules) ≡ true = f in
      let first : a < i = ltb-true a i (search (and_fst, and_snd)) in
      let second : b < i = ltb-true b i (search (and_fst, and_snd)) in
      let below : m < c.modules = ltb-true m c.modules (search (and_fst, and_snd)) in
      let few = k.modules in
      let p : a / 256 % 256 ≡ a / 256 = omega arith in
      let q : b / 256 % 256 ≡ b / 256 = omega arith in
      let r : m % 256 ≡ m = omega arith in
      rw (p, q, r)

  lines_noted : (i : ℕ) (es : List Entry) → i + length es ≤ 65536 → entries_fit c i es ≡ true → lines_text es ≡ flat_map entry_text es
  unfolding lines_text flat_map entries_fit
  lines_noted i [] l f = refl
  lines_noted i (e ∷ es) l f =
      ap₂ (λ (x y : List ℕ). x ++ y) (entry_noted i e (omega arith) (and_fst (entry_fits c i e) _ f))
      (lines_noted (suc i) es (omega arith) (and_snd (entry_fits c i e) _ f))

module _ (t : Tables) (c : Catalogue) (holds : Holds t c) (w : WellFormed c) (few : c.modules ≤ 32) (a : ℕ) (area : List ℕ) where
  abbrev moves : Moves
  moves = moves_in t c.modules

  abbrev pub ended : Walked
  ended = search_in moves c.modules a (get_or t.firsts 0 0) (fresh area)

  abbrev lines : List Entry
  lines = sheet_of c (newest_first c)

  follows : Follows moves c
  follows = tables_follow t c holds w few

  -- how it ends, by what the rules' search finds
  abbrev EndsWith : Option Selection → Type 0
  EndsWith x = Ends c few moves follows a (fresh area) refl (start_in t) (notes_in a (fresh area) lines) x ended

  whole : EndsWith (best c)
  unfolding notes_in
  whole =
      subst EndsWith (sym (best_found c))
      (subst (λ (s : Selection). Ends c few moves follows a (fresh area) refl (start_in t)
      (notes_in a (fresh area) (search_lines c.modules c (newest_first c) s 0)) (search_from c.modules c (newest_first c) s).found ended) (start_root t c holds w few)
      (walk_law c few moves follows a (fresh area) refl c.modules (started (get_or t.firsts 0 0)) (start_chosen t c holds w few) []))

  pub search_finds : (s : Selection) → best c ≡ some s → (ended.found ≡ true) × (chosen_of c ended.choices.chosen ≡ s)
  search_finds s e = subst EndsWith e whole

  pub search_fails : best c ≡ none → (ended.found ≡ false) × (ended.sheet ≡ notes_in a (fresh area) lines)
  search_fails e = let h = subst EndsWith e whole in (h.0, h.1.1)

  -- more lines than the allowance are told
  pub search_over : best c ≡ none → a < length lines → ended.sheet.noted.over ≡ true
  search_over e l = ap (λ (s : Sheet). s.noted.over) (search_fails e).1 ∙ too_many a (fresh area) lines (omega arith) (omega arith)

  -- else their text stands in the area
  pub search_sheet : Carried c → best c ≡ none → length lines ≤ a → a ≤ most_lines → 15 * most_lines ≤ length area →
      ended.sheet ≡ sheet (sets area 0 (flat_map entry_text lines)) (noted (length lines) (length (flat_map entry_text lines)) false)
  unfolding is_refuting
  search_sheet k e l most room =
      let count : 0 + length lines ≡ length lines = omega arith in
      let size : 0 + length (lines_text lines) ≡ length (lines_text lines) = omega arith in
      (search_fails e).1 ∙ all_noted a (fresh area) lines (record { before = refl; allowed = omega arith; fits = omega arith }) ∙
      ap₂ (λ (x y : ℕ). sheet (sets area 0 (lines_text lines)) (noted x y false)) count size ∙
      ap (λ (x : List ℕ). sheet (sets area 0 x) (noted (length lines) (length x) false)) (lines_noted c k 0 lines (omega arith) fit)
    where
      fit : entries_fit c 0 lines ≡ true
      fit =
          let told = (sheets_tell c w).0 e in
          let refuting : (is_in 1 most_lines (length lines) && entries_fit c 0 lines && refutes c (last_line c lines)) ≡ true =
          told.1 (omega (arith, told.0)) in
          search (and_fst, and_snd)
