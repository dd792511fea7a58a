-- What a search asks of tables that hold a catalogue is what the rules ask of the catalogue (`tables_follow`). Assumes nothing.
use mathlib.Core.Path.{◌≡◌, sym, ◌∙◌, ap}
use mathlib.Core.Bool.{true, false}
use mathlib.Core.List.{List, [], ◌∷◌}
use mathlib.Core.Option.{none, some}
use Prim.Native.Nat.{ℕ, ◌≤◌}
use Rattle.rules.specs.Catalogue.{Catalogue, WellFormed, is_of}
use Rattle.rules.specs.Selection.{next_modules}
use Rattle.rules.specs.Search.{barring, newest_first}
use Rattle.rules.specs.Sheet.{asking}
use Rattle.rules.proofs.Selections.{next_first}
use Rattle.std.specs.Prelude.{Some, None}
use Rattle.store.specs.declared.tables.Tables.{Tables}
use Rattle.store.specs.Tables.{Holds}
use Rattle.moves.specs.declared.wanted.Wanted.{Wanted}
use Rattle.moves.specs.Scan.{number_of}
use Rattle.moves.specs.Wanted.{if_any}
use Rattle.search.specs.Walking.{Moves, moves_in}
use Rattle.search.proofs.Newest.{newest_run}
use Rattle.moves.proofs.Chosen.{chosen_of, Chosen}
use Rattle.moves.proofs.Barring.{hit_of, barring_law}
use Rattle.moves.proofs.Asked.{wanted_of, wanted_none, wanted_next}
use Rattle.moves.proofs.Fitted.{fits_free, barred_unfit}

-- where module m is next: it is wanted, by the need that asks for it, and a version fits just if no need bars it; else that need is told
pub record Asks (v : Moves) (c : Catalogue) (chosen : List ℕ) (m : ℕ) : Type 0 where
  pub wanted : Wanted
  pub is_next : if_any (v.next chosen) ≡ Some wanted
  pub owner : wanted.owner.0 ≡ m
  pub need : asking c (chosen_of c chosen) m ≡ some wanted.need
  pub free : (i : ℕ) → is_of c m i ≡ true → barring c (chosen_of c chosen) m i ≡ none → v.fits chosen wanted i ≡ true
  pub barred : (i k : ℕ) → is_of c m i ≡ true → barring c (chosen_of c chosen) m i ≡ some k →
      (v.fits chosen wanted i ≡ false) × (v.bar chosen m i ≡ k)

-- moves that go by the rules
pub record Follows (v : Moves) (c : Catalogue) : Type 0 where
  pub tries : (m : ℕ) → v.tries m ≡ newest_first c m
  pub done : (chosen : List ℕ) → Chosen c chosen → next_modules c (chosen_of c chosen) ≡ [] → if_any (v.next chosen) ≡ None
  pub next : (chosen : List ℕ) → Chosen c chosen → (m : ℕ) (ms : List ℕ) → next_modules c (chosen_of c chosen) ≡ m ∷ ms → Asks v c chosen m

module _ (t : Tables) (c : Catalogue) (holds : Holds t c) (w : WellFormed c) (few : c.modules ≤ 32) where
  asks : (chosen : List ℕ) → Chosen c chosen → (m : ℕ) (ms : List ℕ) → next_modules c (chosen_of c chosen) ≡ m ∷ ms →
      Asks (moves_in t c.modules) c chosen m
  asks chosen placed m ms e =
      let told = wanted_next t c holds w few chosen m ms e in
      let fits = (next_first c (chosen_of c chosen) m ms e).fits in
      record {
        wanted = wanted_of t c chosen;
        is_next = told.0;
        owner = told.1;
        need = told.2;
        free = λ i is b. fits_free t c holds w few chosen placed m ms e i is b;
        barred = λ i k is b. (
          barred_unfit t c holds w few chosen placed m ms e i is k b,
          ap number_of (barring_law t c chosen m i holds w placed fits is ∙ ap hit_of b),
        );
      }

  pub tables_follow : Follows (moves_in t c.modules) c
  tables_follow =
      record {
        tries = λ m. sym (newest_run t c m holds);
        done = λ chosen placed e. wanted_none t c holds w few chosen e;
        next = asks;
      }
