-- How place and trial end where their moves go by the rules (`walk_law`): a success has the choices that the rules' search finds; from a failure the
-- choices come back as they were, and the lines of the rules' sheet are noted behind those before. Assumes nothing.
use mathlib.Core.Path.{◌≡◌, refl, sym, ◌∙◌, ap, ap₂, subst}
use mathlib.Core.Logic.{⊎_elim}
use mathlib.Core.Bool.{true, false, cond}
use mathlib.Core.List.Memᴰ.{head as here}
use mathlib.Core.List.Memᴰ.{tail as there}
use mathlib.Core.List.{List, [], ◌∷◌, ◌++◌, append_assoc, append-nil, Memᴰ as Mem}
use mathlib.Core.Option.{Option, none, some, get_or}
use Prim.Native.Nat.{ℕ, zero, suc, ◌+◌, ◌-◌, ◌≤◌, ◌<◌}
use native.Mathlib.Omega.{arith}
use lib.ListN.{length, set, length-append}
use lib.Seq.{get_or-take, set-set, set-get_or}
use Rattle.rules.specs.Lists.{down_from}
use Rattle.rules.specs.Catalogue.{Catalogue, is_of}
use Rattle.rules.specs.Selection.{Selection, chosen_at, with_choice, next_modules}
use Rattle.rules.specs.Search.{Searched, barring, trial_by, and_then, try_each, search_from, newest_first}
use Rattle.rules.specs.Sheet.{Entry, cites, resolves, trial_lines, tries_lines, search_lines}
use Rattle.rules.proofs.Lists.{true_or_false, cond_true, cond_false, keep_mem}
use Rattle.rules.proofs.Selections.{next_first}
use Rattle.rules.proofs.Searches.{next_cases, search_done, search_next}
use Rattle.rules.proofs.Sheets.{lines_next}
use Rattle.std.specs.Prelude as Code
use Rattle.std.specs.Prelude.{Some, None}
use Rattle.search.specs.declared.choices.Choices.{Choices}
use Rattle.moves.specs.declared.wanted.Wanted.{Wanted}
use Rattle.search.specs.Choosing.{choices}
use Rattle.moves.specs.Noting.{Sheet, note_in, number_in, entry_bytes}
use Rattle.search.specs.Walking.{Moves, Walked, walked, taken_back, if_wanted, try_walk, each_walk, walk_in}
use Rattle.moves.proofs.NotedLines.{notes_in, notes_append, notes_last, over_stays, room_before, exact}
use Rattle.moves.proofs.Chosen.{chosen_of, Chosen, same_choice, chosen_more}
use Rattle.search.proofs.Follows.{Asks, Follows}

module _ (c : Catalogue) (few : c.modules ≤ 32) (v : Moves) (follows : Follows v c) (a : ℕ) (start : Sheet) (fresh : number_in start ≡ 0) where
  abbrev pub notes : List Entry → Sheet
  notes es = notes_in a start es

  -- how a search from `chosen` ends, that has left the sheet `s` if it found nothing
  abbrev pub Ends : (chosen : List ℕ) → (s : Sheet) → Option Selection → Walked → Type 0
  Ends ch s none w = (w.found ≡ false) × ((w.choices.chosen ≡ ch) × (w.sheet ≡ s))
  Ends ch s (some x) w = (w.found ≡ true) × (chosen_of c w.choices.chosen ≡ x)

  -- a search that ends as one of the rules does, with its lines
  abbrev Goes : (go : Choices → Sheet → Walked) → (search : Selection → Searched) → (lines : Selection → ℕ → List Entry) → Type 0
  Goes go search lines = (r : Choices) → Chosen c r.chosen → (es : List Entry) →
      Ends r.chosen (notes (es ++ lines (chosen_of c r.chosen) (length es))) (search (chosen_of c r.chosen)).found (go r (notes es))

  -- A PLACE of module m, which is next
  module _ (go : Choices → Sheet → Walked) (search : Selection → Searched) (lines : Selection → ℕ → List Entry) (goes : Goes go search lines)
      (ch : List ℕ) (placed : Chosen c ch) (m : ℕ) (fits : m < c.modules) (unset : chosen_at (chosen_of c ch) m ≡ 0) (asks : Asks v c ch m) where
    abbrev s : Selection
    s = chosen_of c ch

    abbrev w : Wanted
    w = asks.wanted

    -- A TRIAL
    module _ (i : ℕ) (is : is_of c m i ≡ true) (r : Choices) (is-chosen : r.chosen ≡ ch) (es : List Entry) where
      abbrev made : List ℕ
      made = set ch m (suc i)

      -- what was chosen is taken back
      back : (x : Option Selection) (y : Sheet) (u : Walked) → Ends made y x u → Ends ch y x (taken_back w u)
      back none y u e =
          subst (Ends ch y none) (sym (cond_false _ _ e.0))
          (refl, (ap₂ (λ (l : List ℕ) (o : ℕ). set l o 0) e.1.0 asks.owner ∙ set-set ch m (suc i) 0 ∙ as_before, e.1.1))
        where
          as_before : set ch m 0 ≡ ch
          as_before = ap (set ch m) (sym (sym (get_or-take c.modules ch m 0 fits) ∙ unset)) ∙ set-get_or ch m 0
      back (some x) y u e = subst (Ends ch y (some x)) (sym (cond_true _ _ e.0)) e

      tries : try_walk v a go w i r (notes es) ≡
          cond (v.fits ch w i) (taken_back w (go (choices made r.next) (notes es)))
          (walked false r (note_in a (entry_bytes (cites (v.bar ch m i))) (notes es)))
      unfolding try_walk
      tries =
          ap₂ (λ (l : List ℕ) (o : ℕ). cond (v.fits l w i) (taken_back w (go (choices (set l o (suc i)) r.next) (notes es)))
          (walked false r (note_in a (entry_bytes (cites (v.bar l o i))) (notes es)))) is-chosen asks.owner

      -- the search that goes on from it
      goes_on : Ends made (notes (es ++ lines (with_choice s m i) (length es))) (search (with_choice s m i)).found (go (choices made r.next) (notes es))
      goes_on =
          subst (λ (x : Selection). Ends made (notes (es ++ lines x (length es))) (search x).found (go (choices made r.next) (notes es)))
          (same_choice c ch m i placed fits is)
          (goes (choices made r.next) (chosen_more c ch m i placed fits is) es)

      -- the line that cites what bars it
      cited : (k : ℕ) → v.bar ch m i ≡ k → note_in a (entry_bytes (cites (v.bar ch m i))) (notes es) ≡ notes (es ++ (cites k ∷ []))
      cited k e = ap (λ (x : ℕ). note_in a (entry_bytes (cites x)) (notes es)) e ∙ sym (notes_last a start es (cites k))

      try_law : Ends ch (notes (es ++ trial_lines (barring c s m i) lines (with_choice s m i) (length es)))
          (trial_by (barring c s m i) search (with_choice s m i)).found (try_walk v a go w i r (notes es))
      unfolding trial_lines trial_by
      try_law = by (barring c s m i) refl
        where
          by : (b : Option ℕ) → barring c s m i ≡ b → Ends ch (notes (es ++ trial_lines b lines (with_choice s m i) (length es)))
              (trial_by b search (with_choice s m i)).found (try_walk v a go w i r (notes es))
          by none e =
              subst (Ends ch (notes (es ++ lines (with_choice s m i) (length es))) (search (with_choice s m i)).found)
              (sym (tries ∙ cond_true _ _ (asks.free i is e)))
              (back (search (with_choice s m i)).found (notes (es ++ lines (with_choice s m i) (length es))) (go (choices made r.next) (notes es)) goes_on)
          by (some k) e =
              let barred = asks.barred i k is e in
              subst (Ends ch (notes (es ++ (cites k ∷ []))) none) (sym (tries ∙ cond_false _ _ barred.0)) (refl, (is-chosen, cited k barred.1))

    -- LINES BEHIND OTHERS: after `es` come a trial's lines `ls`, from number j on, and then the line that resolves the last of them
    module _ (es ls : List Entry) (k l j : ℕ) (is_number : j ≡ length es) (same : (notes es).noted.over ≡ false → k ≡ l) where
      abbrev line : Entry
      line = resolves l (j + length ls - 1) m

      abbrev behind : List Entry
      behind = es ++ ls ++ (line ∷ [])

      -- it is noted as it should be: where there is room the numbers are exact, and elsewhere they don't matter
      line_noted : (x : Sheet) → x ≡ notes (es ++ ls) → note_in a (entry_bytes (resolves k (number_in x - 1) w.owner.0)) x ≡ notes behind
      line_noted x e =
          ap₂ (λ (y : Sheet) (o : ℕ). note_in a (entry_bytes (resolves k (number_in y - 1) o)) y) e asks.owner ∙
          ⊎_elim full room (true_or_false all.noted.over) ∙ sym (notes_last a start (es ++ ls) line)
        where
          all : Sheet
          all = notes (es ++ ls)

          full : all.noted.over ≡ true → note_in a (entry_bytes (resolves k (number_in all - 1) m)) all ≡ note_in a (entry_bytes line) all
          full o = over_stays a all _ o ∙ sym (over_stays a all _ o)

          room : all.noted.over ≡ false → note_in a (entry_bytes (resolves k (number_in all - 1) m)) all ≡ note_in a (entry_bytes line) all
          room o =
              let number = exact a start (es ++ ls) o in
              let long = length-append es ls in
              let is_last : number_in all - 1 ≡ j + length ls - 1 = omega (arith, number, long, fresh, is_number) in
              let is-came = same (room_before a (notes es) ls (subst (λ (x : Sheet). x.noted.over ≡ false) (notes_append a start es ls) o)) in
              ap₂ (λ (x y : ℕ). note_in a (entry_bytes (resolves x y m)) all) is-came is_last

      -- and its number is exact where there is room
      line_number : (x : Sheet) → x ≡ notes (es ++ ls) → (notes behind).noted.over ≡ false → number_in x ≡ j + length ls
      line_number x e o =
          let before = room_before a (notes (es ++ ls)) (line ∷ [])
          (subst (λ (x : Sheet). x.noted.over ≡ false) (notes_append a start (es ++ ls) (line ∷ [])) o) in
          let number = exact a start (es ++ ls) before in
          let is = ap number_in e in
          let long = length-append es ls in
          omega (arith, number, is, long, fresh, is_number)

      behind_length : suc (j + length ls) ≡ length behind
      behind_length = let one = length-append (es ++ ls) (line ∷ []) in let two = length-append es ls in omega (arith, one, two, is_number)

      behind_more : (rest : List Entry) → behind ++ rest ≡ es ++ (ls ++ (line ∷ rest))
      behind_more rest = append_assoc (es ++ ls) (line ∷ []) rest ∙ append_assoc es ls (line ∷ rest)

    -- THE VERSIONS IN TURN
    each_law : (is : List ℕ) → ((i : ℕ) → Mem i is → is_of c m i ≡ true) → (r : Choices) → r.chosen ≡ ch → (es : List Entry) (y : Sheet) →
        y ≡ notes es → (k l : ℕ) → ((notes es).noted.over ≡ false → k ≡ l) → (j : ℕ) → j ≡ length es →
        Ends ch (notes (es ++ tries_lines c lines s m l j is)) (try_each c search s m is).found (each_walk v a go w k is r y)
    unfolding tries_lines try_each each_walk
    each_law [] all r h es y e k l same j q = (refl, (h, e ∙ ap notes (sym (append-nil es))))
    each_law (i ∷ is) all r h es y e k l same j q =
        more trial.found (try_walk v a go w i r y) tried
        (λ r' h' es' y' e' k' l' same' j' q'. each_law is (λ x z. all x (there z)) r' h' es' y' e' k' l' same' j' q')
      where
        ls : List Entry
        ls = trial_lines (barring c s m i) lines (with_choice s m i) j

        trial : Searched
        trial = trial_by (barring c s m i) search (with_choice s m i)

        tried : Ends ch (notes (es ++ ls)) trial.found (try_walk v a go w i r y)
        tried =
            subst (λ (x : Sheet). Ends ch (notes (es ++ ls)) trial.found (try_walk v a go w i r x)) (sym e)
            (subst (λ (n : ℕ). Ends ch (notes (es ++ trial_lines (barring c s m i) lines (with_choice s m i) n)) trial.found (try_walk v a go w i r (notes es)))
            (sym q) (try_law i (all i (here refl)) r h es))

        rest : List Entry
        rest = tries_lines c lines s m (j + length ls) (suc (j + length ls)) is

        after : Walked → Walked
        after u =
            cond u.found u
            (each_walk v a go w (number_in u.sheet) is u.choices
            (note_in a (entry_bytes (resolves k (number_in u.sheet - 1) w.owner.0)) u.sheet))

        more : (x : Option Selection) (u : Walked) → Ends ch (notes (es ++ ls)) x u →
            ((r : Choices) → r.chosen ≡ ch → (es : List Entry) (y : Sheet) → y ≡ notes es → (k l : ℕ) → ((notes es).noted.over ≡ false → k ≡ l) →
            (j : ℕ) → j ≡ length es → Ends ch (notes (es ++ tries_lines c lines s m l j is)) (try_each c search s m is).found (each_walk v a go w k is r y)) →
            Ends ch (notes (es ++ (ls ++ (resolves l (j + length ls - 1) m ∷ rest)))) (and_then x trial.trials (try_each c search s m is)).found (after u)
        more (some x) u g go_on = subst (Ends ch (notes es) (some x)) (sym (cond_true _ _ g.0)) g
        more none u g go_on =
            subst (Ends ch (notes (es ++ (ls ++ (resolves l (j + length ls - 1) m ∷ rest)))) (try_each c search s m is).found) (sym (cond_false _ _ g.0))
            (subst (λ (x : List Entry). Ends ch (notes x) (try_each c search s m is).found
            (each_walk v a go w (number_in u.sheet) is u.choices
            (note_in a (entry_bytes (resolves k (number_in u.sheet - 1) w.owner.0)) u.sheet)))
            (behind_more es ls k l j q same rest)
            (go_on u.choices g.1.0 (behind es ls k l j q same) _ (line_noted es ls k l j q same u.sheet g.1.1)
            (number_in u.sheet) (j + length ls)
            (line_number es ls k l j q same u.sheet g.1.1) (suc (j + length ls)) (behind_length es ls k l j q same)))

  -- A PLACE and all that follows
  pub walk_law : (f : ℕ) → Goes (walk_in f v a) (search_from f c (newest_first c)) (search_lines f c (newest_first c))
  unfolding search_lines search_from walk_in
  walk_law zero r placed es = (refl, refl)
  walk_law (suc f) r placed es = ⊎_elim done (λ x. place x.0 x.1 x.2 (walk_law f)) (next_cases c (chosen_of c r.chosen))
    where
      ch : List ℕ
      ch = r.chosen

      s : Selection
      s = chosen_of c ch

      Result : Option Selection → List Entry → Walked → Type 0
      Result x ls u = Ends ch (notes (es ++ ls)) x u

      now : Choices
      now = choices ch (v.next ch)

      begun : Wanted → (places : List ℕ) → Walked
      begun w is = each_walk v a (walk_in f v a) w (number_in (notes es)) is now (note_in a (entry_bytes (cites w.need)) (notes es))

      -- by what is wanted
      walk_of : Code.Option Wanted → Walked
      walk_of n = if_wanted n (walked true now (notes es)) (λ w. begun w (v.tries w.owner.0))

      done : next_modules c s ≡ [] →
          Result (search_from (suc f) c (newest_first c) s).found (search_lines (suc f) c (newest_first c) s (length es)) (walk_in (suc f) v a r (notes es))
      done e =
          subst (λ (x : Searched). Result x.found (search_lines (suc f) c (newest_first c) s (length es)) (walk_in (suc f) v a r (notes es)))
          (sym (search_done f c (newest_first c) s e))
          (subst (Ends ch (notes es) (some s)) (sym (ap walk_of (follows.done ch placed e))) (refl, refl))

      place : (m : ℕ) (ms : List ℕ) → next_modules c s ≡ m ∷ ms →
          Goes (walk_in f v a) (search_from f c (newest_first c)) (search_lines f c (newest_first c)) →
          Result (search_from (suc f) c (newest_first c) s).found (search_lines (suc f) c (newest_first c) s (length es)) (walk_in (suc f) v a r (notes es))
      place m ms e goes =
          subst (λ (x : Searched). Result x.found (search_lines (suc f) c (newest_first c) s (length es)) (walk_in (suc f) v a r (notes es)))
          (sym (search_next f c (newest_first c) s m ms e))
          (subst (λ (ls : List Entry). Result found ls (walk_in (suc f) v a r (notes es))) (sym lines_are)
          (subst (Result found (cites w.need ∷ rest)) (sym walk_is)
          (subst (λ (ls : List Entry). Ends ch (notes ls) found (begun w (newest_first c m))) (append_assoc es (cites w.need ∷ []) rest) ends)))
        where
          first : m < c.modules
          first = (next_first c s m ms e).fits

          asks : Asks v c ch m
          asks = follows.next ch placed m ms e

          w : Wanted
          w = asks.wanted

          found : Option Selection
          found = (try_each c (search_from f c (newest_first c)) s m (newest_first c m)).found

          rest : List Entry
          rest = tries_lines c (search_lines f c (newest_first c)) s m (length es) (suc (length es)) (newest_first c m)

          lines_are : search_lines (suc f) c (newest_first c) s (length es) ≡ cites w.need ∷ rest
          lines_are =
              lines_next f c (newest_first c) s (length es) m ms e ∙ ap (λ (o : Option ℕ). cites (get_or o 0) ∷ rest) asks.need

          walk_is : walk_in (suc f) v a r (notes es) ≡ begun w (newest_first c m)
          walk_is = ap walk_of asks.is_next ∙ ap (begun w) (ap v.tries asks.owner ∙ follows.tries m)

          asked : List Entry
          asked = es ++ (cites w.need ∷ [])

          -- the place's first line has the next number, where there is room
          number : (notes asked).noted.over ≡ false → number_in (notes es) ≡ length es
          number o =
              let before = room_before a (notes es) (cites w.need ∷ [])
              (subst (λ (x : Sheet). x.noted.over ≡ false) (notes_append a start es (cites w.need ∷ [])) o) in
              omega (arith, fresh, exact a start es before)

          ends : Ends ch (notes (asked ++ rest)) found (begun w (newest_first c m))
          ends =
              each_law (walk_in f v a) (search_from f c (newest_first c)) (search_lines f c (newest_first c)) goes ch placed m first
              (next_first c s m ms e).unset asks (newest_first c m) (λ i q. (keep_mem (is_of c m) i (down_from (length c.versions)) q).1)
              now refl asked _ (sym (notes_last a start es (cites w.need))) (number_in (notes es)) (length es) number
              (suc (length es)) (omega (arith, length-append es (cites w.need ∷ [])))
