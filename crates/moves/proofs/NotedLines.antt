-- Many lines noted one behind the other: which lines they are no longer matters once there is no room (`over_stays`), and as long as there is, the
-- number of lines is exact (`exact`). What lines with room leave is their text (`all_noted`); more lines than the allowance are told (`too_many`).
-- Assumes nothing.
use mathlib.Core.Path.{◌≡◌, refl, sym, ◌∙◌, ap, ap₂}
use mathlib.Core.Logic.{⊎_elim}
use mathlib.Core.Bool.{Bool, true, false}
use mathlib.Core.List.{List, [], ◌∷◌, ◌++◌, flat_map}
use Prim.Native.Nat.{ℕ, suc, ◌+◌, ◌*◌, ◌-◌, ◌≤◌, ◌<◌}
use native.Mathlib.Omega.{arith}
use lib.ListN.{length, length-append}
use lib.Seq.{sets, length-sets}
use borrow.Author.Tests.{leb-false, lt-leb, le-ltb}
use Rattle.rules.specs.Frames.{frame_text}
use Rattle.rules.specs.Sheet.{Entry, cites, resolves}
use Rattle.rules.proofs.Lists.{true_or_false, or_fst, not_both}
use Rattle.rules.proofs.Written.{frame_length}
use Rattle.frames.proofs.Areas.{sets_append}
use Rattle.moves.specs.Noting.{Sheet, sheet, noted, number_in, entry_bytes, is_over, note_in}
use Rattle.moves.proofs.Notes.{neither, or_neither, note_over, note_room}

unfoldable pub notes_in : (allowance : ℕ) → Sheet → List Entry → Sheet
notes_in a s [] = s
notes_in a s (e ∷ es) = notes_in a (note_in a (entry_bytes e) s) es

-- the text of lines as noted
unfoldable pub lines_text : List Entry → List ℕ
lines_text es = flat_map (λ (e : Entry). frame_text (entry_bytes e)) es

module _ (a : ℕ) where
  pub notes_append : (s : Sheet) (es fs : List Entry) → notes_in a s (es ++ fs) ≡ notes_in a (notes_in a s es) fs
  unfolding notes_in
  notes_append s [] fs = refl
  notes_append s (e ∷ es) fs = notes_append (note_in a (entry_bytes e) s) es fs

  pub notes_last : (s : Sheet) (es : List Entry) (e : Entry) → notes_in a s (es ++ (e ∷ [])) ≡ note_in a (entry_bytes e) (notes_in a s es)
  unfolding notes_in
  notes_last s es e = notes_append s es (e ∷ [])

  -- ONE LINE where one had no room before: nothing changes
  pub over_stays : (s : Sheet) (bs : List ℕ) → s.noted.over ≡ true → note_in a bs s ≡ s
  over_stays s bs e =
      note_over a bs s (or_fst _ (or_fst _ e)) ∙ ap (λ (z : Bool). sheet s.area (noted s.noted.lines s.noted.end z)) (sym e)

  -- where it has room, there was room before, and there is one line more
  record OneMore (s : Sheet) (bs : List ℕ) : Type 0 where
    pub before : s.noted.over ≡ false
    pub allowed : number_in s < a
    pub number : number_in (note_in a bs s) ≡ suc (number_in s)

  one_more : (s : Sheet) (bs : List ℕ) → (note_in a bs s).noted.over ≡ false → OneMore s bs
  one_more s bs e = go (is_over a s) refl
    where
      go : (b : Bool) → is_over a s ≡ b → OneMore s bs
      go true o = absurd (not_both (ap (λ (x : Sheet). x.noted.over) (note_over a bs s o)) e)
      go false o =
          let first = neither _ _ (neither _ _ o).0 in
          let r = ap number_in (note_room a bs s o) in
          record { before = first.0; allowed = leb-false a (number_in s) first.1; number = omega (arith, r) }

  -- MANY LINES with room: there was room before, and their number is exact and within the allowance
  pub room_before : (s : Sheet) (es : List Entry) → (notes_in a s es).noted.over ≡ false → s.noted.over ≡ false
  unfolding notes_in
  room_before s [] e = e
  room_before s (x ∷ es) e = (one_more s (entry_bytes x) (room_before (note_in a (entry_bytes x) s) es e)).before

  pub exact : (s : Sheet) (es : List Entry) → (notes_in a s es).noted.over ≡ false → number_in (notes_in a s es) ≡ number_in s + length es
  unfolding notes_in
  exact s [] e = omega arith
  exact s (x ∷ es) e =
      let rest = exact (note_in a (entry_bytes x) s) es e in
      let one = (one_more s (entry_bytes x) (room_before (note_in a (entry_bytes x) s) es e)).number in
      omega (arith, rest, one)

  within : (s : Sheet) (es : List Entry) → number_in s ≤ a → (notes_in a s es).noted.over ≡ false → number_in (notes_in a s es) ≤ a
  unfolding notes_in
  within s [] m e = m
  within s (x ∷ es) m e =
      let one = one_more s (entry_bytes x) (room_before (note_in a (entry_bytes x) s) es e) in
      within (note_in a (entry_bytes x) s) es (omega (arith, one.number, one.allowed)) e

  -- more lines than the allowance are told
  pub too_many : (s : Sheet) (es : List Entry) → number_in s ≤ a → a < number_in s + length es → (notes_in a s es).noted.over ≡ true
  too_many s es m l =
      ⊎_elim (λ e. e) (λ e. absurd (omega (arith, exact s es e, within s es m e))) (true_or_false (notes_in a s es).noted.over)

  -- ALL HAVE ROOM: what is left is their text
  pub record Room (s : Sheet) (lines : ℕ) : Type 0 where
    pub before : s.noted.over ≡ false
    pub allowed : number_in s + lines ≤ a
    pub fits : s.noted.end + 15 * lines ≤ length s.area

  short : (e : Entry) → length (entry_bytes e) ≤ 6
  short (cites k) = omega arith
  short (resolves x y m) = omega arith

  room_first : (s : Sheet) (n : ℕ) → Room s (suc n) → is_over a s ≡ false
  room_first s n r =
      or_neither _ _ (or_neither _ _ r.before (lt-leb a (number_in s) (omega (arith, r.allowed))))
      (le-ltb (length s.area - s.noted.end) 15 (omega (arith, r.fits)))

  pub all_noted : (s : Sheet) (es : List Entry) → Room s (length es) →
      notes_in a s es ≡ sheet (sets s.area s.noted.end (lines_text es)) (noted (number_in s + length es) (s.noted.end + length (lines_text es)) false)
  unfolding notes_in lines_text flat_map
  all_noted s [] r =
      let n : number_in s ≡ number_in s + 0 = omega arith in
      let k : s.noted.end ≡ s.noted.end + 0 = omega arith in
      ap (λ (z : Bool). sheet s.area (noted (number_in s) s.noted.end z)) r.before ∙
      ap₂ (λ (x y : ℕ). sheet s.area (noted x y false)) n k
  all_noted s (x ∷ es) r = step (λ t q. all_noted t es q)
    where
      bs : List ℕ
      bs = entry_bytes x

      line : List ℕ
      line = frame_text bs

      next : Sheet
      next = sheet (sets s.area s.noted.end line) (noted (number_in s + 1) (s.noted.end + (2 * length bs + 3)) false)

      noted_first : note_in a bs s ≡ next
      noted_first = note_room a bs s (room_first s (length es) r)

      room_next : Room next (length es)
      room_next =
          record {
            before = refl;
            allowed = omega (arith, r.allowed);
            fits = omega (arith, r.fits, short x, length-sets s.area s.noted.end line);
          }

      step : ((t : Sheet) → Room t (length es) → notes_in a t es ≡
          sheet (sets t.area t.noted.end (lines_text es)) (noted (number_in t + length es) (t.noted.end + length (lines_text es)) false)) →
          notes_in a (note_in a bs s) es ≡
          sheet (sets s.area s.noted.end (line ++ lines_text es))
          (noted (number_in s + suc (length es)) (s.noted.end + length (line ++ lines_text es)) false)
      step rest =
          let long = frame_length bs in
          let both = length-append line (lines_text es) in
          let n : number_in s + 1 + length es ≡ number_in s + suc (length es) = omega arith in
          let k : s.noted.end + (2 * length bs + 3) + length (lines_text es) ≡ s.noted.end + length (line ++ lines_text es) = omega (arith, long, both) in
          ap (λ (t : Sheet). notes_in a t es) noted_first ∙ rest next room_next ∙
          ap (λ (l : List ℕ). sheet l (noted (number_in s + 1 + length es) (s.noted.end + (2 * length bs + 3) + length (lines_text es)) false))
          (sets_append s.area s.noted.end line (lines_text es) (omega (arith, long))) ∙
          ap₂ (λ (x y : ℕ). sheet (sets s.area s.noted.end (line ++ lines_text es)) (noted x y false)) n k
