-- The checker accepts exactly the texts of refuting sheets: a run through a text's lines tells the sheet whose text it is, and the text of a
-- refuting sheet has a run. Assumes nothing.
use mathlib.Core.Path.{◌≡◌, refl, sym, ◌∙◌, ap}
use mathlib.Core.Logic.{◌⊎◌, inl, inr, ⊎_elim, ◌≢◌}
use mathlib.Core.Bool.{Bool, true, false, ◌||◌, cond, false≢true}
use mathlib.Core.List.{List, [], ◌∷◌, ◌++◌, map, flat_map, append_assoc, append-nil}
use Prim.Native.Nat.{ℕ, suc, ◌+◌, ◌*◌, ◌-◌, ◌/◌, ◌%◌, ◌≤◌, ◌<◌}
use native.Mathlib.Omega.{arith}
use lib.Dec.{eqb}
use borrow.Author.Tests.{ltb-true, leb-true, eqb-true, eqb-false, ne_eqb}
use lib.ListN.{length, length-append}
use Rattle.rules.specs.Lists.{is_in, up_from, below}
use Rattle.rules.specs.Lines.{fine, Line, lines_of}
use Rattle.rules.specs.Frames.{frame_of, byte_at, kind_of, pair_at, kinds, row_in, digits_for, sheets, line_fault, fault_of, checked, frame_text}
use Rattle.rules.specs.Frames.{pair_bytes}
use Rattle.rules.specs.Catalogue.{Catalogue, Carried}
use Rattle.rules.specs.Sheet.{Entry, cites, resolves, entry_fits, entries_fit, refutes, last_line, most_lines, is_refuting, is_sheet_head, is_need_line}
use Rattle.rules.specs.Sheet.{is_resolved, is_sheet_end, entry_in, SheetReading, sheet_reading, sheet_order_fits, sheet_content_fits, with_sheet_frame}
use Rattle.rules.specs.Sheet.{sheet_reader, sheet_fault, entry_text, sheet_text}
use Rattle.rules.specs.Promises.{AcceptsExactly}
use Rattle.rules.proofs.Lists.{and_fst, and_snd, and_both, or_cases, length_last}
use Rattle.rules.proofs.Readers.{Run, stop, step, or_else_none, unless_none, good_line, fine_text, run_text, run_keeps}
use Rattle.rules.proofs.Written.{Bytes, line_text, lines_text_lem, frame_length, frame_step, good_bytes, good_text}

-- ENTRIES as frames
abbrev entry_bytes : Entry → List ℕ
entry_bytes (cites k) = 33 ∷ pair_bytes k
entry_bytes (resolves a b m) = 34 ∷ pair_bytes a ++ pair_bytes b ++ (m ∷ [])

entry_text_lem : (e : Entry) → entry_text e ≡ frame_text (entry_bytes e)
unfolding entry_text
entry_text_lem (cites k) = refl
entry_text_lem (resolves a b m) = refl

-- the two bytes of a number, told by the number
pair_written : (a b : ℕ) → b < 256 → ((a * 256 + b) / 256 ≡ a) × ((a * 256 + b) % 256 ≡ b)
pair_written a b h = (omega arith, omega arith)

-- a frame of a need line or a resolved line
abbrev is_entry : (frame : List ℕ) → Bool
is_entry f = is_need_line f || is_resolved f

module _ (f : List ℕ) (e : is_entry f ≡ true) where
  entry_kind : (kind_of f ≡ 33) ⊎ (kind_of f ≡ 34)
  entry_kind = ⊎_elim (λ p. inl (eqb-true (kind_of f) 33 p)) (λ p. inr (eqb-true (kind_of f) 34 p)) (or_cases (is_need_line f) _ e)

  -- it is neither a head nor an end
  entry_only : (is_sheet_head f ≡ false) × (is_sheet_end f ≡ false)
  entry_only = ⊎_elim (λ p. rw p (refl, refl)) (λ p. rw p (refl, refl)) entry_kind

  -- it adds its entry, and one line less is due
  entry_after : (s : SheetReading) → with_sheet_frame s f ≡ sheet_reading 1 (s.due - 1) (s.entries ++ (entry_in f ∷ []))
  unfolding with_sheet_frame
  entry_after s = rw (entry_only.0, entry_only.1)

  -- its content fits if its entry does
  entry_content : (c : Catalogue) (s : SheetReading) → sheet_content_fits c s f ≡ entry_fits c (length s.entries) (entry_in f)
  unfolding sheet_content_fits
  entry_content c s = rw (entry_only.0, entry_only.1)

-- the end changes only where the reader stands
end_after : (f : List ℕ) → kind_of f ≡ 36 → (s : SheetReading) → with_sheet_frame s f ≡ sheet_reading 2 0 s.entries
unfolding with_sheet_frame
end_after f k s = rw k

module _ (c : Catalogue) where
  -- FROM A RUN TO THE TEXT
  -- what a line with no fault says
  record Taken (s : SheetReading) (l : Line) : Type 0 where
    order : sheet_order_fits s (frame_of l.digits) ≡ true
    content : sheet_content_fits c s (frame_of l.digits) ≡ true
    bytes : (i : ℕ) → byte_at (frame_of l.digits) i < 256
    text : (n : ℕ) → digits_for sheets (kind_of (frame_of l.digits)) ≡ 2 * n + 2 → line_text l ≡ frame_text (map (byte_at (frame_of l.digits)) (below n))

  -- each part of a line that has no fault
  taken_line : (s : SheetReading) (l : Line) → line_fault (sheet_reader c) s l ≡ 0 → Taken s l
  taken_line s l e =
      let good = good_line (sheet_reader c) s l e in
      let parts = or_else_none _ _ good.content in
      record {
        order = unless_none _ 5 (omega arith) parts.0;
        content = unless_none _ 6 (omega arith) parts.1;
        bytes = good_bytes (sheet_reader c) s l good;
        text = λ n. good_text (sheet_reader c) s l n good;
      }

  -- a line of an entry's kind is that entry as written
  entry_line : (s : SheetReading) (l : Line) → Taken s l → is_entry (frame_of l.digits) ≡ true → line_text l ≡ entry_text (entry_in (frame_of l.digits))
  unfolding kinds row_in entry_text up_from
  entry_line s l g e = ⊎_elim cited resolving (entry_kind f e)
    where
      f : List ℕ
      f = frame_of l.digits

      first : (pair_at f 1 / 256 ≡ byte_at f 1) × (pair_at f 1 % 256 ≡ byte_at f 2)
      first = pair_written (byte_at f 1) (byte_at f 2) (g.bytes 2)

      second : (pair_at f 3 / 256 ≡ byte_at f 3) × (pair_at f 3 % 256 ≡ byte_at f 4)
      second = pair_written (byte_at f 3) (byte_at f 4) (g.bytes 4)

      cited : kind_of f ≡ 33 → line_text l ≡ entry_text (entry_in f)
      cited k = rw (k, first.0, first.1) (rw k at (g.text 3 (rw k refl)))

      resolving : kind_of f ≡ 34 → line_text l ≡ entry_text (entry_in f)
      resolving k = rw (k, first.0, first.1, second.0, second.1) (rw k at (g.text 6 (rw k refl)))

  -- nothing follows the end
  after_end : {s u : SheetReading} {ls : List Line} → Run (sheet_reader c) s ls u → s.stands ≡ 2 → (ls ≡ []) × (u ≡ s)
  unfolding sheet_order_fits
  after_end (stop e z) h = (refl, refl)
  after_end (step {s} {l = l} e n) h = absurd (false≢true (rw h at (taken_line s l e).order))

  -- the lines from a state in the body on: the entries that are due, and the end
  record Rest (s : SheetReading) (ls : List Line) (u : SheetReading) : Type 0 where
    due : List Entry
    text : flat_map line_text ls ≡ flat_map entry_text due ++ frame_text (36 ∷ [])
    entries : u.entries ≡ s.entries ++ due
    fits : entries_fit c (length s.entries) due ≡ true
    count : length due ≡ s.due

  -- a run in the body is through the entries that are due and the end
  rest_of_run : {s u : SheetReading} {ls : List Line} → Run (sheet_reader c) s ls u → s.stands ≡ 1 → Rest s ls u
  unfolding kinds row_in up_from flat_map entries_fit sheet_order_fits
  rest_of_run (stop {s} e z) h = absurd (false≢true (rw h at e))
  rest_of_run (step {s} {u} {l} {ls} e n) h =
      go (eqb s.due 0) refl (rw h at taken.order)
      (λ i. rw (entry_after f i s) at (rest_of_run n (ap (λ (x : SheetReading). x.stands) (entry_after f i s))))
    where
      f : List ℕ
      f = frame_of l.digits

      taken : Taken s l
      taken = taken_line s l e

      after : SheetReading
      after = sheet_reading 1 (s.due - 1) (s.entries ++ (entry_in f ∷ []))

      next : is_entry f ≡ true → s.due ≢ 0 → Rest after ls u → Rest s (l ∷ ls) u
      next i d r =
          record {
            due = entry_in f ∷ r.due;
            text = cc (entry_line s l taken i, r.text, append_assoc (entry_text (entry_in f)) (flat_map entry_text r.due) (frame_text (36 ∷ [])));
            entries = r.entries ∙ append_assoc s.entries (entry_in f ∷ []) r.due;
            fits = and_both (rw (entry_content f i c s) at taken.content) (rw (length_last s.entries (entry_in f)) at r.fits);
            count = let n = r.count in omega arith;
          }

      ended : kind_of f ≡ 36 → s.due ≡ 0 → Rest s (l ∷ ls) u
      ended k d =
          let nothing = after_end n (ap (λ (x : SheetReading). x.stands) (end_after f k s)) in
          record {
            due = [];
            text = rw (nothing.0, append-nil) (rw k at (taken.text 1 (rw k refl)));
            entries = ap (λ (x : SheetReading). x.entries) (nothing.1 ∙ end_after f k s) ∙ sym (append-nil s.entries);
            fits = refl;
            count = sym d;
          }

      go : (b : Bool) → eqb s.due 0 ≡ b → cond b (is_sheet_end f) (is_entry f) ≡ true → (is_entry f ≡ true → Rest after ls u) →
          Rest s (l ∷ ls) u
      go true d k r = ended (eqb-true (kind_of f) 36 k) (eqb-true s.due 0 d)
      go false d k r = next k (eqb-false s.due 0 d) (r k)

  -- a run from the start is through the lines of a refuting sheet
  sheet_of_run : {s u : SheetReading} {ls : List Line} → Run (sheet_reader c) s ls u → s.stands ≡ 0 →
      (is_refuting c u.entries ≡ true) × (flat_map line_text ls ≡ sheet_text u.entries)
  unfolding kinds row_in up_from flat_map sheet_order_fits sheet_content_fits with_sheet_frame sheet_text is_refuting
  sheet_of_run (stop {s} e z) h = absurd (false≢true (rw h at e))
  sheet_of_run (step {s} {u} {l} {ls} e n) h = (and_both (and_both counted fitting) refuting, text)
    where
      f : List ℕ
      f = frame_of l.digits

      taken : Taken s l
      taken = taken_line s l e

      kind : kind_of f ≡ 32
      kind = eqb-true (kind_of f) 32 (rw h at taken.order)

      rest : Rest (sheet_reading 1 (pair_at f 1) []) ls u
      rest = rw kind at (rest_of_run n (rw kind refl))

      es : List Entry
      es = u.entries

      count : length es ≡ pair_at f 1
      count = rw rest.entries rest.count

      counted : is_in 1 most_lines (length es) ≡ true
      counted = rw count (rw kind at taken.content)

      fitting : entries_fit c 0 es ≡ true
      fitting = rw rest.entries rest.fits

      refuting : refutes c (last_line c es) ≡ true
      refuting = unless_none _ 13 (omega arith) (run_keeps (sheet_reader c) (λ x. Unit {0}) (λ x k p g. tt) tt n).2

      head : line_text l ≡ frame_text (32 ∷ pair_bytes (length es))
      head =
          let p = pair_written (byte_at f 1) (byte_at f 2) (taken.bytes 2) in
          rw (count, p.0, p.1) (rw kind at (taken.text 3 (rw kind refl)))

      text : flat_map line_text (l ∷ ls) ≡ sheet_text es
      text =
          cc (head, rest.text, rest.entries, append_assoc (frame_text (32 ∷ pair_bytes (length es))) (flat_map entry_text es) (frame_text (36 ∷ [])))

  -- FROM A SHEET TO THE RUN
  -- an entry as a frame, which is read back as the entry
  record EntryFrame (e : Entry) : Type 0 where
    bytes : Bytes (entry_bytes e)
    some : 0 < length (entry_bytes e)
    kind : is_entry (checked (entry_bytes e)) ≡ true
    digits : digits_for sheets (kind_of (checked (entry_bytes e))) ≡ 2 * length (entry_bytes e) + 2
    read : entry_in (checked (entry_bytes e)) ≡ e

  -- an entry that fits has such a frame
  entry_frame : Carried c → (i : ℕ) → i ≤ most_lines → (e : Entry) → entry_fits c i e ≡ true → EntryFrame e
  unfolding kinds row_in
  entry_frame h i m (cites k) e =
      let known = ltb-true k (length c.needs) e in
      let most = h.needs in
      record { bytes = omega arith; some = omega arith; kind = refl; digits = refl; read = ap cites (omega arith) }
  entry_frame h i m (resolves a b k) e =
      let first = ltb-true a i (search (and_fst, and_snd)) in
      let second = ltb-true b i (search (and_fst, and_snd)) in
      let at = ltb-true k c.modules (search (and_fst, and_snd)) in
      let most = h.modules in
      let one : a / 256 * 256 + a % 256 ≡ a = omega arith in
      let other : b / 256 * 256 + b % 256 ≡ b = omega arith in
      record { bytes = omega arith; some = omega arith; kind = refl; digits = refl; read = rw (one, other) }

  -- the frame of an entry that fits has no fault while entries are due
  entry_good : (n : ℕ) (before : List Entry) (f : List ℕ) → is_entry f ≡ true → entry_fits c (length before) (entry_in f) ≡ true →
      (sheet_reader c).fault (sheet_reading 1 (suc n) before) f ≡ 0
  unfolding sheet_order_fits
  entry_good n before f i e = rw (ne_eqb (suc n) 0 (omega arith), i, entry_content f i c (sheet_reading 1 (suc n) before), e)

  -- from a state in the body: the entries still to come fit and complete a list whose last line refutes
  run_of_entries : Carried c → (all : List Entry) → refutes c (last_line c all) ≡ true →
      (es before : List Entry) → before ++ es ≡ all → entries_fit c (length before) es ≡ true → length before + length es ≤ most_lines →
      Run (sheet_reader c) (sheet_reading 1 (length es) before) (lines_of (flat_map entry_text es ++ frame_text (36 ∷ []))) (sheet_reading 2 0 all)
  unfolding kinds row_in flat_map entries_fit lines_of sheet_order_fits sheet_content_fits
  run_of_entries h all z [] before p e m =
      rw (← append-nil (frame_text (36 ∷ []))) (frame_step (sheet_reader c) (36 ∷ []) [] (omega arith) (omega arith) refl refl ended)
    where
      after : with_sheet_frame (sheet_reading 1 0 before) (checked (36 ∷ [])) ≡ sheet_reading 2 0 all
      after = end_after (checked (36 ∷ [])) refl (sheet_reading 1 0 before) ∙ ap (sheet_reading 2 0) (sym (append-nil before) ∙ p)

      ended : Run (sheet_reader c) (with_sheet_frame (sheet_reading 1 0 before) (checked (36 ∷ []))) [] (sheet_reading 2 0 all)
      ended = rw after (stop {s = sheet_reading 2 0 all} refl (rw z))
  run_of_entries h all z (x ∷ es) before p e m =
      let long = length_last before x in
      let next = run_of_entries h all z es (before ++ (x ∷ [])) (append_assoc before (x ∷ []) es ∙ p) (rw long fitting) (omega arith) in
      rw (entry_text_lem x, append_assoc)
      (frame_step (sheet_reader c) (entry_bytes x) rest x_frame.bytes x_frame.some x_frame.digits good (rw after next))
    where
      rest : List ℕ
      rest = flat_map entry_text es ++ frame_text (36 ∷ [])

      x_frame : EntryFrame x
      x_frame = entry_frame h (length before) (omega arith) x (and_fst _ _ e)

      fitting : entries_fit c (suc (length before)) es ≡ true
      fitting = and_snd (entry_fits c (length before) x) _ e

      f : List ℕ
      f = checked (entry_bytes x)

      good : (sheet_reader c).fault (sheet_reading 1 (suc (length es)) before) f ≡ 0
      good = entry_good (length es) before f x_frame.kind (rw x_frame.read (and_fst _ _ e))

      after : with_sheet_frame (sheet_reading 1 (suc (length es)) before) f ≡ sheet_reading 1 (length es) (before ++ (x ∷ []))
      after =
          let less : suc (length es) - 1 ≡ length es = omega arith in
          entry_after f x_frame.kind (sheet_reading 1 (suc (length es)) before) ∙ rw (less, x_frame.read) refl

  -- a refuting sheet has no more lines than a sheet can have
  few_lines : (es : List Entry) → is_refuting c es ≡ true → length es ≤ most_lines
  unfolding is_refuting
  few_lines es e = leb-true (length es) most_lines (search (and_fst, and_snd))

  -- the head is the count's frame, and the rest is what it says
  run_of_sheet : Carried c → (es : List Entry) → is_refuting c es ≡ true →
      Run (sheet_reader c) (sheet_reading 0 0 []) (lines_of (sheet_text es)) (sheet_reading 2 0 es)
  unfolding kinds row_in is_refuting sheet_text sheet_order_fits sheet_content_fits with_sheet_frame
  run_of_sheet h es e =
      rw append_assoc (frame_step (sheet_reader c) bytes rest (omega (arith, few_lines es e)) (omega arith) refl (rw (count, counted)) (rw count entries))
    where
      bytes : List ℕ
      bytes = 32 ∷ pair_bytes (length es)

      rest : List ℕ
      rest = flat_map entry_text es ++ frame_text (36 ∷ [])

      counted : is_in 1 most_lines (length es) ≡ true
      counted = search (and_fst, and_snd)

      count : length es / 256 * 256 + length es % 256 ≡ length es
      count = omega arith

      entries : Run (sheet_reader c) (sheet_reading 1 (length es) []) (lines_of rest) (sheet_reading 2 0 es)
      entries = run_of_entries h es (search (and_fst, and_snd)) es [] refl (search (and_fst, and_snd)) (omega (arith, few_lines es e))

-- a line has at most 15 bytes
entry_length : (e : Entry) → length (entry_text e) ≤ 15
unfolding entry_text
entry_length (cites k) = rw frame_length (omega arith)
entry_length (resolves a b m) = rw frame_length (omega arith)

pub entries_length : (es : List Entry) → length (flat_map entry_text es) ≤ 15 * length es
unfolding flat_map
entries_length [] = omega arith
entries_length (e ∷ es) =
    let one = entry_length e in
    let rest = entries_length es in
    rw length-append (omega arith)

-- the text of the longest sheet, in bytes
pub sheet_short : (c : Catalogue) (es : List Entry) → is_refuting c es ≡ true → length (sheet_text es) ≤ 7214
unfolding sheet_text
sheet_short c es e =
    let few = few_lines c es e in
    let lines = entries_length es in
    simp (length-append, frame_length) (omega arith)

-- the checker accepts exactly the texts of refuting sheets
pub accepts_exactly : AcceptsExactly
accepts_exactly l c t h g = (told, accepted)
  where
    told : sheet_fault l c t ≡ fine → (es : List Entry) × (is_refuting c es ≡ true) × (t ≡ sheet_text es)
    told e =
        let run = fine_text (sheet_reader c) l.bytes (sheet_reading 0 0 []) t e in
        let sheet = sheet_of_run c run.3 refl in
        (run.0.entries, sheet.0, sym (lines_text_lem t) ∙ sheet.1)

    accepted : ((es : List Entry) × (is_refuting c es ≡ true) × (t ≡ sheet_text es)) → sheet_fault l c t ≡ fine
    accepted s = rw s.2 (ap fault_of (run_text (sheet_reader c) l.bytes (sheet_reading 0 0 []) (sheet_reading 2 0 es) (sheet_text es) short run))
      where
        es : List Entry
        es = s.0

        short : length (sheet_text es) ≤ l.bytes
        short = omega (arith, sheet_short c es s.1)

        run : Run (sheet_reader c) (sheet_reading 0 0 []) (lines_of (sheet_text es)) (sheet_reading 2 0 es)
        run = run_of_sheet c g es s.1
