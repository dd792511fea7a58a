-- A line's fault as the code finds it, from the bytes it has kept, is the reader's, where the code finds the fault of the frame (`line_judged`). Of a
-- line that fits its kind all bytes are kept (`Kept`), so of a good line (`good_kept`). This is the same for every reader. Assumes nothing.
use mathlib.Core.Path.{◌≡◌, refl, sym, ◌∙◌, ap}
use mathlib.Core.Logic.{◌⊎◌, inl, inr, ⊎_elim}
use mathlib.Core.Bool.{Bool, true, false, ◌&&◌, cond}
use mathlib.Core.List.{List, [], ◌∷◌}
use Prim.Native.Nat.{ℕ, ◌*◌, ◌≤◌, ◌<◌}
use native.Mathlib.Omega.{arith}
use lib.Dec.{leb, ltb, eqb}
use lib.ListN.{length, get_or-eq_default}
use borrow.Author.Tests.{eq-eqb, ne_eqb, eqb-true, eqb-false, leb-true, ltb-true, ltb-false}
use Rattle.rules.specs.Lists.{all}
use Rattle.rules.specs.Lines.{Line, line, shape_fits}
use Rattle.rules.specs.Frames as Rules
use Rattle.rules.specs.Frames.{frame_of, byte_at, kind_of, kinds, row_in, digits_for, sum_fits, kind_fits, Reader, line_fault}
use Rattle.rules.proofs.Lists.{and_fst, and_snd, true_or_false}
use Rattle.rules.proofs.Readers.{Good, good_line, in_order}
use Rattle.rules.proofs.Written.{hex_written, byte_small}
use Rattle.frames.specs.Faults.{line_fault_of}
use Rattle.frames.specs.Kinds.{row_for}
use Rattle.frames.specs.Texts.{Kept}
use Rattle.frames.proofs.Lines.{frame_size, shape_size}
use Rattle.frames.proofs.InLine.{longest, InLine}

-- whether two numbers are equal is the same either way round
eqb_turned : (m n : ℕ) → eqb m n ≡ eqb n m
eqb_turned m n = ⊎_elim same other (true_or_false (eqb m n))
  where
    same : eqb m n ≡ true → eqb m n ≡ eqb n m
    same e = e ∙ sym (eq-eqb n m (sym (eqb-true m n e)))

    other : eqb m n ≡ false → eqb m n ≡ eqb n m
    other e = e ∙ sym (ne_eqb n m (λ p. eqb-false m n e (sym p)))

-- the row that is found for a kind is of that kind
pub row_kind : (rs : List Rules.Kind) (t k : ℕ) → (row_in rs t k).kind ≡ k
unfolding row_in
row_kind [] t k = refl
row_kind (r ∷ rs) t k = go (eqb r.text t && eqb r.kind k) refl (row_kind rs t k)
  where
    go : (b : Bool) → (eqb r.text t && eqb r.kind k) ≡ b → (row_in rs t k).kind ≡ k → (cond b r (row_in rs t k)).kind ≡ k
    go true e h = eqb-true r.kind k (and_snd (eqb r.text t) _ e)
    go false e h = h

-- no row of the table has more digits than the longest frame
rows_most : (rs : List Rules.Kind) (t k : ℕ) → all (λ (r : Rules.Kind). leb r.digits (2 * longest)) rs ≡ true → (row_in rs t k).digits ≤ 2 * longest
unfolding row_in all
rows_most [] t k e = omega arith
rows_most (r ∷ rs) t k e = go (eqb r.text t && eqb r.kind k) (rows_most rs t k (and_snd (leb r.digits (2 * longest)) _ e))
  where
    go : (b : Bool) → (row_in rs t k).digits ≤ 2 * longest → (cond b r (row_in rs t k)).digits ≤ 2 * longest
    go true h = leb-true r.digits (2 * longest) (and_fst _ _ e)
    go false h = h

digits_most : (t k : ℕ) → digits_for t k ≤ 2 * longest
unfolding kinds all
digits_most t k = rows_most kinds t k refl

module _ {S : Type 0} (r : Reader S) {text : List ℕ} {from at : ℕ} {kept : List ℕ} {bytes total : ℕ} (q : InLine text from at kept bytes total) where
  abbrev frame : List ℕ
  frame = frame_of q.digits

  -- the kind is kept of every line
  same_kind : byte_at kept 0 ≡ kind_of frame
  same_kind = q.frame_is 0 (omega arith)

  line_kept : kind_fits r.text (line q.digits true) ≡ true → leb 2 bytes ≡ true → Kept r.text kept frame
  unfolding kind_fits
  line_kept fits some =
      record {
        known = λ z. let two = leb-true 2 bytes some in omega (arith, q.bytes_are, size, digits_are);
        small = λ i. byte_small (frame_of q.digits) i (hex_written q.digits q.good q.even).1;
        alike = λ i. ⊎_elim (λ h. q.frame_is i h) (past i) (below_or_not i);
      }
    where
      digits_are : length q.digits ≡ digits_for r.text (kind_of (frame_of q.digits))
      digits_are = eqb-true (length q.digits) (digits_for r.text (kind_of (frame_of q.digits))) fits

      size : length (frame_of q.digits) * 2 ≡ length q.digits
      size = frame_size q.digits q.even

      below_or_not : (j : ℕ) → (j < longest) ⊎ (longest ≤ j)
      below_or_not j = ⊎_elim (λ e. inl (ltb-true j longest e)) (λ e. inr (ltb-false j longest e)) (true_or_false (ltb j longest))

      past : (i : ℕ) → longest ≤ i → byte_at kept i ≡ byte_at (frame_of q.digits) i
      past i h =
          let most = digits_most r.text (kind_of (frame_of q.digits)) in
          get_or-eq_default kept 0 (omega (arith, q.size)) ∙
          sym (get_or-eq_default (frame_of q.digits) 0 (omega (arith, size, digits_are)))

  module _ (u : S) where
    pub line_judged : (fault : ℕ) → (Kept r.text kept frame → fault ≡ r.fault u frame) →
        line_fault_of bytes total (row_for r.text (byte_at kept 0)) fault ≡ line_fault r u (line q.digits true)
    unfolding line_fault_of line_fault sum_fits kind_fits
    line_judged fault law =
        rw (shape, total_same, kind_same) (in_order (leb 2 bytes) (sum_fits l) (kind_fits r.text l) _ _ (λ a d. law (line_kept d a)))
      where
        l : Line
        l = line q.digits true

        shape : shape_fits l ≡ leb 2 bytes
        shape = shape_size q.digits q.good q.even ∙ ap (leb 2) (sym q.bytes_are)

        total_same : eqb total 0 ≡ sum_fits l
        total_same = rw q.total_is

        kind_same : eqb (row_for r.text (byte_at kept 0)).digits (bytes * 2) ≡ kind_fits r.text l
        kind_same = rw (same_kind, q.bytes_are, frame_size q.digits q.even) (eqb_turned (digits_for r.text (kind_of frame)) (length q.digits))

    -- a good line fits its kind
    pub good_kept : line_fault r u (line q.digits true) ≡ 0 → Kept r.text kept frame
    good_kept e = line_kept fits.kind (ap (leb 2) q.bytes_are ∙ (sym (shape_size q.digits q.good q.even) ∙ fits.shape))
      where
        fits : Good r u (line q.digits true)
        fits = good_line r u (line q.digits true) e

-- a reader that finds nothing wrong in any frame
fair : (text : ℕ) → Reader ℕ
fair t = record { text = t; fault = λ s f. 0; after = λ s f. s; is_ended = λ s. true; last = λ s. 0 }

-- of a line with nothing wrong of its own all bytes are kept
pub fits_kept : (t : ℕ) {text : List ℕ} {from at : ℕ} {kept : List ℕ} {bytes total : ℕ} (q : InLine text from at kept bytes total) →
    line_fault_of bytes total (row_for t (byte_at kept 0)) 0 ≡ 0 → Kept t kept (frame_of q.digits)
unfolding fair
fits_kept t q z = good_kept (fair t) q 0 (sym (line_judged (fair t) q 0 0 (λ k. refl)) ∙ z)
