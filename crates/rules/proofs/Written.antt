-- Frames as they are written: a good line is the frame of the bytes before its last, and the lines of written frames are good ones with those
-- bytes. Assumes nothing.
use mathlib.Core.Path.{◌≡◌, refl, sym, ◌∙◌, ap}
use mathlib.Core.Logic.{⊎_elim}
use mathlib.Core.Bool.{Bool, true, false, ◌&&◌, ◌||◌, not, cond}
use mathlib.Core.List.{List, [], ◌∷◌, ◌++◌, map, flat_map, append_assoc}
use Prim.Native.Nat.{ℕ, zero, suc, ◌+◌, ◌*◌, ◌-◌, ◌/◌, ◌%◌, ◌≤◌, ◌<◌}
use native.Mathlib.Omega.{arith}
use lib.Dec.{ltb, leb, eqb}
use borrow.Author.Tests.{ltb-true, leb-true, eqb-true, eq-eqb, le-leb, not-true}
use lib.ListN.{length, take, drop, length-append}
use lib.Seq.{take-suc, take_all, drop-cons}
use Rattle.rules.specs.Lists.{is_in, all, sum, up_from, below}
use Rattle.rules.specs.Lines.{Line, line, line_feed, with_byte, lines_of, is_digit, shape_fits}
use Rattle.rules.specs.Frames.{digit_of, frame_of, sum_fits, byte_at, kind_of, digits_for, kind_fits, Reader, digit_byte, hex_of, checked, frame_text}
use Rattle.rules.proofs.Lists.{and_fst, and_snd, and_both, or_cases, all_below}
use Rattle.rules.proofs.Readers.{Run, step, Good, line_good}

-- BYTES: numbers below 256
abbrev pub Bytes : List ℕ → Type 0
Bytes [] = Unit {0}
Bytes (b ∷ bs) = (b < 256) × Bytes bs

-- DIGITS, each written and read back, by computation
digit_read : (d : ℕ) → d < 16 → (digit_of (digit_byte d) ≡ d) × (is_digit (digit_byte d) ≡ true)
unfolding all up_from
digit_read d h = (eqb-true _ d (and_fst _ _ passes), and_snd (eqb (digit_of (digit_byte d)) d) _ passes)
  where
    passes : (eqb (digit_of (digit_byte d)) d && is_digit (digit_byte d)) ≡ true
    passes = all_below (λ (x : ℕ). eqb (digit_of (digit_byte x)) x && is_digit (digit_byte x)) {n = 16} refl h

-- a digit is what its value is written as, and no line feed
digit_written : (c : ℕ) → is_digit c ≡ true → (digit_of c < 16) × (digit_byte (digit_of c) ≡ c) × (eqb c line_feed ≡ false)
unfolding all up_from
digit_written c e = (
  ltb-true _ 16 (and_fst _ _ (and_fst _ _ written)),
  eqb-true _ c (and_snd (ltb (digit_of c) 16) _ (and_fst _ _ written)),
  not-true _ (and_snd (ltb (digit_of c) 16 && eqb (digit_byte (digit_of c)) c) _ written),
)
  where
    good : ℕ → Bool
    good x = ltb (digit_of x) 16 && eqb (digit_byte (digit_of x)) x && not (eqb x line_feed)

    small : c < 71
    small = ⊎_elim (λ p. let h = leb-true c 57 (and_snd (leb 48 c) _ p) in omega arith)
        (λ p. let h = leb-true c 70 (and_snd (leb 65 c) _ p) in omega arith) (or_cases (is_in 48 57 c) _ e)

    passes : (not (is_digit c) || good c) ≡ true
    passes = all_below (λ (x : ℕ). not (is_digit x) || good x) {n = 71} refl small

    written : good c ≡ true
    written = rw e at passes

-- HEX AND FRAMES
pub hex_length : (bs : List ℕ) → length (hex_of bs) ≡ 2 * length bs
unfolding hex_of
hex_length [] = refl
hex_length (b ∷ bs) = let e = hex_length bs in omega arith

-- bytes are written in digits
hex_digits : (bs : List ℕ) → Bytes bs → all is_digit (hex_of bs) ≡ true
unfolding hex_of all
hex_digits [] h = refl
hex_digits (b ∷ bs) h =
    and_both (digit_read (b / 16) (omega arith)).1 (and_both (digit_read (b % 16) (omega arith)).1 (hex_digits bs h.1))

-- bytes, read back from their digits
frame_read : (bs : List ℕ) → Bytes bs → frame_of (hex_of bs) ≡ bs
unfolding hex_of frame_of
frame_read [] h = refl
frame_read (b ∷ bs) h =
    rw ((digit_read (b / 16) (omega arith)).0, (digit_read (b % 16) (omega arith)).0, frame_read bs h.1)
    (ap (λ (x : ℕ). x ∷ bs) (omega arith))

-- an even number of digits is what the bytes of their frame are written as
pub hex_written : (ds : List ℕ) → all is_digit ds ≡ true → length ds % 2 ≡ 0 →
    (hex_of (frame_of ds) ≡ ds) × Bytes (frame_of ds) × (length ds ≡ 2 * length (frame_of ds))
unfolding hex_of frame_of all
hex_written [] e h = (refl, tt, refl)
hex_written (a ∷ []) e h = absurd (not_odd h)
  where
    not_odd : (◌≡◌ {A = ℕ} (1 % 2) 0) → ⊥
    not_odd p = omega arith
hex_written (a ∷ b ∷ ds) e h =
    let x = digit_written a (and_fst _ _ e) in
    let y = digit_written b (and_fst _ _ (and_snd (is_digit a) _ e)) in
    let r = hex_written ds (and_snd (is_digit b) _ (and_snd (is_digit a) _ e)) (omega arith) in
    let high : (16 * digit_of a + digit_of b) / 16 ≡ digit_of a = omega arith in
    let low : (16 * digit_of a + digit_of b) % 16 ≡ digit_of b = omega arith in
    (rw (high, low, x.1, y.1, r.0), (omega arith, r.1), omega arith)

-- CHECK BYTES
pub sum_last : (bs : List ℕ) (x : ℕ) → sum (bs ++ (x ∷ [])) ≡ sum bs + x
unfolding sum
sum_last [] x = omega arith
sum_last (b ∷ bs) x = let e = sum_last bs x in omega arith

-- one more byte
bytes_last : (bs : List ℕ) (x : ℕ) → Bytes bs → x < 256 → Bytes (bs ++ (x ∷ []))
bytes_last [] x h g = (g, tt)
bytes_last (b ∷ bs) x h g = (h.0, bytes_last bs x h.1 g)

checked_bytes : (bs : List ℕ) → Bytes bs → Bytes (checked bs)
checked_bytes bs h = bytes_last bs ((256 - sum bs % 256) % 256) h (omega arith)

-- the sum tells the last byte
check_told : (bs : List ℕ) (x : ℕ) → x < 256 → sum (bs ++ (x ∷ [])) % 256 ≡ 0 → bs ++ (x ∷ []) ≡ checked bs
check_told bs x h e = let q = sum_last bs x in ap (λ (y : ℕ). bs ++ (y ∷ [])) (omega arith)

-- LINES AS WRITTEN
abbrev pub written_line : (bytes : List ℕ) → Line
written_line bs = line (hex_of (checked bs)) true

-- the text of a line
abbrev pub line_text : Line → List ℕ
line_text l = l.digits ++ cond l.is_ended (line_feed ∷ []) []

-- a text is that of its lines
pub lines_text_lem : (t : List ℕ) → flat_map line_text (lines_of t) ≡ t
unfolding lines_of with_byte flat_map
lines_text_lem [] = refl
lines_text_lem (c ∷ cs) = go (eqb c line_feed) refl (lines_text_lem cs)
  where
    with_byte_lem : (ls : List Line) → flat_map line_text (with_byte c ls) ≡ c ∷ flat_map line_text ls
    with_byte_lem [] = refl
    with_byte_lem (l ∷ ls) = refl

    go : (b : Bool) → eqb c line_feed ≡ b → flat_map line_text (lines_of cs) ≡ cs →
        flat_map line_text (cond b (line [] true ∷ lines_of cs) (with_byte c (lines_of cs))) ≡ c ∷ cs
    go true e r = rw (eqb-true c line_feed e, r)
    go false e r = with_byte_lem (lines_of cs) ∙ ap (λ (x : List ℕ). c ∷ x) r

-- digits and a line feed are one ended line
lines_cons : (ds t : List ℕ) → all is_digit ds ≡ true → lines_of (ds ++ (line_feed ∷ t)) ≡ line ds true ∷ lines_of t
unfolding lines_of with_byte all
lines_cons [] t e = refl
lines_cons (d ∷ ds) t e = rw ((digit_written d (and_fst _ _ e)).2, lines_cons ds t (and_snd (is_digit d) _ e))

-- and so is a written frame, from which its bytes are read back
frame_lines : (bs t : List ℕ) → Bytes bs → lines_of (frame_text bs ++ t) ≡ written_line bs ∷ lines_of t
unfolding frame_text
frame_lines bs t h = rw append_assoc (lines_cons (hex_of (checked bs)) t (hex_digits (checked bs) (checked_bytes bs h)))

-- the line of a written frame is read back as its bytes and the check byte
written_frame : (bs : List ℕ) → Bytes bs → frame_of (written_line bs).digits ≡ checked bs
written_frame bs h = frame_read (checked bs) (checked_bytes bs h)

-- the frames of a text's lines
abbrev pub frames_of : (text : List ℕ) → List (List ℕ)
frames_of t = map (λ (l : Line). frame_of l.digits) (lines_of t)

-- the frames of a text that begins with a written frame
pub frames_cons : (bs t : List ℕ) → Bytes bs → frames_of (frame_text bs ++ t) ≡ checked bs ∷ frames_of t
frames_cons bs t h = rw (frame_lines bs t h, written_frame bs h)

pub frame_length : (bs : List ℕ) → length (frame_text bs) ≡ 2 * length bs + 3
unfolding frame_text
frame_length bs = simp (length-append, hex_length) (omega arith)

-- the first bytes of a frame, one by one
take_bytes : (n i : ℕ) (f : List ℕ) → i + n ≤ length f → take n (drop i f) ≡ map (byte_at f) (up_from i n)
unfolding up_from
take_bytes zero i f h = refl
take_bytes (suc n) i f h =
    rw (drop-cons f i 0 (omega arith)) (ap (λ (x : List ℕ). byte_at f i ∷ x) (take_bytes n (suc i) f (omega arith)))

-- each byte is below 256, and 0 past the end
pub byte_small : (f : List ℕ) (i : ℕ) → Bytes f → byte_at f i < 256
byte_small [] i h = omega arith
byte_small (b ∷ f) zero h = h.0
byte_small (b ∷ f) (suc i) h = byte_small f i h.1

module _ {S : Type 0} (r : Reader S) where
  -- a frame as it is written is a good line of its bytes if its kind has so many and the reader takes it
  pub frame_step : (bs t : List ℕ) {s u : S} → Bytes bs → 0 < length bs → digits_for r.text (kind_of (checked bs)) ≡ 2 * length bs + 2 →
      r.fault s (checked bs) ≡ 0 → Run r (r.after s (checked bs)) (lines_of t) u → Run r s (lines_of (frame_text bs ++ t)) u
  unfolding shape_fits sum_fits kind_fits
  frame_step bs t {s} {u} h g k e n =
      rw (frame_lines bs t h) (step {u = u} {ls = lines_of t} (line_good r s (written_line bs) good) (rw (written_frame bs h) n))
    where
      digits : ℕ
      digits = length (hex_of (checked bs))

      long : digits ≡ 2 * length bs + 2
      long = simp (hex_length, length-append) (omega arith)

      sums : sum (checked bs) % 256 ≡ 0
      sums = rw (sum_last bs ((256 - sum bs % 256) % 256)) (omega arith)

      good : Good r s (written_line bs)
      good =
          record {
            shape =
                and_both (and_both (le-leb 4 digits (omega (arith, long))) (eq-eqb (digits % 2) 0 (omega (arith, long))))
                (hex_digits (checked bs) (checked_bytes bs h));
            sum = rw (written_frame bs h) (eq-eqb _ 0 sums);
            kind = rw (written_frame bs h) (eq-eqb digits _ (long ∙ sym k));
            content = rw (written_frame bs h) e;
          }

  -- GOOD LINES are written frames
  good_hex : (s : S) (l : Line) → Good r s l →
      (hex_of (frame_of l.digits) ≡ l.digits) × Bytes (frame_of l.digits) × (length l.digits ≡ 2 * length (frame_of l.digits))
  unfolding shape_fits
  good_hex s l g = hex_written l.digits (search (and_fst, and_snd, g.shape)) (eqb-true (length l.digits % 2) 0 (search (and_fst, and_snd, g.shape)))

  -- so the bytes of a good line are bytes
  pub good_bytes : (s : S) (l : Line) → Good r s l → (i : ℕ) → byte_at (frame_of l.digits) i < 256
  good_bytes s l g i = byte_small (frame_of l.digits) i (good_hex s l g).1

  -- a good line of a kind with 2n + 2 digits is the written frame of its first n bytes
  pub good_text : (s : S) (l : Line) (n : ℕ) → Good r s l → digits_for r.text (kind_of (frame_of l.digits)) ≡ 2 * n + 2 →
      line_text l ≡ frame_text (map (byte_at (frame_of l.digits)) (below n))
  unfolding shape_fits sum_fits kind_fits frame_text
  good_text s l n g k = rw ended (ap (λ (ds : List ℕ). ds ++ (line_feed ∷ [])) (sym hex.0 ∙ ap hex_of written))
    where
      f : List ℕ
      f = frame_of l.digits

      ended : l.is_ended ≡ true
      ended = search (and_fst, and_snd, g.shape)

      hex : (hex_of f ≡ l.digits) × Bytes f × (length l.digits ≡ 2 * length f)
      hex = good_hex s l g

      long : length f ≡ suc n
      long = let e = eqb-true (length l.digits) (digits_for r.text (kind_of f)) g.kind in omega (arith, hex.2)

      whole : take n f ++ (byte_at f n ∷ []) ≡ f
      whole = sym (take-suc f n 0 (omega (arith, long))) ∙ take_all (suc n) f (omega (arith, long))

      written : f ≡ checked (map (byte_at f) (below n))
      written =
          sym whole ∙ check_told (take n f) (byte_at f n) (good_bytes s l g n) (rw whole (eqb-true _ 0 g.sum)) ∙
          ap checked (take_bytes n 0 f (omega (arith, long)))
