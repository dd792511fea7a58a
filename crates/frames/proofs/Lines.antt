-- The lines of a text, read pair by pair: each pair goes on with the line there (`byte_more`), ends it (`feed_more`) or makes it a faulty one
-- (`wrong_first`). Such a line is refused by every reader (`misshapen_read`), in the state that it was met in (`misshapen_reached`). Assumes nothing.
use mathlib.Core.Path.{◌≡◌, refl, sym, ◌∙◌, ap}
use mathlib.Core.Logic.{◌⊎◌, ⊎_elim, ◌≢◌}
use mathlib.Core.Bool.{Bool, true, false, ◌&&◌, and-false}
use mathlib.Core.List.{List, [], ◌∷◌, ◌++◌, append-nil}
use Prim.Native.Nat.{ℕ, ◌+◌, ◌*◌, ◌%◌, ◌≤◌, ◌<◌}
use native.Mathlib.Omega.{arith}
use native.Mathlib.Numerals.{add-one}
use lib.Dec.{leb, eqb}
use borrow.Author.Tests.{leb-true, leb-false, le-leb, lt-leb, eq-eqb, ne_eqb}
use lib.ListN.{length, get_or, drop, length-append, drop_of_length-le}
use lib.Seq.{drop-cons}
use Rattle.rules.specs.Lists.{all}
use Rattle.rules.specs.Lines.{fault, Line, line, line_feed, with_byte, lines_of, is_digit, shape_fits}
use Rattle.rules.specs.Frames.{digit_of, frame_of, Reader, bad, line_fault, read_from}
use Rattle.rules.proofs.Lists.{same_or_not}
use Rattle.frames.specs.Digits.{pair_at}
use Rattle.frames.specs.Texts.{reached_from}
use Rattle.frames.specs.declared.digits.Pair.TheVariants.{Byte, LineFeed, Wrong}
use Rattle.frames.proofs.Pairs.{no_feed, IsByte, IsWrong, past, no_digit, alone, no_second, Stands, stands}

-- TESTS of two lists
all_append : (f : ℕ → Bool) (xs ys : List ℕ) → all f (xs ++ ys) ≡ (all f xs && all f ys)
unfolding all
all_append f [] ys = refl
all_append f (x ∷ xs) ys = go (f x) (all_append f xs ys)
  where
    go : (b : Bool) → all f (xs ++ ys) ≡ (all f xs && all f ys) → (b && all f (xs ++ ys)) ≡ ((b && all f xs) && all f ys)
    go true e = e
    go false e = refl

-- CHARACTERS in front of the first line
unfoldable pub with_bytes : List ℕ → List Line → List Line
with_bytes [] ls = ls
with_bytes (c ∷ cs) ls = with_byte c (with_bytes cs ls)

-- more characters in front are put in front one by one
pub bytes_append : (ds es : List ℕ) (ls : List Line) → with_bytes (ds ++ es) ls ≡ with_bytes ds (with_bytes es ls)
unfolding with_bytes
bytes_append [] es ls = refl
bytes_append (d ∷ ds) es ls = ap (with_byte d) (bytes_append ds es ls)

-- the first line and those behind it; a text's end is the start of a line with no line feed
abbrev front : List Line → Line
front [] = line [] false
front (l ∷ ls) = l

abbrev behind : List Line → List Line
behind [] = []
behind (l ∷ ls) = ls

-- characters in front make the first line longer
bytes_line : (ds : List ℕ) (ls : List Line) → 0 < length ds →
    with_bytes ds ls ≡ line (ds ++ (front ls).digits) (front ls).is_ended ∷ behind ls
unfolding with_bytes with_byte
bytes_line [] ls h = absurd (omega arith)
bytes_line (d ∷ []) [] h = refl
bytes_line (d ∷ []) (l ∷ ls) h = refl
bytes_line (d ∷ e ∷ ds) ls h = rw (bytes_line (e ∷ ds) ls (omega arith))

-- in front of a line feed they are a line of their own
pub bytes_feed : (ds : List ℕ) (ls : List Line) → with_bytes ds (line [] true ∷ ls) ≡ line ds true ∷ ls
unfolding with_bytes with_byte
bytes_feed [] ls = refl
bytes_feed (d ∷ ds) ls = rw (bytes_feed ds ls)

-- WHAT STANDS AT A PLACE begins the line there
char_lines : (t : List ℕ) (i : ℕ) → i < length t → get_or t i 0 ≢ line_feed → lines_of (drop i t) ≡ with_byte (get_or t i 0) (lines_of (drop (i + 1) t))
unfolding lines_of
char_lines t i h n = rw (add-one, drop-cons t i 0, ne_eqb (get_or t i 0) line_feed n)

-- and goes on behind the digits before it
char_more : (t : List ℕ) (i : ℕ) (ds : List ℕ) → i < length t → get_or t i 0 ≢ line_feed →
    with_bytes ds (lines_of (drop i t)) ≡ with_bytes (ds ++ (get_or t i 0 ∷ [])) (lines_of (drop (i + 1) t))
unfolding with_bytes
char_more t i ds h n =
    ap (with_bytes ds) (char_lines t i h n) ∙ sym (bytes_append ds (get_or t i 0 ∷ []) (lines_of (drop (i + 1) t)))

module _ (t : List ℕ) (i : ℕ) where
  -- a byte is told where two digits stand
  pub byte_stands : (b : ℕ) → pair_at t i ≡ Byte b → IsByte t i b
  byte_stands b e = rw e at (stands t i)

  -- which go in front of the line behind them
  pub byte_lines : (b : ℕ) → pair_at t i ≡ Byte b →
      lines_of (drop i t) ≡ with_bytes (get_or t i 0 ∷ get_or t (i + 1) 0 ∷ []) (lines_of (drop (i + 2) t))
  unfolding with_bytes
  byte_lines b e = char_lines t i (omega (arith, s.within)) (no_feed _ s.first) ∙ ap (with_byte (get_or t i 0)) next
    where
      s : IsByte t i b
      s = byte_stands b e

      next : lines_of (drop (i + 1) t) ≡ with_byte (get_or t (i + 1) 0) (lines_of (drop (i + 2) t))
      next =
          let two : i + 1 + 1 ≡ i + 2 = omega arith in
          rw two at (char_lines t (i + 1) (omega (arith, s.within)) (no_feed _ s.second))

  -- a line feed is an empty line's end
  pub feed_lines : pair_at t i ≡ LineFeed → (i < length t) × (lines_of (drop i t) ≡ line [] true ∷ lines_of (drop (i + 1) t))
  unfolding lines_of
  feed_lines e = feed (rw e at (stands t i))
    where
      feed : Stands t i LineFeed → (i < length t) × (lines_of (drop i t) ≡ line [] true ∷ lines_of (drop (i + 1) t))
      feed s = (s.0, rw (add-one, drop-cons t i 0 s.0, eq-eqb (get_or t i 0) line_feed s.1))

  -- behind the digits before it: two more digits, or the line's end
  pub byte_more : (ds : List ℕ) (b : ℕ) → pair_at t i ≡ Byte b →
      with_bytes ds (lines_of (drop i t)) ≡ with_bytes (ds ++ (get_or t i 0 ∷ get_or t (i + 1) 0 ∷ [])) (lines_of (drop (i + 2) t))
  byte_more ds b e = ap (with_bytes ds) (byte_lines b e) ∙ sym (bytes_append ds _ (lines_of (drop (i + 2) t)))

  pub feed_more : (ds : List ℕ) → pair_at t i ≡ LineFeed → with_bytes ds (lines_of (drop i t)) ≡ line ds true ∷ lines_of (drop (i + 1) t)
  feed_more ds e = ap (with_bytes ds) (feed_lines e).1 ∙ bytes_feed ds (lines_of (drop (i + 1) t))

  -- with the two more digits all are digits
  pub digits_more : (ds : List ℕ) (b : ℕ) → pair_at t i ≡ Byte b → all is_digit ds ≡ true →
      all is_digit (ds ++ (get_or t i 0 ∷ get_or t (i + 1) 0 ∷ [])) ≡ true
  unfolding all
  digits_more ds b e h = rw (all_append is_digit ds _, h, (byte_stands b e).first, (byte_stands b e).second)

-- THE BYTES of a line's digits: two more digits are one more byte, and a byte is two digits
pub frame_append : (ds : List ℕ) (c d : ℕ) → length ds % 2 ≡ 0 → frame_of (ds ++ (c ∷ d ∷ [])) ≡ frame_of ds ++ ((16 * digit_of c + digit_of d) ∷ [])
unfolding frame_of
frame_append [] c d h = refl
frame_append (x ∷ []) c d h = absurd (omega arith)
frame_append (x ∷ y ∷ ds) c d h = rw (frame_append ds c d (omega arith))

pub frame_size : (ds : List ℕ) → length ds % 2 ≡ 0 → length (frame_of ds) * 2 ≡ length ds
unfolding frame_of
frame_size [] h = refl
frame_size (x ∷ []) h = absurd (omega arith)
frame_size (x ∷ y ∷ ds) h = let e = frame_size ds (omega arith) in omega arith

-- THE SHAPE of a line fits by its bytes, and doesn't with an odd number of digits or something else
pub shape_size : (ds : List ℕ) → all is_digit ds ≡ true → length ds % 2 ≡ 0 → shape_fits (line ds true) ≡ leb 2 (length (frame_of ds))
unfolding shape_fits
shape_size ds e h = rw (e, eq-eqb (length ds % 2) 0 h) (go (leb 2 (length (frame_of ds))) refl)
  where
    go : (b : Bool) → leb 2 (length (frame_of ds)) ≡ b → (leb 4 (length ds) && true && true) ≡ b
    go true p = let g = leb-true 2 (length (frame_of ds)) p in rw (le-leb 4 (length ds) (omega (arith, frame_size ds h)))
    go false p = let g = leb-false 2 (length (frame_of ds)) p in rw (lt-leb 4 (length ds) (omega (arith, frame_size ds h)))

shape_odd : (ds : List ℕ) (z : Bool) → length ds % 2 ≡ 1 → shape_fits (line ds z) ≡ false
unfolding shape_fits
shape_odd ds z h = rw (ne_eqb (length ds % 2) 0 (omega arith), and-false (z && leb 4 (length ds)))

shape_no_digit : (ds : List ℕ) (z : Bool) → all is_digit ds ≡ false → shape_fits (line ds z) ≡ false
unfolding shape_fits
shape_no_digit ds z e = rw e (and-false (z && leb 4 (length ds) && eqb (length ds % 2) 0))

-- A WRONG LINE comes first
pub data Misshapen : List Line → Type 0 where
  misshapen : {l : Line} {ls : List Line} → shape_fits l ≡ false → Misshapen (l ∷ ls)

-- one that begins with the characters `ds` and whose shape does not fit
wrong_line : (ds : List ℕ) (ls : List Line) → 0 < length ds → shape_fits (line (ds ++ (front ls).digits) (front ls).is_ended) ≡ false →
    Misshapen (with_bytes ds ls)
wrong_line ds ls h e = rw (bytes_line ds ls h) (misshapen e)

-- one with a character that is no digit
at_no_digit : (t : List ℕ) (i : ℕ) (ds : List ℕ) → i < length t → get_or t i 0 ≢ line_feed → is_digit (get_or t i 0) ≡ false →
    Misshapen (with_bytes ds (lines_of (drop i t)))
unfolding all
at_no_digit t i ds h m e = rw (char_more t i ds h m) (wrong_line more ls longer (shape_no_digit _ (front ls).is_ended not_all))
  where
    more : List ℕ
    more = ds ++ (get_or t i 0 ∷ [])

    ls : List Line
    ls = lines_of (drop (i + 1) t)

    longer : 0 < length more
    longer = rw (length-append ds (get_or t i 0 ∷ [])) (omega arith)

    not_all : all is_digit (more ++ (front ls).digits) ≡ false
    not_all = simp (all_append is_digit more (front ls).digits, all_append is_digit ds (get_or t i 0 ∷ []), e, and-false)

-- one at which something stands that is no pair of digits and no line feed
pub wrong_first : (t : List ℕ) (i : ℕ) (ds : List ℕ) → pair_at t i ≡ Wrong → length ds % 2 ≡ 0 → (i < length t) ⊎ (0 < length ds) →
    Misshapen (with_bytes ds (lines_of (drop i t)))
unfolding lines_of shape_fits
wrong_first t i ds e even some = go (rw e at (stands t i))
  where
    c : ℕ
    c = get_or t i 0

    more : List ℕ
    more = ds ++ (c ∷ [])

    long : length more ≡ length ds + 1
    long = length-append ds (c ∷ [])

    -- at the text's end no line feed follows
    no_end : (es : List ℕ) (j : ℕ) → length t ≤ j → 0 < length es → Misshapen (with_bytes es (lines_of (drop j t)))
    no_end es j h g = rw (drop_of_length-le t h) (wrong_line es [] g refl)

    -- a line feed after one digit leaves an odd number of digits
    odd : get_or t (i + 1) 0 ≡ line_feed → i + 2 ≤ length t → Misshapen (with_bytes more (lines_of (drop (i + 1) t)))
    odd p h =
        rw (drop-cons t (i + 1) 0 (omega arith), eq-eqb (get_or t (i + 1) 0) line_feed p)
        (wrong_line more _ (omega (arith, long)) (rw (append-nil more) (shape_odd more true (omega (arith, long)))))

    go : IsWrong t i → Misshapen (with_bytes ds (lines_of (drop i t)))
    go (past h) = no_end ds i h (⊎_elim (λ g. absurd (omega arith)) (λ g. g) some)
    go (no_digit h m p) = at_no_digit t i ds h m p
    go (alone h p) = rw (char_more t i ds (omega arith) (no_feed c p)) (no_end more (i + 1) (omega arith) (omega (arith, long)))
    go (no_second h p q) =
        rw (char_more t i ds (omega arith) (no_feed c p))
        (⊎_elim (λ x. odd x h) (λ x. at_no_digit t (i + 1) more (omega arith) x q) (same_or_not (get_or t (i + 1) 0) line_feed))

-- and is refused with fault 2, in the state that it was met in
module _ {S : Type 0} (r : Reader S) (s : S) where
  misshapen_fault : (l : Line) → shape_fits l ≡ false → line_fault r s l ≡ 2
  unfolding line_fault
  misshapen_fault l e = rw e

  pub misshapen_read : (n : ℕ) {ls : List Line} → Misshapen ls → read_from r n s ls ≡ bad (fault 2 n)
  unfolding read_from
  misshapen_read n (misshapen {l} e) = rw (misshapen_fault l e)

  pub misshapen_reached : {ls : List Line} → Misshapen ls → reached_from r s ls ≡ s
  unfolding reached_from
  misshapen_reached (misshapen {l} e) = rw (misshapen_fault l e)
