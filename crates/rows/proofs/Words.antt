-- Words and rows of an area: what is read after a word or a row is written, and a row written word by word. Assumes nothing.
use mathlib.Core.Path.{◌≡◌, refl, ◌∙◌, ap}
use mathlib.Core.Logic.{◌≢◌, ⊎_elim}
use mathlib.Core.List.{List}
use Prim.Native.Nat.{ℕ, zero, suc, ◌+◌, ◌*◌, ◌/◌, ◌%◌, ◌≤◌, ◌<◌}
use native.Mathlib.Omega.{arith}
use native.Mathlib.Numerals.{add-one}
use native.Mathlib.Nat.{not-suc-le-zero}
use lib.Arith.{mod-mul}
use lib.ListN.{length, get_or, set, length-set}
use lib.Seq.{get_or-set_same, get_or-set_other}
use Rattle.rules.proofs.Lists.{same_or_not}
use Rattle.rows.specs.Area.{byte_of, word_at, with_word, with_words, absent_word}
use Rattle.rows.proofs.Building.{in_word_small}

-- A WORD WRITTEN keeps the area's length
word_size : (l : List ℕ) (r j x : ℕ) → length (with_word l r j x) ≡ length l
unfolding with_word
word_size l r j x = simp length-set

-- and every byte that is not one of its four
byte_other : (l : List ℕ) (r j x i : ℕ) → i ≢ byte_of r j → i ≢ byte_of r j + 1 → i ≢ byte_of r j + 2 → i ≢ byte_of r j + 3 →
    get_or (with_word l r j x) i 0 ≡ get_or l i 0
unfolding with_word
byte_other l r j x i n0 n1 n2 n3 = simp get_or-set_other

-- so every other word is read as before
word_other : (l : List ℕ) (r j x q k : ℕ) → byte_of q k ≢ byte_of r j → word_at (with_word l r j x) q k ≡ word_at l q k
unfolding word_at
word_other l r j x q k n =
    rw (
      kept at (omega arith) (omega arith),
      kept (at + 1) (omega arith) (omega arith),
      kept (at + 2) (omega arith) (omega arith),
      kept (at + 3) (omega arith) (omega arith),
    )
  where
    at : ℕ
    at = byte_of q k

    kept : (i : ℕ) → byte_of q k ≤ i → i < byte_of q k + 4 → get_or (with_word l r j x) i 0 ≡ get_or l i 0
    kept i a b = byte_other l r j x i (λ e. n (omega arith)) (λ e. n (omega arith)) (λ e. n (omega arith)) (λ e. n (omega arith))

-- the bytes of a word, put together again
bytes_word : (x : ℕ) → x / 16777216 % 256 * 16777216 + x / 65536 % 256 * 65536 + x / 256 % 256 * 256 + x % 256 ≡ x % 4294967296
bytes_word x =
    rw (thrice, twice)
    (joined (x / 256 / 256 / 256 % 256) (x / 256 / 256 % 256) (x / 256 % 256) (x % 256)
    (mod-mul x {m = 16777216} {c = 256} (omega arith) (omega arith))
    (mod-mul (x / 256) {m = 65536} {c = 256} (omega arith) (omega arith))
    (mod-mul (x / 256 / 256) {m = 256} {c = 256} (omega arith) (omega arith)))
  where
    twice : x / 65536 ≡ x / 256 / 256
    twice = omega arith

    thrice : x / 16777216 ≡ x / 256 / 256 / 256
    thrice = let e : x / 16777216 ≡ x / 65536 / 256 = omega arith in e ∙ ap (λ (y : ℕ). y / 256) twice

    joined : (a b c d : ℕ) {y z w : ℕ} → w ≡ y * 256 + d → y ≡ z * 256 + c → z ≡ a * 256 + b → a * 16777216 + b * 65536 + c * 256 + d ≡ w
    joined a b c d p q r = omega arith

-- the word that was written is read, as far as a word goes
word_same : (l : List ℕ) (r j x : ℕ) → byte_of r j + 4 ≤ length l → word_at (with_word l r j x) r j ≡ x % 4294967296
unfolding word_at with_word
word_same l r j x h = rw (first, second, third, last) (bytes_word x)
  where
    at : ℕ
    at = byte_of r j

    one : List ℕ
    one = set l at (x / 16777216 % 256)

    two : List ℕ
    two = set one (at + 1) (x / 65536 % 256)

    three : List ℕ
    three = set two (at + 2) (x / 256 % 256)

    first : get_or (set three (at + 3) (x % 256)) at 0 ≡ x / 16777216 % 256
    first =
        get_or-set_other three (at + 3) at _ 0 (λ e. omega arith) ∙ get_or-set_other two (at + 2) at _ 0 (λ e. omega arith) ∙
        get_or-set_other one (at + 1) at _ 0 (λ e. omega arith) ∙ get_or-set_same l at _ 0 (omega arith)

    second : get_or (set three (at + 3) (x % 256)) (at + 1) 0 ≡ x / 65536 % 256
    second =
        get_or-set_other three (at + 3) (at + 1) _ 0 (λ e. omega arith) ∙ get_or-set_other two (at + 2) (at + 1) _ 0 (λ e. omega arith) ∙
        get_or-set_same one (at + 1) _ 0 (simp length-set (omega arith))

    third : get_or (set three (at + 3) (x % 256)) (at + 2) 0 ≡ x / 256 % 256
    third =
        get_or-set_other three (at + 3) (at + 2) _ 0 (λ e. omega arith) ∙ get_or-set_same two (at + 2) _ 0 (simp length-set (omega arith))

    last : get_or (set three (at + 3) (x % 256)) (at + 3) 0 ≡ x % 256
    last = get_or-set_same three (at + 3) _ 0 (simp length-set (omega arith))

-- THE FIRST WORDS OF A ROW WRITTEN keep the area's length
module _ (l : List ℕ) (r : ℕ) (g : ℕ → ℕ) where
  pub words_size : (n : ℕ) → length (with_words l r g n) ≡ length l
  unfolding with_words
  words_size zero = refl
  words_size (suc n) = word_size (with_words l r g n) r n (g n) ∙ words_size n

  -- and every word that is not one of them
  pub words_other : (n q k : ℕ) → ((j : ℕ) → j < n → byte_of q k ≢ byte_of r j) → word_at (with_words l r g n) q k ≡ word_at l q k
  unfolding with_words
  words_other zero q k h = refl
  words_other (suc n) q k h =
      word_other (with_words l r g n) r n (g n) q k (h n (omega arith)) ∙ words_other n q k (λ j i. h j (omega arith))

  -- and each of them is read as it was written
  pub words_same : (n j : ℕ) → j < n → byte_of r n ≤ length l → word_at (with_words l r g n) r j ≡ g j % 4294967296
  unfolding with_words
  words_same zero j i h = absurd (not-suc-le-zero i)
  words_same (suc n) j i h =
      ⊎_elim (λ e. rw e (word_same (with_words l r g n) r n (g n) (omega (arith, words_size n))))
      (λ d. word_other (with_words l r g n) r n (g n) r j (λ e. d (omega arith)) ∙ words_same n j (omega arith) (omega arith))
      (same_or_not j n)

-- FILLED SO FAR: the first j words of a row whose word of absent is word w
pub record Filled (old : List ℕ) (r : ℕ) (g : ℕ → ℕ) (w : ℕ) (area : List ℕ) (j : ℕ) : Type 0 where
  pub room : w ≤ 32
  pub within : j ≤ suc w
  pub size : length area ≡ length old
  pub same : area ≡ with_words old r g j

pub none_filled : (old : List ℕ) (r : ℕ) (g : ℕ → ℕ) (ms : ℕ) {w : ℕ} → w ≡ absent_word ms → Filled old r g w old 0
unfolding with_words
none_filled old r g ms e = record { room = omega (arith, in_word_small ms); within = omega arith; size = refl; same = refl }

module _ (old : List ℕ) (r : ℕ) (g : ℕ → ℕ) {w : ℕ} {area : List ℕ} {j : ℕ} (f : Filled old r g w area j) where
  pub word_filled : {next : List ℕ} {x : ℕ} → j < w + 1 → x ≡ g j → next ≡ with_word area r j x → Filled old r g w next (j + 1)
  unfolding with_words
  word_filled {next} {x} h e s =
      record {
        room = f.room;
        within = omega arith;
        size = ap length s ∙ word_size area r j x ∙ f.size;
        same = s ∙ rw (e, add-one, f.same);
      }

  -- word j of any row is read as it was: it is not written yet
  pub not_yet : (q : ℕ) → j < w + 1 → word_at area q j ≡ word_at old q j
  not_yet q h =
      ap (λ (l : List ℕ). word_at l q j) f.same ∙
      words_other old r g j q j (λ i l e. let same : q ≡ r = omega (arith, f.room) in omega arith)
