-- What a need line cites and what the tests of a row answer, put together from what the calls tell: each premise is what one call ensures.
-- Assumes nothing.
use mathlib.Core.Path.{◌≡◌, sym, ◌∙◌, ap, ap₂}
use mathlib.Core.Bool.{Bool, true, false, ◌||◌, and-true, and-false}
use mathlib.Core.List.{List, [], ◌∷◌}
use Prim.Native.Nat.{ℕ, ◌+◌, ◌/◌, ◌%◌}
use lib.Dec.{eqb}
use lib.ListN.{get_or, set}
use Rattle.rules.specs.Lists.{all, below}
use Rattle.rules.proofs.Lists.{cond_true, cond_false}
use Rattle.store.specs.Lent.{Lent}
use Rattle.rows.specs.Bits.{has_bit, in_word, all_bits}
use Rattle.rows.specs.Area.{byte_of, word_at, with_word, absent_word}
use Rattle.rows.specs.Needed.{names, named_bit, need_bit, need_versions}
use Rattle.rows.specs.Derived.{resolved_word, is_full_in, refutes_in}
use Rattle.rows.specs.declared.needed.Cited.{Cited}
use Rattle.rows.proofs.Building.{bits_agree}

-- THE BYTES OF A WORD, stored one behind the other
pub stored_told : (l : List ℕ) (r j x : ℕ) {i : ℕ} {bytes one two three all : List ℕ} → i ≡ byte_of r j →
    bytes ≡ x / 16777216 % 256 ∷ x / 65536 % 256 ∷ x / 256 % 256 ∷ x % 256 ∷ [] → one ≡ set l i (get_or bytes 0 0) →
    two ≡ set one (i + 1) (get_or bytes 1 0) → three ≡ set two (i + 2) (get_or bytes 2 0) → all ≡ set three (i + 3) (get_or bytes 3 0) →
    all ≡ with_word l r j x
unfolding with_word
stored_told l r j x e b s t u v = rw (v, u, t, s, b, e)

-- A MODULE'S WORD, by whether the need names the module
pub names_told : (n : Cited) (m : ℕ) {a b x : Bool} → a ≡ eqb m n.needy.0 → b ≡ eqb m n.target.0 → (a || b) ≡ x → names n m ≡ x
names_told n m e f h = rw (← e, ← f) h

module _ (l : Lent) (n : Cited) (m : ℕ) where
  pub bit_named : names n m ≡ true → (i : ℕ) {b : Bool} → b ≡ named_bit l n m i → b ≡ need_bit l n m i
  bit_named h i e = e ∙ sym (cond_true _ _ h)

  pub word_unnamed : names n m ≡ false → {k w : ℕ} → k ≡ get_or l.counts m 0 → w ≡ all_bits k → w ≡ need_versions l n m
  word_unnamed h e f =
      f ∙ ap all_bits e ∙
      bits_agree (λ i. true) (need_bit l n m) 0 (get_or l.firsts m 0) (in_word (get_or l.counts m 0)) (λ j i. sym (cond_false _ _ h))

-- a word of a resolved line, from that word of both lines as it was read
pub resolved_told : (w m j : ℕ) {x y a b r : ℕ} → x ≡ a → y ≡ b → r ≡ resolved_word w m x y j → r ≡ resolved_word w m a b j
resolved_told w m j e f g = g ∙ ap₂ (λ (u v : ℕ). resolved_word w m u v j) e f

-- what the test asks of each module: it is the root, or its set is full
abbrev pub root_or_full : (area : List ℕ) → (row : ℕ) → Lent → (owner : ℕ) → Bool
root_or_full a r l m = eqb m 0 || is_full_in a r (absent_word l.modules) l m

pub module_told : (area : List ℕ) (r : ℕ) (l : Lent) (m : ℕ) {w : ℕ} {b x : Bool} → w ≡ absent_word l.modules → b ≡ is_full_in area r w l m →
    (eqb m 0 || b) ≡ x → root_or_full area r l m ≡ x
module_told area r l m e f h = rw (← e, ← f) h

-- the answer, where a module failed and where all passed
module _ (area : List ℕ) (r : ℕ) (l : Lent) where
  pub failed_told : all (root_or_full area r l) (below l.modules) ≡ false → false ≡ refutes_in area r l
  unfolding refutes_in
  failed_told h = rw h (sym (and-false (has_bit (word_at area r 0) 0)))

  pub passed_told : {x : ℕ} {b : Bool} → x ≡ word_at area r 0 → b ≡ has_bit x 0 → all (root_or_full area r l) (below l.modules) ≡ true →
      b ≡ refutes_in area r l
  unfolding refutes_in
  passed_told e f h = rw (h, f, e) (sym (and-true (has_bit (word_at area r 0) 0)))
