-- The row of a resolved line stands for the line where the rows of both earlier lines do (`resolved_stands`). Assumes nothing.
use mathlib.Core.Path.{◌≡◌, refl, sym, ◌∙◌, ap, ap₂}
use mathlib.Core.Bool.{Bool, true, false, ◌&&◌, ◌||◌, cond, and-false, or-true}
use Prim.Native.Nat.{ℕ, ◌<◌}
use native.Mathlib.Omega.{arith}
use borrow.Author.Tests.{eq-eqb, ne_eqb}
use lib.Bits.{bit_and, bit_or}
use lib.Dec.{eqb}
use Rattle.rules.specs.Sheet.{resolved}
use Rattle.rules.proofs.Lists.{cond_same, cond_true, cond_false}
use Rattle.rows.specs.Bits.{has_bit, one_bit}
use Rattle.rows.specs.Area.{word_at, absent_word}
use Rattle.rows.specs.Derived.{resolved_word}
use Rattle.rows.specs.Laws.{ResolvedStands}
use Rattle.rows.proofs.Halving.{or_bits, and_bits}
use Rattle.rows.proofs.Standing.{row_bit, row_no_bit, built_bit, before_absent}

-- the union at the module resolved at, the intersection at every other
abbrev joined : (here one other : Bool) → Bool
joined e p q = cond e (p || q) (p && q)

-- of two words of absent
masked : (e p q : Bool) → ((p && q) || ((p || q) && e)) ≡ joined e p q
masked true true q = or-true q
masked true false true = refl
masked true false false = refl
masked false true true = refl
masked false true false = refl
masked false false q = and-false q

absent_bit : (w m x y k : ℕ) → k < 32 → has_bit (resolved_word w m x y w) k ≡ joined (eqb k m) (has_bit x k) (has_bit y k)
absent_bit w m x y k l =
    ap (λ (z : ℕ). has_bit z k) (cond_true _ _ (eq-eqb w w refl)) ∙ or_bits (bit_and x y) (bit_and (bit_or x y) (one_bit m)) k ∙
    ap₂ (λ (a b : Bool). a || b) (and_bits x y k) (and_bits (bit_or x y) (one_bit m) k ∙ ap₂ (λ (a b : Bool). a && b) (or_bits x y k) here) ∙
    masked (eqb k m) (has_bit x k) (has_bit y k)
  where
    here : has_bit (one_bit m) k ≡ eqb k m
    here = built_bit (λ i. eqb i m) 0 32 k (omega arith) l ∙ ap (λ (i : ℕ). eqb i m) (omega arith)

-- of two words of a module
version_bit : (w m x y k j : ℕ) → k < w → has_bit (resolved_word w m x y k) j ≡ joined (eqb k m) (has_bit x j) (has_bit y j)
version_bit w m x y k j l = ap (λ (z : ℕ). has_bit z j) (cond_false _ _ (ne_eqb k w (λ e. omega arith))) ∙ go (eqb k m)
  where
    go : (e : Bool) → has_bit (cond e (bit_or x y) (bit_and x y)) j ≡ joined e (has_bit x j) (has_bit y j)
    go true = or_bits x y j
    go false = and_bits x y j

-- THE LAW
pub resolved_stands : ResolvedStands
unfolding resolved
resolved_stands t c narrow area row one other at f g fits s u =
    record {
      absent = λ m l.
          row_bit area row c.modules words fits w m (omega arith) (omega (arith, narrow.modules)) ∙
          absent_bit w at (word_at area one w) (word_at area other w) m (omega (arith, narrow.modules)) ∙
          ap₂ (joined (eqb m at)) (s.absent m l) (u.absent m l);
      versions = λ m j l i.
          row_bit area row c.modules words fits m j (omega (arith, before_absent narrow l)) (omega (arith, narrow.versions m)) ∙ bit m j l ∙
          ap₂ (joined (eqb m at)) (s.versions m j l i) (u.versions m j l i);
      unused = λ m j l i.
          row_no_bit area row c.modules words fits m j (omega (arith, before_absent narrow l))
          (bit m j l ∙ ap₂ (joined (eqb m at)) (s.unused m j l i) (u.unused m j l i) ∙ sym (cond_same (eqb m at)));
    }
  where
    w : ℕ
    w = absent_word c.modules

    words : ℕ → ℕ
    words j = resolved_word w at (word_at area one j) (word_at area other j) j

    bit : (m j : ℕ) → m < c.modules → has_bit (words m) j ≡ joined (eqb m at) (has_bit (word_at area one m) j) (has_bit (word_at area other m) j)
    bit m j l = version_bit w at (word_at area one m) (word_at area other m) m j (before_absent narrow l)
