-- A row refutes just if the incompatibility that it stands for does (`refutes_law`). Assumes nothing.
use mathlib.Core.Path.{◌≡◌, refl, sym, ◌∙◌, ap, ap₂}
use mathlib.Core.Bool.{Bool, true, ◌&&◌, ◌||◌, and-true}
use mathlib.Core.List.Memᴰ.{head as here}
use mathlib.Core.List.Memᴰ.{tail as there}
use mathlib.Core.List.{List, [], ◌∷◌, Memᴰ as Mem}
use Prim.Native.Nat.{ℕ, suc, ◌<◌}
use native.Mathlib.Omega.{arith}
use lib.Dec.{eqb}
use lib.ListN.{length, get_or}
use Rattle.rules.specs.Lists.{all, up_from, below}
use Rattle.rules.specs.Catalogue.{Catalogue, WellFormed, places_of}
use Rattle.rules.specs.Sheet.{Incompatibility, is_full, refutes}
use Rattle.rules.proofs.Lists.{below_mem, length_up_from}
use Rattle.rules.proofs.Partials.{root_fits_lem}
use Rattle.store.specs.Tables.{Holds}
use Rattle.store.specs.declared.tables.Tables.{Tables}
use Rattle.store.specs.Lent.{lent_by}
use Rattle.rows.specs.Bits.{has_bit, bits_of}
use Rattle.rows.specs.Area.{word_at, absent_word}
use Rattle.rows.specs.Derived.{is_full_in, refutes_in}
use Rattle.rows.specs.Stands.{Stands, Narrow}
use Rattle.rows.specs.Laws.{RefutesLaw}
use Rattle.rows.proofs.Halving.{full_word}
use Rattle.rows.proofs.Standing.{in_word_lem}

-- tests that agree on a list's members agree on the list
all_agree : (f g : ℕ → Bool) (xs : List ℕ) → ((x : ℕ) → Mem x xs → f x ≡ g x) → all f xs ≡ all g xs
unfolding all
all_agree f g [] h = refl
all_agree f g (x ∷ xs) h = ap₂ (λ (a b : Bool). a && b) (h x (here refl)) (all_agree f g xs (λ y m. h y (there m)))

module _
    (t : Tables) (c : Catalogue) (holds : Holds t c) (well : WellFormed c) (narrow : Narrow t c)
    (area : List ℕ) (row : ℕ) (f : Incompatibility) (s : Stands t c area row f)
  where
    -- a module's set is full in the row just if it is by the rules
    full_same : (m : ℕ) → m < c.modules → is_full_in area row (absent_word c.modules) (lent_by t c.modules) m ≡ is_full c f m
    full_same m l =
        ap₂ (λ (a b : Bool). a && b) (s.absent m l)
        (ap (λ (n : ℕ). eqb (word_at area row m) (bits_of (λ i. true) 0 n)) (in_word_lem (get_or t.counts m 0) (narrow.versions m)) ∙
        full_word (λ (i : ℕ). f m (suc i)) (get_or t.counts m 0) 0 (get_or t.firsts m 0)
        (word_at area row m) (λ j i. s.versions m j l i) (λ j i. s.unused m j l i) ∙
        ap (all (λ (i : ℕ). f m (suc i))) (sym (holds.places m)))

    -- the root has one version, so its bit 0 is the test
    root_count : get_or t.counts 0 0 ≡ 1
    root_count = sym (length_up_from (get_or t.firsts 0 0) (get_or t.counts 0 0)) ∙ ap length (sym (holds.places 0) ∙ well.root.1)

    root_same : has_bit (word_at area row 0) 0 ≡ all (λ (i : ℕ). f 0 (suc i)) (places_of c 0)
    unfolding all up_from
    root_same =
        s.versions 0 0 (root_fits_lem c well) (omega (arith, root_count)) ∙ ap (λ (i : ℕ). f 0 (suc i)) (omega arith) ∙
        sym (ap (all (λ (i : ℕ). f 0 (suc i))) (holds.places 0 ∙ ap (up_from (get_or t.firsts 0 0)) root_count) ∙ and-true (f 0 (suc (get_or t.firsts 0 0))))

    same_answer : refutes_in area row (lent_by t c.modules) ≡ refutes c f
    unfolding refutes_in refutes
    same_answer =
        ap₂ (λ (a b : Bool). a && b) root_same
        (all_agree _ _ (below c.modules) (λ m l. ap (λ (b : Bool). eqb m 0 || b) (full_same m (below_mem l))))

-- THE LAW
pub refutes_law : RefutesLaw
refutes_law t c holds well narrow area row f s = same_answer t c holds well narrow area row f s
