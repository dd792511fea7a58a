-- The tables give a module's versions newest first as a falling run of places (`newest_run`). Assumes nothing.
use mathlib.Core.Path.{◌≡◌, refl, sym, ◌∙◌, ap}
use mathlib.Core.Bool.{Bool, true, false, cond}
use mathlib.Core.List.{List, [], ◌∷◌, ◌++◌, append-nil}
use Prim.Native.Nat.{ℕ, zero, suc, ◌+◌}
use native.Mathlib.Omega.{arith}
use lib.ListN.{length, get_or}
use Rattle.rules.specs.Lists.{keep, up_from, below, down_from}
use Rattle.rules.specs.Catalogue.{Catalogue, is_of}
use Rattle.rules.specs.Search.{newest_first}
use Rattle.rules.proofs.Lists.{up_from_last}
use Rattle.store.specs.declared.tables.Tables.{Tables}
use Rattle.store.specs.Tables.{Holds}
use Rattle.search.specs.Choosing.{falling}

-- a list from its end
backwards : List ℕ → List ℕ
backwards [] = []
backwards (x ∷ xs) = backwards xs ++ (x ∷ [])

backwards_last : (xs : List ℕ) (y : ℕ) → backwards (xs ++ (y ∷ [])) ≡ y ∷ backwards xs
unfolding backwards
backwards_last [] y = refl
backwards_last (x ∷ xs) y = rw (backwards_last xs y)

keep_last : (f : ℕ → Bool) (xs : List ℕ) (y : ℕ) → keep f (xs ++ (y ∷ [])) ≡ keep f xs ++ cond (f y) (y ∷ []) []
unfolding keep
keep_last f [] y = refl
keep_last f (x ∷ xs) y = rw (keep_last f xs y) (go (f x))
  where
    go : (b : Bool) → cond b (x ∷ (keep f xs ++ cond (f y) (y ∷ []) [])) (keep f xs ++ cond (f y) (y ∷ []) []) ≡
        cond b (x ∷ keep f xs) (keep f xs) ++ cond (f y) (y ∷ []) []
    go true = refl
    go false = refl

-- what is kept of the falling numbers is what is kept of the rising ones, from its end
kept_backwards : (f : ℕ → Bool) (n : ℕ) → keep f (down_from n) ≡ backwards (keep f (below n))
unfolding keep down_from up_from backwards
kept_backwards f zero = refl
kept_backwards f (suc n) = go (f n) (kept_backwards f n) ∙ sym right
  where
    right : backwards (keep f (below (suc n))) ≡ backwards (keep f (below n) ++ cond (f n) (n ∷ []) [])
    right =
        ap (λ (l : List ℕ). backwards (keep f l)) (up_from_last 0 n ∙ ap (λ (k : ℕ). below n ++ (k ∷ [])) (omega arith)) ∙
        ap backwards (keep_last f (below n) n)

    go : (b : Bool) → keep f (down_from n) ≡ backwards (keep f (below n)) →
        cond b (n ∷ keep f (down_from n)) (keep f (down_from n)) ≡ backwards (keep f (below n) ++ cond b (n ∷ []) [])
    go true e = ap (λ (l : List ℕ). n ∷ l) e ∙ sym (backwards_last (keep f (below n)) n)
    go false e = e ∙ ap backwards (sym (append-nil (keep f (below n))))

run_backwards : (i n : ℕ) → backwards (up_from i n) ≡ falling i n
unfolding up_from falling backwards
run_backwards i zero = refl
run_backwards i (suc n) = ap backwards (up_from_last i n) ∙ (backwards_last (up_from i n) (i + n) ∙ ap (λ (l : List ℕ). (i + n) ∷ l) (run_backwards i n))

pub newest_run : (t : Tables) (c : Catalogue) (m : ℕ) → Holds t c → newest_first c m ≡ falling (get_or t.firsts m 0) (get_or t.counts m 0)
newest_run t c m h = kept_backwards (is_of c m) (length c.versions) ∙ (ap backwards (h.places m) ∙ run_backwards _ _)
