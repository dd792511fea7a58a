-- Laws of the tests and lists of specs/Lists.antt: what a passed or failed test says, membership, and lists of numbers. The last lemmas say what
-- holds at every place, and of every two places, of a list with one more element. Assumes nothing.
use mathlib.Core.Path.{◌≡◌, refl, sym, ◌∙◌, ap, subst}
use mathlib.Core.Logic.{◌⊎◌, inl, inr, ⊎_elim, ◌≢◌}
use mathlib.Core.Bool.{Bool, true, false, ◌&&◌, ◌||◌, cond, true≢false, false≢true}
use mathlib.Core.List.Memᴰ.{head as here}
use mathlib.Core.List.Memᴰ.{not-nil}
use mathlib.Core.List.Memᴰ.{tail as there}
use mathlib.Core.List.{List, [], ◌∷◌, ◌++◌, flat_map, Memᴰ as Mem}
use mathlib.Core.List.Memᴰ
use mathlib.Core.Option.{none, some, none-ne-some, some-injective}
use Prim.Native.Nat.{ℕ, zero, suc, ◌+◌, ◌*◌, ◌≤◌, ◌<◌}
use native.Mathlib.Omega.{arith}
use native.Mathlib.Nat.{not-suc-le-zero, not-le_of_lt}
use lib.Dec.{ltb, eqb}
use borrow.Author.Tests.{ltb-true, ltb-false, eqb-true, eqb-false, eq-eqb, ne_eqb, le-ltb, lt-ltb}
use lib.ListN.{length, get_or, length-append, get_or-append}
use lib.Seq.{get_or-append_seam}
use Rattle.rules.specs.Lists.{all, any, keep, first_of, among, count_of, ahead, up_from, below, down_from, same}

-- TESTS
pub and_fst : (a b : Bool) → (a && b) ≡ true → a ≡ true
and_fst true b e = refl
and_fst false b e = e

pub and_snd : (a b : Bool) → (a && b) ≡ true → b ≡ true
and_snd true b e = e
and_snd false b e = absurd (false≢true e)

pub and_both : {a b : Bool} → a ≡ true → b ≡ true → (a && b) ≡ true
and_both p q = rw p q

pub or_cases : (a b : Bool) → (a || b) ≡ true → (a ≡ true) ⊎ (b ≡ true)
or_cases true b e = inl refl
or_cases false b e = inr e

pub or_fst : {a : Bool} (b : Bool) → a ≡ true → (a || b) ≡ true
or_fst b e = rw e

pub or_snd : (a : Bool) {b : Bool} → b ≡ true → (a || b) ≡ true
or_snd true e = refl
or_snd false e = e

pub true_or_false : (a : Bool) → (a ≡ true) ⊎ (a ≡ false)
true_or_false true = inl refl
true_or_false false = inr refl

-- no test both passes and fails
pub not_both : {a : Bool} → a ≡ true → a ≡ false → ⊥
not_both p q = true≢false (sym p ∙ q)

pub cond_true : {A : Type 0} {b : Bool} (x y : A) → b ≡ true → cond b x y ≡ x
cond_true x y e = rw e

pub cond_false : {A : Type 0} {b : Bool} (x y : A) → b ≡ false → cond b x y ≡ y
cond_false x y e = rw e

pub cond_same : {A : Type 0} {x : A} (b : Bool) → x ≡ cond b x x
cond_same true = refl
cond_same false = refl

pub same_or_not : (x y : ℕ) → (x ≡ y) ⊎ (x ≢ y)
same_or_not x y = go (eqb x y) refl
  where
    go : (b : Bool) → eqb x y ≡ b → (x ≡ y) ⊎ (x ≢ y)
    go true e = inl (eqb-true x y e)
    go false e = inr (eqb-false x y e)

-- MEMBERSHIP in what the tests and lists compute
module _ {A : Type 0} where
  pub all_mem : (f : A → Bool) {x : A} {xs : List A} → all f xs ≡ true → Mem x xs → f x ≡ true
  unfolding all
  all_mem f {xs = []} e h = elim h [ ]
  all_mem f {xs = y ∷ ys} e (here p) = rw p (and_fst _ _ e)
  all_mem f {xs = y ∷ ys} e (there h) = all_mem f (and_snd (f y) _ e) h

  pub mem_all : (f : A → Bool) (xs : List A) → ((x : A) → Mem x xs → f x ≡ true) → all f xs ≡ true
  unfolding all
  mem_all f [] h = refl
  mem_all f (y ∷ ys) h = and_both (h y (here refl)) (mem_all f ys (λ x m. h x (there m)))

  pub mem_any : (f : A → Bool) {x : A} {xs : List A} → Mem x xs → f x ≡ true → any f xs ≡ true
  unfolding any
  mem_any f {xs = []} h e = elim h [ ]
  mem_any f {xs = y ∷ ys} (here p) e = or_fst (any f ys) (subst (λ (z : A). f z ≡ true) p e)
  mem_any f {xs = y ∷ ys} (there h) e = or_snd (f y) (mem_any f h e)

  pub any_mem : (f : A → Bool) (xs : List A) → any f xs ≡ true → (x : A) × (Mem x xs × (f x ≡ true))
  unfolding any
  any_mem f [] e = absurd (false≢true e)
  any_mem f (y ∷ ys) e = go (λ h. any_mem f ys h) (or_cases (f y) _ e)
    where
      go : (any f ys ≡ true → (x : A) × (Mem x ys × (f x ≡ true))) → (f y ≡ true) ⊎ (any f ys ≡ true) → (x : A) × (Mem x (y ∷ ys) × (f x ≡ true))
      go r (inl p) = (y, (here refl, p))
      go r (inr p) = ((r p).0, (there (r p).1.0, (r p).1.1))

  pub mem_keep : (f : A → Bool) {x : A} {xs : List A} → Mem x xs → f x ≡ true → Mem x (keep f xs)
  unfolding keep
  mem_keep f {xs = []} h e = elim h [ ]
  mem_keep f {xs = y ∷ ys} (here p) e = rw (subst (λ (z : A). f z ≡ true) p e) (here p)
  mem_keep f {xs = y ∷ ys} (there h) e = go (f y) (mem_keep f h e)
    where
      go : {x : A} (b : Bool) → Mem x (keep f ys) → Mem x (cond b (y ∷ keep f ys) (keep f ys))
      go true m = there m
      go false m = m

  pub keep_mem : (f : A → Bool) (x : A) (xs : List A) → Mem x (keep f xs) → Mem x xs × (f x ≡ true)
  unfolding keep
  keep_mem f x (y ∷ ys) h = go (f y) refl h (λ m. keep_mem f x ys m)
    where
      go : (b : Bool) → f y ≡ b → Mem x (cond b (y ∷ keep f ys) (keep f ys)) → (Mem x (keep f ys) → Mem x ys × (f x ≡ true)) →
          Mem x (y ∷ ys) × (f x ≡ true)
      go true e (here p) r = (here p, rw p e)
      go true e (there m) r = (there (r m).0, (r m).1)
      go false e m r = (there (r m).0, (r m).1)
  keep_mem f x [] h = absurd (not-nil h)

  -- the first that passes is one of the list
  pub first_mem : (f : A → Bool) (xs : List A) (x : A) → first_of f xs ≡ some x → Mem x xs × (f x ≡ true)
  unfolding first_of
  first_mem f [] x e = absurd (none-ne-some _ e)
  first_mem f (y ∷ ys) x e = go (f y) refl e (λ h. first_mem f ys x h)
    where
      go : (b : Bool) → f y ≡ b → cond b (some y) (first_of f ys) ≡ some x → (first_of f ys ≡ some x → Mem x ys × (f x ≡ true)) →
          Mem x (y ∷ ys) × (f x ≡ true)
      go true p q r = (here (sym (some-injective _ _ q)), subst (λ (z : A). f z ≡ true) (some-injective _ _ q) p)
      go false p q r = (there (r q).0, (r q).1)

  -- where there is none, every element fails
  pub first_none : (f : A → Bool) {x : A} {xs : List A} → first_of f xs ≡ none → Mem x xs → f x ≡ false
  unfolding first_of
  first_none f {xs = []} e h = elim h [ ]
  first_none f {xs = y ∷ ys} e h = go (f y) refl e h (λ p m. first_none f {xs = ys} p m)
    where
      go : {x : A} (b : Bool) → f y ≡ b → cond b (some y) (first_of f ys) ≡ none → Mem x (y ∷ ys) →
          (first_of f ys ≡ none → Mem x ys → f x ≡ false) → f x ≡ false
      go true p q m r = absurd (none-ne-some _ (sym q))
      go false p q (here z) r = rw z p
      go false p q (there m) r = r q m

  pub mem_flat_map : {B : Type 0} (f : A → List B) {x : A} {xs : List A} {y : B} → Mem x xs → Mem y (f x) → Mem y (flat_map f xs)
  unfolding flat_map
  mem_flat_map f {xs = []} m h = elim m [ ]
  mem_flat_map {B} f {xs = z ∷ zs} {y} (here p) h = Memᴰ.append_left _ (subst (λ (w : A). Mem y (f w)) p h)
  mem_flat_map f {xs = z ∷ zs} (there m) h = Memᴰ.append_right (f z) (mem_flat_map f m h)

  pub flat_map_mem : {B : Type 0} (f : A → List B) (xs : List A) {y : B} → Mem y (flat_map f xs) → (x : A) × (Mem x xs × Mem y (f x))
  unfolding flat_map
  flat_map_mem f [] h = absurd (not-nil h)
  flat_map_mem {B} f (z ∷ zs) {y} h = go (Memᴰ.append_cases (f z) h) (λ m. flat_map_mem f zs m)
    where
      go : Mem y (f z) ⊎ Mem y (flat_map f zs) → (Mem y (flat_map f zs) → (x : A) × (Mem x zs × Mem y (f x))) → (x : A) × (Mem x (z ∷ zs) × Mem y (f x))
      go (inl m) r = (z, (here refl, m))
      go (inr m) r = ((r m).0, (there (r m).1.0, (r m).1.1))

  -- what is in a list and is not its first is in the rest
  pub rest_mem : {x z : A} {zs : List A} → Mem x (z ∷ zs) → z ≢ x → Mem x zs
  rest_mem (here p) n = absurd (n (sym p))
  rest_mem (there h) n = h

  pub get_or_mem : (d : A) (xs : List A) (i : ℕ) → i < length xs → Mem (get_or xs i d) xs
  get_or_mem d [] i h = absurd (not-suc-le-zero h)
  get_or_mem d (y ∷ ys) zero h = here refl
  get_or_mem d (y ∷ ys) (suc i) h = there (get_or_mem d ys i (omega arith))

-- LISTS OF NUMBERS
pub among_mem : (x : ℕ) (xs : List ℕ) → among x xs ≡ true → Mem x xs
unfolding among
among_mem x [] e = absurd (false≢true e)
among_mem x (y ∷ ys) e = go (or_cases (eqb x y) _ e) (λ h. among_mem x ys h)
  where
    go : (eqb x y ≡ true) ⊎ (among x ys ≡ true) → (among x ys ≡ true → Mem x ys) → Mem x (y ∷ ys)
    go (inl p) r = here (eqb-true x y p)
    go (inr p) r = there (r p)

pub mem_among : {x : ℕ} {xs : List ℕ} → Mem x xs → among x xs ≡ true
unfolding among
mem_among {xs = []} h = elim h [ ]
mem_among {x} {xs = y ∷ ys} (here p) = or_fst (among x ys) (eq-eqb x y p)
mem_among {x} {xs = y ∷ ys} (there h) = or_snd (eqb x y) (mem_among h)

pub mem_up_from : (i n x : ℕ) → i ≤ x → x < i + n → Mem x (up_from i n)
unfolding up_from
mem_up_from i zero x g h = absurd (not-le_of_lt h (omega arith))
mem_up_from i (suc n) x g h =
    ⊎_elim (λ e. here e) (λ e. there (mem_up_from (suc i) n x (omega arith) (omega arith))) (same_or_not x i)

pub up_from_mem : (i n x : ℕ) → Mem x (up_from i n) → (i ≤ x) × (x < i + n)
unfolding up_from
up_from_mem i zero x h = absurd (not-nil h)
up_from_mem i (suc n) x (here p) = (omega arith, omega arith)
up_from_mem i (suc n) x (there h) = let r = up_from_mem (suc i) n x h in (omega arith, omega arith)

pub mem_below : {n x : ℕ} → x < n → Mem x (below n)
mem_below {n} {x} h = mem_up_from 0 n x (omega arith) (omega arith)

pub below_mem : {n x : ℕ} → Mem x (below n) → x < n
below_mem {n} {x} h = let r = up_from_mem 0 n x h in omega arith

pub down_from_mem : (n x : ℕ) → Mem x (down_from n) → x < n
unfolding down_from
down_from_mem zero x h = absurd (not-nil h)
down_from_mem (suc n) x (here p) = omega arith
down_from_mem (suc n) x (there h) = let r = down_from_mem n x h in omega arith

-- of two tests over all below n
pub all_below : (f : ℕ → Bool) {n x : ℕ} → all f (below n) ≡ true → x < n → f x ≡ true
all_below f e h = all_mem f e (mem_below h)

pub below_all : (f : ℕ → Bool) (n : ℕ) → ((x : ℕ) → x < n → f x ≡ true) → all f (below n) ≡ true
below_all f n h = mem_all f (below n) (λ x m. h x (below_mem m))

-- COUNTS
pub count_mem : (x : ℕ) (xs : List ℕ) → 0 < count_of x xs → Mem x xs
unfolding count_of
count_mem x [] h = absurd (not-suc-le-zero h)
count_mem x (y ∷ ys) h = go (eqb x y) refl h (λ r. count_mem x ys r)
  where
    go : (b : Bool) → eqb x y ≡ b → 0 < cond b (suc (count_of x ys)) (count_of x ys) → (0 < count_of x ys → Mem x ys) → Mem x (y ∷ ys)
    go true e g r = here (eqb-true x y e)
    go false e g r = there (r g)

pub mem_count : {x : ℕ} {xs : List ℕ} → Mem x xs → 0 < count_of x xs
unfolding count_of
mem_count {xs = []} h = elim h [ ]
mem_count {x} {xs = y ∷ ys} (here p) = rw (eq-eqb x y p) (omega arith)
mem_count {x} {xs = y ∷ ys} (there h) = go (eqb x y) (mem_count h)
  where
    go : (b : Bool) → 0 < count_of x ys → 0 < cond b (suc (count_of x ys)) (count_of x ys)
    go true g = omega arith
    go false g = g

-- to be below n or below n + 1 is the same for any number but n
ltb_past : (x n : ℕ) → x ≢ n → ltb x n ≡ ltb x (suc n)
ltb_past x n h = go (true_or_false (ltb x n))
  where
    go : (ltb x n ≡ true) ⊎ (ltb x n ≡ false) → ltb x n ≡ ltb x (suc n)
    go (inl e) = let l = ltb-true x n e in e ∙ sym (lt-ltb x (suc n) (omega arith))
    go (inr e) = let l = ltb-false x n e in e ∙ sym (le-ltb x (suc n) (omega arith))

-- each number below n stands once in the list that falls from n - 1
pub count_down_from : (n x : ℕ) → count_of x (down_from n) ≡ cond (ltb x n) 1 0
unfolding count_of down_from
count_down_from zero x = rw (le-ltb x 0 (omega arith))
count_down_from (suc n) x = go (same_or_not x n) (count_down_from n x)
  where
    go : (x ≡ n) ⊎ (x ≢ n) → count_of x (down_from n) ≡ cond (ltb x n) 1 0 → count_of x (n ∷ down_from n) ≡ cond (ltb x (suc n)) 1 0
    go (inl e) r = rw (eq-eqb x n e, lt-ltb x (suc n) (omega arith), r, le-ltb x n (omega arith))
    go (inr e) r = rw (ne_eqb x n e) (r ∙ ap (λ (b : Bool). cond {A = ℕ} b 1 0) (ltb_past x n e))

-- what is kept of a list holds a number as often as the list if it passes, and otherwise not
pub count_keep : (f : ℕ → Bool) (x : ℕ) (xs : List ℕ) → count_of x (keep f xs) ≡ cond (f x) (count_of x xs) 0
unfolding count_of keep
count_keep f x [] = cond_same (f x)
count_keep f x (y ∷ ys) = go (same_or_not x y) (f y) refl (count_keep f x ys)
  where
    go : (x ≡ y) ⊎ (x ≢ y) → (b : Bool) → f y ≡ b → count_of x (keep f ys) ≡ cond (f x) (count_of x ys) 0 →
        count_of x (cond b (y ∷ keep f ys) (keep f ys)) ≡ cond (f x) (count_of x (y ∷ ys)) 0
    go (inl e) true p r = let q : f x ≡ true = rw e p in rw (eq-eqb x y e, r, q)
    go (inl e) false p r = let q : f x ≡ false = rw e p in rw (r, q)
    go (inr e) true p r = rw (ne_eqb x y e) r
    go (inr e) false p r = rw (ne_eqb x y e) r

-- AHEAD: what stands ahead of a number is in the list
pub ahead_mem : {x : ℕ} (y : ℕ) (xs : List ℕ) → Mem x (ahead xs y) → Mem x xs
unfolding ahead
ahead_mem y [] h = h
ahead_mem {x} y (z ∷ zs) h = go (eqb z y) h (λ m. ahead_mem y zs m)
  where
    go : (b : Bool) → Mem x (cond b [] (z ∷ ahead zs y)) → (Mem x (ahead zs y) → Mem x zs) → Mem x (z ∷ zs)
    go true m r = absurd (not-nil m)
    go false (here p) r = here p
    go false (there m) r = there (r m)

-- of two different members one stands ahead of the other
pub one_ahead : {x y : ℕ} {xs : List ℕ} → Mem x xs → Mem y xs → x ≢ y → Mem x (ahead xs y) ⊎ Mem y (ahead xs x)
unfolding ahead
one_ahead {xs = []} h g n = elim h [ ]
one_ahead {x} {y} {xs = z ∷ zs} h g n = go (same_or_not z y) (same_or_not z x) (λ p q. one_ahead p q n)
  where
    go : (z ≡ y) ⊎ (z ≢ y) → (z ≡ x) ⊎ (z ≢ x) → (Mem x zs → Mem y zs → Mem x (ahead zs y) ⊎ Mem y (ahead zs x)) →
        Mem x (ahead (z ∷ zs) y) ⊎ Mem y (ahead (z ∷ zs) x)
    go (inl a) (inl b) r = absurd (n (sym b ∙ a))
    go (inl a) (inr b) r = inr (rw (ne_eqb z x b) (here (sym a)))
    go (inr a) (inl b) r = inl (rw (ne_eqb z y a) (here (sym b)))
    go (inr a) (inr b) r = rw (ne_eqb z y a, ne_eqb z x b) (⊎_elim (λ m. inl (there m)) (λ m. inr (there m)) (r (rest_mem h b) (rest_mem g a)))

-- in a falling list what stands ahead is greater
pub ahead_greater : (f : ℕ → Bool) (n : ℕ) {x y : ℕ} → Mem x (ahead (keep f (down_from n)) y) → Mem y (keep f (down_from n)) → y < x
unfolding ahead keep down_from
ahead_greater f zero h g = absurd (not-nil h)
ahead_greater f (suc n) {x} {y} h g = go (f n) (same_or_not n y) h g (λ p q. ahead_greater f n p q)
  where
    rest : List ℕ
    rest = keep f (down_from n)

    behind : Mem y rest → y < n
    behind m = down_from_mem n y (keep_mem f y (down_from n) m).0

    first : Mem x (n ∷ ahead rest y) → Mem y rest → (Mem x (ahead rest y) → Mem y rest → y < x) → y < x
    first (here p) q r = let b = behind q in omega arith
    first (there p) q r = r p q

    go : (b : Bool) → (n ≡ y) ⊎ (n ≢ y) → Mem x (ahead (cond b (n ∷ rest) rest) y) → Mem y (cond b (n ∷ rest) rest) →
        (Mem x (ahead rest y) → Mem y rest → y < x) → y < x
    go false k p q r = r p q
    go true (inl a) p q r = absurd (not-nil (rw (eq-eqb n y a) at p))
    go true (inr a) p q r = first (rw (ne_eqb n y a) at p) (rest_mem q a) r

pub same_refl : (xs : List ℕ) → same xs xs ≡ true
unfolding same
same_refl [] = refl
same_refl (x ∷ xs) = and_both (eq-eqb x x refl) (same_refl xs)

pub same_false : (xs ys : List ℕ) → same xs ys ≡ false → xs ≢ ys
same_false xs ys e p = not_both (subst (λ (l : List ℕ). same xs l ≡ true) p (same_refl xs)) e

-- the first that is kept of a rising list is the least
pub keep_least : (f : ℕ → Bool) (i n m k : ℕ) (ms : List ℕ) → keep f (up_from i n) ≡ m ∷ ms → Mem k (up_from i n) → f k ≡ true → m ≤ k
unfolding keep up_from
keep_least f i zero m k ms e h t = absurd (not-nil h)
keep_least f i (suc n) m k ms e h t = go (f i) refl e h (λ p q. keep_least f (suc i) n m k ms p q t)
  where
    go : (b : Bool) → f i ≡ b → cond b (i ∷ keep f (up_from (suc i) n)) (keep f (up_from (suc i) n)) ≡ m ∷ ms → Mem k (i ∷ up_from (suc i) n) →
        (keep f (up_from (suc i) n) ≡ m ∷ ms → Mem k (up_from (suc i) n) → m ≤ k) → m ≤ k
    go true p q x r = let z : i ≡ m = cc in let l = (up_from_mem i (suc n) k x).0 in omega arith
    go false p q (here z) r = absurd (not_both t (rw z p))
    go false p q (there x) r = r q x

-- LISTS WITH ONE MORE ELEMENT
abbrev pub longer : {A : Type 0} → List A → A → List A
longer xs x = xs ++ (x ∷ [])

-- one more element, one more in length
pub length_last : {A : Type 0} (xs : List A) (x : A) → length (longer xs x) ≡ suc (length xs)
length_last xs x = rw length-append (omega arith)

module _ {A : Type 0} (d : A) (xs : List A) (x : A) where
  -- what holds at every place, and of the new element at the next, holds at every place of the longer list
  pub one_more : (P : ℕ → A → Type 0) → ((i : ℕ) → i < length xs → P i (get_or xs i d)) → P (length xs) x →
      (i : ℕ) → i < length (longer xs x) → P i (get_or (longer xs x) i d)
  one_more P old new i h = ⊎_elim next before (same_or_not i (length xs))
    where
      next : i ≡ length xs → P i (get_or (longer xs x) i d)
      next e = rw (e, get_or-append_seam xs x [] d) new

      before : i ≢ length xs → P i (get_or (longer xs x) i d)
      before e =
          let g : i < length xs = omega (arith, length_last xs x) in
          rw (get_or-append xs (x ∷ []) d i g) (old i g)

  -- what holds of every two places, the lower one first, and of each with the new element holds of every two places of the longer list
  pub one_more_pair : (R : A → A → Type 0) → ((i j : ℕ) → i < j → j < length xs → R (get_or xs i d) (get_or xs j d)) →
      ((i : ℕ) → i < length xs → R (get_or xs i d) x) →
      (i j : ℕ) → i < j → j < length (longer xs x) → R (get_or (longer xs x) i d) (get_or (longer xs x) j d)
  one_more_pair R old new i j h g = one_more (λ k y. i < k → R (get_or (longer xs x) i d) y) before next j g h
    where
      same : i < length xs → get_or (longer xs x) i d ≡ get_or xs i d
      same m = get_or-append xs (x ∷ []) d i m

      before : (k : ℕ) → k < length xs → i < k → R (get_or (longer xs x) i d) (get_or xs k d)
      before k m n = rw (same (omega arith)) (old i k n m)

      next : i < length xs → R (get_or (longer xs x) i d) x
      next m = rw (same m) (new i m)

-- LENGTHS: what is kept of a list is no longer than the list
pub kept_length : (f : ℕ → Bool) (xs : List ℕ) → length (keep f xs) ≤ length xs
unfolding keep
kept_length f [] = omega arith
kept_length f (x ∷ xs) = go (f x) (kept_length f xs)
  where
    go : (b : Bool) → length (keep f xs) ≤ length xs → length (cond b (x ∷ keep f xs) (keep f xs)) ≤ suc (length xs)
    go true l = omega arith
    go false l = omega arith

-- parts that are alike long, side by side
pub flat_length : (f : ℕ → List ℕ) (n : ℕ) → ((x : ℕ) → length (f x) ≡ n) → (xs : List ℕ) → length (flat_map f xs) ≡ n * length xs
unfolding flat_map
flat_length f n e [] = omega arith
flat_length f n e (x ∷ xs) =
    let one = e x in
    let rest = flat_length f n e xs in
    rw (length-append (f x) (flat_map f xs)) (omega arith)

-- numbers from `i` up are as many as asked for
pub length_up_from : (i n : ℕ) → length (up_from i n) ≡ n
unfolding up_from
length_up_from i zero = refl
length_up_from i (suc n) = ap suc (length_up_from (suc i) n)

-- one more number, at the end
pub up_from_last : (i n : ℕ) → up_from i (suc n) ≡ longer (up_from i n) (i + n)
unfolding up_from
up_from_last i zero = let e : i ≡ i + 0 = omega arith in ap (λ (k : ℕ). k ∷ []) e
up_from_last i (suc n) =
    let e : suc i + n ≡ i + suc n = omega arith in
    ap (λ (l : List ℕ). i ∷ l) (up_from_last (suc i) n ∙ ap (λ (k : ℕ). longer (up_from (suc i) n) k) e)

-- LISTS KEPT BY A TEST: of one number more, by a test that is the same for the others
keep_more_from : (f g : ℕ → Bool) (i n : ℕ) → ((k : ℕ) → k < i + n → g k ≡ f k) →
    keep g (up_from i (suc n)) ≡ keep f (up_from i n) ++ cond (g (i + n)) ((i + n) ∷ []) []
unfolding keep up_from
keep_more_from f g i zero h = let e : i + 0 ≡ i = omega arith in rw e
keep_more_from f g i (suc n) h =
    let e : i + suc n ≡ suc i + n = omega arith in
    rw (h i (omega arith), e, keep_more_from f g (suc i) n (λ k l. h k (omega arith))) (go (f i))
  where
    new : List ℕ
    new = cond (g (suc i + n)) ((suc i + n) ∷ []) []

    go : (b : Bool) → cond b (i ∷ (keep f (up_from (suc i) n) ++ new)) (keep f (up_from (suc i) n) ++ new) ≡
        cond b (i ∷ keep f (up_from (suc i) n)) (keep f (up_from (suc i) n)) ++ new
    go true = refl
    go false = refl

-- the same from 0 on
pub keep_more : (f g : ℕ → Bool) (n : ℕ) → ((k : ℕ) → k < n → g k ≡ f k) → keep g (below (suc n)) ≡ keep f (below n) ++ cond (g n) (n ∷ []) []
keep_more f g n h = let e : 0 + n ≡ n = omega arith in rw e at (keep_more_from f g 0 n (λ k l. h k (omega arith)))
