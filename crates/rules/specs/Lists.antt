-- Tests and lists that every layer uses. Assumes nothing: these are definitions.
use Rattle.std.specs.Prelude.{Bool, true, false, ◌&&◌, ◌||◌, cond, List, [], ◌∷◌, ℕ, zero, suc, ◌+◌, leb, eqb}
use Rattle.std.proofs.Math.Option.{Option, none, some}

abbrev pub is_in : (low high x : ℕ) → Bool
is_in a b x = leb a x && leb x b

unfoldable pub all : {A : Type 0} → (A → Bool) → List A → Bool
all f [] = true
all f (x ∷ xs) = f x && all f xs

unfoldable pub any : {A : Type 0} → (A → Bool) → List A → Bool
any f [] = false
any f (x ∷ xs) = f x || any f xs

unfoldable pub keep : {A : Type 0} → (A → Bool) → List A → List A  -- the elements that pass a test, in their order
keep f [] = []
keep f (x ∷ xs) = cond (f x) (x ∷ keep f xs) (keep f xs)

unfoldable pub first_of : {A : Type 0} → (A → Bool) → List A → Option A  -- the first element that passes a test
first_of f [] = none
first_of f (x ∷ xs) = cond (f x) (some x) (first_of f xs)

unfoldable pub sum : List ℕ → ℕ
sum [] = 0
sum (x ∷ xs) = x + sum xs

unfoldable pub among : ℕ → List ℕ → Bool
among x [] = false
among x (y ∷ ys) = eqb x y || among x ys

unfoldable pub count_of : ℕ → List ℕ → ℕ  -- how often a number stands in a list
count_of x [] = 0
count_of x (y ∷ ys) = cond (eqb x y) (suc (count_of x ys)) (count_of x ys)

unfoldable pub ahead : List ℕ → (x : ℕ) → List ℕ  -- what stands in a list before the first `x`
ahead [] x = []
ahead (y ∷ ys) x = cond (eqb y x) [] (y ∷ ahead ys x)

unfoldable pub up_from : (first count : ℕ) → List ℕ
up_from i zero = []
up_from i (suc n) = i ∷ up_from (suc i) n

abbrev pub below : ℕ → List ℕ  -- 0 to n - 1, rising
below n = up_from 0 n

unfoldable pub down_from : ℕ → List ℕ  -- 0 to n - 1, falling
down_from zero = []
down_from (suc n) = n ∷ down_from n

unfoldable pub same : List ℕ → List ℕ → Bool  -- two lists of numbers are the same
same [] [] = true
same [] (y ∷ ys) = false
same (x ∷ xs) [] = false
same (x ∷ xs) (y ∷ ys) = eqb x y && same xs ys
