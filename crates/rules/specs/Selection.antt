-- Selections: when one is valid, its choice order, and its text. Assumes nothing: these are definitions.
use Rattle.std.specs.Prelude.{Bool, true, false, ◌&&◌, ◌||◌, ℕ, zero, suc, ◌-◌, ltb, eqb, length, get_or, set, replicate}
use mathlib.Core.List.{List, [], ◌∷◌, ◌++◌, flat_map}
use Rattle.rules.specs.Lists.{all, any, keep, among, below}
use Rattle.rules.specs.Frames.{frame_text, version_bytes}
use Rattle.rules.specs.Catalogue.{Catalogue, Need, version_at_place, need_at, is_of, places_of, needs_of, in_range}

-- SELECTION, whole or partial: for each module its state, 0 for absent or one more than the place of its version
abbrev pub Selection : Type 0
Selection = List ℕ

abbrev pub chosen_at : Selection → (owner : ℕ) → ℕ
chosen_at s m = get_or s m 0

abbrev pub with_choice : Selection → (owner place : ℕ) → Selection
with_choice s m i = set s m (suc i)

abbrev pub nothing : Catalogue → Selection
nothing c = replicate c.modules 0

abbrev pub root_only : Catalogue → Selection  -- the root at its version, everything else absent
root_only c = with_choice (nothing c) 0 (get_or (places_of c 0) 0 0)

abbrev pub needs_at : Catalogue → (state : ℕ) → List ℕ  -- the numbers of the needs that a module's state brings
needs_at c zero = []
needs_at c (suc i) = needs_of c i

unfoldable pub asked : Catalogue → Selection → List ℕ  -- the numbers of the needs that all chosen versions have, by module
asked c s = flat_map (λ (m : ℕ). needs_at c (chosen_at s m)) (below c.modules)

abbrev pub is_state : Catalogue → (owner state : ℕ) → Bool  -- VALID: each module is "at one of its versions or absent"
is_state c m zero = true
is_state c m (suc i) = is_of c m i

abbrev pub meets : Catalogue → Need → (state : ℕ) → Bool  -- "met by a selected version in the range"
meets c n zero = false
meets c n (suc i) = in_range c n i

abbrev pub is_met : Catalogue → Selection → (number : ℕ) → Bool
is_met c s k = meets c (need_at c k) (chosen_at s (need_at c k).target)

abbrev pub asks : Catalogue → Selection → (needy target : ℕ) → Bool  -- a need of module k's chosen version names module m
asks c s k m = any (λ (j : ℕ). eqb (need_at c j).target m) (needs_at c (chosen_at s k))

-- the modules that the root reaches in so many steps "by needs of selected versions", or in fewer
unfoldable pub reached_in : (steps : ℕ) → Catalogue → Selection → List ℕ
reached_in zero c s = 0 ∷ []
reached_in (suc n) c s = keep (λ (m : ℕ). eqb m 0 || any (λ (k : ℕ). asks c s k m) (reached_in n c s)) (below c.modules)

abbrev pub reached : Catalogue → Selection → List ℕ  -- no way needs more steps than there are modules
reached c s = reached_in c.modules c s

unfoldable pub is_valid : Catalogue → Selection → Bool
is_valid c s = eqb (length s) c.modules && all (λ (m : ℕ). is_state c m (chosen_at s m)) (below c.modules) && ltb 0 (chosen_at s 0) &&
    all (is_met c s) (asked c s) && all (λ (m : ℕ). eqb (chosen_at s m) 0 || among m (reached c s)) (below c.modules)

-- CHOICE ORDER: "the lowest-numbered module that a chosen version needs and that isn't settled (chosen) yet", first of the list
abbrev pub is_asked : Catalogue → Selection → (owner : ℕ) → Bool
is_asked c s m = any (λ (k : ℕ). eqb (need_at c k).target m) (asked c s)

unfoldable pub next_modules : Catalogue → Selection → List ℕ
next_modules c s = keep (λ (m : ℕ). eqb (chosen_at s m) 0 && is_asked c s m) (below c.modules)

pub record Choice : Type 0 where
  pub owner : ℕ
  pub state : ℕ

abbrev pub choice : (owner state : ℕ) → Choice
choice m x = record { owner = m; state = x }

-- the choices of `s` that follow once those of the partial selection `p` are made; fuel: the modules. "It is chosen at its version in the selection"
unfoldable pub order_from : (fuel : ℕ) → Catalogue → (s p : Selection) → List Choice
order_from zero c s p = []
order_from (suc n) c s p = elim (next_modules c p) [ [] ↦ [] | m ∷ ms ↦ choice m (chosen_at s m) ∷ order_from n c s (set p m (chosen_at s m)) ]

unfoldable pub order_of : Catalogue → Selection → List Choice  -- "The root is chosen first"
order_of c s = choice 0 (chosen_at s 0) ∷ order_from c.modules c s (set (nothing c) 0 (chosen_at s 0))

-- SELECTION TEXT: "11 head with a count, 12 one selected version, in module order, 14 end"
abbrev pub settled : Catalogue → Selection → List ℕ
settled c s = keep (λ (m : ℕ). ltb 0 (chosen_at s m)) (below c.modules)

abbrev pub selected_line : Catalogue → Selection → (owner : ℕ) → List ℕ
selected_line c s m = frame_text (18 ∷ m ∷ version_bytes (version_at_place c (chosen_at s m - 1)).value)

unfoldable pub selection_text : Catalogue → Selection → List ℕ
selection_text c s = frame_text (17 ∷ length (settled c s) ∷ []) ++ flat_map (selected_line c s) (settled c s) ++ frame_text (20 ∷ [])
