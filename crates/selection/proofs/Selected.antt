-- The text that is written, over tables that hold a catalogue, is the rules' text of the selection. Assumes nothing.
use mathlib.Core.Path.{◌≡◌, refl, sym, ◌∙◌, ap}
use mathlib.Core.Bool.{Bool}
use mathlib.Core.List.Memᴰ.{head as here}
use mathlib.Core.List.Memᴰ.{tail as there}
use mathlib.Core.List.{List, [], ◌∷◌, ◌++◌, flat_map, Memᴰ as Mem}
use Prim.Native.Nat.{ℕ, ◌-◌, ◌/◌, ◌%◌, ◌<◌}
use native.Mathlib.Omega.{arith}
use lib.ListN.{length, get_or, take}
use lib.Dec.{ltb}
use lib.Seq.{get_or-take}
use Rattle.rules.specs.Lists.{keep, below}
use Rattle.rules.specs.Frames.{frame_text, version_bytes}
use Rattle.rules.specs.Catalogue.{Catalogue, Carried, version_at_place}
use Rattle.rules.specs.Selection.{settled, selected_line, selection_text}
use Rattle.rules.proofs.Lists.{keep_mem, below_mem}
use Rattle.store.specs.Tables.{Holds}
use Rattle.store.specs.declared.tables.Tables.{Tables}
use Rattle.selection.specs.Written.{settled_in, line_of, line_in, end_line, text_in}
use Rattle.selection.proofs.Whole.{settled_few}

-- tests that agree on a list keep the same of it
same_kept : (f g : ℕ → Bool) (xs : List ℕ) → ((x : ℕ) → Mem x xs → f x ≡ g x) → keep f xs ≡ keep g xs
unfolding keep
same_kept f g [] e = refl
same_kept f g (x ∷ xs) e = rw (e x (here refl), same_kept f g xs (λ y m. e y (there m)))

-- functions that agree on a list give the same lists of it
same_flat : (f g : ℕ → List ℕ) (xs : List ℕ) → ((x : ℕ) → Mem x xs → f x ≡ g x) → flat_map f xs ≡ flat_map g xs
unfolding flat_map
same_flat f g [] e = refl
same_flat f g (x ∷ xs) e = rw (e x (here refl), same_flat f g xs (λ y m. e y (there m)))

-- a line's bytes are those of the rules where they can carry the module and the version
same_line : (m v : ℕ) → m < 256 → v < 16777216 → line_of m v ≡ frame_text (18 ∷ m ∷ version_bytes v)
same_line m v l h =
    let p : m % 256 ≡ m = omega arith in
    let q : v / 65536 % 256 ≡ v / 65536 = omega arith in
    rw (p, q)

module _ (t : Tables) (c : Catalogue) (h : Holds t c) (w : Carried c) (chosen : List ℕ) where
  -- the modules that have a version chosen
  same_settled : settled_in chosen c.modules ≡ settled c (take c.modules chosen)
  same_settled =
      same_kept _ _ (below c.modules) (λ k m. ap (ltb 0) (sym (get_or-take c.modules chosen k 0 (below_mem m))))

  -- the line of one of them
  same_selected : (m : ℕ) → m < c.modules → line_in t.values chosen m ≡ selected_line c (take c.modules chosen) m
  same_selected m l =
      let few = w.modules in
      rw (get_or-take c.modules chosen m 0 l, h.values (get_or chosen m 0 - 1))
      (same_line m (version_at_place c (get_or chosen m 0 - 1)).value (omega arith) (w.values (get_or chosen m 0 - 1)))

  -- THE LAW: the text from the tables and the choices is the rules' text of the catalogue's modules as chosen
  pub text_is_the_rules : text_in t.values chosen c.modules ≡ selection_text c (take c.modules chosen)
  unfolding text_in selection_text
  text_is_the_rules =
      let few = settled_few chosen c.modules in
      let most = w.modules in
      let count : length (settled_in chosen c.modules) % 256 ≡ length (settled_in chosen c.modules) = omega arith in
      ap (λ (b : ℕ). frame_text (17 ∷ b ∷ []) ++ flat_map (line_in t.values chosen) (settled_in chosen c.modules) ++ end_line) count ∙
      ap (λ (ls : List ℕ). frame_text (17 ∷ length (settled_in chosen c.modules) ∷ []) ++ ls ++ end_line)
      (same_flat _ _ (settled_in chosen c.modules) (λ m k. same_selected m (below_mem (keep_mem _ m _ k).0))) ∙
      ap (λ (ms : List ℕ). frame_text (17 ∷ length ms ∷ []) ++ flat_map (selected_line c (take c.modules chosen)) ms ++ end_line) same_settled
