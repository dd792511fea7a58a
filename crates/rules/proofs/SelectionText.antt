-- The text of a valid selection tells the selection (`text_tells`): a version's frame names its module and its value, and a module has no two versions of
-- one value. No selection's text is longer than its area (`selection_short`). Assumes nothing.
use mathlib.Core.Path.{◌≡◌, refl, sym, ◌∙◌, ap}
use mathlib.Core.Logic.{⊎_elim}
use mathlib.Core.Bool.{true}
use mathlib.Core.List.Memᴰ.{head as here}
use mathlib.Core.List.Memᴰ.{tail as there}
use mathlib.Core.List.{List, [], ◌∷◌, ◌++◌, flat_map, append_cancel_right, Memᴰ as Mem}
use mathlib.Core.List.Memᴰ
use Prim.Native.Nat.{ℕ, zero, suc, ◌+◌, ◌*◌, ◌-◌, ◌/◌, ◌%◌, ◌≤◌, ◌<◌}
use native.Mathlib.Omega.{arith}
use native.Mathlib.Nat.{not-suc-le-zero}
use lib.Dec.{ltb, eqb}
use borrow.Author.Tests.{ltb-true, lt-ltb}
use lib.ListN.{length, drop, length-append}
use lib.Seq.{drop_at, ext_get_or}
use Rattle.rules.specs.Lists.{below}
use Rattle.rules.specs.Lines.{lines_of}
use Rattle.rules.specs.Frames.{byte_at, version_at, checked, frame_text, version_bytes}
use Rattle.rules.specs.Catalogue.{Catalogue, Version, version_at_place, is_of, is_older, WellFormed, Carried}
use Rattle.rules.specs.Selection.{Selection, chosen_at, settled, selected_line, selection_text}
use Rattle.rules.specs.Promises.{TextTells}
use Rattle.rules.proofs.Lists.{and_snd, or_cases, mem_keep, keep_mem, mem_flat_map, flat_map_mem, mem_below, below_mem}
use Rattle.rules.proofs.Lists.{kept_length, flat_length, length_up_from}
use Rattle.rules.proofs.Selections.{of_parts, Valid, valid_parts}
use Rattle.rules.proofs.Written.{frames_of, frames_cons, frame_length}

-- a version is read back from its three bytes
version_read : (v : ℕ) → v / 65536 * 65536 + v / 256 % 256 * 256 + v % 256 ≡ v
version_read v = omega arith

-- a version's frame names its module and its value
frame_names : (m k u v : ℕ) → checked (18 ∷ m ∷ version_bytes u) ≡ checked (18 ∷ k ∷ version_bytes v) → (m ≡ k) × (u ≡ v)
frame_names m k u v e =
    (ap (λ (f : List ℕ). byte_at f 1) e, sym (version_read u) ∙ ap (λ (f : List ℕ). version_at f 2) e ∙ version_read v)

-- no version is older than one with its module and its value
not_older : (u v : Version) → u.owner ≡ v.owner → u.value ≡ v.value → is_older u v ≡ true → ⊥
unfolding is_older
not_older u v p q e = ⊎_elim
    (λ h. let less = ltb-true u.owner v.owner h in omega arith)
    (λ h. let less = ltb-true u.value v.value (and_snd (eqb u.owner v.owner) _ h) in omega arith)
    (or_cases (ltb u.owner v.owner) _ e)

module _ (c : Catalogue) (w : WellFormed c) where
  -- of two versions of one module with one value none stands later
  not_later : (m i j : ℕ) → is_of c m i ≡ true → is_of c m j ≡ true → (version_at_place c i).value ≡ (version_at_place c j).value → i < j → ⊥
  not_later m i j p q e h =
      let one = of_parts c m i p in
      let other = of_parts c m j q in
      not_older (version_at_place c i) (version_at_place c j) (one.1 ∙ sym other.1) e (w.rising i j h other.0)

  -- versions of one module with one value stand at one place
  same_place : (m i j : ℕ) → is_of c m i ≡ true → is_of c m j ≡ true → (version_at_place c i).value ≡ (version_at_place c j).value → i ≡ j
  same_place m i j p q e =
      let below : ¬ (i < j) = not_later m i j p q e in
      let above : ¬ (j < i) = not_later m j i q p (sym e) in
      omega arith

module _ (c : Catalogue) where
  -- the value of the version that a module is at, its line's bytes, and all lines
  abbrev value_at : Selection → (owner : ℕ) → ℕ
  value_at s m = (version_at_place c (chosen_at s m - 1)).value

  abbrev selected_bytes : Selection → (owner : ℕ) → List ℕ
  selected_bytes s m = 18 ∷ m ∷ version_bytes (value_at s m)

  abbrev selected_lines : Selection → List ℕ
  selected_lines s = flat_map (selected_line c s) (settled c s)

  -- the lines between the head and the end, which are of one length in every text
  lines_told : (s o : Selection) → selection_text c s ≡ selection_text c o → selected_lines s ≡ selected_lines o
  unfolding selection_text
  lines_told s o e = sym (after s) ∙ ap (drop 7) same ∙ after o
    where
      front : Selection → List ℕ
      front x = frame_text (17 ∷ length (settled c x) ∷ []) ++ selected_lines x

      same : front s ≡ front o
      same = append_cancel_right (front s) (front o) (frame_text (20 ∷ [])) e

      after : (x : Selection) → drop 7 (front x) ≡ selected_lines x
      after x = drop_at (frame_text (17 ∷ length (settled c x) ∷ [])) (selected_lines x) 7 (frame_length (17 ∷ length (settled c x) ∷ []))

  -- the frames of those lines
  selected_frames : Carried c → (s : Selection) (ms : List ℕ) → ((m : ℕ) → Mem m ms → m < c.modules) →
      frames_of (flat_map (selected_line c s) ms) ≡ flat_map (λ (m : ℕ). checked (selected_bytes s m) ∷ []) ms
  unfolding flat_map lines_of
  selected_frames h s [] k = refl
  selected_frames h s (m ∷ ms) k =
      frames_cons (selected_bytes s m) (flat_map (selected_line c s) ms) (omega (arith, k m (here refl), h.modules, h.values (chosen_at s m - 1))) ∙
      ap (λ (fs : List (List ℕ)). checked (selected_bytes s m) ∷ fs) (selected_frames h s ms (λ x q. k x (there q)))

  -- a version that one text names the other names too
  value_told : Carried c → (s o : Selection) → selection_text c s ≡ selection_text c o → (m : ℕ) → Mem m (settled c s) →
      Mem m (settled c o) × (value_at s m ≡ value_at o m)
  value_told h s o e m q = named found.0 found.1.0 (Memᴰ.eq_of_singleton found.1.1)
    where
      frame_in : Selection → ℕ → List (List ℕ)
      frame_in x k = checked (selected_bytes x k) ∷ []

      frames : (x : Selection) → frames_of (selected_lines x) ≡ flat_map (frame_in x) (settled c x)
      frames x = selected_frames h x (settled c x) (λ k r. below_mem (keep_mem _ k (below c.modules) r).0)

      same_frames : flat_map (frame_in s) (settled c s) ≡ flat_map (frame_in o) (settled c o)
      same_frames = sym (frames s) ∙ ap frames_of (lines_told s o e) ∙ frames o

      found : (k : ℕ) × (Mem k (settled c o) × Mem (checked (selected_bytes s m)) (frame_in o k))
      found = flat_map_mem (frame_in o) (settled c o) (rw same_frames at (mem_flat_map (frame_in s) q (here refl)))

      named : (k : ℕ) → Mem k (settled c o) → checked (selected_bytes s m) ≡ checked (selected_bytes o k) →
          Mem m (settled c o) × (value_at s m ≡ value_at o m)
      named k r f =
          let names = frame_names m k (value_at s m) (value_at o k) f in
          (rw names.0 r, names.1 ∙ ap (value_at o) (sym names.0))

  -- what one chooses the other chooses too
  choice_told : WellFormed c → Carried c → (s o : Selection) → Valid c s → Valid c o → selection_text c s ≡ selection_text c o →
      (m : ℕ) → m < c.modules → (i : ℕ) → chosen_at s m ≡ suc i → chosen_at o m ≡ suc i
  choice_told w h s o p q e m l i k = go (chosen_at o m) refl
    where
      chosen : Mem m (settled c s)
      chosen = mem_keep _ (mem_below l) (lt-ltb 0 (chosen_at s m) (omega arith))

      told : Mem m (settled c o) × (value_at s m ≡ value_at o m)
      told = value_told h s o e m chosen

      some : 0 < chosen_at o m
      some = ltb-true 0 (chosen_at o m) (keep_mem _ m (below c.modules) told.0).1

      go : (x : ℕ) → chosen_at o m ≡ x → chosen_at o m ≡ suc i
      go zero r = absurd (not-suc-le-zero (rw r at some))
      go (suc j) r = r ∙ ap suc (sym (same_place c w m i j (p.states m i k) (q.states m j r) values))
        where
          values : (version_at_place c i).value ≡ (version_at_place c j).value
          values = ap (λ (x : ℕ). (version_at_place c x).value) (omega arith) ∙ told.1 ∙ ap (λ (x : ℕ). (version_at_place c x).value) (omega arith)

-- two states are the same if what is chosen in either is chosen in both
same_state : (x y : ℕ) → ((i : ℕ) → x ≡ suc i → y ≡ suc i) → ((i : ℕ) → y ≡ suc i → x ≡ suc i) → x ≡ y
same_state zero zero f g = refl
same_state zero (suc j) f g = g j refl
same_state (suc i) y f g = sym (f i refl)

-- two valid selections of one catalogue never share a text
pub text_tells : TextTells
text_tells c s o w h p q e = ext_get_or 0 s o (ours.size ∙ sym theirs.size) same
  where
    ours : Valid c s
    ours = valid_parts c s p

    theirs : Valid c o
    theirs = valid_parts c o q

    same : (m : ℕ) → m < length s → chosen_at s m ≡ chosen_at o m
    same m l =
        let known : m < c.modules = rw ours.size at l in
        same_state (chosen_at s m) (chosen_at o m) (choice_told c w h s o ours theirs e m known) (choice_told c w h o s theirs ours (sym e) m known)

-- HOW LONG a selection's text is: at most 428 bytes, with a line for each of 32 modules
pub selection_short : (c : Catalogue) (s : Selection) → c.modules ≤ 32 → length (selection_text c s) ≤ 428
unfolding selection_text
selection_short c s few =
    let head : length first ≡ 7 = frame_length _ in
    let lines = flat_length (selected_line c s) 13 (λ m. frame_length _) (settled c s) in
    let last : length (frame_text (20 ∷ [])) ≡ 5 = frame_length _ in
    let kept = kept_length (λ (m : ℕ). ltb 0 (chosen_at s m)) (below c.modules) in
    let count = length_up_from 0 c.modules in
    rw (length-append (first ++ flat_map (selected_line c s) (settled c s)) (frame_text (20 ∷ [])), length-append first (flat_map (selected_line c s) (settled c s)))
    (omega arith)
  where
    first : List ℕ
    first = frame_text (17 ∷ length (settled c s) ∷ [])
