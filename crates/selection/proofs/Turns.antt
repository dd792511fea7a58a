-- Turns of the loops over modules: what holds at each turn of a count and of the writing of lines, and the lemmas of the loops. Assumes nothing.
use mathlib.Core.Path.{◌≡◌, sym, ◌∙◌, ap}
use mathlib.Core.Bool.{Bool, true, false}
use mathlib.Core.List.{List, [], ◌∷◌, flat_map}
use Prim.Native.Nat.{ℕ, suc, ◌+◌, ◌*◌, ◌-◌, ◌≤◌, ◌<◌}
use native.Mathlib.Omega.{arith}
use native.Mathlib.Numerals.{add-one}
use lib.ListN.{length, get_or}
use lib.Seq.{sets, length-sets}
use borrow.Author.Tests.{lt-ltb, le-ltb}
use Rattle.rules.specs.Lists.{keep, up_from, below}
use Rattle.frames.proofs.Areas.{sets_append}
use Rattle.selection.specs.Written.{is_settled, line_of, line_in}

-- those of the modules from k on that pass a test
abbrev pub rest : (ℕ → Bool) → (n k : ℕ) → List ℕ
rest f n k = keep f (up_from k (n - k))

-- one of them less after a turn, or as many, and none after the last
module _ (f : ℕ → Bool) (n k : ℕ) where
  rest_yes : k < n → f k ≡ true → rest f n k ≡ k ∷ rest f n (k + 1)
  unfolding keep up_from
  rest_yes l e =
      let s : n - k ≡ suc (n - (k + 1)) = omega arith in
      rw (s, add-one, e)

  rest_no : k < n → f k ≡ false → rest f n k ≡ rest f n (k + 1)
  unfolding keep up_from
  rest_no l e =
      let s : n - k ≡ suc (n - (k + 1)) = omega arith in
      rw (s, add-one, e)

  rest_none : n ≤ k → rest f n k ≡ []
  unfolding keep up_from
  rest_none l = let z : n - k ≡ 0 = omega arith in rw z

-- A MODULE'S STATE as read tells if a version is chosen
module _ (chosen : List ℕ) (k : ℕ) {x : ℕ} (is_state : x ≡ get_or chosen k 0) where
  pub settled_yes : 0 < x → is_settled chosen k ≡ true
  settled_yes l = rw (← is_state) (lt-ltb 0 x l)

  pub settled_no : x ≤ 0 → is_settled chosen k ≡ false
  settled_no l = rw (← is_state) (le-ltb 0 x l)

  -- and, with the version's value as read, the line that the module has
  pub line_read : (values : List ℕ) {v : ℕ} → v ≡ get_or values (x - 1) 0 → line_of k v ≡ line_in values chosen k
  line_read values e = rw (e, is_state)

-- COUNTED SO FAR: with those from k on it makes all of them
pub record Counted (f : ℕ → Bool) (n count k : ℕ) : Type 0 where
  pub within : k ≤ n
  pub few : count ≤ k
  pub total : count + length (rest f n k) ≡ length (keep f (below n))

module _ (f : ℕ → Bool) (n : ℕ) where
  module _ {count k : ℕ} (h : Counted f n count k) where
    pub counts : {next : ℕ} → k < n → f k ≡ true → next ≡ count + 1 → Counted f n next (k + 1)
    counts l e s =
        let t : length (rest f n k) ≡ suc (length (rest f n (k + 1))) = rw (rest_yes f n k l e) in
        record { within = omega arith; few = omega (arith, h.few); total = omega (arith, h.total) }

    pub passes : {next : ℕ} → k < n → f k ≡ false → next ≡ count → Counted f n next (k + 1)
    passes l e s =
        let t : length (rest f n k) ≡ length (rest f n (k + 1)) = rw (rest_no f n k l e) in
        record { within = omega arith; few = omega (arith, h.few); total = omega (arith, h.total) }

    pub all_counted : n ≤ k → count ≡ length (keep f (below n))
    all_counted l =
        let t : length (rest f n k) ≡ 0 = rw (rest_none f n k l) in
        omega (arith, h.total)

-- WRITTEN SO FAR: with the lines of those from k on, each of 13 bytes, it makes all lines
pub record Lines (f : ℕ → Bool) (line : ℕ → List ℕ) (old : List ℕ) (start n : ℕ) (area : List ℕ) (end k : ℕ) : Type 0 where
  pub within : k ≤ n
  pub size : length area ≡ length old
  pub ends : end + 13 * length (rest f n k) ≡ start + 13 * length (keep f (below n))
  pub total : sets area end (flat_map line (rest f n k)) ≡ sets old start (flat_map line (keep f (below n)))

module _ (f : ℕ → Bool) (line : ℕ → List ℕ) (old : List ℕ) (start n : ℕ) where
  module _ {area : List ℕ} {end k : ℕ} (h : Lines f line old start n area end k) where
    -- there is room for the line of one more
    pub has_room : k < n → f k ≡ true → end + 13 ≤ start + 13 * length (keep f (below n))
    has_room l e =
        let t : length (rest f n k) ≡ suc (length (rest f n (k + 1))) = rw (rest_yes f n k l e) in
        omega (arith, h.ends)

    -- its line, written behind the others
    pub line_written : {next : List ℕ} {ended : ℕ} → k < n → f k ≡ true → length (line k) ≡ 13 → ended ≡ end + 13 →
        next ≡ sets area end (line k) → Lines f line old start n next ended (k + 1)
    unfolding flat_map
    line_written {next} {ended} l e w b s =
        let t : length (rest f n k) ≡ suc (length (rest f n (k + 1))) = rw (rest_yes f n k l e) in
        record {
          within = omega arith;
          size = ap length s ∙ length-sets area end (line k) ∙ h.size;
          ends = omega (arith, h.ends);
          total =
              ap (λ (a : List ℕ). sets a ended (flat_map line (rest f n (k + 1)))) s ∙
              sets_append area end (line k) (flat_map line (rest f n (k + 1))) (omega arith) ∙
              ap (λ (ms : List ℕ). sets area end (flat_map line ms)) (sym (rest_yes f n k l e)) ∙
              h.total;
        }

    -- one that has no line
    pub line_left_out : {next : List ℕ} {ended : ℕ} → k < n → f k ≡ false → ended ≡ end → next ≡ area → Lines f line old start n next ended (k + 1)
    line_left_out l e b s =
        let t : length (rest f n k) ≡ length (rest f n (k + 1)) = rw (rest_no f n k l e) in
        record {
          within = omega arith;
          size = ap length s ∙ h.size;
          ends = omega (arith, h.ends);
          total = rw (s, b) (ap (λ (ms : List ℕ). sets area end (flat_map line ms)) (sym (rest_no f n k l e)) ∙ h.total);
        }

    -- after the last
    pub all_written : n ≤ k → (end ≡ start + 13 * length (keep f (below n))) × (area ≡ sets old start (flat_map line (keep f (below n))))
    unfolding flat_map
    all_written l =
        let t : length (rest f n k) ≡ 0 = rw (rest_none f n k l) in
        (omega (arith, h.ends), ap (λ (ms : List ℕ). sets area end (flat_map line ms)) (sym (rest_none f n k l)) ∙ h.total)
