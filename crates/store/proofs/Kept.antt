-- The tables that the code keeps hold the catalogue read so far: they do at the start, and a good frame of a known kind keeps them so (`reads_start`,
-- `reads_step`). They tell the version last read (`last_law`), and how many versions a module has (`count_law`). Assumes nothing.
use mathlib.Core.Path.{◌≡◌, refl, sym, ◌∙◌, ap, subst}
use mathlib.Core.Logic.{◌⊎◌, inl, inr, ⊎_elim, ◌≢◌}
use mathlib.Core.Bool.{Bool, true, false, ◌&&◌, ◌||◌, not, cond}
use mathlib.Core.List.{List, [], ◌∷◌, ◌++◌, append-nil}
use Prim.Native.Nat.{ℕ, suc, ◌+◌, ◌*◌, ◌-◌, ◌≤◌, ◌<◌}
use native.Mathlib.Omega.{arith}
use native.Mathlib.Numerals.{add-one}
use native.Mathlib.Nat.{not-suc-le-zero}
use lib.Dec.{ltb, leb, eqb}
use lib.ListN.{length, get_or, set, replicate, length-set, length-replicate, get_or-append}
use lib.Seq.{get_or-set_same, get_or-set_other, get_or-append_seam}
use borrow.Author.Tests.{ltb-true, ltb-false, leb-true, eqb-true, eqb-false, eq-eqb, ne_eqb, lt-ltb, le-ltb, not-true}
use Rattle.rules.specs.Lists.{is_in, keep, up_from}
use Rattle.rules.specs.Lines.{unless}
use Rattle.rules.specs.Frames.{byte_at, kind_of, version_at, catalogues, digits_for}
use Rattle.rules.specs.Catalogue.{Version, Need, Catalogue, catalogue, no_catalogue, no_version, no_need, need_at, is_of, places_of}
use Rattle.rules.specs.Catalogue.{needs_of, last_version, limits, Reading, reading, catalogue_reader, is_end, version_in, with_frame}
use Rattle.rules.proofs.Lists.{and_fst, and_snd, or_cases, same_or_not, longer, length_last, length_up_from, up_from_last, keep_more}
use Rattle.rules.proofs.Readers.{or_else_none, unless_none}
use Rattle.rules.proofs.Reading.{more_versions, places_grown}
use Rattle.frames.proofs.InLine.{get_or_zeros, longer_other}
use Rattle.store.specs.declared.frame.Last.{Last}
use Rattle.store.specs.Frame.{Fields, State, module_no, version, state_of, last_of, fields_at, checks, version_fault, need_fault, frame_fault}
use Rattle.store.specs.declared.tables.Tables.{Tables}
use Rattle.store.specs.Tidy.{Sizes, Ends, Tidy, Reads}
use Rattle.store.specs.Tables.{no_tables, kept_at, is_version, is_need, kept, last_in, Holds}
use Rattle.store.proofs.Faults.{Known, a_head, a_version, a_need, a_caret, an_end, known_kind, fields_in, fault_law}
use Rattle.store.proofs.Faults.{head_fields, version_fields_lem, need_fields_lem, caret_fields, end_fields}

-- LISTS WITH AN ENTRY SET OR ADDED
-- what holds at one number and at all others
everywhere : (P : ℕ → Type 0) (at : ℕ) → P at → ((i : ℕ) → i ≢ at → P i) → (i : ℕ) → P i
everywhere P at one others i = ⊎_elim (λ e. subst P (sym e) one) (others i) (same_or_not i at)

-- what holds of the number put in, and of every other entry, holds of every entry
set_each : (P : ℕ → ℕ → Type 0) (xs : List ℕ) (at x : ℕ) → at < length xs → P at x → ((i : ℕ) → i ≢ at → P i (get_or xs i 0)) →
    (i : ℕ) → P i (get_or (set xs at x) i 0)
set_each P xs at x h new old =
    everywhere (λ i. P i (get_or (set xs at x) i 0)) at (rw (get_or-set_same xs at x 0 h) new) (λ i e. rw (get_or-set_other xs at i x 0 e) (old i e))

-- so a bound of every entry
set_most : (most : ℕ) (xs : List ℕ) (at x : ℕ) → at < length xs → x ≤ most → ((i : ℕ) → get_or xs i 0 ≤ most) →
    (i : ℕ) → get_or (set xs at x) i 0 ≤ most
set_most most xs at x h new old = set_each (λ i y. y ≤ most) xs at x h new (λ i e. old i)

-- the last place of a longer list
before_last : {A : Type 0} (xs : List A) (x : A) → length (longer xs x) - 1 ≡ length xs
before_last xs x = omega (arith, length_last xs x)

-- which places a longer list has, but for the new one
longer_has : {A : Type 0} (xs : List A) (x : A) (i : ℕ) → i ≢ length xs → ltb i (length xs) ≡ ltb i (length (longer xs x))
longer_has {A} xs x i h = go (ltb i (length xs)) refl
  where
    go : (b : Bool) → ltb i (length xs) ≡ b → ltb i (length xs) ≡ ltb i (length (longer xs x))
    go true e = let l = ltb-true i (length xs) e in e ∙ sym (lt-ltb i (length (longer xs x)) (omega (arith, length_last xs x)))
    go false e = let l = ltb-false i (length xs) e in e ∙ sym (le-ltb i (length (longer xs x)) (omega (arith, length_last xs x)))

-- numbers that stand for the elements of a list, with the next one set, stand for the longer list
set_next : {A : Type 0} (d : A) (p : A → ℕ) (ns : List ℕ) (xs : List A) (x : A) → length xs < length ns →
    ((i : ℕ) → get_or ns i 0 ≡ p (get_or xs i d)) → (i : ℕ) → get_or (set ns (length xs) (p x)) i 0 ≡ p (get_or (longer xs x) i d)
set_next {A} d p ns xs x h old =
    set_each (λ i y. y ≡ p (get_or (longer xs x) i d)) ns (length xs) (p x) h (rw (get_or-append_seam xs x [] d))
    (λ i e. rw (longer_other d xs x i e) (old i))

-- so numbers from `i` up, with the next one behind them, are one more
up_from_more : (xs : List ℕ) (i n at : ℕ) → xs ≡ up_from i n → i + n ≡ at → longer xs at ≡ up_from i (suc n)
up_from_more xs i n at p q = rw (p, ← q) (sym (up_from_last i n))

-- how many versions a module has
pub count_holds : {t : Tables} {c : Catalogue} → Holds t c → (m : ℕ) → get_or t.counts m 0 ≡ length (places_of c m)
count_holds {t} {c} h m = sym (ap length (h.places m) ∙ length_up_from _ _)

pub count_law : {t : Tables} {c : Catalogue} → Tidy t c → (m : ℕ) → get_or t.counts m 0 ≡ length (places_of c m)
count_law h m = count_holds h.holds m

-- and needs a version
pub mark_law : {t : Tables} {c : Catalogue} → Tidy t c → (i : ℕ) → get_or t.marks i 0 - 1 ≡ length (needs_of c i)
mark_law {t} {c} h i = sym (ap length (h.holds.needs i) ∙ length_up_from _ _)

-- AT THE START: tables of zeros
zeros : (n : ℕ) → length {A = ℕ} (replicate n 0) ≡ n
zeros n = length-replicate n 0

-- hold the catalogue with nothing in it
pub tidy_start : Tidy no_tables no_catalogue
unfolding keep up_from
tidy_start =
    record {
      holds =
          record {
            values = get_or_zeros 512;
            owners = get_or_zeros 512;
            used = λ i. rw (get_or_zeros 512 i, le-ltb i 0 (omega arith));
            needs = λ i. rw (get_or_zeros 512 i);
            places = λ m. rw (get_or_zeros 32 m);
            needies = get_or_zeros 1024;
            targets = get_or_zeros 1024;
            lows = get_or_zeros 1024;
            highs = get_or_zeros 1024;
          };
      sizes =
          record {
            values = zeros 512;
            owners = zeros 512;
            starts = zeros 512;
            marks = zeros 512;
            firsts = zeros 32;
            counts = zeros 32;
            needies = zeros 1024;
            targets = zeros 1024;
            lows = zeros 1024;
            highs = zeros 1024;
          };
      ends = λ h. absurd (not-suc-le-zero h);
      modules_fit = omega arith;
      versions_fit = omega arith;
      needs_fit = omega arith;
      counts_fit = λ m. rw (get_or_zeros 32 m) (omega arith);
      marks_fit = λ i. rw (get_or_zeros 512 i) (omega arith);
    }

-- the head of a catalogue with nothing in it so far
head_tidy : {t : Tables} (m : ℕ) → m ≤ 32 → Tidy t no_catalogue → Tidy t (catalogue m [] [])
unfolding is_of
head_tidy m fits h =
    record {
      holds =
          record {
            values = h.holds.values;
            owners = h.holds.owners;
            used = h.holds.used;
            needs = h.holds.needs;
            places = h.holds.places;
            needies = h.holds.needies;
            targets = h.holds.targets;
            lows = h.holds.lows;
            highs = h.holds.highs;
          };
      sizes = h.sizes;
      ends = λ e. absurd (not-suc-le-zero e);
      modules_fit = fits;
      versions_fit = h.versions_fit;
      needs_fit = h.needs_fit;
      counts_fit = h.counts_fit;
      marks_fit = h.marks_fit;
    }

-- a frame leaves the sizes as they are
kept_length : (z : Bool) (i x : ℕ) (xs : List ℕ) → length (kept_at z i x xs) ≡ length xs
kept_length true i x xs = length-set xs i x
kept_length false i x xs = refl

kept_sizes : {t : Tables} (s : State) (z : Last) (n : ℕ) (f : Fields) → Sizes t → Sizes (kept t s z n f)
kept_sizes {t} s z n f h =
    record {
      values = kept_length (is_version f) _ _ t.values ∙ h.values;
      owners = kept_length (is_version f) _ _ t.owners ∙ h.owners;
      starts = kept_length (is_version f) _ _ t.starts ∙ h.starts;
      marks = kept_length (is_need f) _ _ (kept_at (is_version f) s.versions 1 t.marks) ∙ kept_length (is_version f) _ _ t.marks ∙ h.marks;
      firsts = kept_length (is_version f && eqb n 0) _ _ t.firsts ∙ h.firsts;
      counts = kept_length (is_version f) _ _ t.counts ∙ h.counts;
      needies = kept_length (is_need f) _ _ t.needies ∙ h.needies;
      targets = kept_length (is_need f) _ _ t.targets ∙ h.targets;
      lows = kept_length (is_need f) _ _ t.lows ∙ h.lows;
      highs = kept_length (is_need f) _ _ t.highs ∙ h.highs;
    }

-- A VERSION MORE: the fields of its frame, and the tables after that frame
abbrev version_fields : Version → Fields
version_fields v = record { kind = 2; owner = module_no v.owner; low = version v.value; topped = false; high = version 0 }

abbrev with_version : Tables → Catalogue → Version → Tables
with_version t c v = kept t (state_of (reading 1 c)) (last_of c) (length (places_of c v.owner)) (version_fields v)

-- the new version is the last
last_grown : (c : Catalogue) (v : Version) → last_version (more_versions c v) ≡ v
last_grown c v = rw (before_last c.versions v) (get_or-append_seam c.versions v [] no_version)

-- a module's versions stand from a place on to the last
abbrev Follows : Catalogue → (owner first : ℕ) → Type 0
Follows c m k = (k + length (places_of c m) ≡ length c.versions) × (places_of c m ≡ up_from k (length (places_of c m)))

module _ {t : Tables} {c : Catalogue} (tidy : Tidy t c) where
  -- with no version there is none of any module
  none_of : length c.versions ≡ 0 → (m : ℕ) → get_or t.counts m 0 ≡ 0
  unfolding keep up_from
  none_of e m = count_law tidy m ∙ ap length none
    where
      none : places_of c m ≡ []
      none = rw e

  listed : (m : ℕ) → places_of c m ≡ up_from (get_or t.firsts m 0) (length (places_of c m))
  listed m = tidy.holds.places m ∙ ap (up_from (get_or t.firsts m 0)) (count_law tidy m)

  module _ (v : Version) (fits : v.owner < 32)
      (rises : 0 < length c.versions → ((last_version c).owner < v.owner) ⊎ ((last_version c).owner ≡ v.owner))
      (room : length (places_of c v.owner) < 16) where
    -- what follows from no version so far, from a last version of an earlier module, and from one of the same module
    by_last : (A : Type 0) → (length c.versions ≡ 0 → A) → (0 < length c.versions → Ends t c → (last_version c).owner < v.owner → A) →
        (0 < length c.versions → Ends t c → (last_version c).owner ≡ v.owner → A) → A
    by_last A none earlier same = ⊎_elim none (λ e. some (omega arith)) (same_or_not (length c.versions) 0)
      where
        some : 0 < length c.versions → A
        some h = ⊎_elim (earlier h (tidy.ends h)) (same h (tidy.ends h)) (rises h)

    -- how many versions its module has, if it is the last version's module
    count_same : (last_version c).owner ≡ v.owner → get_or t.counts (last_version c).owner 0 ≡ length (places_of c v.owner)
    count_same e = ap (λ (m : ℕ). get_or t.counts m 0) e ∙ count_law tidy v.owner

    -- there is a place for it
    place_fits : length c.versions < 512
    place_fits =
        by_last (length c.versions < 512) (λ e. omega arith) (λ h z e. omega (arith, tidy.counts_fit (last_version c).owner))
        (λ h z e. omega (arith, count_same e))

    -- the versions of its module follow one another, and the new one follows them
    first_law : Follows c v.owner (get_or (with_version t c v).firsts v.owner 0)
    unfolding up_from
    first_law = go (eqb (length (places_of c v.owner)) 0) refl
      where
        go : (b : Bool) → eqb (length (places_of c v.owner)) 0 ≡ b →
            Follows c v.owner (get_or (kept_at b v.owner (length c.versions) t.firsts) v.owner 0)
        go true e =
            let z : length (places_of c v.owner) ≡ 0 = eqb-true _ 0 e in
            let l : v.owner < length t.firsts = omega (arith, tidy.sizes.firsts) in
            rw (get_or-set_same t.firsts v.owner (length c.versions) 0 l) (omega arith, listed v.owner ∙ rw z)
        go false e = (follows, listed v.owner)
          where
            some : get_or t.counts v.owner 0 ≢ 0
            some z = eqb-false _ 0 e (sym (count_law tidy v.owner) ∙ z)

            follows : get_or t.firsts v.owner 0 + length (places_of c v.owner) ≡ length c.versions
            follows =
                by_last _ (λ z. absurd (some (none_of z v.owner))) (λ h z l. absurd (some (z.later v.owner l)))
                (λ h z l. rw (count_law tidy v.owner) at (rw l at z.tail))

    -- the first places of other modules are as they were
    first_other : (m : ℕ) → m ≢ v.owner → get_or (with_version t c v).firsts m 0 ≡ get_or t.firsts m 0
    first_other m h = go (eqb (length (places_of c v.owner)) 0)
      where
        go : (b : Bool) → get_or (kept_at b v.owner (length c.versions) t.firsts) m 0 ≡ get_or t.firsts m 0
        go true = get_or-set_other t.firsts v.owner m (length c.versions) 0 h
        go false = refl

    -- how many it has now
    count_new : get_or (with_version t c v).counts v.owner 0 ≡ suc (length (places_of c v.owner))
    count_new =
        let l : v.owner < length t.counts = omega (arith, tidy.sizes.counts) in
        get_or-set_same t.counts v.owner _ 0 l ∙ add-one _

    -- which places its module has, then other modules, then every module
    places_new : places_of (more_versions c v) v.owner ≡
        up_from (get_or (with_version t c v).firsts v.owner 0) (get_or (with_version t c v).counts v.owner 0)
    places_new =
        let k = get_or (with_version t c v).firsts v.owner 0 in
        let one = rw (eq-eqb v.owner v.owner refl) at (places_grown c v v.owner) in
        one ∙ up_from_more (places_of c v.owner) k _ (length c.versions) first_law.1 first_law.0 ∙ ap (up_from k) (sym count_new)

    places_other : (m : ℕ) → m ≢ v.owner →
        places_of (more_versions c v) m ≡ up_from (get_or (with_version t c v).firsts m 0) (get_or (with_version t c v).counts m 0)
    places_other m h =
        let one = rw (ne_eqb v.owner m (λ e. h (sym e))) at (places_grown c v m) in
        rw (first_other m h, get_or-set_other t.counts v.owner m (length (places_of c v.owner) + 1) 0 h)
        (one ∙ append-nil (places_of c m) ∙ tidy.holds.places m)

    places_kept : (m : ℕ) → places_of (more_versions c v) m ≡ up_from (get_or (with_version t c v).firsts m 0) (get_or (with_version t c v).counts m 0)
    places_kept =
        everywhere (λ m. places_of (more_versions c v) m ≡ up_from (get_or (with_version t c v).firsts m 0) (get_or (with_version t c v).counts m 0))
        v.owner places_new places_other

    -- the marks tell the versions that are there, and the needs of each; the new version has none
    used_kept : (i : ℕ) → eqb (get_or (with_version t c v).marks i 0) 0 ≡ not (ltb i (length (longer c.versions v)))
    used_kept = set_each (λ i x. eqb x 0 ≡ not (ltb i (length (longer c.versions v)))) t.marks (length c.versions) 1 within new old
      where
        within : length c.versions < length t.marks
        within = omega (arith, place_fits)

        new : eqb 1 0 ≡ not (ltb (length c.versions) (length (longer c.versions v)))
        new = rw (lt-ltb (length c.versions) (length (longer c.versions v)) (omega (arith, length_last c.versions v)))

        old : (i : ℕ) → i ≢ length c.versions → eqb (get_or t.marks i 0) 0 ≡ not (ltb i (length (longer c.versions v)))
        old i h = tidy.holds.used i ∙ ap not (longer_has c.versions v i h)

    -- where its needs begin, and how many it has
    start_new : get_or (with_version t c v).starts (length c.versions) 0 ≡ length c.needs
    start_new = get_or-set_same t.starts (length c.versions) (length c.needs) 0 (omega (arith, place_fits))

    mark_new : get_or (with_version t c v).marks (length c.versions) 0 ≡ 1
    mark_new = get_or-set_same t.marks (length c.versions) 1 0 (omega (arith, place_fits))

    -- which needs it has, then other versions, then every version
    needs_new : needs_of c (length c.versions) ≡
        up_from (get_or (with_version t c v).starts (length c.versions) 0) (get_or (with_version t c v).marks (length c.versions) 0 - 1)
    unfolding up_from
    needs_new = rw (start_new, mark_new) (rw unused at (tidy.holds.needs (length c.versions)))
      where
        unused : get_or t.marks (length c.versions) 0 ≡ 0
        unused = eqb-true _ 0 (rw (le-ltb (length c.versions) (length c.versions) (omega arith)) at (tidy.holds.used (length c.versions)))

    needs_other : (i : ℕ) → i ≢ length c.versions →
        needs_of c i ≡ up_from (get_or (with_version t c v).starts i 0) (get_or (with_version t c v).marks i 0 - 1)
    needs_other i h =
        rw (
          get_or-set_other t.starts (length c.versions) i (length c.needs) 0 h,
          get_or-set_other t.marks (length c.versions) i 1 0 h,
        ) (tidy.holds.needs i)

    needs_kept : (i : ℕ) → needs_of c i ≡ up_from (get_or (with_version t c v).starts i 0) (get_or (with_version t c v).marks i 0 - 1)
    needs_kept =
        everywhere (λ i. needs_of c i ≡ up_from (get_or (with_version t c v).starts i 0) (get_or (with_version t c v).marks i 0 - 1))
        (length c.versions) needs_new needs_other

    -- it is the last, so its needs and its module's versions end the tables
    ends_kept : Ends (with_version t c v) (more_versions c v)
    ends_kept =
        record {
          tip = rw (before_last c.versions v) (omega (arith, start_new, mark_new));
          tail = rw (last_grown c v) (omega (arith, count_new, first_law.0, length_last c.versions v));
          later = λ m h. later m (rw (last_grown c v) at h);
          bound = rw (last_grown c v) bound;
        }
      where
        later : (m : ℕ) → v.owner < m → get_or (with_version t c v).counts m 0 ≡ 0
        later m h =
            get_or-set_other t.counts v.owner m (length (places_of c v.owner) + 1) 0 (omega arith) ∙
            by_last _ (λ z. none_of z m) (λ k z l. z.later m (omega arith)) (λ k z l. z.later m (omega arith))

        bound : length (longer c.versions v) ≤ v.owner * 16 + get_or (with_version t c v).counts v.owner 0
        bound =
            let n = length_last c.versions v in
            by_last _ (λ z. omega (arith, n, count_new)) (λ k z l. omega (arith, n, count_new, tidy.counts_fit (last_version c).owner))
            (λ k z l. omega (arith, n, count_new, count_same l))

    -- the tables with it are tidy
    version_tidy : Tidy (with_version t c v) (more_versions c v)
    version_tidy =
        record {
          holds =
              record {
                values = set_next no_version (λ w. w.value) t.values c.versions v (omega (arith, place_fits)) tidy.holds.values;
                owners = set_next no_version (λ w. w.owner) t.owners c.versions v (omega (arith, place_fits)) tidy.holds.owners;
                used = used_kept;
                needs = needs_kept;
                places = places_kept;
                needies = tidy.holds.needies;
                targets = tidy.holds.targets;
                lows = tidy.holds.lows;
                highs = tidy.holds.highs;
              };
          sizes = kept_sizes (state_of (reading 1 c)) (last_of c) (length (places_of c v.owner)) (version_fields v) tidy.sizes;
          ends = λ h. ends_kept;
          modules_fit = tidy.modules_fit;
          versions_fit = omega (arith, place_fits, length_last c.versions v);
          needs_fit = tidy.needs_fit;
          counts_fit = set_most 16 t.counts v.owner _ (omega (arith, tidy.sizes.counts)) (omega arith) tidy.counts_fit;
          marks_fit = set_most 17 t.marks (length c.versions) 1 (omega (arith, place_fits)) (omega arith) tidy.marks_fit;
        }

-- A NEED MORE, of the last version: the catalogue with it, the fields of its frame, and the tables after that frame
abbrev more_needs : Catalogue → Need → Catalogue
more_needs c x = catalogue c.modules c.versions (longer c.needs x)

abbrev last_need : Catalogue → (target low high : ℕ) → Need
last_need c m a b = record { version = length c.versions - 1; target = m; low = a; high = b }

abbrev need_fields : (target low high : ℕ) → Fields
need_fields m a b = record { kind = 3; owner = module_no m; low = version a; topped = false; high = version b }

abbrev with_need : Tables → Catalogue → (target low high : ℕ) → Tables
with_need t c m a b = kept t (state_of (reading 1 c)) (last_of c) 0 (need_fields m a b)

-- the new need is one more of its version's
needs_grown : (c : Catalogue) (x : Need) (i : ℕ) → needs_of (more_needs c x) i ≡ needs_of c i ++ cond (eqb x.version i) (length c.needs ∷ []) []
needs_grown c x i =
    rw (length_last c.needs x) (keep_more (λ (k : ℕ). eqb (need_at c k).version i) (λ (k : ℕ). eqb (need_at (more_needs c x) k).version i)
    (length c.needs) others ∙ ap (λ (y : Need). needs_of c i ++ cond (eqb y.version i) (length c.needs ∷ []) []) new)
  where
    new : need_at (more_needs c x) (length c.needs) ≡ x
    new = get_or-append_seam c.needs x [] no_need

    others : (k : ℕ) → k < length c.needs → eqb (need_at (more_needs c x) k).version i ≡ eqb (need_at c k).version i
    others k h = rw (get_or-append c.needs (x ∷ []) no_need k h)

module _ {t : Tables} {c : Catalogue} (tidy : Tidy t c) (m a b : ℕ) (some : 0 < length c.versions)
    (room : length (needs_of c (length c.versions - 1)) < 16) (total : length c.needs < 1024) where
  -- the last version's needs are one more
  mark_set : get_or (with_need t c m a b).marks (length c.versions - 1) 0 ≡ length (needs_of c (length c.versions - 1)) + 2
  mark_set = get_or-set_same t.marks (length c.versions - 1) _ 0 (omega (arith, tidy.sizes.marks))

  -- the marks tell the versions that are there, as before
  need_used : (i : ℕ) → eqb (get_or (with_need t c m a b).marks i 0) 0 ≡ not (ltb i (length c.versions))
  need_used = set_each (λ i x. eqb x 0 ≡ not (ltb i (length c.versions))) t.marks (length c.versions - 1) _ within new (λ i h. tidy.holds.used i)
    where
      within : length c.versions - 1 < length t.marks
      within = omega (arith, tidy.sizes.marks)

      new : eqb (length (needs_of c (length c.versions - 1)) + 2) 0 ≡ not (ltb (length c.versions - 1) (length c.versions))
      new =
          rw (lt-ltb (length c.versions - 1) (length c.versions) (omega arith))
          (ne_eqb (length (needs_of c (length c.versions - 1)) + 2) 0 (omega arith))

  -- the needs of the last version follow one another, and the new one follows them
  needs_last : needs_of (more_needs c (last_need c m a b)) (length c.versions - 1) ≡
      up_from (get_or t.starts (length c.versions - 1) 0) (get_or (with_need t c m a b).marks (length c.versions - 1) 0 - 1)
  needs_last =
      let p = length c.versions - 1 in
      let k = get_or t.starts p 0 in
      let n = length (needs_of c p) in
      let one = rw (eq-eqb p p refl) at (needs_grown c (last_need c m a b) p) in
      let two : needs_of c p ≡ up_from k n = tidy.holds.needs p ∙ ap (up_from k) (mark_law tidy p) in
      let three : k + n ≡ length c.needs = omega (arith, (tidy.ends some).tip, mark_law tidy p) in
      let four : suc n ≡ get_or (with_need t c m a b).marks p 0 - 1 = omega (arith, mark_set) in
      one ∙ up_from_more (needs_of c p) k n (length c.needs) two three ∙ ap (up_from k) four

  -- the needs of other versions are as they were
  need_others : (i : ℕ) → i ≢ length c.versions - 1 →
      needs_of (more_needs c (last_need c m a b)) i ≡ up_from (get_or t.starts i 0) (get_or (with_need t c m a b).marks i 0 - 1)
  need_others i h =
      let one = rw (ne_eqb (length c.versions - 1) i (λ e. h (sym e))) at (needs_grown c (last_need c m a b) i) in
      rw (get_or-set_other t.marks (length c.versions - 1) i (length (needs_of c (length c.versions - 1)) + 2) 0 h)
      (one ∙ append-nil (needs_of c i) ∙ tidy.holds.needs i)

  -- so the needs of every version
  need_needs : (i : ℕ) → needs_of (more_needs c (last_need c m a b)) i ≡ up_from (get_or t.starts i 0) (get_or (with_need t c m a b).marks i 0 - 1)
  need_needs =
      everywhere (λ i. needs_of (more_needs c (last_need c m a b)) i ≡ up_from (get_or t.starts i 0) (get_or (with_need t c m a b).marks i 0 - 1))
      (length c.versions - 1) needs_last need_others

  -- the last needs are still the last version's
  need_ends : Ends (with_need t c m a b) (more_needs c (last_need c m a b))
  need_ends =
      let z = tidy.ends some in
      record {
        tip = omega (arith, mark_set, z.tip, mark_law tidy (length c.versions - 1), length_last c.needs (last_need c m a b));
        tail = z.tail;
        later = z.later;
        bound = z.bound;
      }

  -- a table of needs, with the new one's number
  set_need : (p : Need → ℕ) (ns : List ℕ) → length ns ≡ 1024 → ((k : ℕ) → get_or ns k 0 ≡ p (need_at c k)) →
      (k : ℕ) → get_or (set ns (length c.needs) (p (last_need c m a b))) k 0 ≡ p (need_at (more_needs c (last_need c m a b)) k)
  set_need p ns h = set_next no_need p ns c.needs (last_need c m a b) (omega arith)

  -- the tables with it are tidy
  need_tidy : Tidy (with_need t c m a b) (more_needs c (last_need c m a b))
  unfolding is_of
  need_tidy =
      record {
        holds =
            record {
              values = tidy.holds.values;
              owners = tidy.holds.owners;
              used = need_used;
              needs = need_needs;
              places = tidy.holds.places;
              needies = set_need (λ y. y.version) t.needies tidy.sizes.needies tidy.holds.needies;
              targets = set_need (λ y. y.target) t.targets tidy.sizes.targets tidy.holds.targets;
              lows = set_need (λ y. y.low) t.lows tidy.sizes.lows tidy.holds.lows;
              highs = set_need (λ y. y.high) t.highs tidy.sizes.highs tidy.holds.highs;
            };
        sizes = kept_sizes (state_of (reading 1 c)) (last_of c) 0 (need_fields m a b) tidy.sizes;
        ends = λ h. need_ends;
        modules_fit = tidy.modules_fit;
        versions_fit = tidy.versions_fit;
        needs_fit = omega (arith, length_last c.needs (last_need c m a b));
        counts_fit = tidy.counts_fit;
        marks_fit = set_most 17 t.marks (length c.versions - 1) _ (omega (arith, tidy.sizes.marks)) (omega arith) tidy.marks_fit;
      }

-- A GOOD FRAME: three tests that tell no fault pass
pub checks_none : (a b d : Bool) → checks a b d ≡ 0 → (a ≡ true) × (b ≡ true) × (d ≡ true)
unfolding checks
checks_none a b d e =
    let one = or_else_none (unless a 5) _ e in
    let two = or_else_none (unless b 6) _ one.1 in
    (unless_none a 5 (omega arith) one.0, unless_none b 6 (omega arith) two.0, unless_none d 7 (omega arith) two.1)

-- a version frame that tells no fault: its module is one of the catalogue, and the last version's or a later one
version_passes : (u : Reading) (n : ℕ) (g : Fields) → version_fault limits (state_of u) (last_of u.sofar) n g ≡ 0 →
    (g.owner.0 < u.sofar.modules) × (n < 16) ×
    (0 < length u.sofar.versions → ((last_version u.sofar).owner < g.owner.0) ⊎ ((last_version u.sofar).owner ≡ g.owner.0))
version_passes u n g h = (ltb-true m _ (and_fst _ _ passes.1), ltb-true n 16 passes.2, rises)
  where
    m : ℕ
    m = g.owner.0

    o : ℕ
    o = (last_version u.sofar).owner

    same : Bool
    same = eqb o m && ltb (last_version u.sofar).value g.low.0

    passes : ((eqb u.stands 1 && (eqb (length u.sofar.versions) 0 || ltb o m || same)) ≡ true) ×
        ((ltb m u.sofar.modules && not g.topped) ≡ true) × (ltb n 16 ≡ true)
    passes = checks_none _ _ _ h

    rises : 0 < length u.sofar.versions → (o < m) ⊎ (o ≡ m)
    rises k =
        let later = or_cases (eqb (length u.sofar.versions) 0 || ltb o m) same (and_snd (eqb u.stands 1) _ passes.0) in
        ⊎_elim (λ e. inl (ltb-true o m (rw some at e))) (λ e. inr (eqb-true o m (and_fst _ _ e))) later
      where
        some : eqb (length u.sofar.versions) 0 ≡ false
        some = ne_eqb (length u.sofar.versions) 0 (omega arith)

-- a need frame that tells no fault: there is a version, and room
need_passes : (u : Reading) (g : Fields) → need_fault limits (state_of u) (last_of u.sofar) g ≡ 0 →
    (0 < length u.sofar.versions) × (length (needs_of u.sofar (length u.sofar.versions - 1)) < 16) × (length u.sofar.needs < 1024)
need_passes u g h =
    let passes = checks_none _ _ _ h in
    let some = eqb-false (length u.sofar.versions) 0 (not-true _ (and_snd (eqb u.stands 1) _ passes.0)) in
    let room = ltb (length (needs_of u.sofar (length u.sofar.versions - 1))) 16 in
    (omega arith, ltb-true _ 16 (and_fst _ _ passes.2), ltb-true _ 1024 (and_snd room _ passes.2))

-- the tables kept of a frame that tells no fault are tidy again, kind by kind
module _ {t : Tables} (u : Reading) (f : List ℕ) (tidy : Tidy t u.sofar) where
  abbrev Keeps : Fields → Type 0
  Keeps g =
      frame_fault limits (state_of u) (last_of u.sofar) (length (places_of u.sofar g.owner.0)) g ≡ 0 →
      Tidy (kept t (state_of u) (last_of u.sofar) (length (places_of u.sofar g.owner.0)) g) (with_frame u.sofar f)

  head_keeps : (u.stands ≡ 0 → u.sofar ≡ no_catalogue) → kind_of f ≡ 1 → Keeps (fields_at 1 0 0 f)
  unfolding frame_fault with_frame
  head_keeps none e h =
      let passes = checks_none (eqb u.stands 0) (is_in 1 32 (byte_at f 1)) true (rw e at h) in
      let fits : byte_at f 1 ≤ 32 = leb-true _ 32 (and_snd (leb 1 (byte_at f 1)) _ passes.1) in
      rw e (head_tidy (byte_at f 1) fits (subst (Tidy t) (none (eqb-true _ 0 passes.0)) tidy))

  version_keeps : kind_of f ≡ 2 → Keeps (fields_at 1 2 0 f)
  unfolding frame_fault with_frame
  version_keeps e h =
      let (fits, room, rises) = version_passes u _ (fields_at 1 2 0 f) (rw e at h) in
      rw e (version_tidy tidy (version_in f) (omega (arith, tidy.modules_fit)) rises room)

  need_keeps : kind_of f ≡ 3 → Keeps (fields_at 1 2 5 f)
  unfolding frame_fault with_frame
  need_keeps e h =
      let (some, room, total) = need_passes u (need_fields (byte_at f 1) (version_at f 2) (version_at f 5)) (rw e at h) in
      rw e (need_tidy tidy (byte_at f 1) (version_at f 2) (version_at f 5) some room total)

  caret_keeps : kind_of f ≡ 5 → Keeps (fields_at 1 2 0 f)
  unfolding frame_fault with_frame
  caret_keeps e h =
      let (some, room, total) = need_passes u (need_fields (byte_at f 1) (version_at f 2) ((byte_at f 2 + 1) * 65536)) (rw e at h) in
      rw e (need_tidy tidy (byte_at f 1) (version_at f 2) ((byte_at f 2 + 1) * 65536) some room total)

  end_keeps : kind_of f ≡ 4 → Keeps (fields_at 0 0 0 f)
  unfolding with_frame
  end_keeps e h = rw e tidy

  -- so of a frame of a known kind that the reader finds no fault with
  pub tidy_step : (u.stands ≡ 0 → u.sofar ≡ no_catalogue) → ((i : ℕ) → byte_at f i < 256) → digits_for catalogues (kind_of f) ≢ 0 →
      (catalogue_reader limits).fault u f ≡ 0 →
      Tidy (kept t (state_of u) (last_of u.sofar) (length (places_of u.sofar (fields_in f).owner.0)) (fields_in f)) (with_frame u.sofar f)
  tidy_step none bytes known h = go (known_kind (kind_of f) known) (fault_law limits u f bytes known ∙ h)
    where
      go : Known (kind_of f) → Keeps (fields_in f)
      go (a_head e) = subst Keeps (sym (head_fields f e)) (head_keeps none e)
      go (a_version e) = subst Keeps (sym (version_fields_lem f e)) (version_keeps e)
      go (a_need e) = subst Keeps (sym (need_fields_lem f e)) (need_keeps e)
      go (a_caret e) = subst Keeps (sym (caret_fields f e)) (caret_keeps e)
      go (an_end e) = subst Keeps (sym (end_fields f e)) (end_keeps e)

-- A READING of nothing stands for itself
pub reads_start : Reads no_tables (reading 0 no_catalogue)
reads_start = record { tidy = tidy_start; none = λ e. refl }

-- and after a frame of a known kind that the reader finds no fault with
pub reads_step : {t : Tables} (u : Reading) (f : List ℕ) → Reads t u → ((i : ℕ) → byte_at f i < 256) → digits_for catalogues (kind_of f) ≢ 0 →
    (catalogue_reader limits).fault u f ≡ 0 →
    Reads (kept t (state_of u) (last_of u.sofar) (length (places_of u.sofar (fields_in f).owner.0)) (fields_in f)) ((catalogue_reader limits).after u f)
reads_step u f h bytes known e =
    record {
      tidy = tidy_step u f h.tidy h.none bytes known e;
      none = λ z. absurd (begun (is_end f) z);
    }
  where
    begun : (b : Bool) → cond {A = ℕ} b 2 1 ≢ 0
    begun true z = omega arith
    begun false z = omega arith

-- the version last read is what the tables have at the last place
pub last_law : {t : Tables} {c : Catalogue} → Tidy t c → last_in t.values t.owners t.marks (length c.versions) ≡ last_of c
last_law {t} {c} h =
    rw (h.holds.owners (length c.versions - 1), h.holds.values (length c.versions - 1), mark_law h (length c.versions - 1))
