-- Reading catalogues: a text that is not refused gives a catalogue that is well formed and that the frames can carry (`reads_well_formed`), in which
-- no module has more versions than the limit (`reads_few`). The catalogue read so far is `Sound`, which each good frame keeps. Assumes nothing.
use mathlib.Core.Path.{◌≡◌, refl, ◌∙◌, ap}
use mathlib.Core.Logic.{◌⊎◌, inl, inr, ⊎_elim, ◌≢◌}
use mathlib.Core.Bool.{Bool, true, false, ◌&&◌, ◌||◌, not, cond, false≢true}
use mathlib.Core.List.{List, [], ◌∷◌, ◌++◌}
use Prim.Native.Nat.{ℕ, ◌+◌, ◌*◌, ◌-◌, ◌≤◌, ◌<◌}
use native.Mathlib.Omega.{arith}
use native.Mathlib.Nat.{not-suc-le-zero}
use lib.Dec.{ltb, leb, eqb}
use borrow.Author.Tests.{ltb-true, ltb-false, leb-true, eqb-true, eqb-false, eq-eqb, lt-ltb, not-true}
use lib.ListN.{length, get_or, length-append, get_or-append, get_or-eq_default}
use lib.Seq.{get_or-append_seam}
use Rattle.rules.specs.Lists.{keep, up_from}
use Rattle.rules.specs.Lines.{Line, fine, unless}
use Rattle.rules.specs.Frames.{frame_of, byte_at, version_at}
use Rattle.rules.specs.Catalogue.{Version, Need, Catalogue, catalogue, no_catalogue, no_version, no_need, version_at_place, need_at, is_of, places_of, Limits}
use Rattle.rules.specs.Catalogue.{CarriedLimits, WellFormed, Carried, catalogue_reader, catalogue_of, Reading, reading, with_frame, is_head}
use Rattle.rules.specs.Catalogue.{is_version, is_caret, is_need, last_version, version_in, need_in, has_version, is_older, order_fits, content_fits}
use Rattle.rules.specs.Catalogue.{limits, room_fits, root_fits, text_fault}
use Rattle.rules.specs.Promises.{ReadsWellFormed}
use Rattle.rules.proofs.Lists.{and_fst, and_snd, and_both, or_cases, or_fst, or_snd, same_or_not, longer, length_last, one_more, one_more_pair}
use Rattle.rules.proofs.Lists.{keep_more}
use Rattle.rules.proofs.Written.{good_bytes}
use Rattle.rules.proofs.Readers.{Run, Good, or_else_none, unless_none, fine_text, run_keeps}

-- THE ORDER OF VERSIONS: by module, then by value
abbrev Older : (one other : Version) → Type 0
Older u v = (u.owner < v.owner) ⊎ ((u.owner ≡ v.owner) × (u.value < v.value))

older_cases : (u v : Version) → is_older u v ≡ true → Older u v
unfolding is_older
older_cases u v h = ⊎_elim (λ p. inl (ltb-true _ _ p)) (λ p. inr (by_value p)) (or_cases (ltb u.owner v.owner) _ h)
  where
    by_value : (eqb u.owner v.owner && ltb u.value v.value) ≡ true → (u.owner ≡ v.owner) × (u.value < v.value)
    by_value p = (eqb-true _ _ (and_fst _ _ p), ltb-true _ _ (and_snd (eqb u.owner v.owner) _ p))

cases_older : (u v : Version) → Older u v → is_older u v ≡ true
unfolding is_older
cases_older u v (inl p) = or_fst _ (lt-ltb _ _ p)
cases_older u v (inr p) = or_snd (ltb u.owner v.owner) (and_both (eq-eqb _ _ p.0) (lt-ltb _ _ p.1))

pub older_trans : (u v w : Version) → is_older u v ≡ true → is_older v w ≡ true → is_older u w ≡ true
older_trans u v w p q = cases_older u w (go (older_cases u v p) (older_cases v w q))
  where
    go : Older u v → Older v w → Older u w
    go (inl a) (inl b) = inl (omega arith)
    go (inl a) (inr b) = inl (omega arith)
    go (inr a) (inl b) = inl (omega arith)
    go (inr a) (inr b) = inr (omega arith)

-- A VERSION MORE is one more of its module's
abbrev pub more_versions : Catalogue → Version → Catalogue
more_versions c v = catalogue c.modules (longer c.versions v) c.needs

pub places_grown : (c : Catalogue) (v : Version) (m : ℕ) →
    places_of (more_versions c v) m ≡ places_of c m ++ cond (eqb v.owner m) (length c.versions ∷ []) []
unfolding is_of
places_grown c v m =
    rw (length_last c.versions v) (keep_more (is_of c m) (is_of (more_versions c v) m) (length c.versions) others ∙
    ap (λ (b : Bool). places_of c m ++ cond b (length c.versions ∷ []) []) new)
  where
    new : is_of (more_versions c v) m (length c.versions) ≡ eqb v.owner m
    new = rw (get_or-append_seam c.versions v [] no_version, lt-ltb _ _ more)
      where
        more : length c.versions < length (longer c.versions v)
        more = omega (arith, length_last c.versions v)

    others : (k : ℕ) → k < length c.versions → is_of (more_versions c v) m k ≡ is_of c m k
    others k h =
        let g : k < length (longer c.versions v) = omega (arith, length_last c.versions v) in
        rw (lt-ltb _ _ g, lt-ltb _ _ h, get_or-append c.versions (v ∷ []) no_version k h)

-- so where its module has room for one, no module has more than the limit
few_grown : (c : Catalogue) (v : Version) (most : ℕ) → length (places_of c v.owner) < most → ((m : ℕ) → length (places_of c m) ≤ most) →
    (m : ℕ) → length (places_of (more_versions c v) m) ≤ most
few_grown c v most room few m =
    rw (places_grown c v m, length-append (places_of c m) (cond (eqb v.owner m) (length c.versions ∷ []) [])) (go (eqb v.owner m) refl)
  where
    go : (b : Bool) → eqb v.owner m ≡ b → length (places_of c m) + length (cond b (length c.versions ∷ []) []) ≤ most
    go true e = let r : length (places_of c m) < most = rw (← eqb-true v.owner m e) room in omega arith
    go false e = omega (arith, few m)

-- SOUND: what holds of the catalogue so far, of each version and each need in it
record VersionSound (modules : ℕ) (v : Version) : Type 0 where
  owner : v.owner < modules
  value : v.value < 16777216

record NeedSound (modules : ℕ) (vs : List Version) (n : Need) : Type 0 where
  needy : n.version < length vs
  target : n.target < modules
  other : n.target ≢ (get_or vs n.version no_version).owner
  range : n.low < n.high

record Sound (l : Limits) (c : Catalogue) : Type 0 where
  modules : c.modules ≤ 32
  versions : (i : ℕ) → i < length c.versions → VersionSound c.modules (version_at_place c i)
  rising : (i j : ℕ) → i < j → j < length c.versions → is_older (version_at_place c i) (version_at_place c j) ≡ true
  needs : (k : ℕ) → k < length c.needs → NeedSound c.modules c.versions (need_at c k)
  room : length c.needs ≤ l.in_all
  few : (m : ℕ) → length (places_of c m) ≤ l.of_module

-- a catalogue with nothing in it is sound
empty_sound : (l : Limits) (m : ℕ) → m ≤ 32 → Sound l (catalogue m [] [])
unfolding keep up_from
empty_sound l m h =
    record {
      modules = h;
      versions = λ i p. absurd (not-suc-le-zero p);
      rising = λ i j p q. absurd (not-suc-le-zero q);
      needs = λ k p. absurd (not-suc-le-zero p);
      room = omega arith;
      few = λ k. none;
    }
  where
    none : 0 ≤ l.of_module
    none = omega arith

-- `has_version` tells whether there is one
has_some : (vs : List Version) → has_version vs ≡ true → 0 < length vs
has_some [] h = absurd (false≢true h)
has_some (v ∷ vs) h = omega arith

some_has : {i : ℕ} (vs : List Version) → i < length vs → has_version vs ≡ true
some_has [] h = absurd (not-suc-le-zero h)
some_has (v ∷ vs) h = refl

-- one more version or need keeps a catalogue sound
module _ (l : Limits) (c : Catalogue) (sound : Sound l c) where
  -- what is newer than the last version is newer than all
  newer_than_all : (v : Version) → is_older (last_version c) v ≡ true →
      (i : ℕ) → i < length c.versions → is_older (version_at_place c i) v ≡ true
  newer_than_all v h i g = ⊎_elim (λ e. rw e h) (λ e. older_trans _ _ _ (earlier e) h) (same_or_not i (length c.versions - 1))
    where
      earlier : i ≢ length c.versions - 1 → is_older (version_at_place c i) (last_version c) ≡ true
      earlier e = sound.rising i (length c.versions - 1) (omega arith) (omega arith)

  -- a version that is newer than all others
  version_sound : (v : Version) → VersionSound c.modules v → ((i : ℕ) → i < length c.versions → is_older (version_at_place c i) v ≡ true) →
      length (places_of c v.owner) < l.of_module → Sound l (more_versions c v)
  version_sound v h newer more =
      record {
        modules = sound.modules;
        versions = one_more no_version c.versions v (λ i. VersionSound c.modules) sound.versions h;
        rising = one_more_pair no_version c.versions v (λ u w. is_older u w ≡ true) sound.rising newer;
        needs = λ k p. still (sound.needs k p);
        room = sound.room;
        few = few_grown c v l.of_module more sound.few;
      }
    where
      still : {n : Need} → NeedSound c.modules c.versions n → NeedSound c.modules (longer c.versions v) n
      still {n} s =
          record {
            needy = omega (arith, length_last c.versions v);
            target = s.target;
            other = rw (get_or-append c.versions (v ∷ []) no_version n.version s.needy) s.other;
            range = s.range;
          }

  -- a need of a version that is there
  need_sound : (n : Need) → NeedSound c.modules c.versions n → length c.needs < l.in_all →
      Sound l (catalogue c.modules c.versions (longer c.needs n))
  unfolding is_of
  need_sound n h g =
      record {
        modules = sound.modules;
        versions = sound.versions;
        rising = sound.rising;
        needs = one_more no_need c.needs n (λ k. NeedSound c.modules c.versions) sound.needs h;
        room = omega (arith, length_last c.needs n);
        few = sound.few;
      }

-- GOOD FRAMES: what a good line says of its frame
record Fits (l : Limits) (s : Reading) (f : List ℕ) : Type 0 where
  bytes : (i : ℕ) → byte_at f i < 256
  order : order_fits s f ≡ true
  content : content_fits s.sofar f ≡ true
  room : room_fits l s.sofar f ≡ true

good_fits : (l : Limits) (s : Reading) (x : Line) → Good (catalogue_reader l) s x → Fits l s (frame_of x.digits)
good_fits l s x g =
    let f = frame_of x.digits in
    let one = or_else_none (unless (order_fits s f) 5) _ g.content in
    let two = or_else_none (unless (content_fits s.sofar f) 6) _ one.1 in
    record {
      bytes = good_bytes (catalogue_reader l) s x g;
      order = unless_none (order_fits s f) 5 (omega arith) one.0;
      content = unless_none (content_fits s.sofar f) 6 (omega arith) two.0;
      room = unless_none (room_fits l s.sofar f) 7 (omega arith) two.1;
    }

-- a choice that is true though its first branch is false takes the second
cond_else : (z b : Bool) → cond z false b ≡ true → b ≡ true
cond_else true b e = absurd (false≢true e)
cond_else false b e = e

-- a frame that fits keeps the catalogue sound
module _ (l : Limits) (s : Reading) (f : List ℕ) (fits : Fits l s f) (sound : Sound l s.sofar) where
  head_kept : is_head f ≡ true → Sound l (with_frame s.sofar f)
  unfolding content_fits with_frame
  head_kept e = rw e (empty_sound l (byte_at f 1) (leb-true _ 32 (and_snd (leb 1 (byte_at f 1)) _ (rw e at fits.content))))

  -- past the head a version frame is newer than the last version, and a need frame follows a version
  in_body : is_head f ≡ false →
      ((not (is_version f) || not (has_version s.sofar.versions) || is_older (last_version s.sofar) (version_in f)) ≡ true) ×
      ((not (is_need f) || has_version s.sofar.versions) ≡ true)
  unfolding order_fits
  in_body e =
      let t = cond_else (eqb s.stands 0) _ (rw e at fits.order) in
      (search (and_fst, and_snd), search (and_fst, and_snd))

  version_kept : is_head f ≡ false → is_version f ≡ true → Sound l (with_frame s.sofar f)
  unfolding content_fits room_fits with_frame
  version_kept e v = rw (e, v) (version_sound l s.sofar sound (version_in f) fit newer (ltb-true _ _ (rw v at fits.room)))
    where
      fit : VersionSound s.sofar.modules (version_in f)
      fit =
          let t = rw (e, v) at fits.content in
          let major = fits.bytes 2 in
          let minor = fits.bytes 3 in
          let patch = fits.bytes 4 in
          record { owner = ltb-true _ _ (search (and_fst, and_snd)); value = omega arith }

      newer : (i : ℕ) → i < length s.sofar.versions → is_older (version_at_place s.sofar i) (version_in f) ≡ true
      newer i h = newer_than_all l s.sofar sound (version_in f) (rw (v, some_has _ h) at (in_body e).0) i h

  need_kept : is_head f ≡ false → is_version f ≡ false → is_need f ≡ true → Sound l (with_frame s.sofar f)
  unfolding content_fits room_fits with_frame
  need_kept e v n = rw (e, v, n) (need_sound l s.sofar sound (need_in s.sofar f) fit room)
    where
      room : length s.sofar.needs < l.in_all
      room = let t = rw (v, n) at fits.room in ltb-true _ _ (search (and_fst, and_snd))

      rises : (z : Bool) → cond z (not (eqb (byte_at f 2) 255)) (ltb (version_at f 2) (version_at f 5)) ≡ true →
          version_at f 2 < cond z ((byte_at f 2 + 1) * 65536) (version_at f 5)
      rises true h = let minor = fits.bytes 3 in let patch = fits.bytes 4 in omega arith
      rises false h = ltb-true _ _ h

      fit : NeedSound s.sofar.modules s.sofar.versions (need_in s.sofar f)
      fit =
          let t = rw (e, v, n) at fits.content in
          let h = has_some s.sofar.versions (rw n at (in_body e).1) in
          record {
            needy = omega arith;
            target = ltb-true _ _ (search (and_fst, and_snd));
            other = eqb-false _ _ (not-true _ (search (and_fst, and_snd)));
            range = rises (is_caret f) (search (and_fst, and_snd));
          }

  -- a head, a version, a need, or the end, which changes nothing
  frame_kept : Sound l (with_frame s.sofar f)
  unfolding with_frame
  frame_kept = go (is_head f) refl (is_version f) refl (is_need f) refl
    where
      go : (h : Bool) → is_head f ≡ h → (v : Bool) → is_version f ≡ v → (n : Bool) → is_need f ≡ n → Sound l (with_frame s.sofar f)
      go true a v b n d = head_kept a
      go false a true b n d = version_kept a b
      go false a false b true d = need_kept a b d
      go false a false b false d = rw (a, b, d) sound

-- THE CATALOGUE READ
run_sound : (l : Limits) {u : Reading} {ls : List Line} → Run (catalogue_reader l) (reading 0 no_catalogue) ls u →
    Sound l u.sofar × (root_fits u.sofar ≡ true)
run_sound l {u} run =
    let kept = run_keeps (catalogue_reader l) (λ s. Sound l s.sofar) keeps (empty_sound l 0 (omega arith)) run in
    (kept.0, unless_none (root_fits u.sofar) 8 (omega arith) kept.2)
  where
    keeps : (s : Reading) (x : Line) → Sound l s.sofar → Good (catalogue_reader l) s x → Sound l (with_frame s.sofar (frame_of x.digits))
    keeps s x h g = frame_kept l s (frame_of x.digits) (good_fits l s x g) h

-- a list of one element
only_one : (xs : List ℕ) → length xs ≡ 1 → (i : ℕ) × (xs ≡ i ∷ [])
only_one [] h = absurd (omega arith)
only_one (x ∷ []) h = (x, refl)
only_one (x ∷ y ∷ ys) h = absurd (omega arith)

-- what is sound and has one root is well formed
sound_well_formed : (l : Limits) (c : Catalogue) → Sound l c → root_fits c ≡ true → WellFormed c
sound_well_formed l c h r =
    record {
      owners = λ i p. (h.versions i p).owner;
      rising = h.rising;
      needies = λ k p. (h.needs k p).needy;
      targets = λ k p. (h.needs k p).target;
      others = λ k p. (h.needs k p).other;
      ranges = λ k p. (h.needs k p).range;
      root = only_one (places_of c 0) (eqb-true _ 1 r);
    }

-- what is sound the frames can carry
sound_carried : (l : Limits) (c : Catalogue) → CarriedLimits l → Sound l c → Carried c
sound_carried l c k h =
    record {
      modules = h.modules;
      values = λ i. value i (ltb i (length c.versions)) refl;
      needs = omega arith;
    }
  where
    -- past the last version there is none, of value 0
    value : (i : ℕ) (z : Bool) → ltb i (length c.versions) ≡ z → (version_at_place c i).value < 16777216
    value i true e = (h.versions i (ltb-true _ _ e)).value
    value i false e = rw (get_or-eq_default c.versions no_version (ltb-false _ _ e)) (omega arith)

-- a text that is not refused gives a well-formed catalogue that the frames can carry
pub reads_well_formed : ReadsWellFormed
reads_well_formed l t k e =
    let read = fine_text (catalogue_reader l) l.bytes (reading 0 no_catalogue) t e in
    let (sound, root) = run_sound l read.3 in
    rw (read.1, catalogue_of) (sound_well_formed l _ sound root, sound_carried l _ k sound)

-- and in which no module has more versions than the limit
pub reads_few : (l : Limits) (t : List ℕ) → text_fault l t ≡ fine → (m : ℕ) → length (places_of (catalogue_of l t) m) ≤ l.of_module
reads_few l t e m =
    let read = fine_text (catalogue_reader l) l.bytes (reading 0 no_catalogue) t e in
    rw (read.1, catalogue_of) ((run_sound l read.3).0.few m)

-- the limits of this build are such as frames can carry
pub limits_carried : CarriedLimits limits
limits_carried = record { needs = omega arith; sheets = omega arith }
