-- A frame of a known kind: its fault (`fault_law`) and how the reading goes on (`after_law`) are those of the rules' reader, told by its fields and
-- the little that the code keeps beside the tables. Assumes nothing.
use mathlib.Core.Path.{◌≡◌, refl, sym, ◌∙◌, ap}
use mathlib.Core.Logic.{⊎_elim, ◌≢◌}
use mathlib.Core.Bool.{Bool, true, false, ◌&&◌, ◌||◌, not, cond, and-true, or_assoc}
use mathlib.Core.List.{List, [], ◌∷◌}
use Prim.Native.Nat.{ℕ, ◌+◌, ◌*◌, ◌<◌}
use native.Mathlib.Omega.{arith}
use native.Mathlib.Numerals.{add-one}
use lib.Dec.{ltb, leb, eqb, eqb-suc-zero}
use lib.ListN.{length}
use borrow.Author.Tests.{ne_eqb, lt-ltb, le-leb}
use Rattle.rules.specs.Lines.{or_else, unless}
use Rattle.rules.specs.Frames.{byte_at, kind_of, version_at, catalogues, kinds, row_in, digits_for}
use Rattle.rules.specs.Catalogue.{Version, Limits, Reading, catalogue_reader, last_version, version_in, has_version, is_older, places_of}
use Rattle.rules.specs.Catalogue.{is_head, is_version, is_need, order_fits, content_fits, room_fits, with_frame}
use Rattle.rules.proofs.Lists.{same_or_not, length_last}
use Rattle.store.specs.Frame.{Fields, State, state_of, last_of, fields_at, checks, frame_fault, after}

-- THE KINDS of a catalogue's frames
pub data Known (kind : ℕ) : Type 0 where
  a_head : kind ≡ 1 → Known kind
  a_version : kind ≡ 2 → Known kind
  a_need : kind ≡ 3 → Known kind
  a_caret : kind ≡ 5 → Known kind
  an_end : kind ≡ 4 → Known kind

-- there is no other kind
pub known_kind : (k : ℕ) → digits_for catalogues k ≢ 0 → Known k
unfolding row_in kinds
known_kind k h =
    ⊎_elim a_head (λ a. ⊎_elim a_version (λ b. ⊎_elim a_need (λ c. ⊎_elim a_caret (λ d. ⊎_elim an_end (λ e. absurd (h (none a b c d e)))
    (same_or_not k 4)) (same_or_not k 5)) (same_or_not k 3)) (same_or_not k 2)) (same_or_not k 1)
  where
    none : k ≢ 1 → k ≢ 2 → k ≢ 3 → k ≢ 5 → k ≢ 4 → digits_for catalogues k ≡ 0
    none a b c d e =
        rw (
          ne_eqb 1 k (λ p. a (sym p)),
          digits_for,
          row_in,
          ne_eqb 2 k (λ p. b (sym p)),
          ne_eqb 3 k (λ p. c (sym p)),
          ne_eqb 5 k (λ p. d (sym p)),
          ne_eqb 4 k (λ p. e (sym p)),
        )

-- the fields of a frame by its row of the table of kinds
abbrev fields_by : (kind : ℕ) → (frame : List ℕ) → Fields
fields_by k f = fields_at (row_in kinds catalogues k).first (row_in kinds catalogues k).second (row_in kinds catalogues k).third f

-- the row being that of the frame's own kind
abbrev pub fields_in : (frame : List ℕ) → Fields
fields_in f = fields_by (kind_of f) f

-- the places of the fields, kind by kind
module _ (f : List ℕ) where
  by_kind : (k : ℕ) → kind_of f ≡ k → fields_in f ≡ fields_by k f
  by_kind k e = ap (λ (n : ℕ). fields_by n f) e

  pub head_fields : kind_of f ≡ 1 → fields_in f ≡ fields_at 1 0 0 f
  unfolding row_in kinds
  head_fields e = by_kind 1 e

  pub version_fields_lem : kind_of f ≡ 2 → fields_in f ≡ fields_at 1 2 0 f
  unfolding row_in kinds
  version_fields_lem e = by_kind 2 e

  pub need_fields_lem : kind_of f ≡ 3 → fields_in f ≡ fields_at 1 2 5 f
  unfolding row_in kinds
  need_fields_lem e = by_kind 3 e

  pub caret_fields : kind_of f ≡ 5 → fields_in f ≡ fields_at 1 2 0 f
  unfolding row_in kinds
  caret_fields e = by_kind 5 e

  pub end_fields : kind_of f ≡ 4 → fields_in f ≡ fields_at 0 0 0 f
  unfolding row_in kinds
  end_fields e = by_kind 4 e

-- CHECKS of the code and of the rules, test by test
checks_law : {a b d x y z : Bool} → a ≡ x → b ≡ y → d ≡ z → checks a b d ≡ or_else (unless x 5) (or_else (unless y 6) (unless z 7))
unfolding checks
checks_law p q r = rw (p, q, r)

-- `has_version` and its negation as tests of the number of versions
has_law : (vs : List Version) → not (eqb (length vs) 0) ≡ has_version vs
has_law [] = refl
has_law (v ∷ vs) = rw (eqb-suc-zero (length vs))

has_not_law : (vs : List Version) → eqb (length vs) 0 ≡ not (has_version vs)
has_not_law [] = refl
has_not_law (v ∷ vs) = eqb-suc-zero (length vs)

-- what is tested in the body fails before the head
body_law : (n : ℕ) (b c d : Bool) → (b && c) ≡ d → (eqb n 1 && d) ≡ cond (eqb n 0) false (eqb n 1 && true && b && c)
body_law n b c d p = ⊎_elim (λ e. rw e) (λ e. rw (ne_eqb n 0 e) (go (eqb n 1))) (same_or_not n 0)
  where
    go : (z : Bool) → (z && d) ≡ (z && true && b && c)
    go true = sym p
    go false = refl

-- the head's place is before everything
head_law : (n : ℕ) (b c : Bool) → eqb n 0 ≡ cond (eqb n 0) true (eqb n 1 && false && b && c)
head_law n b c = go (eqb n 0) (eqb n 1)
  where
    go : (y z : Bool) → y ≡ cond y true (z && false && b && c)
    go true z = refl
    go false true = refl
    go false false = refl

-- no byte is 255
topped_law : (m a b c : Bool) → (m && not (a || b || c)) ≡ (m && not a && not b && not c)
topped_law true true b c = refl
topped_law true false true c = refl
topped_law true false false c = refl
topped_law false a b c = refl

-- a caret's range rises, and ends within three bytes if its major number is below 255
caret_law : (major minor patch : ℕ) → major < 256 → minor < 256 → patch < 256 →
    (ltb (major * 65536 + minor * 256 + patch) ((major + 1) * 65536) && leb ((major + 1) * 65536) 16777215) ≡ not (eqb major 255)
caret_law a b c h i j = rw (lt-ltb _ _ rises) (⊎_elim top below (same_or_not a 255))
  where
    rises : a * 65536 + b * 256 + c < (a + 1) * 65536
    rises = omega arith

    top : a ≡ 255 → leb ((a + 1) * 65536) 16777215 ≡ not (eqb a 255)
    top e = rw e

    below : a ≢ 255 → leb ((a + 1) * 65536) 16777215 ≡ not (eqb a 255)
    below e = rw (ne_eqb a 255 e) (le-leb ((a + 1) * 65536) 16777215 (omega arith))

-- a version in three bytes is below the end of all
version_fits : (major minor patch : ℕ) → major < 256 → minor < 256 → patch < 256 → leb (major * 65536 + minor * 256 + patch) 16777215 ≡ true
version_fits a b c h i j = le-leb (a * 65536 + b * 256 + c) 16777215 (omega arith)

module _ (l : Limits) (u : Reading) (f : List ℕ) (bytes : (i : ℕ) → byte_at f i < 256) where
  -- ORDER, kind by kind: the code's test of where a frame stands is the rules'
  head_order : kind_of f ≡ 1 → eqb u.stands 0 ≡ order_fits u f
  unfolding order_fits
  head_order e = rw e (head_law u.stands _ _)

  version_order : kind_of f ≡ 2 → (eqb u.stands 1 && (eqb (length u.sofar.versions) 0 ||
      ltb (last_version u.sofar).owner (byte_at f 1) ||
      (eqb (last_version u.sofar).owner (byte_at f 1) && ltb (last_version u.sofar).value (version_at f 2)))) ≡ order_fits u f
  unfolding order_fits is_older
  version_order e = rw e (body_law u.stands _ true _ (and-true _ ∙ newer))
    where
      newer : (not (has_version u.sofar.versions) || is_older (last_version u.sofar) (version_in f)) ≡
          (eqb (length u.sofar.versions) 0 || ltb (last_version u.sofar).owner (byte_at f 1) ||
          (eqb (last_version u.sofar).owner (byte_at f 1) && ltb (last_version u.sofar).value (version_at f 2)))
      newer = rw has_not_law (sym (or_assoc (not (has_version u.sofar.versions)) _ _))

  need_order : is_head f ≡ false → is_version f ≡ false → is_need f ≡ true →
      (eqb u.stands 1 && not (eqb (length u.sofar.versions) 0)) ≡ order_fits u f
  unfolding order_fits
  need_order a b n = rw (a, b, n) (body_law u.stands true (has_version u.sofar.versions) _ (sym (has_law u.sofar.versions)))

  end_order : kind_of f ≡ 4 → eqb u.stands 1 ≡ order_fits u f
  unfolding order_fits
  end_order e = rw e (sym (and-true (eqb u.stands 1)) ∙ body_law u.stands true true true refl)

  -- CONTENT, kind by kind: the code's test of a frame's fields is the rules'
  version_content : kind_of f ≡ 2 → (ltb (byte_at f 1) u.sofar.modules && not (fields_at 1 2 0 f).topped) ≡ content_fits u.sofar f
  unfolding content_fits
  version_content e =
      rw e (topped_law (ltb (byte_at f 1) u.sofar.modules) (eqb (byte_at f 2) 255) (eqb (byte_at f 3) 255) (eqb (byte_at f 4) 255))

  -- the target of a need, which the code and the rules test alike
  abbrev target : Bool
  target = ltb (byte_at f 1) u.sofar.modules && not (eqb (byte_at f 1) (last_version u.sofar).owner)

  need_content : kind_of f ≡ 3 → (target && (ltb (version_at f 2) (version_at f 5) && leb (version_at f 5) 16777215)) ≡ content_fits u.sofar f
  unfolding content_fits
  need_content e =
      rw (e, version_fits (byte_at f 5) (byte_at f 6) (byte_at f 7) (bytes 5) (bytes 6) (bytes 7), and-true (ltb (version_at f 2) (version_at f 5)))

  caret_content : kind_of f ≡ 5 →
      (target && (ltb (version_at f 2) ((byte_at f 2 + 1) * 65536) && leb ((byte_at f 2 + 1) * 65536) 16777215)) ≡ content_fits u.sofar f
  unfolding content_fits
  caret_content e = rw (e, caret_law (byte_at f 2) (byte_at f 3) (byte_at f 4) (bytes 2) (bytes 3) (bytes 4))

  -- FAULTS, kind by kind: what the code tells, by the fields, is the reader's
  abbrev told : Fields → ℕ
  told g = frame_fault l (state_of u) (last_of u.sofar) (length (places_of u.sofar g.owner.0)) g

  head_fault_lem : kind_of f ≡ 1 → told (fields_at 1 0 0 f) ≡ (catalogue_reader l).fault u f
  unfolding frame_fault content_fits room_fits
  head_fault_lem e = rw e (checks_law (head_order e) refl refl)

  version_fault_lem : kind_of f ≡ 2 → told (fields_at 1 2 0 f) ≡ (catalogue_reader l).fault u f
  unfolding frame_fault room_fits
  version_fault_lem e = rw e (checks_law (version_order e) (version_content e) refl)

  need_fault_lem : kind_of f ≡ 3 → told (fields_at 1 2 5 f) ≡ (catalogue_reader l).fault u f
  unfolding frame_fault room_fits
  need_fault_lem e = rw e (checks_law (need_order (rw e) (rw e) (rw e)) (need_content e) refl)

  caret_fault : kind_of f ≡ 5 → told (fields_at 1 2 0 f) ≡ (catalogue_reader l).fault u f
  unfolding frame_fault room_fits
  caret_fault e = rw e (checks_law (need_order (rw e) (rw e) (rw e)) (caret_content e) refl)

  end_fault_lem : kind_of f ≡ 4 → told (fields_at 0 0 0 f) ≡ (catalogue_reader l).fault u f
  unfolding frame_fault content_fits room_fits
  end_fault_lem e = rw e (checks_law (end_order e) refl refl)

  -- so it is for every known kind
  pub fault_law : digits_for catalogues (kind_of f) ≢ 0 →
      frame_fault l (state_of u) (last_of u.sofar) (length (places_of u.sofar (fields_in f).owner.0)) (fields_in f) ≡ (catalogue_reader l).fault u f
  fault_law h = go (known_kind (kind_of f) h)
    where
      go : Known (kind_of f) → told (fields_in f) ≡ (catalogue_reader l).fault u f
      go (a_head e) = ap told (head_fields f e) ∙ head_fault_lem e
      go (a_version e) = ap told (version_fields_lem f e) ∙ version_fault_lem e
      go (a_need e) = ap told (need_fields_lem f e) ∙ need_fault_lem e
      go (a_caret e) = ap told (caret_fields f e) ∙ caret_fault e
      go (an_end e) = ap told (end_fields f e) ∙ end_fault_lem e

module _ (l : Limits) (u : Reading) (f : List ℕ) where
  -- THE STATE after the frame, kind by kind: by the rules, and by the code from the fields
  abbrev next : State
  next = state_of ((catalogue_reader l).after u f)

  abbrev goes : Fields → State
  goes g = after (state_of u) g

  head_next : kind_of f ≡ 1 → next ≡ goes (fields_at 1 0 0 f)
  unfolding with_frame after
  head_next e = rw e

  version_next : kind_of f ≡ 2 → next ≡ goes (fields_at 1 2 0 f)
  unfolding with_frame after
  version_next e = rw (e, length_last, add-one (length u.sofar.versions))

  need_next : kind_of f ≡ 3 → next ≡ goes (fields_at 1 2 5 f)
  unfolding with_frame after
  need_next e = rw (e, length_last, add-one (length u.sofar.needs))

  caret_next : kind_of f ≡ 5 → next ≡ goes (fields_at 1 2 0 f)
  unfolding with_frame after
  caret_next e = rw (e, length_last, add-one (length u.sofar.needs))

  end_next : kind_of f ≡ 4 → next ≡ goes (fields_at 0 0 0 f)
  unfolding with_frame after
  end_next e = rw e

  -- so it is for every known kind
  pub after_law : digits_for catalogues (kind_of f) ≢ 0 → state_of ((catalogue_reader l).after u f) ≡ after (state_of u) (fields_in f)
  after_law h = go (known_kind (kind_of f) h)
    where
      go : Known (kind_of f) → next ≡ goes (fields_in f)
      go (a_head e) = head_next e ∙ ap goes (sym (head_fields f e))
      go (a_version e) = version_next e ∙ ap goes (sym (version_fields_lem f e))
      go (a_need e) = need_next e ∙ ap goes (sym (need_fields_lem f e))
      go (a_caret e) = caret_next e ∙ ap goes (sym (caret_fields f e))
      go (an_end e) = end_next e ∙ ap goes (sym (end_fields f e))
