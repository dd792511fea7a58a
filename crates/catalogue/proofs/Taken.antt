-- A frame of a catalogue, in a line that fits its kind: what the code gets of its bytes and of the tables (`Got`), and that its fault, the state and the
-- tables after it are those of the rules' reading (`fault_same`, `state_same`, `reads_same`), so that what is owed of it holds (`refused`, `taken`). Assumes nothing.
use mathlib.Core.Path.{◌≡◌, refl, sym, ◌∙◌, ap}
use mathlib.Core.Logic.{◌≢◌}
use mathlib.Core.List.{List}
use Prim.Native.Nat.{ℕ}
use lib.ListN.{length, get_or}
use Rattle.rules.specs.Frames as Rules
use Rattle.rules.specs.Frames.{byte_at, catalogues}
use Rattle.rules.specs.Catalogue.{Reading, places_of, limits}
use Rattle.frames.specs.Kinds.{row_for}
use Rattle.frames.specs.Texts.{Kept, FrameTaken}
use Rattle.frames.proofs.Taken.{frame_refused, frame_kept}
use Rattle.store.specs.declared.frame.Last.{Last}
use Rattle.store.specs.Frame.{Fields, State, state_of, state_told, last_of, fields_at, frame_fault, after}
use Rattle.store.specs.declared.tables.Tables.{Tables}
use Rattle.store.specs.Tables.{kept, last_in}
use Rattle.store.specs.Tidy.{Reads}
use Rattle.store.proofs.Faults.{fields_in, fault_law, after_law}
use Rattle.store.proofs.Kept.{reads_step, count_law, last_law}
use Rattle.catalogue.specs.declared.reading.Catalogue.{Catalogue}
use Rattle.catalogue.specs.Reading.{reader, StandsFor}

-- WHAT IS GOT of a line's bytes and of the tables: the fields, the version last read, and how many versions the line's module has
pub record Got (bytes : List ℕ) (s : State) (t : Tables) (f : Fields) (z : Last) (n : ℕ) : Type 0 where
  pub fields_are : f ≡ fields_in bytes
  pub last_is : z ≡ last_in t.values t.owners t.marks s.versions
  pub count_is : n ≡ get_or t.counts f.owner.0 0

pub all_got : {bytes : List ℕ} {s : State} {t : Tables} {f : Fields} {z : Last} {n : ℕ} {r : Rules.Kind} → f ≡ fields_at r.first r.second r.third bytes →
    r ≡ row_for catalogues (byte_at bytes 0) → z ≡ last_in t.values t.owners t.marks s.versions → n ≡ get_or t.counts f.owner.0 0 → Got bytes s t f z n
all_got {bytes} e row a b = record { fields_are = e ∙ ap (λ (r : Rules.Kind). fields_at r.first r.second r.third bytes) row; last_is = a; count_is = b }

module _ {bytes : List ℕ} {s : State} {t : Tables} {f : Fields} {z : Last} {n : ℕ} (g : Got bytes s t f z n) {u : Reading} {frame : List ℕ}
    (told : s ≡ state_of u) (reads : Reads t u) (k : Kept catalogues bytes frame) where
  fields : f ≡ fields_in frame
  fields = rw g.fields_are (simp (k.alike))

  last : z ≡ last_of u.sofar
  last = g.last_is ∙ ap (λ (v : State). last_in t.values t.owners t.marks v.versions) told ∙ last_law reads.tidy

  count : n ≡ length (places_of u.sofar (fields_in frame).owner.0)
  count = g.count_is ∙ ap (λ (v : Fields). get_or t.counts v.owner.0 0) fields ∙ count_law reads.tidy (fields_in frame).owner.0

  pub fault_same : frame_fault limits s z n f ≡ reader.fault u frame
  fault_same = rw (told, last, count, fields) (fault_law limits u frame k.small k.known)

  pub state_same : after s f ≡ state_of (reader.after u frame)
  state_same = rw (told, fields) (sym (after_law limits u frame k.known))

  pub reads_same : reader.fault u frame ≡ 0 → Reads (kept t s z n f) (reader.after u frame)
  reads_same e = rw (told, last, count, fields) (reads_step u frame reads k.small k.known e)

-- WHAT IS OWED of a frame, with what the code gets
module _ {bytes : List ℕ} {old : Catalogue} {f : Fields} {z : Last} {n : ℕ} (g : Got bytes (state_told old.state) old.tables f z n) where
  -- a faulty frame changes nothing
  pub refused : {k : ℕ} → k ≢ 0 → k ≡ frame_fault limits (state_told old.state) z n f → FrameTaken reader StandsFor old old bytes k
  refused some e = frame_refused reader StandsFor (λ u fr h kept. e ∙ fault_same g h.state h.reads kept) some

  -- a good one is kept
  pub taken : {new : Catalogue} → 0 ≡ frame_fault limits (state_told old.state) z n f → state_told new.state ≡ after (state_told old.state) f →
      new.tables ≡ kept old.tables (state_told old.state) z n f → FrameTaken reader StandsFor old new bytes 0
  taken e state tables =
      frame_kept reader StandsFor (λ u fr h kept. e ∙ fault_same g h.state h.reads kept) refl (λ u fr h kept none. record {
        state = state ∙ state_same g h.state h.reads kept;
        reads = rw tables (reads_same g h.state h.reads kept none);
      })
