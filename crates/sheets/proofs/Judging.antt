-- Over a catalogue that the tables hold, the code's reading of a sheet and the rules' go together (`Together`), so the fault told of a text is the rules'
-- (`judged_as_rules`). A catalogue that was read without a fault is such a one (`read_given`). Assumes nothing.
use mathlib.Core.Path.{◌≡◌, refl, sym, ◌∙◌, ap}
use mathlib.Core.Logic.{◌≢◌}
use mathlib.Core.Bool.{Bool, true, false, cond}
use mathlib.Core.List.{List, []}
use Prim.Native.Nat.{ℕ, ◌-◌, ◌≤◌}
use native.Mathlib.Omega.{arith}
use lib.Dec.{eqb}
use lib.ListN.{length}
use borrow.Author.Tests.{eqb-true}
use Rattle.rules.specs.Lines.{fine, unless}
use Rattle.rules.specs.Frames.{kind_of, sheets, digits_for}
use Rattle.rules.specs.Catalogue.{Catalogue, WellFormed, Carried, limits, text_fault, catalogue_of}
use Rattle.rules.specs.Sheet.{SheetReading, sheet_reading, sheet_reader, last_line, sheet_fault}
use Rattle.rules.proofs.Readers.{same_told}
use Rattle.rules.proofs.Reading.{reads_well_formed, reads_few, limits_carried}
use Rattle.store.specs.declared.tables.Tables.{Tables}
use Rattle.store.specs.Tables.{Holds}
use Rattle.store.proofs.Kept.{count_holds}
use Rattle.rows.proofs.Words.{words_size}
use Rattle.rows.proofs.Refuting.{refutes_law}
use Rattle.sheets.specs.Frame.{Fields, State, state_of, fields_in}
use Rattle.store.specs.Lent.{Lent, lent_by}
use Rattle.sheets.specs.Reading.{kept_line, Held, held, start, reader, fault_in, work_bytes, Given}
use Rattle.sheets.proofs.Faults.{fault_law, after_law}
use Rattle.sheets.proofs.Kept.{Kept, kept_start, kept_step}

-- a line kept leaves the area as long as it was
line_size : (l : Lent) (area : List ℕ) (s : State) (f : Fields) → length (kept_line l area s f) ≡ length area
unfolding kept_line
line_size l area s f = go (eqb f.kind 33) (eqb f.kind 34) _ _ (words_size area s.lines _ _) (words_size area s.lines _ _)
  where
    go : (a b : Bool) (x y : List ℕ) → length x ≡ length area → length y ≡ length area → length (cond a x (cond b y area)) ≡ length area
    go true b x y p q = p
    go false true x y p q = q
    go false false x y p q = refl

-- the code's reading and the rules': the same state, and in the area a row for each line
record Together (t : Tables) (c : Catalogue) (h : Held) (u : SheetReading) : Type 0 where
  lent_is : h.lent ≡ lent_by t c.modules
  needs_are : h.needs ≡ length c.needs
  told : h.state ≡ state_of u
  kept : Kept t c h.area u
  room : work_bytes ≤ length h.area

module _ {t : Tables} {c : Catalogue} {l : Lent} {needs size : ℕ} (given : Given t c l needs size) where
  -- both find the same in a frame of a known kind
  same_fault : (h : Held) (u : SheetReading) → Together t c h u → (f : List ℕ) → digits_for sheets (kind_of f) ≢ 0 →
      reader.fault h f ≡ (sheet_reader c).fault u f
  same_fault h u p f k = rw (p.told, p.lent_is, p.needs_are) (fault_law c u f k)

  -- and stay together after a good one
  stay : (h : Held) (u : SheetReading) → Together t c h u → (f : List ℕ) → digits_for sheets (kind_of f) ≢ 0 → (sheet_reader c).fault u f ≡ 0 →
      Together t c (reader.after h f) ((sheet_reader c).after u f)
  stay h u p f k good =
      record {
        lent_is = p.lent_is;
        needs_are = p.needs_are;
        told = rw p.told (sym (after_law u f k));
        kept = rw (p.told, p.lent_is) (kept_step given.holds given.narrow u p.kept p.room f good k);
        room = rw (line_size h.lent h.area h.state (fields_in f)) p.room;
      }

  -- the last line's row refutes just if the last line does
  same_last : (h : Held) (u : SheetReading) → Together t c h u → eqb u.stands 2 ≡ true → reader.last h ≡ (sheet_reader c).last u
  same_last h u p e =
      let ended = eqb-true u.stands 2 e in
      let none = p.kept.over ended in
      let some = p.kept.some (λ z. two_not_zero (sym ended ∙ z)) in
      rw (p.told, p.lent_is)
      (ap (λ (b : Bool). unless b 13)
      (refutes_law t c given.holds given.well_formed given.narrow h.area (length u.entries - 1) (last_line c u.entries)
      (p.kept.rows (length u.entries - 1) (omega arith))))
    where
      two_not_zero : (◌≡◌ {A = ℕ} 2 0) → ⊥
      two_not_zero z = omega arith

-- so over every catalogue given the fault is the rules'
pub judged_as_rules : (l : Lent) (needs : ℕ) (text area : List ℕ) (t : Tables) (c : Catalogue) → Given t c l needs (length area) →
    fault_in l needs text area ≡ sheet_fault limits c text
judged_as_rules l needs text area t c g =
    same_told reader (sheet_reader c) refl (Together t c) (same_fault g) (stay g) (λ h u p. ap (λ (s : State). eqb s.stands 2) p.told)
    (same_last g) limits.bytes (held l needs start area) (sheet_reading 0 0 [])
    (record { lent_is = g.lent_is; needs_are = g.needs_are; told = refl; kept = kept_start t c area; room = g.room }) text

-- A CATALOGUE READ without a fault, which the tables hold, is given
pub read_given : (text : List ℕ) (t : Tables) (size : ℕ) → text_fault limits text ≡ fine → Holds t (catalogue_of limits text) → work_bytes ≤ size →
    let c = catalogue_of limits text in Given t c (lent_by t c.modules) (length c.needs) size
read_given text t size e h room =
    record {
      lent_is = refl;
      needs_are = refl;
      room = room;
      holds = h;
      well_formed = read.0;
      narrow = record { modules = read.1.modules; versions = λ m. let few = reads_few limits text e m in omega (arith, count_holds h m) };
    }
  where
    read : WellFormed (catalogue_of limits text) × Carried (catalogue_of limits text)
    read = reads_well_formed limits text limits_carried e
