-- What a frame of a catalogue means to the reader's code. Assumes nothing: these are definitions.
use Rattle.std.specs.Prelude.{Bool, true, ◌&&◌, ◌||◌, not, cond, List, ℕ, ◌+◌, ◌*◌, ◌-◌, ltb, leb, eqb, length}
use Rattle.rules.specs.Lists.{is_in}
use Rattle.rules.specs.Lines.{or_else, unless}
use Rattle.rules.specs.Frames.{byte_at, version_at}
use Rattle.rules.specs.Catalogue.{Catalogue, Limits, Reading, last_version, needs_of}
use Rattle.frames.specs.declared.numbers.ModuleNo.{ModuleNo}
use Rattle.frames.specs.declared.numbers.Place.{Place}
use Rattle.frames.specs.declared.numbers.Version.{Version}
use Rattle.frames.specs.Kinds.{kind_number}
use Rattle.store.specs.declared.frame.Fields as Code
use Rattle.store.specs.declared.frame.State as Code_State
use Rattle.store.specs.declared.frame.Stands.{Stands}
use Rattle.store.specs.declared.frame.Stands.TheVariants.{BeforeHead, InBody, AfterEnd}
use Rattle.store.specs.declared.frame.Last.{Last}

-- THE FIELDS of a frame, its kind by its number, and where a reading stands (0 before the head, 1 in the body, 2 after the end) and how much has been read
pub record Fields : Type 0 where
  pub kind : ℕ
  pub owner : ModuleNo
  pub low : Version
  pub topped : Bool
  pub high : Version

pub record State : Type 0 where
  pub stands : ℕ
  pub modules : ℕ
  pub versions : ℕ
  pub needs : ℕ

-- as the code has them, by enums
abbrev pub fields_told : Code.Fields → Fields
fields_told f = record { kind = kind_number f.kind; owner = f.owner; low = f.low; topped = f.topped; high = f.high }

abbrev pub stands_number : Stands → ℕ
stands_number BeforeHead = 0
stands_number InBody = 1
stands_number AfterEnd = 2

abbrev pub state_told : Code_State.State → State
state_told s = record { stands = stands_number s.stands; modules = s.modules; versions = s.versions; needs = s.needs }

abbrev pub module_no : ℕ → ModuleNo
module_no m = record { 0 = m }

abbrev pub place : ℕ → Place
place i = record { 0 = i }

abbrev pub version : ℕ → Version
version v = record { 0 = v }

-- what the code keeps of a reading beside the tables
abbrev pub state_of : Reading → State
state_of u =
    record {
      stands = u.stands;
      modules = u.sofar.modules;
      versions = length u.sofar.versions;
      needs = length u.sofar.needs;
    }

abbrev pub last_of : Catalogue → Last
last_of c =
    record {
      place = place (length c.versions - 1);
      owner = module_no (last_version c).owner;
      value = version (last_version c).value;
      needs = length (needs_of c (length c.versions - 1));
    }

-- the fields of a frame whose first, second and third field stand at these places
abbrev pub fields_at : (first second third : ℕ) → (frame : List ℕ) → Fields
fields_at i j k f =
    record {
      kind = byte_at f 0;
      owner = module_no (byte_at f i);
      low = version (version_at f j);
      topped = eqb (byte_at f j) 255 || eqb (byte_at f (j + 1)) 255 || eqb (byte_at f (j + 2)) 255;
      high = version (cond (eqb (byte_at f 0) 5) ((byte_at f j + 1) * 65536) (version_at f k));
    }

-- 5, 6 and 7: the first of three tests that fails
unfoldable pub checks : (order content room : Bool) → ℕ
checks a b d = or_else (unless a 5) (or_else (unless b 6) (unless d 7))

abbrev pub head_fault : State → Fields → ℕ
head_fault s f = checks (eqb s.stands 0) (is_in 1 32 f.owner.0) true

abbrev pub version_fault : Limits → State → Last → (count : ℕ) → Fields → ℕ
version_fault l s z n f =
    checks
    (eqb s.stands 1 &&
    (eqb s.versions 0 || ltb z.owner.0 f.owner.0 || (eqb z.owner.0 f.owner.0 && ltb z.value.0 f.low.0)))
    (ltb f.owner.0 s.modules && not f.topped) (ltb n l.of_module)

abbrev pub need_fault : Limits → State → Last → Fields → ℕ
need_fault l s z f =
    checks (eqb s.stands 1 && not (eqb s.versions 0))
    (ltb f.owner.0 s.modules && not (eqb f.owner.0 z.owner.0) && (ltb f.low.0 f.high.0 && leb f.high.0 16777215))
    (ltb z.needs l.of_version && ltb s.needs l.in_all)

abbrev pub end_fault : State → ℕ
end_fault s = checks (eqb s.stands 1) true true

-- by kind: head, version, need, end
unfoldable pub frame_fault : Limits → State → Last → (count : ℕ) → Fields → ℕ
frame_fault l s z n f =
    cond (eqb f.kind 1) (head_fault s f)
    (cond (eqb f.kind 2) (version_fault l s z n f)
    (cond (eqb f.kind 3 || eqb f.kind 5) (need_fault l s z f) (end_fault s)))

-- how the reading goes on
unfoldable pub after : State → Fields → State
after s f =
    cond (eqb f.kind 1) (record { stands = 1; modules = f.owner.0; versions = 0; needs = 0 })
    (cond (eqb f.kind 2) (record { stands = 1; modules = s.modules; versions = s.versions + 1; needs = s.needs })
    (cond (eqb f.kind 3 || eqb f.kind 5)
    (record { stands = 1; modules = s.modules; versions = s.versions; needs = s.needs + 1 })
    (record { stands = 2; modules = s.modules; versions = s.versions; needs = s.needs })))
