-- A catalogue's text read into tables: what is known after the lines so far, and what is owed of the whole text. Assumes nothing: these are definitions.
use Rattle.std.specs.Prelude.{◌≡◌, ◌≤◌, cond, List, ℕ, ltb, length}
use Rattle.rules.specs.Lines.{Fault, lines_of}
use Rattle.rules.specs.Frames.{Reader}
use Rattle.rules.specs.Catalogue.{Reading, reading, no_catalogue, limits, catalogue_reader, text_fault}
use Rattle.frames.specs.Texts.{reached_from}
use Rattle.catalogue.specs.declared.reading.Catalogue.{Catalogue}
use Rattle.store.specs.declared.frame.Stands.TheVariants.{BeforeHead}
use Rattle.store.specs.Frame.{state_of, state_told}
use Rattle.store.specs.Tables.{no_tables, Holds}
use Rattle.store.specs.Tidy.{Reads}

abbrev pub start : Reading
start = reading 0 no_catalogue

abbrev pub reader : Reader Reading
reader = catalogue_reader limits

-- a catalogue that is being read stands for a reading: its state is that reading's, and its tables hold what was read
pub record StandsFor (c : Catalogue) (u : Reading) : Type 0 where
  pub state : state_told c.state ≡ state_of u
  pub reads : Reads c.tables u

-- nothing has been read
abbrev pub nothing_read : Catalogue
nothing_read = record { state = record { stands = BeforeHead; modules = 0; versions = 0; needs = 0 }; tables = no_tables }

-- the reading of a text up to its first faulty line; a text that is too long is not read
abbrev pub reached_in : (text : List ℕ) → Reading
reached_in t = cond (ltb limits.bytes (length t)) start (reached_from reader start (lines_of t))

-- what is owed of a text: the fault told of its reading is the rules', and the tables hold what was read before it, with no more versions than they have room for
pub record CatalogueRead (t : List ℕ) (c : Catalogue) (x : Fault) : Type 0 where
  pub fault_is : x ≡ text_fault limits t
  pub state : state_told c.state ≡ state_of (reached_in t)
  pub tables : Holds c.tables (reached_in t).sofar
  pub few : length (reached_in t).sofar.versions ≤ 512
