-- Catalogues: what they say, how a text is read as one with its first fault, and when one is well formed. Assumes nothing: these are definitions.
use Rattle.std.specs.Prelude.{◌≡◌, ◌≢◌, Bool, true, false, ◌&&◌, ◌||◌, not, cond, List, [], ◌∷◌, ◌++◌, ℕ, ◌+◌, ◌*◌, ◌-◌, ◌≤◌, ◌<◌, ltb, leb, eqb, length, get_or}
use Rattle.rules.specs.Lists.{is_in, keep, below}
use Rattle.rules.specs.Lines.{Fault, or_else, unless}
use Rattle.rules.specs.Frames.{byte_at, kind_of, version_at, catalogues, Reader, Read, read_text, read_or, fault_of}

pub record Version : Type 0 where  -- VERSION: its module and its three bytes as one number
  pub owner : ℕ
  pub value : ℕ

-- NEED of a version, by the version's place among all versions: "names another module and a range: lowest version included, upper end excluded"
pub record Need : Type 0 where
  pub version : ℕ
  pub target : ℕ
  pub low : ℕ
  pub high : ℕ

pub record Catalogue : Type 0 where  -- CATALOGUE: M, the versions by module and version, the needs by number
  pub modules : ℕ
  pub versions : List Version
  pub needs : List Need

abbrev pub catalogue : (modules : ℕ) → List Version → List Need → Catalogue
catalogue m vs ns = record { modules = m; versions = vs; needs = ns }

abbrev pub no_catalogue : Catalogue
no_catalogue = catalogue 0 [] []

abbrev pub no_version : Version
no_version = record { owner = 0; value = 0 }

abbrev pub no_need : Need
no_need = record { version = 0; target = 0; low = 0; high = 0 }

abbrev pub version_at_place : Catalogue → (place : ℕ) → Version
version_at_place c i = get_or c.versions i no_version

abbrev pub need_at : Catalogue → (number : ℕ) → Need
need_at c k = get_or c.needs k no_need

abbrev pub needy_of : Catalogue → (number : ℕ) → ℕ  -- the module that has need number k
needy_of c k = (version_at_place c (need_at c k).version).owner

unfoldable pub is_of : Catalogue → (owner place : ℕ) → Bool  -- the version at this place is one of the module
is_of c m i = ltb i (length c.versions) && eqb (version_at_place c i).owner m

abbrev pub places_of : Catalogue → (owner : ℕ) → List ℕ  -- the places of a module's versions, oldest first
places_of c m = keep (is_of c m) (below (length c.versions))

abbrev pub needs_of : Catalogue → (place : ℕ) → List ℕ  -- the numbers of a version's needs
needs_of c i = keep (λ (k : ℕ). eqb (need_at c k).version i) (below (length c.needs))

abbrev pub is_within : (low high value : ℕ) → Bool  -- "lowest version included, upper end excluded"
is_within a b v = leb a v && ltb v b

unfoldable pub in_range : Catalogue → Need → (place : ℕ) → Bool
in_range c n i = is_within n.low n.high (version_at_place c i).value

pub record Limits : Type 0 where  -- LIMITS: versions of a module, needs of a version, needs in all, bytes of a text
  pub of_module : ℕ
  pub of_version : ℕ
  pub in_all : ℕ
  pub bytes : ℕ

abbrev pub limits : Limits
limits = record { of_module = 16; of_version = 16; in_all = 1024; bytes = 32768 }

-- KINDS of a catalogue's frames
abbrev pub is_head : (frame : List ℕ) → Bool
is_head f = eqb (kind_of f) 1

abbrev pub is_version : (frame : List ℕ) → Bool
is_version f = eqb (kind_of f) 2

abbrev pub is_caret : (frame : List ℕ) → Bool
is_caret f = eqb (kind_of f) 5

abbrev pub is_need : (frame : List ℕ) → Bool
is_need f = eqb (kind_of f) 3 || is_caret f

abbrev pub is_end : (frame : List ℕ) → Bool
is_end f = eqb (kind_of f) 4

-- what is known while a catalogue is read: 0 before the head, 1 in the body, 2 after the end; and the catalogue so far
pub record Reading : Type 0 where
  pub stands : ℕ
  pub sofar : Catalogue

abbrev pub reading : (stands : ℕ) → Catalogue → Reading
reading n c = record { stands = n; sofar = c }

abbrev pub last_version : Catalogue → Version
last_version c = version_at_place c (length c.versions - 1)

abbrev pub version_in : (frame : List ℕ) → Version
version_in f = record { owner = byte_at f 1; value = version_at f 2 }

abbrev pub high_in : (frame : List ℕ) → ℕ  -- "A caret need ^a.b.c is the range from a.b.c up to, not including, (a+1).0.0"
high_in f = cond (is_caret f) ((byte_at f 2 + 1) * 65536) (version_at f 5)

abbrev pub need_in : Catalogue → (frame : List ℕ) → Need  -- "A need belongs to the version frame last read"
need_in c f = record { version = length c.versions - 1; target = byte_at f 1; low = version_at f 2; high = high_in f }

abbrev pub has_version : List Version → Bool
has_version [] = false
has_version (x ∷ xs) = true

unfoldable pub is_older : (one other : Version) → Bool  -- "Version frames rise strictly by module, then version"
is_older u v = ltb u.owner v.owner || (eqb u.owner v.owner && ltb u.value v.value)

unfoldable pub order_fits : Reading → (frame : List ℕ) → Bool  -- 5: "The head comes first and once, the end last"
order_fits s f = cond (eqb s.stands 0) (is_head f)
    (eqb s.stands 1 && not (is_head f) &&
    (not (is_version f) || not (has_version s.sofar.versions) || is_older (last_version s.sofar) (version_in f)) &&
    (not (is_need f) || has_version s.sofar.versions))

unfoldable pub content_fits : Catalogue → (frame : List ℕ) → Bool  -- 6
content_fits c f = cond (is_head f) (is_in 1 32 (byte_at f 1))
    (cond (is_version f) (ltb (byte_at f 1) c.modules && not (eqb (byte_at f 2) 255) && not (eqb (byte_at f 3) 255) && not (eqb (byte_at f 4) 255))
    (cond (is_need f) (ltb (byte_at f 1) c.modules && not (eqb (byte_at f 1) (last_version c).owner) &&
    cond (is_caret f) (not (eqb (byte_at f 2) 255)) (ltb (version_at f 2) (version_at f 5))) true))

unfoldable pub room_fits : Limits → Catalogue → (frame : List ℕ) → Bool  -- 7: "17th version of a module, 17th need of a version, 1,025th need"
room_fits l c f = cond (is_version f) (ltb (length (places_of c (byte_at f 1))) l.of_module)
    (cond (is_need f) (ltb (length (needs_of c (length c.versions - 1))) l.of_version && ltb (length c.needs) l.in_all) true)

unfoldable pub with_frame : Catalogue → (frame : List ℕ) → Catalogue
with_frame c f = cond (is_head f) (catalogue (byte_at f 1) [] [])
    (cond (is_version f) (catalogue c.modules (c.versions ++ (version_in f ∷ [])) c.needs)
    (cond (is_need f) (catalogue c.modules c.versions (c.needs ++ (need_in c f ∷ []))) c))

abbrev pub root_fits : Catalogue → Bool  -- 8: "root hasn't exactly one version"
root_fits c = eqb (length (places_of c 0)) 1

abbrev pub catalogue_reader : Limits → Reader Reading
catalogue_reader l = record {
  text = catalogues;
  fault = λ s f. or_else (unless (order_fits s f) 5) (or_else (unless (content_fits s.sofar f) 6) (unless (room_fits l s.sofar f) 7));
  after = λ s f. reading (cond (is_end f) 2 1) (with_frame s.sofar f);
  is_ended = λ s. eqb s.stands 2;
  last = λ s. unless (root_fits s.sofar) 8;
}

abbrev pub read_catalogue : Limits → (text : List ℕ) → Read Reading
read_catalogue l t = read_text (catalogue_reader l) l.bytes (reading 0 no_catalogue) t

abbrev pub text_fault : Limits → (text : List ℕ) → Fault
text_fault l t = fault_of (read_catalogue l t)

abbrev pub catalogue_of : Limits → (text : List ℕ) → Catalogue
catalogue_of l t = (read_or (reading 0 no_catalogue) (read_catalogue l t)).sofar

-- WELL FORMED: what every theorem about selections and sheets rests on, whatever text or limits the catalogue comes from
pub record WellFormed (c : Catalogue) : Type 0 where
  pub owners : (i : ℕ) → i < length c.versions → (version_at_place c i).owner < c.modules
  pub rising : (i j : ℕ) → i < j → j < length c.versions → is_older (version_at_place c i) (version_at_place c j) ≡ true
  pub needies : (k : ℕ) → k < length c.needs → (need_at c k).version < length c.versions
  pub targets : (k : ℕ) → k < length c.needs → (need_at c k).target < c.modules
  pub others : (k : ℕ) → k < length c.needs → (need_at c k).target ≢ needy_of c k
  pub ranges : (k : ℕ) → k < length c.needs → (need_at c k).low < (need_at c k).high
  pub root : (i : ℕ) × (places_of c 0 ≡ i ∷ [])

pub record Carried (c : Catalogue) : Type 0 where  -- what a byte for a module, three for a version and two for a need number can carry
  pub modules : c.modules ≤ 32
  pub values : (i : ℕ) → (version_at_place c i).value < 16777216
  pub needs : length c.needs ≤ 65536

pub record CarriedLimits (l : Limits) : Type 0 where  -- limits that the frames can carry, with room in a text for the longest sheet
  pub needs : l.in_all ≤ 65536
  pub sheets : 7214 ≤ l.bytes
