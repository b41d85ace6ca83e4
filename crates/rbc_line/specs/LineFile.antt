-- The content of a line file before any limit is tested: numbers as they are written, homes and registrars by name.
use Rattle.std.specs.Prelude.{[], if◌then◌else◌, ◌++◌, ◌+◌, ◌==◌, ◌∷◌, codes, List, map, negsuc, None, Option}
use Rattle.std.specs.Prelude.{option_and_then, option_map, pos, position, Some, suc, unwrap_or, ℕ, ℤ}
use Rattle.std.specs.Str.{bytes_eq}
use Rattle.rbc_spec.specs.Line.{Centre, Line, Section, Train}
use Rattle.toml.specs.Data.{as_array, as_integer, as_str, as_table, Data, get_member, item, Items, member, Members}
use Rattle.toml.specs.Data.{no_items, no_members}

-- a centre of the file
pub record FileCentre : Type 0 where
  pub name : List ℕ
  pub nid_rbc : ℤ

-- a section with the number of its track
pub record FileSection : Type 0 where
  pub track : ℕ
  pub metres : ℤ
  pub home : List ℕ
  pub balise : ℤ

-- the names of the tracks, and the sections of all tracks in order
pub record FileTracks : Type 0 where
  pub names : List (List ℕ)
  pub sections : List FileSection

-- a train, by its engine, and the name of its registrar
pub record FileTrain : Type 0 where
  pub engine : ℤ
  pub registrar : List ℕ

-- the content of the tables
pub record LineFile : Type 0 where
  pub nid_c : ℤ
  pub centres : List FileCentre
  pub tracks : FileTracks
  pub trains : List FileTrain

-- ## From the tables of a text

infixl 10 ◌>>=◌
abbrev pub ◌>>=◌ : {A B : Type 0} → Option A → (A → Option B) → Option B
o >>= f = option_and_then f o

-- how many keys a table has
abbrev pub key_count : Members → ℕ
key_count no_members = 0
key_count (member k d ms) = suc (key_count ms)

-- the value at a key, if it reads so
abbrev pub at : {A : Type 0} → (Data → Option A) → List ℕ → Members → Option A
at read key ms = get_member key ms >>= read

-- the table, if it has this many keys: if each of n keys is found, it has no other
unfoldable pub with_keys : ℕ → Members → Option Members
with_keys n ms = if key_count ms == n then Some ms else None

-- a table with this many keys
abbrev pub table_with : ℕ → Data → Option Members
table_with n d = as_table d >>= with_keys n

-- the values of the items of an array; `None` if one of them is not readable
abbrev pub each_of : {A : Type 0} → (Data → Option A) → Items → Option (List A)
each_of read no_items = Some []
each_of read (item d ds) = read d >>= (λ x. option_map (λ xs. x ∷ xs) (each_of read ds))

-- a centre: its name and its NID_RBC
unfoldable pub file_centre : Data → Option FileCentre
file_centre d =
    table_with 2 d >>= (λ ms.
    at as_str (codes "name") ms >>= (λ name.
    option_map (λ nid_rbc. record { name = name; nid_rbc = nid_rbc }) (at as_integer (codes "nid_rbc") ms)))

-- a section of the track of this number: its length, its home and its balise group
unfoldable pub file_section : ℕ → Data → Option FileSection
file_section track d =
    table_with 3 d >>= (λ ms.
    at as_integer (codes "length") ms >>= (λ metres.
    at as_str (codes "home") ms >>= (λ home.
    option_map (λ balise. record { track = track; metres = metres; home = home; balise = balise })
    (at as_integer (codes "balise") ms))))

-- the name of a track, and the array of its sections
unfoldable pub track_parts : Data → Option (List ℕ × Items)
track_parts d =
    table_with 2 d >>= (λ ms.
    at as_str (codes "name") ms >>= (λ name.
    option_map (λ items. (name, items)) (at as_array (codes "section") ms)))

-- the name and the sections of the track of this number
unfoldable pub file_track : ℕ → Data → Option (List ℕ × List FileSection)
file_track track d =
    track_parts d >>= (λ t. option_map (λ sections. (t.0, sections)) (each_of (file_section track) t.1))

-- the tracks from this number on
abbrev pub tracks_from : ℕ → Items → Option FileTracks
tracks_from k no_items = Some (record { names = []; sections = [] })
tracks_from k (item d ds) =
    file_track k d >>= (λ t. option_map (λ more. record { names = t.0 ∷ more.names; sections = t.1 ++ more.sections })
    (tracks_from (k + 1) ds))

-- a train: its engine and its registrar
unfoldable pub file_train : Data → Option FileTrain
file_train d =
    table_with 2 d >>= (λ ms.
    at as_integer (codes "engine") ms >>= (λ engine.
    option_map (λ registrar. record { engine = engine; registrar = registrar }) (at as_str (codes "registrar") ms)))

-- the parts of a line file: NID_C, and the arrays of centres, tracks and trains
pub record FileParts : Type 0 where
  pub nid_c : ℤ
  pub centres : Items
  pub tracks : Items
  pub trains : Items

-- the parts, each under its key
unfoldable pub file_parts : Members → Option FileParts
file_parts ms =
    with_keys 4 ms >>= (λ ms.
    at as_integer (codes "nid_c") ms >>= (λ nid_c.
    at as_array (codes "centre") ms >>= (λ centres.
    at as_array (codes "track") ms >>= (λ tracks.
    option_map (λ trains. record { nid_c = nid_c; centres = centres; tracks = tracks; trains = trains })
    (at as_array (codes "train") ms)))))

-- the content of the tables of a text; `None` if a key is missing, unknown, or of another type
unfoldable pub line_file : Members → Option LineFile
line_file ms =
    file_parts ms >>= (λ parts.
    each_of file_centre parts.centres >>= (λ centres.
    tracks_from 0 parts.tracks >>= (λ tracks.
    option_map (λ trains. record { nid_c = parts.nid_c; centres = centres; tracks = tracks; trains = trains })
    (each_of file_train parts.trains))))

-- ## The line that it names

-- the number itself if it is not negative
abbrev pub number : ℤ → ℕ
number (pos n) = n
number (negsuc n) = 0

-- the number of the centre of this name
abbrev pub centre_number : List FileCentre → List ℕ → ℕ
centre_number centres name = unwrap_or (position (λ c. bytes_eq c.name name) centres) 0

-- a centre of the line
abbrev pub line_centre : FileCentre → Centre
line_centre c = record { name = c.name; nid_rbc = number c.nid_rbc }

-- a section of the line
abbrev pub line_section : List FileCentre → FileSection → Section
line_section centres s =
    record { track = s.track; metres = number s.metres; home = centre_number centres s.home; balise = number s.balise }

-- a train of the line
abbrev pub line_train : List FileCentre → FileTrain → Train
line_train centres t = record { nid_engine = number t.engine; registrar = centre_number centres t.registrar }

-- the line of the whole content
unfoldable pub line_of : LineFile → Line
line_of file =
    record {
      nid_c = number file.nid_c;
      centres = map line_centre file.centres;
      tracks = file.tracks.names;
      sections = map (line_section file.centres) file.tracks.sections;
      trains = map (line_train file.centres) file.trains;
    }
