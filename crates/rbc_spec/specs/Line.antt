-- The line that the RBCs ("centres" from here on) supervise. Each track is a list of sections, on which trains run in
-- one direction. Each section has a home centre, and a balise group at its start. Each train has a centre at which its
-- supervision right is registered. Centres, tracks and sections are numbered from 0, the sections over all tracks. A
-- train is identified by its NID_ENGINE.
use Rattle.std.specs.Char.{is_ascii_alphanumeric}
use Rattle.std.specs.List.{All, filter, find, position, sum_by, zip}
use Rattle.std.specs.Option.{option_map_or}
use Rattle.std.specs.Prelude.{◌&&◌, ◌*◌, ◌+◌, ◌<◌, ◌==◌, ◌≡◌, ◌≤◌, Bool, drop, IsTrue, length, List, nat_lt, not}
use Rattle.std.specs.Prelude.{Option, option_map, slice_get, Some, take, ℕ}
use Rattle.rbc_spec.specs.Maps.{has}

-- a radio block centre: its name in the line file, and its NID_RBC (profile)
pub record Centre : Type 0 where
  pub name : List ℕ
  pub nid_rbc : ℕ

-- a section: its track, its length in whole metres, its home centre, and NID_BG of the balise group at its start
-- (profile)
-- Rules: LN-3
pub record Section : Type 0 where
  pub track : ℕ
  pub metres : ℕ
  pub home : ℕ
  pub balise : ℕ

-- a train: its NID_ENGINE, and the centre at which its supervision right is registered (profile)
-- Rules: LN-6
pub record Train : Type 0 where
  pub nid_engine : ℕ
  pub registrar : ℕ

-- the line: `tracks` are names, and the sections of a track are those with its number, in order (profile)
pub record Line : Type 0 where
  pub nid_c : ℕ
  pub centres : List Centre
  pub tracks : List (List ℕ)
  pub sections : List Section
  pub trains : List Train

-- ## Positions and owners

abbrev pub is_centre : Line → ℕ → Bool
is_centre line c = nat_lt c (length line.centres)

-- the section of this number
abbrev pub section : Line → ℕ → Option Section
section line s = slice_get line.sections s

-- s is a section of the line, and its home is c
abbrev pub is_home : Line → ℕ → ℕ → Bool
is_home line c s = has (λ p. p.home == c) (section line s)

-- the start of a section: the sum of the lengths of the sections before it on its track, in metres
-- Rules: LN-5
unfoldable pub start : Line → ℕ → ℕ
start line s =
    option_map_or (λ p. sum_by (λ q. q.metres) (filter (λ q. q.track == p.track) (take s line.sections)))
    (section line s) 0

-- the end of a section, in metres from the start of its track
-- Rules: LN-5
unfoldable pub end : Line → ℕ → ℕ
end line s = option_map_or (λ p. start line s + p.metres) (section line s) 0

-- NID_LRBG of the balise group at the start of a section: NID_C and NID_BG together (7.5)
-- Rules: LN-9
abbrev pub group_of : Line → Section → ℕ
group_of line p = line.nid_c * 16384 + p.balise

-- the section whose balise group has this NID_LRBG
abbrev pub section_of_group : Line → ℕ → Option ℕ
section_of_group line group = position (λ p. group_of line p == group) line.sections

-- the number of a train in the line file, from 0; `None` for an engine that is not of the line
abbrev pub train_number : Line → ℕ → Option ℕ
train_number line t = position (λ p. p.nid_engine == t) line.trains

-- the centre at which a train's supervision right is registered
-- Rules: LN-6
abbrev pub registrar : Line → ℕ → Option ℕ
registrar line t = option_map (λ p. p.registrar) (find (λ p. p.nid_engine == t) line.trains)

-- ## Neighbours

-- each section paired with the one of the next number
abbrev pub seams : Line → List (Section × Section)
seams line = zip line.sections (drop 1 line.sections)

-- both sections of the pair are on one track
abbrev pub is_joint : Section × Section → Bool
is_joint seam = seam.0.track == seam.1.track

-- two centres have a link, on which they exchange frames: any two different centres of the line (profile)
-- Rules: LN-10
abbrev pub is_linked : Line → ℕ → ℕ → Bool
is_linked line a b = (is_centre line a && is_centre line b) && not (a == b)

-- the home of the first section of another home that follows a section of home c on the track
-- Rules: LN-11
abbrev pub next_centre : Line → ℕ → ℕ → Option ℕ
next_centre line c track =
    option_map (λ seam. seam.1.home)
    (find (λ seam. ((is_joint seam && (seam.0.track == track)) && (seam.0.home == c)) && not (seam.1.home == c))
    (seams line))

-- ## The rules that every line keeps (profile)

-- no two items of the list have the same value
abbrev pub AreDistinct : {X K : Type 0} → (X → K) → List X → Type 0
AreDistinct {X} value xs =
    (i j : ℕ) (x y : X) → slice_get xs i ≡ Some x → slice_get xs j ≡ Some y → value x ≡ value y → i ≡ j

-- 1 to 16 ASCII letters and digits
abbrev pub IsName : List ℕ → Type 0
IsName name = (1 ≤ length name) × (length name ≤ 16) × All (λ c. IsTrue (is_ascii_alphanumeric c)) name

-- how many centres, tracks, sections and trains a line may have
-- Rules: LN-1, LN-2, LN-6
pub record HasLimits (line : Line) : Type 0 where
  pub centres : (2 ≤ length line.centres) × (length line.centres ≤ 8)
  pub tracks : (1 ≤ length line.tracks) × (length line.tracks ≤ 4)
  pub sections : length line.sections ≤ 512
  pub trains : (1 ≤ length line.trains) × (length line.trains ≤ 64)

-- each value is in its range, and each number of a centre or a track is that of an existing one
-- Rules: LN-3
pub record HasRanges (line : Line) : Type 0 where
  pub nid_c : line.nid_c ≤ 1023
  pub centres : All (λ p. IsName p.name × (p.nid_rbc ≤ 16382)) line.centres
  pub tracks : All IsName line.tracks
  pub sections : All (λ p. (p.track < length line.tracks) × (100 ≤ p.metres) × (p.metres ≤ 2000)
      × (p.home < length line.centres) × (p.balise ≤ 16382)) line.sections
  pub trains : All (λ p. (p.nid_engine ≤ 16777215) × (p.registrar < length line.centres)) line.trains

-- names, NID_RBC, balise groups and engines are unique
-- Rules: LN-7
pub record HasDistinctNames (line : Line) : Type 0 where
  pub centres : AreDistinct (λ p. p.name) line.centres
  pub tracks : AreDistinct (λ name. name) line.tracks
  pub nid_rbcs : AreDistinct (λ p. p.nid_rbc) line.centres
  pub balises : AreDistinct (λ p. p.balise) line.sections
  pub engines : AreDistinct (λ p. p.nid_engine) line.trains

-- sections are numbered track by track, and each track has at least one
-- Rules: LN-2
pub record FollowsTracks (line : Line) : Type 0 where
  pub in_order : (s e : ℕ) (p q : Section) → s ≤ e → section line s ≡ Some p → section line e ≡ Some q
      → p.track ≤ q.track
  pub each : (k : ℕ) → k < length line.tracks → (s : ℕ) × (p : Section) × (section line s ≡ Some p) × (p.track ≡ k)

-- the sections of one home on one track are consecutive: each section between two of them has the same home
-- Rules: LN-4
abbrev pub HasConsecutiveHomes : Line → Type 0
HasConsecutiveHomes line =
    (s m e : ℕ) (p n q : Section) → s ≤ m → m ≤ e → section line s ≡ Some p → section line m ≡ Some n
    → section line e ≡ Some q
    → p.track ≡ q.track → p.home ≡ q.home → n.home ≡ p.home

-- a valid line: it keeps all these rules
-- Rules: LN-8
pub record IsLine (line : Line) : Type 0 where
  pub limits : HasLimits line
  pub ranges : HasRanges line
  pub distinct : HasDistinctNames line
  pub tracks : FollowsTracks line
  pub homes : HasConsecutiveHomes line
