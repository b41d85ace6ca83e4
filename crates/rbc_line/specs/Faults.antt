-- Which faults apply to a line file, and the lowest of them.
use Rattle.std.specs.Char.{is_ascii_alphanumeric}
use Rattle.std.specs.List.{list_all, list_any}
use Rattle.std.specs.Ordering.{int_eq}
use Rattle.std.specs.Prelude.{[], ◌&&◌, ◌<◌, ◌==◌, ◌||◌, ◌∷◌, ◌≡◌, ◌≢◌, ◌⊎◌, Bool, false, IsTrue, length, List, map}
use Rattle.std.specs.Prelude.{MatchOption, nat_le, nat_lt, negsuc, not, pos, slice_get, Some, true, ℕ, ℤ}
use Rattle.std.specs.Str.{bytes_eq}
use Rattle.rbc_line.specs.declared.fault.LineFault.{LineFault}
use Rattle.rbc_line.specs.declared.fault.LineFault.TheVariants.{Centres, Home, Length, Memory, Number, Order, Sections}
use Rattle.rbc_line.specs.declared.fault.LineFault.TheVariants.{Shape, Text, Tracks, Trains, Twice}
use Rattle.rbc_line.specs.LineFile.{FileSection, line_file, line_of, LineFile}
use Rattle.rbc_spec.specs.Line.{Line}
use Rattle.toml.specs.Data.{Members}
use Rattle.toml.specs.Parse.{parse_document}

-- 1 to 12
abbrev pub number_of : LineFault → ℕ
number_of Memory = 1
number_of Text = 2
number_of Shape = 3
number_of Centres = 4
number_of Tracks = 5
number_of Sections = 6
number_of Trains = 7
number_of Length = 8
number_of Number = 9
number_of Twice = 10
number_of Home = 11
number_of Order = 12

-- the number is not from low to high
abbrev pub is_outside : ℕ → ℕ → ℤ → Bool
is_outside low high (pos n) = nat_lt n low || nat_lt high n
is_outside low high (negsuc n) = true

-- 1 to 16 ASCII letters and digits
abbrev pub is_name : List ℕ → Bool
is_name name = (nat_le 1 (length name) && nat_le (length name) 16) && list_all is_ascii_alphanumeric name

-- one of the values occurs again after itself
abbrev pub has_twice : {K : Type 0} → (K → K → Bool) → List K → Bool
has_twice same [] = false
has_twice same (x ∷ xs) = list_any (same x) xs || has_twice same xs

-- the name is that of a centre
abbrev pub is_centre_name : LineFile → List ℕ → Bool
is_centre_name file name = list_any (λ c. bytes_eq c.name name) file.centres

-- there are not low to high of them
unfoldable pub has_count_fault : ℕ → ℕ → ℕ → Bool
has_count_fault low high n = nat_lt n low || nat_lt high n

-- a track without a section, or more than 512 in all
unfoldable pub HasSectionsFault : LineFile → Type 0
HasSectionsFault file =
    ((k : ℕ) × (k < length file.tracks.names) × (list_any (λ s. s.track == k) file.tracks.sections ≡ false))
    ⊎ (512 < length file.tracks.sections)

-- a length that is not 100 to 2 000
unfoldable pub has_length_fault : LineFile → Bool
has_length_fault file = list_any (λ s. is_outside 100 2000 s.metres) file.tracks.sections

-- a number out of its range, or a name of a centre or track of a bad form
unfoldable pub has_number_fault : LineFile → Bool
has_number_fault file =
    is_outside 0 1023 file.nid_c
    || list_any (λ c. is_outside 0 16382 c.nid_rbc || not (is_name c.name)) file.centres
    || list_any (λ name. not (is_name name)) file.tracks.names
    || list_any (λ s. is_outside 0 16382 s.balise) file.tracks.sections
    || list_any (λ t. is_outside 0 16777215 t.engine) file.trains

-- a value that must be unique occurs twice
unfoldable pub has_twice_fault : LineFile → Bool
has_twice_fault file =
    has_twice bytes_eq (map (λ c. c.name) file.centres)
    || has_twice bytes_eq file.tracks.names
    || has_twice int_eq (map (λ c. c.nid_rbc) file.centres)
    || has_twice int_eq (map (λ s. s.balise) file.tracks.sections)
    || has_twice int_eq (map (λ t. t.engine) file.trains)

-- a home or a registrar that names no centre
unfoldable pub has_home_fault : LineFile → Bool
has_home_fault file =
    list_any (λ s. not (is_centre_name file s.home)) file.tracks.sections
    || list_any (λ t. not (is_centre_name file t.registrar)) file.trains

-- on one track, between two sections of one home, a section of another
unfoldable pub HasOrderFault : LineFile → Type 0
HasOrderFault file =
    (s m e : ℕ) × (p n q : FileSection) × (s < m) × (m < e)
    × (slice_get file.tracks.sections s ≡ Some p) × (slice_get file.tracks.sections m ≡ Some n)
    × (slice_get file.tracks.sections e ≡ Some q)
    × (p.track ≡ q.track) × (p.home ≡ q.home) × (n.home ≢ p.home)

-- the fault applies to the content of the tables
abbrev pub AppliesToFile : LineFile → LineFault → Type 0
AppliesToFile file Memory = ⊥
AppliesToFile file Text = ⊥
AppliesToFile file Shape = ⊥
AppliesToFile file Centres = IsTrue (has_count_fault 2 8 (length file.centres))
AppliesToFile file Tracks = IsTrue (has_count_fault 1 4 (length file.tracks.names))
AppliesToFile file Sections = HasSectionsFault file
AppliesToFile file Trains = IsTrue (has_count_fault 1 64 (length file.trains))
AppliesToFile file Length = IsTrue (has_length_fault file)
AppliesToFile file Number = IsTrue (has_number_fault file)
AppliesToFile file Twice = IsTrue (has_twice_fault file)
AppliesToFile file Home = IsTrue (has_home_fault file)
AppliesToFile file Order = HasOrderFault file

-- the fault applies to the tables of a text: they have another shape, or their content breaks a limit
abbrev pub AppliesToTables : Members → LineFault → Type 0
AppliesToTables ms fault = MatchOption (line_file ms) (fault ≡ Shape) (λ file. AppliesToFile file fault)

-- the fault applies to the text: it is not TOML, or the fault applies to its tables
abbrev pub Applies : List ℕ → LineFault → Type 0
Applies text fault = MatchOption (parse_document text) (fault ≡ Text) (λ ms. AppliesToTables ms fault)

-- no fault of a lower number is found
abbrev pub HasNoneBelow : (LineFault → Type 0) → ℕ → Type 0
HasNoneBelow Found n = (fault : LineFault) → number_of fault < n → ¬ Found fault

-- the fault is found, and none of a lower number
pub record IsLowest (Found : LineFault → Type 0) (fault : LineFault) : Type 0 where
  pub found : Found fault
  pub lowest : HasNoneBelow Found (number_of fault)

-- the text is a line file to which no fault applies, and names this line
pub record Names (text : List ℕ) (line : Line) : Type 0 where
  pub sound : (fault : LineFault) → ¬ Applies text fault
  pub named : MatchOption (parse_document text) ⊥ (λ ms. MatchOption (line_file ms) ⊥ (λ file. line ≡ line_of file))
