-- The properties of a line file to which no fault below the order of its homes applies.
use Rattle.std.specs.Prelude.{◌≡◌, ℕ, ◌<◌, ◌≤◌, ◌==◌, ◌||◌, true, false, not, List, [], ◌∷◌, length, map}
use Rattle.std.specs.List.{list_any}
use Rattle.std.specs.Ordering.{int_eq}
use Rattle.std.specs.Str.{bytes_eq}
use Rattle.rbc_line.specs.Faults.{is_outside, is_name, has_twice}
use Rattle.rbc_line.specs.LineFile.{FileCentre, FileSection, LineFile}

-- the tracks ascend, from low on and below high
abbrev pub Ascends : ℕ → ℕ → List FileSection → Type 0
Ascends low high [] = Unit {0}
Ascends low high (p ∷ ps) = (low ≤ p.track) × (p.track < high) × Ascends p.track high ps

-- the name is that of one of the centres
abbrev pub IsKnown : List FileCentre → List ℕ → Type 0
IsKnown centres name = list_any (λ c. bytes_eq c.name name) centres ≡ true

-- the results of the tests below the order of homes
pub record IsTested (file : LineFile) : Type 0 where
  pub centres : (2 ≤ length file.centres) × (length file.centres ≤ 8)
  pub tracks : (1 ≤ length file.tracks.names) × (length file.tracks.names ≤ 4)
  pub has_section : (k : ℕ) → k < length file.tracks.names → list_any (λ s. s.track == k) file.tracks.sections ≡ true
  pub sections : length file.tracks.sections ≤ 512
  pub trains : (1 ≤ length file.trains) × (length file.trains ≤ 64)
  pub lengths : list_any (λ s. is_outside 100 2000 s.metres) file.tracks.sections ≡ false
  pub nid_c : is_outside 0 1023 file.nid_c ≡ false
  pub centre_values : list_any (λ c. is_outside 0 16382 c.nid_rbc || not (is_name c.name)) file.centres ≡ false
  pub track_names : list_any (λ name. not (is_name name)) file.tracks.names ≡ false
  pub balises : list_any (λ s. is_outside 0 16382 s.balise) file.tracks.sections ≡ false
  pub engines : list_any (λ t. is_outside 0 16777215 t.engine) file.trains ≡ false
  pub centre_once : has_twice bytes_eq (map (λ c. c.name) file.centres) ≡ false
  pub track_once : has_twice bytes_eq file.tracks.names ≡ false
  pub nid_rbc_once : has_twice int_eq (map (λ c. c.nid_rbc) file.centres) ≡ false
  pub balise_once : has_twice int_eq (map (λ s. s.balise) file.tracks.sections) ≡ false
  pub engine_once : has_twice int_eq (map (λ t. t.engine) file.trains) ≡ false
  pub homes : list_any (λ s. not (list_any (λ c. bytes_eq c.name s.home) file.centres)) file.tracks.sections ≡ false
  pub registrars : list_any (λ t. not (list_any (λ c. bytes_eq c.name t.registrar) file.centres)) file.trains ≡ false
