-- The homes of the sections along a track.
use Rattle.cli_commands.specs.declared.inspecting.homes.Homes.{Homes}
use Rattle.std.specs.HashSet.{contains_by}
use Rattle.std.specs.List.{last_or, list_any}
use Rattle.std.specs.Prelude.{◌≡◌, Bool, bytes_eq, false, if◌then◌else◌, List, None, Option, option_map, Some, ℕ}

-- the last section has this home
abbrev pub is_last : Option (List ℕ) → List ℕ → Bool
is_last None home = false
is_last (Some last) home = bytes_eq last home

-- After sections of these homes the home appears again: it is one of them, and not that of the last section.
abbrev pub comes_again : List (List ℕ) → List ℕ → Bool
comes_again homes home = if is_last (last_or None homes) home then false else list_any (bytes_eq home) homes

-- a value of `Homes` after sections of these homes
pub record IsAfter (homes : List (List ℕ)) (value : Homes) : Type 0 where
  pub last : option_map (λ h. h.now) value.last ≡ last_or None homes
  pub begun : (home : List ℕ) → contains_by (λ h. bytes_eq home h.now) value.begun ≡ list_any (bytes_eq home) homes
