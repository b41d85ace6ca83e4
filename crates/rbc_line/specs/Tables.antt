-- The look-up tables of a line.
use Rattle.std.specs.Prelude.{◌≡◌, ℕ, ◌+◌, ◌*◌, ◌%◌, ◌<◌, List, get_or, Option, Some, slice_get, nat_eq}
use Rattle.std.specs.HashMap.{HashMap, get}
use Rattle.std.specs.declared.hash.FoldHasher.{FoldHasher}
use Rattle.std.specs.declared.hash.BuildHasherDefault.{BuildHasherDefault}
use Rattle.rbc_spec.specs.Line.{Line, IsLine, start, section_of_group, next_centre}
use Rattle.rbc_line.specs.declared.parts.Section.{Section as SectionRow}

-- a map from numbers to numbers
abbrev pub Numbers : Type 0
Numbers = HashMap ℕ ℕ (BuildHasherDefault FoldHasher)

-- each section in memory has its start
abbrev pub HasStarts : Line → List SectionRow → Type 0
HasStarts line rows = (s : ℕ) (row : SectionRow) → slice_get rows s ≡ Some row → row.start ≡ start line s

-- for each centre and track the centre that follows
abbrev pub HasNextCentres : Line → List (Option ℕ) → Type 0
HasNextCentres line nexts = (c k : ℕ) → c < 8 → k < 4 → slice_get nexts (c * 4 + k) ≡ Some (next_centre line c k)

-- of the first n elements, each whose number shares its remainder with none of them is guessed
abbrev pub HasGuessesOf : {X : Type 0} → ℕ → (X → ℕ) → List X → List ℕ → Type 0
HasGuessesOf {X} n key xs guesses =
    (i : ℕ) (x : X) → i < n → slice_get xs i ≡ Some x
    → ((j : ℕ) (y : X) → j < n → slice_get xs j ≡ Some y → key y % 1024 ≡ key x % 1024 → j ≡ i)
    → get_or guesses (key x % 1024) 0 ≡ i

-- all rules of a line, and the tables agree with it
pub record IsTabled (line : Line) (rows : List SectionRow) (by_group : Numbers)
    (followers : List (Option ℕ)) : Type 0 where
  pub rules : IsLine line
  pub starts : HasStarts line rows
  pub groups : (q : ℕ) → get nat_eq by_group q ≡ section_of_group line q
  pub nexts : HasNextCentres line followers
