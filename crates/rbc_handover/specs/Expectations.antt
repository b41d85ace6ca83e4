-- The handovers of one train that other centres have announced to a centre, by their numbers.
use Rattle.std.specs.Option.{option_map_or}
use Rattle.std.specs.Prelude.{[], if◌then◌else◌, ◌&&◌, ◌==◌, ◌∷◌, ◌≡◌, Bool, false, is_none, length, List, None, not}
use Rattle.std.specs.Prelude.{Option, slice_index_or, Some, ℕ}
use Rattle.rbc_handover.specs.declared.announcers.Announcers.{Announcers}
use Rattle.rbc_spec.specs.Acts.{Reply}
use Rattle.rbc_spec.specs.Centre.{Centre, Expectation}
use Rattle.rbc_spec.specs.Frame.{Body, TakingOver}
use Rattle.rbc_spec.specs.Line.{Line}
use Rattle.rbc_spec.specs.Links.{is_under}
use Rattle.rbc_spec.specs.Maps.{has, put}

-- the expectation from centre d; none from a centre that is not of the line
unfoldable pub expected_from : List (Option Expectation) → ℕ → Option Expectation
expected_from e d = slice_index_or e d None

-- the expectation after an announcement with this number: the one before, if there was one
abbrev pub announced_as : ℕ → Option Expectation → Option Expectation
announced_as number o = if is_none o then Some (record { number = number; is_taking = false }) else o

-- the expectation after the handover of this number was cancelled
abbrev pub ended_under : ℕ → Option Expectation → Option Expectation
ended_under number o = if is_under number o then None else o

-- a handover is expected under this number, and this centre has replied TakingOver
abbrev pub is_taking_under : ℕ → Option Expectation → Bool
is_taking_under number o = has (λ e. (e.number == number) && e.is_taking) o

-- a handover is expected, and its announcer has had no TakingOver
abbrev pub is_to_be_told : Option Expectation → Bool
is_to_be_told o = has (λ e. not e.is_taking) o

-- centre d gets a TakingOver
abbrev pub is_told : Announcers → ℕ → Bool
is_told told d = slice_index_or told.are_told d false

-- ## A centre that has it

-- the centre expects this of the train, from each centre of the line
pub record HasExpectations (line : Line) (t : ℕ) (k : Centre) (e : List (Option Expectation)) : Type 0 where
  pub count : length e ≡ length line.centres
  pub has : (d : ℕ) → k.expects d t ≡ expected_from e d

-- the centre that expects this of the train
abbrev pub with_expectations : ℕ → List (Option Expectation) → Centre → Centre
with_expectations t e k = record k { expects = λ d. put (k.expects d) t (expected_from e d) }

-- ## The replies

-- the TakingOver of train t for these centres, with these expectations
abbrev pub claims : ℕ → Announcers → (ℕ → Option Expectation) → ℕ → List Body
claims t told e d =
    if is_told told d then option_map_or (λ (x : Expectation). TakingOver x.number t ∷ []) (e d) [] else []

-- a reply with only these frames
abbrev pub telling : ℕ → Announcers → (ℕ → Option Expectation) → Centre → Reply
telling t told e k = record { state = k; frames = claims t told e; sayings = []; words = [] }
