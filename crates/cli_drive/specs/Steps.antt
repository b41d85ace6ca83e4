-- The requests of a train's steps in memory, and when they are the requests of a text.
use Rattle.std.specs.Prelude.{◌≡◌, ℕ, ◌+◌, List, map, position, Option, Some, None, option_map, Result, Ok, Err, ⊤}
use Rattle.cli_drive.specs.declared.steps.Step.{Step}
use Rattle.cli_drive.specs.declared.steps.Step.TheVariants.{Send, Wait}
use Rattle.cli_drive.specs.declared.steps.StepFault.{StepFault}
use Rattle.cli_drive.specs.declared.steps.StepFault.TheVariants as refused
use Rattle.cli_drive.specs.declared.steps.StepsFault.{StepsFault}
use Rattle.cli_drive.specs.declared.steps.StepsFault.TheVariants.{Memory, Form}
use Rattle.cli_drive.specs.Lines.{Asked, Bytes, Messages, is_faulty, row_asks}

-- the result is the one of the format, unless memory ran out
abbrev pub Finds : {T A : Type 0} → (T → A) → Result T StepFault → Option A → Type 0
Finds view (Ok x) found = found ≡ Some (view x)
Finds view (Err why) found = why ≡ refused.Form → found ≡ None

-- the request of a step
abbrev pub step_asks : Step → Asked
step_asks (Send bytes) = Bytes bytes.items
step_asks (Wait count) = Messages count

-- the steps are the requests of the lines, in order; each line has a request
abbrev pub AreAsked : List (List ℕ) → List Step → Type 0
AreAsked rows steps = map (λ s. Some (step_asks s)) steps ≡ map row_asks rows

-- the fault names the first line without a valid form, or memory ran out
abbrev pub IsFirstFault : List (List ℕ) → StepsFault → Type 0
IsFirstFault rows Memory = ⊤
IsFirstFault rows (Form n) = option_map (λ k. k + 1) (position is_faulty rows) ≡ Some n
