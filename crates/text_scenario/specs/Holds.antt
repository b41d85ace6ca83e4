-- The verdict of a scenario: which of its expectations hold.
use Rattle.std.specs.Prelude.{[], ◌∷◌, ◌≡◌, List, Ok, suc, zero, ℕ}
use Rattle.rbc_spec.specs.Line.{Line}
use Rattle.rbc_spec.specs.World.{Answer, centre_of, World, world_step}
use Rattle.rbc_world.specs.Answers.{IsRefusal}
use Rattle.rbc_world.specs.rbc_centre.declared.fault.StepFault.{StepFault}
use Rattle.rbc_world.specs.Views.{event_of}
use Rattle.text_scenario.specs.declared.statement.Said.{Said}
use Rattle.text_scenario.specs.declared.statement.Said.TheVariants as said
use Rattle.text_scenario.specs.declared.trial.Move.{Move}
use Rattle.text_scenario.specs.declared.trial.Move.TheVariants as move
use Rattle.text_scenario.specs.declared.trial.Step.{Step}
use Rattle.text_scenario.specs.declared.trial.Verdict.{Verdict}
use Rattle.text_scenario.specs.declared.trial.Verdict.TheVariants.{Differs, Passed, Refused}
use Rattle.text_scenario.specs.Meets.{Meets}
use Rattle.text_script.specs.declared.script.Entry.TheVariants as entry

-- The line leads from a world, with the centre and the answer of the last event, to the next ones. An event takes its
-- step, and an expectation holds.
abbrev pub Moves : Line → World → ℕ → Answer → Said → World → ℕ → Answer → Type 0
Moves line w at answer (said.Entry entry.Show) x c a = (x ≡ w) × (c ≡ at) × (a ≡ answer)
Moves line w at answer (said.Entry (entry.Event event)) x c a =
    (world_step line w (event_of event) ≡ Ok (a, x)) × (c ≡ centre_of (event_of event))
Moves line w at answer (said.Expect wanted) x c a =
    Meets line w at answer wanted × (x ≡ w) × (c ≡ at) × (a ≡ answer)

-- a line is an expectation that does not hold
abbrev pub Misses : Line → World → ℕ → Answer → Said → Type 0
Misses line w at answer (said.Expect wanted) = Meets line w at answer wanted → ⊥
Misses line w at answer other = ⊥

-- each expectation holds of the answer to the event before it
abbrev pub Holds : Line → World → ℕ → Answer → List Step → Type 0
Holds line w at answer [] = Unit {0}
Holds line w at answer (step ∷ rest) =
    (x : World) × (c : ℕ) × (a : Answer) × Moves line w at answer step.said x c a × Holds line x c a rest

-- a line is an event whose step is refused
abbrev pub Refuses : StepFault → Line → World → ℕ → Answer → Said → Type 0
Refuses fault line w at answer (said.Entry (entry.Event event)) = IsRefusal fault (world_step line w (event_of event))
Refuses fault line w at answer other = ⊥

-- the lines before place k take their moves, and the one there is so
abbrev pub HoldsTo : (Line → World → ℕ → Answer → Said → Type 0) → Line → World → ℕ → Answer → ℕ → List Step → Type 0
HoldsTo P line w at answer k [] = ⊥
HoldsTo P line w at answer zero (step ∷ rest) = P line w at answer step.said
HoldsTo P line w at answer (suc k) (step ∷ rest) =
    (x : World) × (c : ℕ) × (a : Answer) × Moves line w at answer step.said x c a × HoldsTo P line x c a k rest

-- the verdict of these lines
abbrev pub IsVerdict : Line → World → ℕ → Answer → List Step → Verdict → Type 0
IsVerdict line w at answer steps Passed = Holds line w at answer steps
IsVerdict line w at answer steps (Differs k) = HoldsTo Misses line w at answer k steps
IsVerdict line w at answer steps (Refused k fault) = HoldsTo (Refuses fault) line w at answer k steps

-- the move of one line
abbrev pub IsMove : Line → World → ℕ → Answer → Said → Move → World → ℕ → Answer → Type 0
IsMove line w at answer said move.On x c a = Moves line w at answer said x c a
IsMove line w at answer said move.Missed x c a = Misses line w at answer said
IsMove line w at answer said (move.Refused fault) x c a = Refuses fault line w at answer said
