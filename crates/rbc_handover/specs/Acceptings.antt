-- A handover that another centre has announced, in memory: the phase of its type, and its number.
use Rattle.std.specs.Prelude.{ℕ, true, false, Option, Some, None}
use Rattle.rbc_spec.specs.Centre.{Expectation}
use Rattle.rbc_handover.specs.declared.accepting.Accepting.{Accepting}
use Rattle.rbc_handover.specs.declared.accepting.AcceptingState.{AcceptingState}
use Rattle.rbc_handover.specs.declared.accepting.AcceptingState.TheVariants.{Nothing, Expected, Taking}

abbrev pub accepted_number : {S : Type 0} → Accepting S → ℕ
accepted_number accepting = accepting.number

-- the expectation of a centre's state
abbrev pub expectation_of : AcceptingState → Option Expectation
expectation_of Nothing = None
expectation_of (Expected accepting) = Some (record { number = accepting.number; is_taking = false })
expectation_of (Taking accepting) = Some (record { number = accepting.number; is_taking = true })
