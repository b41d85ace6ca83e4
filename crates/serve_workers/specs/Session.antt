-- The effect of the bytes that a session reads.
use Rattle.std.specs.Prelude.{◌≡◌, ◌≢◌, ℕ, List, [], ◌∷◌, ◌++◌, Result, Ok, Err}
use Rattle.rbc_msgs.specs.TrainText.{TrainText}
use Rattle.rbc_msgs.specs.TrainSpelling.{SpellsTrain}
use Rattle.rbc_msgs.specs.Streams.{IsRest, ShowsFault, Spell}
use Rattle.rbc_msgs.specs.declared.fault.MsgFault.TheVariants.{Memory}
use Rattle.rbc_msgs.specs.declared.fault.StreamFault.{StreamFault}
use Rattle.rbc_msgs.specs.declared.fault.StreamFault.TheVariants.{Message, Failed}
use Rattle.rbc_centre.specs.declared.event.Event.TheVariants.{Train}
use Rattle.rbc_spec.specs.Outcome.{Outcome}
use Rattle.rbc_node.specs.Receipts.{ShareValue}
use Rattle.rbc_node.specs.Node.{CommitsAt, RefusesAt}
use Rattle.rbc_node.specs.declared.fault.ShareFault.{ShareFault}
use Rattle.serve_workers.specs.declared.end.SessionEnd.{SessionEnd}
use Rattle.serve_workers.specs.declared.end.SessionEnd.TheVariants.{EndOfStream, Fault, Device, Refused}

-- The messages are committed at centre c, in order, each with the outcome of its step. To its earlier receipts the
-- share adds theirs, in their order, and no others.
abbrev pub Joins : ℕ → ShareValue → ShareValue → List TrainText → Type 0
Joins c old new [] = new ≡ old
Joins c old new (m ∷ messages) =
    (mid : ShareValue) × (outcome : Outcome) × CommitsAt c old mid (Train m) outcome × Joins c mid new messages

-- all messages were committed at centre c, or those before the first refused one
abbrev pub CommitsAll : ℕ → ShareValue → ShareValue → List TrainText → Result (Unit {0}) ShareFault → Type 0
CommitsAll c old new messages (Ok _) = Joins c old new messages
CommitsAll c old new messages (Err fault) =
    (done : List TrainText) × (next : TrainText) × (later : List TrainText) × (messages ≡ done ++ next ∷ later)
    × Joins c old new done × RefusesAt c new (Train next) fault

-- the bytes show this fault, or memory ran out there
abbrev pub Shows : List ℕ → StreamFault → Type 0
Shows bytes (Message fault) = fault ≢ Memory → ShowsFault bytes fault
Shows bytes Failed = ⊥

-- the bytes begin with a message that centre c refused
abbrev pub BeginsRefused : ℕ → ShareValue → List ℕ → ShareFault → Type 0
BeginsRefused c share bytes fault =
    (first : List ℕ) × (later : List ℕ) × (next : TrainText) × (bytes ≡ first ++ later) × SpellsTrain first next
    × RefusesAt c share (Train next) fault

-- The bytes after the last committed message. If the source or the device ended, they have no complete message, and no
-- fault so far. Else they show the fault, or begin with the refused message.
abbrev pub LeavesSo : ℕ → ShareValue → List ℕ → SessionEnd → Type 0
LeavesSo c share rest EndOfStream = IsRest rest
LeavesSo c share rest Device = IsRest rest
LeavesSo c share rest (Fault fault) = Shows rest fault
LeavesSo c share rest (Refused fault) = BeginsRefused c share rest fault

-- the read bytes are the spellings of the messages whose receipts the share now has, in order, and then the rest
pub record Serves (c : ℕ) (old new : ShareValue) (read : List ℕ) (end : SessionEnd) : Type 0 where
  pub messages : List TrainText
  pub rest : List ℕ
  pub spelled : Spell read messages rest
  pub joins : Joins c old new messages
  pub leaves : LeavesSo c new rest end
