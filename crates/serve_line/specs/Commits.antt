-- The answers to the commands of the interlocking, and the shares of a connection after them.
use Rattle.std.specs.Prelude.{[], ◌++◌, ◌≡◌, ◌≢◌, ◌⊎◌, Bool, codes, Err, false, List, None, Ok, Result, slice_get}
use Rattle.std.specs.Prelude.{slice_set, Some, true, ℕ}
use Rattle.rbc_node.specs.declared.fault.ShareFault.{ShareFault}
use Rattle.rbc_node.specs.declared.node.Node.{Node}
use Rattle.rbc_node.specs.Node.{centre_of, CommitsAt, RefusesAt}
use Rattle.rbc_node.specs.Receipts.{ShareValue}
use Rattle.rbc_spec.specs.Line.{Line}
use Rattle.serve_control.specs.Answers.{IsCommitPrint}
use Rattle.serve_control.specs.declared.command.Command.{Command}
use Rattle.serve_control.specs.declared.command.Command.TheVariants as command
use Rattle.serve_line.specs.declared.clients.answer.Served.{Served}
use Rattle.serve_line.specs.declared.state.server.Server.{Server}
use Rattle.serve_line.specs.Snapshots.{IsShow}
use Rattle.text_script.specs.rbc_centre.declared.event.Event.{Event}
use Rattle.text_script.specs.rbc_centre.declared.event.Event.TheVariants as event
use Rattle.text_script.specs.rbc_centre.declared.outcome.Outcome.{Outcome}
use Rattle.text_script.specs.rbc_centre.Views.{outcome_of}
use Rattle.text_script.specs.rbc_world.declared.event.WorldEvent.{WorldEvent}
use Rattle.text_script.specs.rbc_world.declared.event.WorldEvent.TheVariants.{Set, Unset}

-- the answer if a journal can't be written
abbrev pub journal_fault : List ℕ
journal_fault = codes "journal fault\n"

-- An answer of centre c to an event through a share. Some log of the centre took the event with this outcome, and the
-- share has its receipt. Or the log refused the event, and the share stays.
abbrev pub IsGiven : ℕ → ShareValue → ShareValue → Event → Result Outcome ShareFault → Type 0
IsGiven c before after event (Ok outcome) = CommitsAt c before after event (outcome_of outcome)
IsGiven c before after event (Err fault) = RefusesAt c before event fault × (after ≡ before)

-- The node of centre c gives this answer to an event, through the share in the centre's place. All other shares stay.
pub record IsTaken (nodes : List Node) (c : ℕ) (event : Event) (answer : Result Outcome ShareFault)
    (old new : List ShareValue) : Type 0 where
  pub node : Node
  pub before : ShareValue
  pub after : ShareValue
  pub there : slice_get nodes c ≡ Some node
  pub share : slice_get old c ≡ Some before
  pub given : IsGiven (centre_of node) before after event answer
  pub others : new ≡ slice_set old c after

-- at an error: the event was not taken, or its answer was not printed
abbrev pub MayBeTaken : List Node → ℕ → Event → List ShareValue → List ShareValue → Type 0
MayBeTaken nodes c event old new =
    (new ≡ old) ⊎ ((answer : Result Outcome ShareFault) × IsTaken nodes c event answer old new)

-- the line has no node of centre c or no sink of its answers, or the connection has no share of it
abbrev pub IsMissing : Server → ℕ → List ShareValue → Type 0
IsMissing server c shares =
    (slice_get server.nodes.now c ≡ None) ⊎ ((slice_get server.sinks.now c ≡ None) ⊎ (slice_get shares c ≡ None))

-- the connection is the reserve connection, or centre c keeps a journal
abbrev pub MayHaveToWait : Served → ℕ → Type 0
MayHaveToWait served c = (served.slot.now.is_reserve ≡ true) ⊎ (slice_get served.server.now.journals.now c ≢ None)

-- The answer if centre c does not take an event. It is empty if the centre is missing, else that a journal can't be
-- written.
abbrev pub IsRefusal : Served → ℕ → List ShareValue → List ℕ → Type 0
IsRefusal served c shares text =
    (IsMissing served.server.now c shares × (text ≡ [])) ⊎ (MayHaveToWait served c × (text ≡ journal_fault))

-- The answer to an event at centre c. If the event is not taken, the shares stay. Else the answer is the print of the
-- centre's answer, or that a journal can't be written.
abbrev pub IsAnswer : Served → ℕ → Event → WorldEvent → List ShareValue → List ShareValue → List ℕ → Type 0
IsAnswer served c event printed old new text =
    ((new ≡ old) × IsRefusal served c old text)
    ⊎ ((answer : Result Outcome ShareFault) × IsTaken served.server.now.nodes.now c event answer old new
    × ((text ≡ journal_fault) ⊎ IsCommitPrint served.server.now.line.now c printed answer text))

-- the line as the centres show it, and the usage of the centres after it if the options ask for it
abbrev pub IsShowText : Line → List Node → Bool → List ℕ → Type 0
IsShowText line nodes shows_life text =
    (shown usage : List ℕ) × IsShow line nodes shown × (text ≡ shown ++ usage) × (shows_life ≡ false → usage ≡ [])

-- the answer to `show`: the line, or that a journal can't be written
abbrev pub IsShowAnswer : Server → List ℕ → Type 0
IsShowAnswer server text =
    (text ≡ journal_fault) ⊎ IsShowText server.line.now server.nodes.now server.options.shows_life text

-- The answer to a command, and the shares after it. Only a set or an unset changes them. The answer to no command, and
-- that to the end of the centres, is empty.
abbrev pub IsAnswerTo : Served → Command → List ShareValue → List ShareValue → List ℕ → Type 0
IsAnswerTo served command.Show old new text = (new ≡ old) × IsShowAnswer served.server.now text
IsAnswerTo served (command.Set centre section) old new text =
    IsAnswer served centre (event.Set section) (Set centre section) old new text
IsAnswerTo served (command.Unset centre section) old new text =
    IsAnswer served centre (event.Unset section) (Unset centre section) old new text
IsAnswerTo served other old new text = (new ≡ old) × (text ≡ [])

-- the shares after a command without an answer
abbrev pub MayBeDone : List Node → Command → List ShareValue → List ShareValue → Type 0
MayBeDone nodes (command.Set centre section) old new = MayBeTaken nodes centre (event.Set section) old new
MayBeDone nodes (command.Unset centre section) old new = MayBeTaken nodes centre (event.Unset section) old new
MayBeDone nodes other old new = new ≡ old
