-- Steps of a centre. A step that takes the next frame of a link is "at the head" of the link. Any other step is "by
-- itself".
use Rattle.std.specs.Prelude.{◌≢◌, ℕ, List}
use Rattle.rbc_spec.specs.Line.{Line}
use Rattle.rbc_spec.specs.Frame.{Body}
use Rattle.rbc_spec.specs.Outcome.{Next}
use Rattle.rbc_spec.specs.Centre.{Centre}
use Rattle.rbc_spec.specs.Step.{Event, Deliver, link_answer, stamp_of, state_after}
use Rattle.law_invariants.specs.NoCopy.Steps.{done}

-- the event takes no frame off a link to centre c, which was k
abbrev pub IsByItself : Line → ℕ → Centre → Event → Type 0
IsByItself line c k (Deliver d f) = link_answer line c k d f ≢ Next
IsByItself line c k event = Unit {0}

-- the state after the step of an event at centre c, from state k
abbrev pub left_by : Line → ℕ → Centre → Event → Centre
left_by line c k event = state_after (stamp_of k event) k (done line c k event)

abbrev pub sent_by : Line → ℕ → Centre → Event → ℕ → List Body
sent_by line c k event = (done line c k event).reply.frames
