-- The amounts that arrive with a step of a centre and that the step makes.
use Rattle.std.specs.Prelude.{ℕ}
use Rattle.law_base.specs.Counting.Resource.{Resource, IsFair, IsExact}
use Rattle.rbc_spec.specs.Line.{Line}
use Rattle.rbc_spec.specs.Frame.{Frame, Body}
use Rattle.rbc_spec.specs.Outcome.{Taken, Next}
use Rattle.rbc_spec.specs.Centre.{Centre}
use Rattle.rbc_spec.specs.Step.{Event, Deliver, Effect, effect, link_answer, stamp_of, state_after, ticked}
use Rattle.law_invariants.specs.Flow.Flow.{centre_count}

-- the amount that arrived with a frame from d with this answer of the link: that of the next frame, and nothing with
-- any other
abbrev pub came_by : ℕ → ℕ → Frame → Taken → Resource Centre Body → ℕ
came_by c d f Next r = r.inside d c f.body
came_by c d f answer r = 0

-- the amount that arrived at centre c, in state k, with the event
abbrev pub came_to : Line → ℕ → Centre → Event → Resource Centre Body → ℕ
came_to line c k (Deliver d f) r = came_by c d f (link_answer line c k d f) r
came_to line c k event r = 0

-- the effect of the event at centre c, in state k
abbrev pub done : Line → ℕ → Centre → Event → Effect
done line c k event = effect line c (ticked (stamp_of k event) k) event

-- The step makes no more of the resource than arrived. The centre had before, or got with the event, all that it has
-- and sends after it, or its cap grew by it.
abbrev pub IsFairStep : Resource Centre Body → Line → ℕ → Centre → Event → Type 0
IsFairStep r line c k event =
    IsFair r (centre_count line) c k (came_to line c k event r) (state_after (stamp_of k event) k (done line c k event))
    (done line c k event).reply.frames

-- Nor does the step lose any. The centre has or sends all that it had or got, as far as the cap did not fall.
abbrev pub IsExactStep : Resource Centre Body → Line → ℕ → Centre → Event → Type 0
IsExactStep r line c k event =
    IsExact r (centre_count line) c k (came_to line c k event r)
    (state_after (stamp_of k event) k (done line c k event)) (done line c k event).reply.frames
