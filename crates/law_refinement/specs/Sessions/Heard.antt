-- The claims about a message that a centre of a line answers.
use Rattle.std.specs.Prelude.{◌≡◌, ℕ, true, None}
use Rattle.rbc_spec.specs.Line.{Line, IsLine, is_centre}
use Rattle.rbc_spec.specs.Message.{TrainMessage, TrainBody}
use Rattle.rbc_spec.specs.Acts.{Reply}
use Rattle.rbc_spec.specs.LineCentre.{LineState, hears}
use Rattle.rbc_spec.specs.Step.{silence, hear_and_answer, ticked}
use Rattle.law_invariants.specs.Flow.Flow.{Flow}
use Rattle.law_invariants.specs.Flow.Sound.{IsFlowSound}
use Rattle.law_invariants.specs.Flow.Shows.{Shows}
use Rattle.law_invariants.specs.Flow.Leads.{HeardAs, said_by, replied}

abbrev pub message : ℕ → ℕ → TrainBody → TrainMessage
message t_train t body = record { t_train = t_train; nid_engine = t; body = body }

-- The whole answer is the own step of the one line centre, which showed v. It has all messages and replies of the
-- centre, and no quiet step follows.
pub record LeadsAlone (line : Line) (w : Flow) (c : ℕ) (m : TrainMessage) (r : Reply) (v : LineState) : Type 0 where
  pub mid : LineState
  pub own : HeardAs line (hears c m v) c m m.body (said_by r) mid
  pub shows : Shows line (replied w c r) mid

-- A message with this body, which is not silent, from train t to centre c. The one line centre, which shows a sound
-- flow, takes its own step with the same messages and replies. It then shows the flow after the answer.
abbrev pub IsHeardAs : TrainBody → Type 0
IsHeardAs body =
    (line : Line) (w : Flow) (v : LineState) (c t_train t stamp : ℕ) → IsLine line → IsFlowSound line w → Shows line w v
    → is_centre line c ≡ true
    → silence line c (ticked stamp (w.at c)) (message t_train t body) ≡ None
    → LeadsAlone line w c (message t_train t body)
    (hear_and_answer line c (message t_train t body) (ticked stamp (w.at c))) v
