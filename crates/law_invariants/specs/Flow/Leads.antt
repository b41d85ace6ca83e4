-- The effect of an act of a centre on the one line centre: quiet steps with the same messages and replies.
use Rattle.std.specs.Prelude.{◌≡◌, ℕ, true, List, [], ◌∷◌, Option, Some, None}
use Rattle.std.specs.Bool.{MatchBool}
use Rattle.std.specs.List.{list_all}
use Rattle.law_base.specs.Counting.Network.{acted}
use Rattle.rbc_spec.specs.Line.{Line}
use Rattle.rbc_spec.specs.Centre.{Centre}
use Rattle.rbc_spec.specs.Acts.{Act, ◌>>◌, Reply}
use Rattle.rbc_spec.specs.Place.{Place, place_on}
use Rattle.rbc_spec.specs.Message.{TrainMessage, TrainBody, Report, TrackBody}
use Rattle.rbc_spec.specs.Outcome.{Word}
use Rattle.rbc_spec.specs.LineCentre.{LineState, Said, saying_of, hears, supervises}
use Rattle.rbc_spec.specs.OwnSteps.{Own, SaysNothing, Tells, release_words, is_cleared_of, reported, track_of}
use Rattle.rbc_spec.specs.Quiet.{Quiet, is_of_centre, TakesAll, both}
use Rattle.law_invariants.specs.Flow.Flow.{Flow}
use Rattle.law_invariants.specs.Flow.Sound.{IsFlowSound}
use Rattle.law_invariants.specs.Flow.Shows.{Shows}

-- centre c sends one message, with these replies
abbrev pub one_message : ℕ → ℕ → ℕ → TrackBody → List Word → LineState → Said
one_message t c group body words v = record { sayings = saying_of t c group body v ∷ []; words = words }

abbrev pub said_by : Reply → Said
said_by r = record { sayings = r.sayings; words = r.words }

-- after the reply of centre c
abbrev pub replied : Flow → ℕ → Reply → Flow
replied w c r = acted w c r.state r.frames

-- The one line centre, whose state v shows the flow, may take quiet steps of centre c. They have the messages and
-- replies of the act, and lead to a state that shows the flow after it.
pub record Leads (line : Line) (w : Flow) (c : ℕ) (r : Reply) (v : LineState) : Type 0 where
  pub quiets : List Quiet
  pub new : LineState
  pub takes : TakesAll line v quiets (said_by r) new
  pub own_centre : list_all (is_of_centre line c) quiets ≡ true
  pub shows : Shows line (replied w c r) new
  pub sound : IsFlowSound line (replied w c r)

-- if quiet steps follow the first act, and then the second, they follow both
abbrev pub LeadsOn : Line → Flow → ℕ → Centre → LineState → Act → Act → Type 0
LeadsOn line w c k v first second =
    (one : Leads line w c (first k) v) → Leads line (replied w c (first k)) c (second (first k).state) one.new
    → Leads line w c ((first >> second) k) v

-- ## A message with an answer

-- the effect of a report, if it has a place on its mission's track
abbrev pub Reports : Line → ℕ → ℕ → Option Place → LineState → Said → LineState → Type 0
Reports line t c None v said new = SaysNothing v said new
Reports line t c (Some place) v said new =
    Tells (release_words line c (is_cleared_of line v t place) v) (reported line t c place v) said new

-- The own step of a message. A report to a centre that does not supervise the train, or without a place, has no
-- messages and replies.
abbrev pub HeardAs : Line → LineState → ℕ → TrainMessage → TrainBody → Said → LineState → Type 0
HeardAs line v c m (Report position) said new =
    MatchBool (supervises v c m.nid_engine)
    (Reports line m.nid_engine c (place_on line (track_of v m.nid_engine) position) v said new)
    (SaysNothing v said new)
HeardAs line v c m body said new = Own line v c m body said new

-- the part of the answer that is the own step of the one line centre, which showed v
pub record LeadsOwn (line : Line) (w : Flow) (c : ℕ) (m : TrainMessage) (r : Reply) (v : LineState) : Type 0 where
  pub mid : LineState
  pub own : HeardAs line (hears c m v) c m m.body (said_by r) mid
  pub shows : Shows line (replied w c r) mid
  pub sound : IsFlowSound line (replied w c r)

-- the whole answer: the own step, then quiet steps of the centre, together with the messages and replies of the answer
pub record LeadsHeard (line : Line) (w : Flow) (c : ℕ) (m : TrainMessage) (r : Reply) (v : LineState) : Type 0 where
  pub said : Said
  pub mid : LineState
  pub own : HeardAs line (hears c m v) c m m.body said mid
  pub quiets : List Quiet
  pub later : Said
  pub new : LineState
  pub takes : TakesAll line mid quiets later new
  pub own_centre : list_all (is_of_centre line c) quiets ≡ true
  pub says : said_by r ≡ both said later
  pub shows : Shows line (replied w c r) new
