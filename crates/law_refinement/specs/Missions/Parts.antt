-- The effect of a message that changes a mission at its centre: the own step of the one line centre, and the acts after
-- it.
use Rattle.std.specs.Option.{option_map_or}
use Rattle.std.specs.Prelude.{◌*◌, ◌≡◌, if◌then◌else◌, nat_le, None, Some, true, ℕ}
use Rattle.law_invariants.specs.Flow.Flow.{Flow}
use Rattle.law_invariants.specs.Flow.Leads.{HeardAs, Leads, LeadsOwn, replied, said_by}
use Rattle.law_invariants.specs.Flow.Shows.{Shows}
use Rattle.law_invariants.specs.Flow.Sound.{IsFlowSound}
use Rattle.rbc_spec.specs.Acts.{◌>>◌, Act, booked, change_mission, hear, Reply, rest, return_pool, say, set_mission}
use Rattle.rbc_spec.specs.Acts.{with_mission, with_some}
use Rattle.rbc_spec.specs.Centre.{Centre, is_open, Mission, Taken}
use Rattle.rbc_spec.specs.Line.{end, is_centre, Line, next_centre}
use Rattle.rbc_spec.specs.LineCentre.{LineState}
use Rattle.rbc_spec.specs.Message.{Authority, TrainBody, TrainMessage}
use Rattle.rbc_spec.specs.Place.{place_on, Position}
use Rattle.rbc_spec.specs.Rules.{at_border, authority, cut, extended_by, extension, report_here, stand_still, take_over}
use Rattle.rbc_spec.specs.Step.{hear_and_answer, silence, ticked}

-- ## Own parts

-- A report: the cleared sections leave the hand. If the train is not supervised here, this centre takes over instead.
abbrev pub own_report : Line → ℕ → ℕ → Position → Act
own_report line c t position k =
    option_map_or (λ m. report_here line c t position m k) (k.mission t) (take_over line t k)

-- An end of mission is first a report. At standstill the sections ahead of the train are cut off its hand. Then the
-- pool is returned, and the mission is ended.
abbrev pub ends : Line → ℕ → ℕ → Mission → Act
ends line c t m = return_pool line c t m >> change_mission t (λ n. record n { is_ended = true; proposal = None })

abbrev pub own_end : Line → ℕ → ℕ → Position → Act
own_end line c t position =
    (with_mission t (report_here line c t position) >> with_mission t (stand_still line c t position))
    >> with_mission t (ends line c t)

-- A granted shortening: the request ends, and the hand is cut if the train has not run past the proposed end.
abbrev pub cut_in_time : Line → ℕ → ℕ → ℕ → Position → Mission → Act
cut_in_time line c t last_kept position m = option_map_or
    (λ place. if nat_le place.front (10 * end line last_kept) then cut line c t last_kept m else rest)
    (place_on line m.place.track position) rest

abbrev pub own_granted : Line → ℕ → ℕ → Position → Act
own_granted line c t position = with_mission t (λ m. with_some (λ k. m.proposal)
    (λ p. change_mission t (λ n. record n { proposal = None }) >> cut_in_time line c t p.last_kept position m))

-- a request: the hand is extended, and the authority for it is sent
abbrev pub extend : Line → ℕ → ℕ → Mission → Act
extend line c t m k =
    let r = extension line c k m in
    let n = extended_by r m in
    ((booked is_open (Taken t) r >> set_mission t (Some n)) >> say t m.place.group (Authority (authority line n))) k

abbrev pub own_request : Line → ℕ → ℕ → Position → Act
own_request line c t position =
    with_mission t (λ m. option_map_or (λ place. extend line c t (record m { place = place }))
    (place_on line m.place.track position) rest)

-- the acts after it at the border, if the request has a place
abbrev pub border_of : Line → ℕ → ℕ → ℕ → Act
border_of line c t track = option_map_or (at_border line c t) (next_centre line c track) rest

abbrev pub at_border_then : Line → ℕ → ℕ → Position → Act
at_border_then line c t position =
    with_mission t (λ m. option_map_or (λ place. border_of line c t place.track)
    (place_on line m.place.track position) rest)

-- ## The own step of the one line centre

-- an act of centre c is the own step of the one line centre, which has recorded the message and shows v
pub record Answers (line : Line) (w : Flow) (c : ℕ) (m : TrainMessage) (r : Reply) (v : LineState) : Type 0 where
  pub mid : LineState
  pub own : HeardAs line v c m m.body (said_by r) mid
  pub shows : Shows line (replied w c r) mid
  pub sound : IsFlowSound line (replied w c r)

-- ## Of a message

abbrev pub of_train : ℕ → ℕ → TrainBody → TrainMessage
of_train t_train t body = record { t_train = t_train; nid_engine = t; body = body }

-- if a message is not silent at centre c, this act is its own step, for every state of the clock
abbrev pub IsOwnStep : Line → ℕ → TrainMessage → Act → Type 0
IsOwnStep line c m own =
    (w : Flow) (v : LineState) (stamp : ℕ) → IsFlowSound line w → Shows line w v → is_centre line c ≡ true
    → silence line c (ticked stamp (w.at c)) m ≡ None → LeadsOwn line w c m ((hear m >> own) (ticked stamp (w.at c))) v

-- the answer to the message is this act
abbrev pub IsWhole : Line → ℕ → TrainMessage → Act → Type 0
IsWhole line c m own = (k : Centre) → silence line c k m ≡ None → hear_and_answer line c m k ≡ (hear m >> own) k

-- the answer to the message is this act, and then another
abbrev pub IsInParts : Line → ℕ → TrainMessage → Act → Act → Type 0
IsInParts line c m own later =
    (k : Centre) → silence line c k m ≡ None → hear_and_answer line c m k ≡ ((hear m >> own) >> later) k

-- in every state of centre c, its act leads to quiet steps
abbrev pub LeadsOnward : Line → ℕ → Act → Type 0
LeadsOnward line c later =
    (w : Flow) (v : LineState) (k : Centre) → IsFlowSound line w → Shows line w v → w.at c ≡ k
    → Leads line w c (later k) v
