-- Scenes of lost messages, and of trains that do not keep the requirements.
use Rattle.std.specs.Prelude.{[], ◌++◌, ◌==◌, ◌∷◌, if◌then◌else◌, List, None, Option, pos, Some, true, ℕ}
use Rattle.law_outside.specs.Scenes.{Exchange, exchange, in_section, released, starts_in_1, talk, train_1_grants}
use Rattle.law_outside.specs.Scenes.{train_1_runs, train_2_starts}
use Rattle.law_promises.specs.Arrival.Meeting.{Extent}
use Rattle.rbc_spec.specs.Message.{Authority, Report, Request, StartOfMission, TrainAccepted}
use Rattle.rbc_spec.specs.Outcome.{Asked}
use Rattle.rbc_spec.specs.World.{Unset}

-- Train 1 starts in section 1 and is accepted. It starts there again, and is accepted again. It gets an authority to
-- the end of section 2.
abbrev pub accepted_twice : List Exchange
accepted_twice =
    released 1 ∷ released 2 ∷ starts_in_1 1 1 (TrainAccepted ∷ []) ∷ starts_in_1 1 2 (TrainAccepted ∷ [])
    ∷ talk 1 3 (Request (in_section 1)) (Authority 2000 ∷ []) [] ∷ []

-- its first acceptance is lost
abbrev pub the_acceptance_is_lost : List Exchange
the_acceptance_is_lost = released 1 ∷ released 2 ∷ starts_in_1 1 1 [] ∷ []

-- the first acceptance is lost, and the second arrives
abbrev pub accepted_at_last : List Exchange
accepted_at_last =
    the_acceptance_is_lost
    ++ starts_in_1 1 2 (TrainAccepted ∷ []) ∷ talk 1 3 (Request (in_section 1)) (Authority 2000 ∷ []) [] ∷ []

-- Train 1 starts in section 1, reports from section 2, and starts again in section 3, with these answers. Train 2
-- starts in section 2. Train 1 gets an authority to the end of section 3.
abbrev pub moves_on : List Exchange → List Exchange
moves_on start_in_3 =
    released 1 ∷ released 2 ∷ released 3 ∷ starts_in_1 1 1 (TrainAccepted ∷ [])
    ∷ talk 1 2 (Report (in_section 2)) [] [] ∷ start_in_3
    ++ train_2_starts (TrainAccepted ∷ []) ∷ talk 1 4 (Request (in_section 3)) (Authority 3000 ∷ []) [] ∷ []

abbrev pub moved_on : List Exchange
moved_on = moves_on (talk 1 3 (StartOfMission true (in_section 3)) (TrainAccepted ∷ []) [] ∷ [])

-- the same, but the acceptance in section 3 is lost: the train runs by its stretch from section 1
abbrev pub the_second_acceptance_is_lost : List Exchange
the_second_acceptance_is_lost = moves_on (talk 1 3 (StartOfMission true (in_section 3)) [] [] ∷ [])

-- train 1 is asked to stop at the end of section 2, which it grants, but the request is lost
abbrev pub the_request_is_lost : List Exchange
the_request_is_lost = train_1_runs ++ exchange (Unset 0 3) 1 5 [] (Asked 3 ∷ []) ∷ train_1_grants ∷ []

-- ## True positions of trains

-- a train of 200 m with its front at 620 m of section 1, and one with its front at 620 m of section 2
abbrev pub in_1 : Extent
in_1 = record { track = 0; rear = pos 14200; front = 16200 }

abbrev pub in_2 : Extent
in_2 = record { track = 0; rear = pos 24200; front = 26200 }

-- trains 1 and 2 have these extents
abbrev pub two_trains : (first second : Extent) → ℕ → Option Extent
two_trains first second t = if t == 1 then Some first else if t == 2 then Some second else None
