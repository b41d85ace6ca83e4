-- One moment after those of a list.
use Rattle.std.proofs.Common.{[], ◌++◌, ◌∷◌, ◌≡◌, ap, Bool, List, refl, ℕ}
use Rattle.law_trains.specs.Trains.{after, all_after, AllMay, answers_of, events_of, Happens, Hears, Loop, May, Moment}
use Rattle.law_trains.specs.Trains.{Runs, Says}
use Rattle.rbc_spec.specs.Line.{Line}
use Rattle.rbc_spec.specs.World.{Answer, Event}

pub after_one : (line : Line) (ms : List Moment) (m : Moment) (k : Loop)
    → all_after line (ms ++ m ∷ []) k ≡ after line m (all_after line ms k)
after_one line [] m k = refl
after_one line (n ∷ ms) m k = after_one line ms m (after line n k)

pub may_one : (line : Line) (obeys : ℕ → Bool) (ms : List Moment) (m : Moment) (k : Loop) → AllMay line obeys k ms
    → May line obeys (all_after line ms k) m → AllMay line obeys k (ms ++ m ∷ [])
may_one line obeys [] m k all one = (one, tt)
may_one line obeys (n ∷ ms) m k (may, all) one = (may, may_one line obeys ms m (after line n k) all one)

-- the event of one moment, and its answer
abbrev pub event_in : Moment → List Event
event_in (Happens event answer) = event ∷ []
event_in moment = []

abbrev pub answer_in : Moment → List Answer
answer_in (Happens event answer) = answer ∷ []
answer_in moment = []

events_alone : (m : Moment) → events_of (m ∷ []) ≡ event_in m
events_alone (Says c m) = refl
events_alone (Happens event answer) = refl
events_alone (Hears t c m) = refl
events_alone (Runs t front rear) = refl

answers_alone : (m : Moment) → answers_of (m ∷ []) ≡ answer_in m
answers_alone (Says c m) = refl
answers_alone (Happens event answer) = refl
answers_alone (Hears t c m) = refl
answers_alone (Runs t front rear) = refl

pub events_one : (ms : List Moment) (m : Moment) → events_of (ms ++ m ∷ []) ≡ events_of ms ++ event_in m
events_one [] m = events_alone m
events_one (Says c n ∷ ms) m = events_one ms m
events_one (Happens event answer ∷ ms) m = ap (λ es. event ∷ es) (events_one ms m)
events_one (Hears t c n ∷ ms) m = events_one ms m
events_one (Runs t front rear ∷ ms) m = events_one ms m

pub answers_one : (ms : List Moment) (m : Moment) → answers_of (ms ++ m ∷ []) ≡ answers_of ms ++ answer_in m
answers_one [] m = answers_alone m
answers_one (Says c n ∷ ms) m = answers_one ms m
answers_one (Happens event answer ∷ ms) m = ap (λ es. answer ∷ es) (answers_one ms m)
answers_one (Hears t c n ∷ ms) m = answers_one ms m
answers_one (Runs t front rear ∷ ms) m = answers_one ms m
