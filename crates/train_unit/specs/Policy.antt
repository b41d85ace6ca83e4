-- Messages that a policy proposes.
use Rattle.std.specs.Option.{option_map_or}
use Rattle.std.specs.Prelude.{if◌then◌else◌, ◌&&◌, ◌*◌, ◌==◌, ◌≡◌, nat_le, true, ℕ}
use Rattle.rbc_spec.specs.Line.{Line}
use Rattle.rbc_spec.specs.Maps.{has}
use Rattle.rbc_spec.specs.Message as said
use Rattle.rbc_spec.specs.Place.{extent, Position}
use Rattle.law_trains.specs.Trains.{is_in_place, may_say}
use Rattle.train_unit.specs.declared.ends.Ends.{Ends}
use Rattle.train_unit.specs.declared.policy.NextMessage.{NextMessage}
use Rattle.train_unit.specs.declared.policy.NextMessage.TheVariants as next
use Rattle.train_unit.specs.declared.unit.OnBoardUnit.{OnBoardUnit}
use Rattle.train_unit.specs.Units.{asked_by, train_of}

-- the body of the message, with this position report
abbrev pub body_of : NextMessage → Position → said.TrainBody
body_of next.TrainData p = said.TrainData p
body_of next.Request p = said.Request p
body_of (next.ShorteningGranted request) p = said.ShorteningGranted request p
body_of (next.ShorteningRejected request) p = said.ShorteningRejected request p
body_of next.InitiationOfSession p = said.InitiationOfSession
body_of next.StartOfMission p = said.StartOfMission true p
body_of next.SessionEstablished p = said.SessionEstablished

-- The answer to the request of centre c with this T_TRAIN. It is granted if it is the last, and the front end is not
-- past the proposed end. `front` is in decimetres.
abbrev pub answer_to : OnBoardUnit → ℕ → ℕ → ℕ → NextMessage
answer_to unit c request front =
    if has (λ a. (a.stamp == request) && nat_le front (10 * a.end)) (asked_by unit c)
    then next.ShorteningGranted request else next.ShorteningRejected request

-- The rules allow the train to send this message to centre c with this T_TRAIN, wherever it is, if its position report
-- is true.
abbrev pub IsAllowed : OnBoardUnit → ℕ → ℕ → NextMessage → Type 0
IsAllowed unit c stamp message =
    (line : Line) (ends : Ends) (p : Position) (m : said.TrainMessage) → m.t_train ≡ stamp → m.body ≡ body_of message p
    → option_map_or (is_in_place (train_of unit ends)) (extent line p) true ≡ true
    → may_say line c m (train_of unit ends) ≡ true
