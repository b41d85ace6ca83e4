-- Frames that a centre looks for, and so does not drop the right or the section inside. Any other frame with a right or
-- a section inside is stray.
use Rattle.std.specs.Prelude.{◌&&◌, ◌==◌, ◌||◌, Bool, false, is_none, not, true, ℕ}
use Rattle.law_base.specs.Walk.Trains.{train_of}
use Rattle.rbc_spec.specs.Centre.{Centre, is_out_for, is_registrar_of}
use Rattle.rbc_spec.specs.Frame.{Announce, AskRight, Body, Cancel, carried_place, GiveRight, RefuseRight, ReturnRight}
use Rattle.rbc_spec.specs.Frame.{RouteAsk, RouteInfo, RouteReturn, RouteWithdraw, TakingOver, Yield}
use Rattle.rbc_spec.specs.Line.{is_home, Line}
use Rattle.rbc_spec.specs.Links.{is_of_line, is_train, may_take}
use Rattle.rbc_spec.specs.Maps.{has}
use Rattle.rbc_spec.specs.SectionRuns.{all_of}

-- a body that has neither a right nor a section inside
abbrev pub is_plain : Body → Bool
is_plain (AskRight t) = true
is_plain (RefuseRight t) = true
is_plain (RouteAsk t first most) = true
is_plain (RouteWithdraw t s) = true
is_plain (Announce number t track) = true
is_plain (Cancel number t) = true
is_plain (TakingOver number t) = true
is_plain body = false

-- Centre c, in state k, can take the frame from centre d. A given right was asked for, and is not here. A returned
-- right is at its registrar, and neither the right nor a mission is there already. Sections lent by centre d are those
-- that were asked for. Returned sections are out for the train. A Yield can be taken over.
abbrev pub has_place_for : Line → ℕ → ℕ → Centre → Body → Bool
has_place_for line c d k (GiveRight t) = k.has_asked t && not (k.has_right t)
has_place_for line c d k (ReturnRight t) = is_registrar_of line c t && (not (k.has_right t) && is_none (k.mission t))
has_place_for line c d k (RouteInfo t r) =
    (has (λ first. first == r.first) (k.route_ask t) && (is_of_line line r && is_home line d r.first))
    && all_of (is_home line d) r
has_place_for line c d k (RouteReturn t r) = all_of (λ s. is_home line c s && is_out_for t (k.book s)) r
has_place_for line c d k (Yield number t heard has_data is_ended place hand) =
    has (λ at. may_take line c k d number t at hand) (carried_place place)
has_place_for line c d k body = true

-- the frame is looked for: nothing is inside, or its train is of the line, and it has its place here
abbrev pub is_looked_for : Line → ℕ → ℕ → Centre → Body → Bool
is_looked_for line c d k body = is_plain body || (is_train line (train_of body) && has_place_for line c d k body)
