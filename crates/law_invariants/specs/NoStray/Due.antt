-- The state that a frame finds if it is the next of its link, so that it is not stray. An answer finds its question, a
-- returned thing is out, and a handover is expected.
use Rattle.std.specs.Prelude.{◌&&◌, ◌==◌, ◌≡◌, false, length, nat_lt, None, Some, true, ℕ}
use Rattle.law_base.specs.Walk.Trains.{train_of}
use Rattle.rbc_spec.specs.Centre.{Centre, is_out_for, is_registrar_of, Mission}
use Rattle.rbc_spec.specs.Frame.{Announce, AskRight, Body, Cancel, Frame, GiveRight, RefuseRight, ReturnRight, RouteAsk}
use Rattle.rbc_spec.specs.Frame.{RouteInfo, RouteReturn, RouteWithdraw, TakingOver, Yield, yielded_place}
use Rattle.rbc_spec.specs.Line.{is_home, Line}
use Rattle.rbc_spec.specs.Links.{is_of_line, is_train, is_under, may_take}
use Rattle.rbc_spec.specs.Maps.{has}
use Rattle.rbc_spec.specs.Place.{Place}
use Rattle.rbc_spec.specs.SectionRuns.{all_of, is_empty, SectionRun}
use Rattle.rbc_spec.specs.World.{World}

-- The state k of centre b that a body from centre a finds. A TakingOver may find that its handover was cancelled
-- meanwhile; then it has no effect.
abbrev pub IsDue : Line → ℕ → ℕ → Centre → Body → Type 0
IsDue line a b k (AskRight t) = is_registrar_of line b t ≡ true  -- the registrar is asked
-- a right that was asked for, and is not here
IsDue line a b k (GiveRight t) = (k.has_asked t ≡ true) × (k.has_right t ≡ false) × (k.mission t ≡ None)
IsDue line a b k (RefuseRight t) = k.has_asked t ≡ true
-- the registrar gets it back, and has it not
IsDue line a b k (ReturnRight t) = (is_registrar_of line b t ≡ true) × (k.has_right t ≡ false) × (k.mission t ≡ None)
IsDue line a b k (RouteAsk t first most) = is_home line b first ≡ true  -- sections are asked of the home of the first
-- the sections that were asked for, each of the sender's home, on one track
IsDue line a b k (RouteInfo t r) =
    (k.route_ask t ≡ Some r.first) × (is_of_line line r ≡ true) × (is_home line a r.first ≡ true)
    × (all_of (is_home line a) r ≡ true)
IsDue line a b k (RouteWithdraw t s) = is_home line a s ≡ true
-- each section is out for the train
IsDue line a b k (RouteReturn t r) =
    (is_empty r ≡ false) × (all_of (λ s. is_home line b s && is_out_for t (k.book s)) r ≡ true)
-- the train is not expected from there
IsDue line a b k (Announce number t track) = (nat_lt track (length line.tracks) ≡ true) × (k.expects a t ≡ None)
IsDue line a b k (Cancel number t) = is_under number (k.expects a t) ≡ true  -- it is, under this number
IsDue line a b k (TakingOver number t) = Unit {0}
IsDue line a b k (Yield number t heard has_data is_ended place hand) =
    (at : Place) × (place ≡ yielded_place at) × (may_take line b k a number t at hand ≡ true)

-- A mission from centre a is taken over in state k, which leaves state `new`. It was expected under its number, and
-- this centre had replied. It is here now, with its place and its hand, and the train is not expected any more.
pub record IsTakenOver (a number t : ℕ) (at : Place) (hand : SectionRun) (k new : Centre) : Type 0 where
  pub expected : has (λ e. (e.number == number) && e.is_taking) (k.expects a t) ≡ true
  pub mission : Mission
  pub is_here : new.mission t ≡ Some mission
  pub at_place : mission.place ≡ at
  pub with_hand : mission.hand ≡ hand
  pub ends : new.expects a t ≡ None

-- the frame from centre a, which is the next of its link to centre b, names a train of the line, and is due
pub record IsFrameDue (line : Line) (w : World) (a b : ℕ) (f : Frame) : Type 0 where
  pub known : is_train line (train_of f.body) ≡ true
  pub due : IsDue line a b (w.at b) f.body
