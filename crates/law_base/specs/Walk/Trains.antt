-- The train that a frame is of.
use Rattle.std.specs.Prelude.{ℕ}
use Rattle.rbc_spec.specs.Frame.{Announce, AskRight, Body, Cancel, GiveRight, RefuseRight, ReturnRight, RouteAsk}
use Rattle.rbc_spec.specs.Frame.{RouteInfo, RouteReturn, RouteWithdraw, TakingOver, Yield}

abbrev pub train_of : Body → ℕ
train_of (AskRight t) = t
train_of (GiveRight t) = t
train_of (RefuseRight t) = t
train_of (ReturnRight t) = t
train_of (RouteAsk t first most) = t
train_of (RouteInfo t r) = t
train_of (RouteWithdraw t s) = t
train_of (RouteReturn t r) = t
train_of (Announce number t track) = t
train_of (Cancel number t) = t
train_of (TakingOver number t) = t
train_of (Yield number t heard has_data is_ended place hand) = t
