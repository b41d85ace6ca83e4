-- The frames that follow from a taken frame are less work than that frame.
use Rattle.std.proofs.Common.{◌+◌, ◌≡◌, arith, refl, ℕ}
use Rattle.law_base.specs.Counting.Resource.{Resource}
use Rattle.law_progress.specs.Rest.Rest.{work_of}
use Rattle.rbc_spec.specs.Centre.{Centre}
use Rattle.rbc_spec.specs.Frame.{Announce, AskRight, Body, Cancel, GiveRight, RefuseRight, ReturnRight, RouteAsk}
use Rattle.rbc_spec.specs.Frame.{RouteInfo, RouteReturn, RouteWithdraw, TakingOver, Yield}

-- the work that a frame on the way is
abbrev pub load : ℕ → Resource Centre Body
load n = record { held = λ c k. 0; inside = λ a b body. work_of n body; cap = λ c k. 0 }

-- the greatest work of the frames that follow from a taken frame
abbrev pub left_of : ℕ → Body → ℕ
left_of n (AskRight t) = 2
left_of n (GiveRight t) = 1
left_of n (RouteAsk t first most) = 2
left_of n (RouteInfo t r) = 1
left_of n (RouteWithdraw t s) = n
left_of n (TakingOver number t) = n + 1
left_of n body = 0

pub less_left : (n : ℕ) (body : Body) → left_of n body + 1 ≡ work_of n body
less_left n (AskRight t) = refl
less_left n (GiveRight t) = refl
less_left n (RefuseRight t) = refl
less_left n (ReturnRight t) = refl
less_left n (RouteAsk t first most) = refl
less_left n (RouteInfo t r) = refl
less_left n (RouteWithdraw t s) = refl
less_left n (RouteReturn t r) = refl
less_left n (Announce number t track) = refl
less_left n (Cancel number t) = refl
less_left n (TakingOver number t) = omega arith
less_left n (Yield number t heard has_data is_ended place hand) = refl
