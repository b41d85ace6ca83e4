-- The plain data of a frame, and the ranges of its fields.
use Rattle.std.specs.Prelude.{◌≡◌, refl}
use Rattle.std.proofs.Common.{ap}
use Rattle.rbc_spec.specs.Frame.{Frame, HasFrameRanges}
use Rattle.rbc_linkmsg.specs.Bodies.{body_of, body_back}
use Rattle.rbc_linkmsg.specs.declared.body.Body.{Body}
use Rattle.rbc_linkmsg.specs.declared.body.Body.TheVariants as code
use Rattle.rbc_linkmsg.specs.declared.frame.Frame.TheInside.{Inside}

-- the frame that a centre's step knows
abbrev pub frame_of : Inside → Frame
frame_of f = record { number = f.number; stamp = f.stamp; body = body_of f.body }

-- the frame in memory for a frame that a centre's step knows
abbrev pub frame_inside : Frame → Inside
frame_inside f = record { number = f.number; stamp = f.stamp; body = body_back f.body }

abbrev pub IsInRange : Inside → Type 0
IsInRange f = HasFrameRanges (frame_of f)

body_again : (b : Body) → body_back (body_of b) ≡ b
body_again (code.AskRight t) = refl
body_again (code.GiveRight t) = refl
body_again (code.RefuseRight t) = refl
body_again (code.ReturnRight t) = refl
body_again (code.RouteAsk t first most) = refl
body_again (code.RouteInfo t run) = refl
body_again (code.RouteWithdraw t s) = refl
body_again (code.RouteReturn t run) = refl
body_again (code.Announce number t track) = refl
body_again (code.Cancel number t) = refl
body_again (code.TakingOver number t) = refl
body_again (code.Yield number t yielding) = refl

-- back from the frame to its fields
pub frame_back : (f : Inside) → IsInRange f → frame_inside (frame_of f) ≡ f
frame_back f h = ap (λ (b : Body). record { number = f.number; stamp = f.stamp; body = b }) (body_again f.body)
