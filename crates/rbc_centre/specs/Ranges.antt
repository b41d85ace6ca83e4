-- The ranges of a frame are met in one way at most.
use Rattle.std.proofs.Props.{props}
use Rattle.std.specs.Prelude.{All, List, ℕ}
use Rattle.law_invariants.specs.Ranges.Ranges.{IsSentInRange}
use Rattle.rbc_spec.specs.Frame.{Announce, AskRight, Body, Cancel, Frame, GiveRight, HasBodyRange, HasFrameRanges}
use Rattle.rbc_spec.specs.Frame.{HasPlaceRange, HasRunRange, RefuseRight, ReturnRight, RouteAsk, RouteInfo, RouteReturn}
use Rattle.rbc_spec.specs.Frame.{RouteWithdraw, TakingOver, Yield, YieldedPlace}
use Rattle.rbc_spec.specs.Line.{Line}
use Rattle.rbc_spec.specs.SectionRuns.{SectionRun}

HasRunRange-prop : (least most : ℕ) (run : SectionRun) → IsProp (HasRunRange least most run)
HasRunRange-prop least most run = hlevel props

HasPlaceRange-prop : (place : YieldedPlace) → IsProp (HasPlaceRange place)
HasPlaceRange-prop place = hlevel props

HasBodyRange-prop : (body : Body) → IsProp (HasBodyRange body)
HasBodyRange-prop (AskRight t) = hlevel props
HasBodyRange-prop (GiveRight t) = hlevel props
HasBodyRange-prop (RefuseRight t) = hlevel props
HasBodyRange-prop (ReturnRight t) = hlevel props
HasBodyRange-prop (RouteAsk t first most) = hlevel (props, HasRunRange-prop)
HasBodyRange-prop (RouteInfo t run) = hlevel (props, HasRunRange-prop)
HasBodyRange-prop (RouteWithdraw t s) = hlevel props
HasBodyRange-prop (RouteReturn t run) = hlevel (props, HasRunRange-prop)
HasBodyRange-prop (Announce number t track) = hlevel props
HasBodyRange-prop (Cancel number t) = hlevel props
HasBodyRange-prop (TakingOver number t) = hlevel props
HasBodyRange-prop (Yield number t heard has_data is_ended place hand) =
    hlevel (props, HasRunRange-prop, HasPlaceRange-prop)

HasFrameRanges-prop : (f : Frame) → IsProp (HasFrameRanges f)
HasFrameRanges-prop f = let body : IsProp (HasBodyRange f.body) = HasBodyRange-prop f.body in hlevel props

-- of all frames that go to each centre
pub AreInRange-prop : (frames : ℕ → List Frame) → IsProp ((d : ℕ) → All HasFrameRanges (frames d))
AreInRange-prop frames = hlevel (props, HasFrameRanges-prop)

IsSentInRange-prop : (line : Line) (c d : ℕ) (f : Body) → IsProp (IsSentInRange line c d f)
IsSentInRange-prop line c d f = let body : IsProp (HasBodyRange f) = HasBodyRange-prop f in hlevel props

-- of all bodies that a step sends to a centre
pub AreSent-prop : (line : Line) (c d : ℕ) (bodies : List Body) → IsProp (All (IsSentInRange line c d) bodies)
AreSent-prop line c d bodies = hlevel (props, IsSentInRange-prop)
