-- Two frames are equal if and only if `==` gives true.
use Rattle.std.proofs.Common.{◌∙◌, ◌≡◌, ap, eq-eqb, refl, rules, subst, sym, true}
use Rattle.std.proofs.lemmas.Bool.{and_from, and_parts, eqb-true}
use Rattle.std.specs.Bool.{Decides}
use Rattle.std.specs.Cmp.{booleans_Decides}
use Rattle.rbc_line.specs.contracts.section_run.SectionRunPartialEq.TheImpl as runs
use Rattle.rbc_line.specs.declared.section_run.SectionRun.{SectionRun}
use Rattle.rbc_linkmsg.specs.Bodies.{body_back, body_of}
use Rattle.rbc_linkmsg.specs.contracts.body.BodyPartialEq.TheImpl as bodies
use Rattle.rbc_linkmsg.specs.contracts.body.YieldedPlacePartialEq.TheImpl as places
use Rattle.rbc_linkmsg.specs.contracts.body.YieldingPartialEq.TheImpl as yieldings
use Rattle.rbc_linkmsg.specs.contracts.frame.FramePartialEq.TheImpl as frames
use Rattle.rbc_linkmsg.specs.declared.body.Body.{Body}
use Rattle.rbc_linkmsg.specs.declared.body.Body.TheVariants.{Announce, AskRight, Cancel, GiveRight, RefuseRight}
use Rattle.rbc_linkmsg.specs.declared.body.Body.TheVariants.{ReturnRight, RouteAsk, RouteInfo, RouteReturn}
use Rattle.rbc_linkmsg.specs.declared.body.Body.TheVariants.{RouteWithdraw, TakingOver, Yield}
use Rattle.rbc_linkmsg.specs.declared.body.YieldedPlace.{YieldedPlace}
use Rattle.rbc_linkmsg.specs.declared.body.Yielding.{Yielding}
use Rattle.rbc_spec.specs.Frame as spec

pub same_places : (a b : YieldedPlace) → Decides (places.eq-value.it a b) (a ≡ b)
same_places a b = search rules

same_runs : (a b : SectionRun) → Decides (runs.eq-value.it a b) (a ≡ b)
same_runs a b = search rules

one_yielding : (a b : Yielding) → yieldings.eq-value.it a b ≡ true → a ≡ b
one_yielding a b e =
    let one = and_parts _ _ e in
    let two = and_parts _ _ one.1 in
    let three = and_parts _ _ two.1 in
    let four = and_parts _ _ three.1 in
    let heard : a.heard ≡ b.heard = eqb-true a.heard b.heard one.0 in
    let has_data : a.has_data ≡ b.has_data = (booleans_Decides a.has_data b.has_data).0 two.0 in
    let is_ended : a.is_ended ≡ b.is_ended = (booleans_Decides a.is_ended b.is_ended).0 three.0 in
    let place : a.place ≡ b.place = (same_places a.place b.place).0 four.0 in
    let hand : a.hand ≡ b.hand = (same_runs a.hand b.hand).0 four.1 in
    λ i. record { heard = heard i; has_data = has_data i; is_ended = is_ended i; place = place i; hand = hand i }

yielding_itself : (a : Yielding) → yieldings.eq-value.it a a ≡ true
yielding_itself a = search (rules, same_places, same_runs)

one_body : (a b : Body) → bodies.eq-value.it a b ≡ true → a ≡ b
one_body (AskRight t) (AskRight u) e = search rules
one_body (AskRight t) b e = cc
one_body (GiveRight t) (GiveRight u) e = search rules
one_body (GiveRight t) b e = cc
one_body (RefuseRight t) (RefuseRight u) e = search rules
one_body (RefuseRight t) b e = cc
one_body (ReturnRight t) (ReturnRight u) e = search rules
one_body (ReturnRight t) b e = cc
one_body (RouteAsk t first most) (RouteAsk u first' most') e = search rules
one_body (RouteAsk t first most) b e = cc
one_body (RouteInfo t run) (RouteInfo u run') e = search (rules, same_runs)
one_body (RouteInfo t run) b e = cc
one_body (RouteWithdraw t s) (RouteWithdraw u s') e = search rules
one_body (RouteWithdraw t s) b e = cc
one_body (RouteReturn t run) (RouteReturn u run') e = search (rules, same_runs)
one_body (RouteReturn t run) b e = cc
one_body (Announce number t track) (Announce number' u track') e = search rules
one_body (Announce number t track) b e = cc
one_body (Cancel number t) (Cancel number' u) e = search rules
one_body (Cancel number t) b e = cc
one_body (TakingOver number t) (TakingOver number' u) e = search rules
one_body (TakingOver number t) b e = cc
one_body (Yield number t yielding) (Yield number' u yielding') e =
    let one = and_parts _ _ e in
    let two = and_parts _ _ one.1 in
    let a : number ≡ number' = eqb-true number number' one.0 in
    let b : t ≡ u = eqb-true t u two.0 in
    let c : yielding ≡ yielding' = one_yielding yielding yielding' two.1 in
    λ i. Yield (a i) (b i) (c i)
one_body (Yield number t yielding) b e = cc

itself : (a : Body) → bodies.eq-value.it a a ≡ true
itself (AskRight t) = search rules
itself (GiveRight t) = search rules
itself (RefuseRight t) = search rules
itself (ReturnRight t) = search rules
itself (RouteAsk t first most) = search rules
itself (RouteInfo t run) = search (rules, same_runs)
itself (RouteWithdraw t s) = search rules
itself (RouteReturn t run) = search (rules, same_runs)
itself (Announce number t track) = search rules
itself (Cancel number t) = search rules
itself (TakingOver number t) = search rules
itself (Yield number t yielding) = search (rules, yielding_itself)

-- a body of the rules, and the body in memory that has it
body_there : (b : spec.Body) → body_of (body_back b) ≡ b
body_there (spec.AskRight t) = refl
body_there (spec.GiveRight t) = refl
body_there (spec.RefuseRight t) = refl
body_there (spec.ReturnRight t) = refl
body_there (spec.RouteAsk t first most) = refl
body_there (spec.RouteInfo t run) = refl
body_there (spec.RouteWithdraw t s) = refl
body_there (spec.RouteReturn t run) = refl
body_there (spec.Announce number t track) = refl
body_there (spec.Cancel number t) = refl
body_there (spec.TakingOver number t) = refl
body_there (spec.Yield number t heard has_data is_ended place hand) = refl

one_frame : (a b : spec.Frame) → frames.eq-value.it a b ≡ true → a ≡ b
one_frame a b e =
    let one = and_parts _ _ e in
    let two = and_parts _ _ one.1 in
    let number : a.number ≡ b.number = eqb-true a.number b.number one.0 in
    let stamp : a.stamp ≡ b.stamp = eqb-true a.stamp b.stamp two.0 in
    let body : a.body ≡ b.body = sym (body_there a.body)
    ∙ ap body_of (one_body (body_back a.body) (body_back b.body) two.1) ∙ body_there b.body in
    λ i. record { number = number i; stamp = stamp i; body = body i }

frame_itself : (a : spec.Frame) → frames.eq-value.it a a ≡ true
frame_itself a =
    and_from _ _ (eq-eqb a.number a.number refl)
    (and_from _ _ (eq-eqb a.stamp a.stamp refl) (itself (body_back a.body)))

pub same_frames : (a b : spec.Frame) → Decides (frames.eq-value.it a b) (a ≡ b)
same_frames a b = (one_frame a b, λ e. subst (λ (x : spec.Frame). frames.eq-value.it a x ≡ true) e (frame_itself a))
