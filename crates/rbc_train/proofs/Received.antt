-- The body of a frame that is the next of its link has the effect of its definition.
use Rattle.std.proofs.Common.{if◌then◌else◌, ◌∙◌, ◌≡◌, ap, false, is_none, is_some, length, nat_lt, None, Option, refl}
use Rattle.std.proofs.Common.{Some, subst, sym, true, ℕ}
use Rattle.std.specs.Option.{option_map_or}
use Rattle.rbc_line.specs.declared.section_run.SectionRun.{SectionRun as SectionRunCode}
use Rattle.rbc_line.specs.SectionRuns.{run_of}
use Rattle.rbc_linkmsg.specs.Bodies.{body_of, engine_in, place_of}
use Rattle.rbc_linkmsg.specs.declared.body.Body.{Body}
use Rattle.rbc_linkmsg.specs.declared.body.Body.TheVariants.{Announce, AskRight, Cancel, GiveRight, RefuseRight}
use Rattle.rbc_linkmsg.specs.declared.body.Body.TheVariants.{ReturnRight, RouteAsk, RouteInfo, RouteReturn}
use Rattle.rbc_linkmsg.specs.declared.body.Body.TheVariants.{RouteWithdraw, TakingOver, Yield}
use Rattle.rbc_linkmsg.specs.declared.body.Yielding.{Yielding}
use Rattle.rbc_spec.specs.Acts.{Act, Reply, rest}
use Rattle.rbc_spec.specs.Centre.{Centre}
use Rattle.rbc_spec.specs.Frame.{carried_place, HasBodyRange, HasPlaceRange, HasRunRange}
use Rattle.rbc_spec.specs.Line.{Line, section, train_number}
use Rattle.rbc_spec.specs.Links.{announced, cancelled, of_train, received, right_asked, right_given, right_refused}
use Rattle.rbc_spec.specs.Links.{right_returned, route_asked, route_returned, route_told, route_withdrawn, taking_over}
use Rattle.rbc_spec.specs.Links.{yielded}
use Rattle.rbc_spec.specs.SectionRuns.{all_of}

some_there : (o : Option ℕ) → is_none o ≡ false → is_some o ≡ true
some_there (Some x) is = refl
some_there None is = cc

module _ (line : Line) (c d t : ℕ) (k : Centre) (body : Body) (reply : Reply) (of : engine_in (body_of body) ≡ t)
    (known : is_none (train_number line t) ≡ false) where
  -- a rule for a train of the line
  of_this : (act : ℕ → Act) (u : ℕ) → u ≡ t → act t k ≡ reply → of_train line u (act u) k ≡ reply
  of_this act u same is =
      ap (λ (v : ℕ). of_train line v (act v) k) same ∙ rw (some_there (train_number line t) known) is

  taken_as : (b : Body) → body ≡ b → received line c d (body_of b) k ≡ reply
      → received line c d (body_of body) k ≡ reply
  taken_as b same is = ap (λ (x : Body). received line c d (body_of x) k) same ∙ is

  pub takes_ask : (u : ℕ) → body ≡ AskRight u → right_asked line c d t k ≡ reply
      → received line c d (body_of body) k ≡ reply
  takes_ask u same is =
      taken_as (AskRight u) same
      (of_this (right_asked line c d) u (ap (λ (x : Body). engine_in (body_of x)) (sym same) ∙ of) is)

  pub takes_right : (u : ℕ) → body ≡ GiveRight u → right_given line c t k ≡ reply
      → received line c d (body_of body) k ≡ reply
  takes_right u same is =
      taken_as (GiveRight u) same
      (of_this (right_given line c) u (ap (λ (x : Body). engine_in (body_of x)) (sym same) ∙ of) is)

  pub takes_refusal : (u : ℕ) → body ≡ RefuseRight u → right_refused line c t k ≡ reply
      → received line c d (body_of body) k ≡ reply
  takes_refusal u same is =
      taken_as (RefuseRight u) same
      (of_this (right_refused line c) u (ap (λ (x : Body). engine_in (body_of x)) (sym same) ∙ of) is)

  pub takes_back : (u : ℕ) → body ≡ ReturnRight u → right_returned line c t k ≡ reply
      → received line c d (body_of body) k ≡ reply
  takes_back u same is =
      taken_as (ReturnRight u) same
      (of_this (right_returned line c) u (ap (λ (x : Body). engine_in (body_of x)) (sym same) ∙ of) is)

  pub takes_route_ask : (u first most : ℕ) → body ≡ RouteAsk u first most → route_asked line c d t first most k ≡ reply
      → received line c d (body_of body) k ≡ reply
  takes_route_ask u first most same is =
      taken_as (RouteAsk u first most) same
      (of_this (λ v. route_asked line c d v first most) u (ap (λ (x : Body). engine_in (body_of x)) (sym same) ∙ of) is)

  pub takes_route : (u : ℕ) (run : SectionRunCode) → body ≡ RouteInfo u run
      → route_told line c d t (run_of run) k ≡ reply → received line c d (body_of body) k ≡ reply
  takes_route u run same is =
      taken_as (RouteInfo u run) same
      (of_this (λ v. route_told line c d v (run_of run)) u
      (ap (λ (x : Body). engine_in (body_of x)) (sym same) ∙ of) is)

  pub takes_withdrawal : (u s : ℕ) → body ≡ RouteWithdraw u s
      → (if is_some (section line s) then route_withdrawn line c t s else rest) k ≡ reply
      → received line c d (body_of body) k ≡ reply
  takes_withdrawal u s same is =
      taken_as (RouteWithdraw u s) same
      (of_this (λ v. if is_some (section line s) then route_withdrawn line c v s else rest) u
      (ap (λ (x : Body). engine_in (body_of x)) (sym same) ∙ of) is)

  pub takes_return : (u : ℕ) (run : SectionRunCode) → body ≡ RouteReturn u run
      → (if all_of (λ s. is_some (section line s)) (run_of run) then route_returned line c t (run_of run) else rest) k
      ≡ reply
      → received line c d (body_of body) k ≡ reply
  takes_return u run same is =
      taken_as (RouteReturn u run) same
      (of_this (λ v. if all_of (λ s. is_some (section line s)) (run_of run) then route_returned line c v (run_of run)
      else rest) u (ap (λ (x : Body). engine_in (body_of x)) (sym same) ∙ of) is)

  pub takes_announcement : (number u track : ℕ) → body ≡ Announce number u track
      → (if nat_lt track (length line.tracks) then announced d number t else rest) k ≡ reply
      → received line c d (body_of body) k ≡ reply
  takes_announcement number u track same is =
      taken_as (Announce number u track) same
      (of_this (λ v. if nat_lt track (length line.tracks) then announced d number v else rest) u
      (ap (λ (x : Body). engine_in (body_of x)) (sym same) ∙ of) is)

  pub takes_cancellation : (number u : ℕ) → body ≡ Cancel number u → cancelled d number t k ≡ reply
      → received line c d (body_of body) k ≡ reply
  takes_cancellation number u same is =
      taken_as (Cancel number u) same
      (of_this (cancelled d number) u (ap (λ (x : Body). engine_in (body_of x)) (sym same) ∙ of) is)

  pub takes_claim : (number u : ℕ) → body ≡ TakingOver number u → taking_over line c d number t k ≡ reply
      → received line c d (body_of body) k ≡ reply
  takes_claim number u same is =
      taken_as (TakingOver number u) same
      (of_this (taking_over line c d number) u (ap (λ (x : Body). engine_in (body_of x)) (sym same) ∙ of) is)

  pub takes_yield : (number u : ℕ) (y : Yielding) → body ≡ Yield number u y
      → option_map_or (yielded line c d number t (run_of y.hand) y.heard y.has_data y.is_ended)
      (carried_place (place_of y.place)) rest k ≡ reply → received line c d (body_of body) k ≡ reply
  takes_yield number u y same is =
      taken_as (Yield number u y) same
      (of_this (λ v. option_map_or (yielded line c d number v (run_of y.hand) y.heard y.has_data y.is_ended)
      (carried_place (place_of y.place)) rest) u (ap (λ (x : Body). engine_in (body_of x)) (sym same) ∙ of) is)

-- the ranges of the sections that a body names
pub told_range : (body : Body) (u : ℕ) (run : SectionRunCode) → body ≡ RouteInfo u run → HasBodyRange (body_of body)
    → HasRunRange 0 31 (run_of run)
told_range body u run is range = (subst (λ (x : Body). HasBodyRange (body_of x)) is range).1

pub returned_range : (body : Body) (u : ℕ) (run : SectionRunCode) → body ≡ RouteReturn u run
    → HasBodyRange (body_of body) → HasRunRange 1 63 (run_of run)
returned_range body u run is range = (subst (λ (x : Body). HasBodyRange (body_of x)) is range).1

pub yielded_range : (body : Body) (number u : ℕ) (y : Yielding) → body ≡ Yield number u y → HasBodyRange (body_of body)
    → HasPlaceRange (place_of y.place) × HasRunRange 1 32 (run_of y.hand)
yielded_range body number u y is range = let r = subst (λ (x : Body). HasBodyRange (body_of x)) is range in (r.3, r.4)
