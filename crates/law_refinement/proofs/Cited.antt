-- The laws of each part, in the form that is needed here.
use Rattle.std.proofs.Common.{◌≡◌, Bool, None, subst, sym, ℕ}
use Rattle.law_base.specs.Counting.Network.{took}
use Rattle.law_invariants.specs.Flow.Flow.{Flow, took_frame}
use Rattle.law_invariants.specs.Flow.Leads.{HeardAs, Leads, LeadsHeard, LeadsOwn}
use Rattle.law_refinement.proofs.HandoversLemmas.Announced.{announce_leads, cancel_leads}
use Rattle.law_refinement.proofs.HandoversLemmas.TakenUp.{over_body_leads}
use Rattle.law_refinement.proofs.HandoversLemmas.Yielded.{yield_leads}
use Rattle.law_refinement.proofs.InOrderSteps.{request_heard}
use Rattle.law_refinement.proofs.MissionsLemmas.Asked.{end_is_own, end_is_whole, granted_is_own, granted_is_whole}
use Rattle.law_refinement.proofs.MissionsLemmas.Asked.{report_is_own, report_is_whole}
use Rattle.law_refinement.proofs.RoutesLemmas.Homes.{home_leads}
use Rattle.law_refinement.proofs.RoutesLemmas.Interlocking.{from_once, set_leads, unset_leads}
use Rattle.law_refinement.proofs.RoutesLemmas.Lending.{lent_leads}
use Rattle.law_refinement.proofs.RoutesLemmas.Refused.{refused_leads}
use Rattle.law_refinement.proofs.RoutesLemmas.Rights.{asked_leads, ends as ends_of, given_leads, returned_leads}
use Rattle.law_refinement.proofs.RoutesLemmas.Told.{told_leads, withdrawn_leads}
use Rattle.law_refinement.proofs.SessionsLemmas.Data.{data_heard, established, rejected}
use Rattle.law_refinement.proofs.SessionsLemmas.Ends.{begins, ends}
use Rattle.law_refinement.proofs.SessionsLemmas.Starts.{starts}
use Rattle.law_refinement.proofs.Words.{Answers, Brings, IsAtWork, IsBrought, message}
use Rattle.law_refinement.specs.Announced.{HasAnnounced}
use Rattle.law_refinement.specs.Missions.Parts.{IsOwnStep, IsWhole, own_end, own_granted, own_report}
use Rattle.law_refinement.specs.Routes.Interlocking.{LeadsFrom}
use Rattle.law_refinement.specs.Sessions.Heard.{IsHeardAs, LeadsAlone}
use Rattle.rbc_spec.specs.Acts.{◌>>◌, Act, hear, Reply}
use Rattle.rbc_spec.specs.Centre.{Centre}
use Rattle.rbc_spec.specs.Frame.{Announce, AskRight, Body, Cancel, GiveRight, RefuseRight, ReturnRight, RouteAsk}
use Rattle.rbc_spec.specs.Frame.{RouteInfo, RouteReturn, RouteWithdraw, TakingOver, Yield}
use Rattle.rbc_spec.specs.Line.{IsLine, Line}
use Rattle.rbc_spec.specs.LineCentre.{hears, LineState}
use Rattle.rbc_spec.specs.Links.{received}
use Rattle.rbc_spec.specs.Message.{EndOfMission, InitiationOfSession, Report, Request, SessionEstablished}
use Rattle.rbc_spec.specs.Message.{ShorteningGranted, ShorteningRejected, StartOfMission, TerminationOfSession}
use Rattle.rbc_spec.specs.Message.{TrainBody, TrainData}
use Rattle.rbc_spec.specs.OwnSteps.{Sets, Unsets}
use Rattle.rbc_spec.specs.Place.{Position}
use Rattle.rbc_spec.specs.Step as step

-- the effect of a message with an answer
pub of_heard : (line : Line) (w : Flow) (c t_train t : ℕ) (body : TrainBody) (r : Reply) (v : LineState)
    → LeadsHeard line w c (message t_train t body) r v
    → LeadsFrom line w c (HeardAs line (hears c (message t_train t body) v) c (message t_train t body) body) r
of_heard line w c t_train t body r v leads = record {
  said = leads.said;
  mid = leads.mid;
  own = leads.own;
  quiets = leads.quiets;
  later = leads.later;
  new = leads.new;
  takes = leads.takes;
  own_centre = leads.own_centre;
  says = leads.says;
  shows = leads.shows;
}

-- if it is only the own step
of_alone : (line : Line) (w : Flow) (c t_train t : ℕ) (body : TrainBody) (r : Reply) (v : LineState)
    → LeadsAlone line w c (message t_train t body) r v
    → LeadsFrom line w c (HeardAs line (hears c (message t_train t body) v) c (message t_train t body) body) r
of_alone line w c t_train t body r v alone =
    from_once line w c (HeardAs line (hears c (message t_train t body) v) c (message t_train t body) body) r
    (record { mid = alone.mid; own = alone.own; shows = alone.shows })

-- for every state of the centre's clock
heard_as : (line : Line) → IsLine line → (body : TrainBody) → IsHeardAs body → Answers line body
heard_as line ok body is_heard w c k v t_train t at_work heard =
    subst (λ (j : Centre). LeadsFrom line w c
    (HeardAs line (hears c (message t_train t body) v) c (message t_train t body) body)
    (step.hear_and_answer line c (message t_train t body) j)) at_work.state
    (of_alone line w c t_train t body (step.hear_and_answer line c (message t_train t body) (w.at c)) v
    (is_heard line w v c t_train t (w.at c).clock ok at_work.sound at_work.shows at_work.to
    (subst (λ (j : Centre). step.silence line c j (message t_train t body) ≡ None) (sym at_work.state) heard)))

module _ (line : Line) (ok : IsLine line) where
  pub initiated : Answers line InitiationOfSession
  initiated = heard_as line ok InitiationOfSession (λ line w v c t_train t stamp ok sound sees at heard.
      begins line w v sound sees c t at t_train stamp)

  pub terminated : Answers line TerminationOfSession
  terminated = heard_as line ok TerminationOfSession (λ line w v c t_train t stamp ok sound sees at heard.
      ends line w v sound sees c t at t_train stamp)

  pub session_established : Answers line SessionEstablished
  session_established = heard_as line ok SessionEstablished
      (λ line w v c t_train t stamp ok sound sees at heard. established line w v sound sees c t_train t stamp at)

  pub started : (is_valid : Bool) (position : Position) → Answers line (StartOfMission is_valid position)
  started is_valid position = heard_as line ok (StartOfMission is_valid position)
      (λ line w v c t_train t stamp ok sound sees at heard. starts line w v sound sees c t_train t stamp
      at is_valid position heard)

  pub had_data : (position : Position) → Answers line (TrainData position)
  had_data position = heard_as line ok (TrainData position)
      (λ line w v c t_train t stamp ok sound sees at heard. data_heard line w v sound sees c t_train
      t stamp at position heard)

  pub shortening_rejected : (stamp : ℕ) (position : Position) → Answers line (ShorteningRejected stamp position)
  shortening_rejected asked position = heard_as line ok (ShorteningRejected asked position)
      (λ line w v c t_train t stamp ok sound sees at heard. rejected line w v sound sees c t_train t
      stamp at asked position heard)

  -- ## An own step

  -- only the own part
  in_whole : (body : TrainBody) (own : ℕ → ℕ → ℕ → Act)
      → ((c t_train t : ℕ) → IsOwnStep line c (message t_train t body) (own c t_train t))
      → ((c t_train t : ℕ) → IsWhole line c (message t_train t body) (own c t_train t)) → Answers line body
  in_whole body own is_own is_whole w c k v t_train t at_work heard =
      subst (λ (j : Centre). LeadsFrom line w c
      (HeardAs line (hears c (message t_train t body) v) c (message t_train t body) body)
      (step.hear_and_answer line c (message t_train t body) j)) at_work.state
      (of_alone line w c t_train t body (step.hear_and_answer line c (message t_train t body) (w.at c)) v
      (subst (λ (r : Reply). LeadsAlone line w c (message t_train t body) r v)
      (sym (is_whole c t_train t (w.at c) quiet))
      (record { mid = one.mid; own = one.own; shows = one.shows })))
    where
      quiet : step.silence line c (w.at c) (message t_train t body) ≡ None
      quiet = subst (λ (j : Centre). step.silence line c j (message t_train t body) ≡ None) (sym at_work.state) heard

      one : LeadsOwn line w c (message t_train t body) ((hear (message t_train t body) >> own c t_train t) (w.at c)) v
      one = is_own c t_train t w v (w.at c).clock at_work.sound at_work.shows at_work.to quiet

  pub reported : (position : Position) → Answers line (Report position)
  reported position = in_whole (Report position) (λ c t_train t. own_report line c t position)
      (λ c t_train t. report_is_own line ok c t_train t position)
      (λ c t_train t. report_is_whole line c t_train t position)

  pub ended : (position : Position) → Answers line (EndOfMission position)
  ended position = in_whole (EndOfMission position) (λ c t_train t. own_end line c t position)
      (λ c t_train t. end_is_own line ok c t_train t position) (λ c t_train t. end_is_whole line c t_train t position)

  pub shortening_granted : (stamp : ℕ) (position : Position) → Answers line (ShorteningGranted stamp position)
  shortening_granted stamp position = in_whole (ShorteningGranted stamp position)
      (λ c t_train t. own_granted line c t position)
      (λ c t_train t. granted_is_own line ok c t_train t position stamp)
      (λ c t_train t. granted_is_whole line c t_train t position stamp)

  -- if each handover is announced as soon as the border is in the hand
  pub requested : (position : Position) (w : Flow) (c : ℕ) (k : Centre) (v : LineState) (t_train t : ℕ)
      → IsAtWork line w c k v → HasAnnounced line c k
      → step.silence line c k (message t_train t (Request position)) ≡ None
      → LeadsFrom line w c (HeardAs line (hears c (message t_train t (Request position)) v) c
      (message t_train t (Request position)) (Request position))
      (step.hear_and_answer line c (message t_train t (Request position)) k)
  requested position w c k v t_train t at_work announced heard =
      subst (λ (j : Centre). LeadsFrom line w c
      (HeardAs line (hears c (message t_train t (Request position)) v) c
      (message t_train t (Request position)) (Request position))
      (step.hear_and_answer line c (message t_train t (Request position)) j)) at_work.state
      (of_heard line w c t_train t (Request position)
      (step.hear_and_answer line c (message t_train t (Request position)) (w.at c)) v
      (request_heard line ok w v at_work.sound at_work.shows c t_train t at_work.to position
      (subst (λ (j : Centre). HasAnnounced line c j) (sym at_work.state) announced)
      (subst (λ (j : Centre). step.silence line c j (message t_train t (Request position)) ≡ None)
      (sym at_work.state) heard)))

  -- ## The interlocking

  pub set_leads_on : (w : Flow) (c s : ℕ) (k : Centre) (v : LineState) → IsAtWork line w c k v
      → LeadsFrom line w c (Sets line v c s) (step.set line c s k)
  set_leads_on w c s k v at_work =
      subst (λ (j : Centre). LeadsFrom line w c (Sets line v c s) (step.set line c s j)) at_work.state
      (from_once line w c (Sets line v c s) (step.set line c s (w.at c))
      (set_leads line w at_work.sound v at_work.shows c s at_work.to))

  pub unset_leads_on : (w : Flow) (c s : ℕ) (k : Centre) (v : LineState) → IsAtWork line w c k v
      → LeadsFrom line w c (Unsets line v c s) (step.unset line c s k)
  unset_leads_on w c s k v at_work =
      subst (λ (j : Centre). LeadsFrom line w c (Unsets line v c s) (step.unset line c s j)) at_work.state
      (unset_leads line w at_work.sound v at_work.shows c s at_work.to ok).leads

  -- ## Frames

  -- for every name of the state
  brought : (f : Body) (w : Flow) (a c number : ℕ) (k : Centre) (v : LineState) → IsBrought line w a c f k v
      → Leads line (took w a c) c (received line c a f (took_frame a number (w.at c))) v
      → Leads line (took w a c) c (received line c a f (took_frame a number k)) v
  brought f w a c number k v brings leads =
      subst (λ (j : Centre). Leads line (took w a c) c (received line c a f (took_frame a number j)) v)
      brings.at_work.state leads

  pub body_leads : (f : Body) → Brings line f
  body_leads (AskRight t) w a c number k v b = brought (AskRight t) w a c number k v b
      (asked_leads line ok w b.at_work.sound v b.at_work.shows a c number b.from b.at_work.to t b.head)
  body_leads (GiveRight t) w a c number k v b = brought (GiveRight t) w a c number k v b
      (given_leads line ok w b.at_work.sound v b.at_work.shows a c number b.from b.at_work.to t b.head)
  body_leads (RefuseRight t) w a c number k v b = brought (RefuseRight t) w a c number k v b
      (refused_leads line ok w b.at_work.sound v b.at_work.shows a c number b.from b.at_work.to t b.head)
  body_leads (ReturnRight t) w a c number k v b = brought (ReturnRight t) w a c number k v b
      (returned_leads line ok w b.at_work.sound v b.at_work.shows a c number b.from b.at_work.to t b.head)
  body_leads (RouteAsk t first most) w a c number k v b = brought (RouteAsk t first most) w a c number k v b
      (lent_leads line ok w b.at_work.sound v b.at_work.shows a c number b.from b.at_work.to t first most b.head)
  body_leads (RouteInfo t r) w a c number k v b = brought (RouteInfo t r) w a c number k v b
      (told_leads line ok w b.at_work.sound v b.at_work.shows a c number b.from b.at_work.to
      (ends_of line c a b.linked).1 t r b.head)
  body_leads (RouteWithdraw t s) w a c number k v b = brought (RouteWithdraw t s) w a c number k v b
      (withdrawn_leads line ok w b.at_work.sound v b.at_work.shows a c number b.from b.at_work.to t s b.head)
  body_leads (RouteReturn t r) w a c number k v b = brought (RouteReturn t r) w a c number k v b
      (home_leads line ok w b.at_work.sound v b.at_work.shows a c number b.from b.at_work.to t r b.head)
  body_leads (Announce h t track) w a c number k v b = brought (Announce h t track) w a c number k v b
      (announce_leads line w v a c h t number (w.at c).clock ok b.at_work.sound b.at_work.shows
      b.from b.at_work.to track b.head)
  body_leads (Cancel h t) w a c number k v b = brought (Cancel h t) w a c number k v b
      (cancel_leads line w v a c h t number (w.at c).clock ok b.at_work.sound b.at_work.shows
      b.from b.at_work.to b.head)
  body_leads (TakingOver h t) w a c number k v b = brought (TakingOver h t) w a c number k v b
      (over_body_leads line w v a c h t number (w.at c).clock ok b.at_work.sound b.at_work.shows
      b.from b.at_work.to b.head)
  body_leads (Yield h t heard has_data is_ended carried hand) w a c number k v b =
      brought (Yield h t heard has_data is_ended carried hand) w a c number k v b
      (yield_leads line w v a c h t heard number (w.at c).clock has_data is_ended carried hand ok b.at_work.sound
      b.at_work.shows b.from b.at_work.to b.head)
