-- On a one-centre line no other centre has a part in a message.
use Rattle.std.proofs.Common.{[], ⊎_elim, ◌&&◌, ◌∙◌, ◌∷◌, ◌≡◌, ap, Bool, false, inl, inr, is_none, is_some, length}
use Rattle.std.proofs.Common.{List, None, not, Option, refl, Some, subst, sym, true, ℕ}
use Rattle.std.proofs.lemmas.Bool.{both_ways}
use Rattle.std.specs.Bool.{MatchBool}
use Rattle.std.specs.Option.{option_map_or}
use Rattle.law_base.proofs.LocalLemmas.Homes.{none_next}
use Rattle.law_base.specs.Local.Local.{IsLocal}
use Rattle.law_invariants.specs.Flow.Flow.{flow_of}
use Rattle.law_invariants.specs.Flow.Leads.{replied, said_by}
use Rattle.law_invariants.specs.Flow.Sound.{IsFlowSound}
use Rattle.law_refinement.proofs.MissionsLemmas.Asked.{end_is_own, end_is_whole, granted_is_own, granted_is_whole}
use Rattle.law_refinement.proofs.MissionsLemmas.Asked.{not_for, report_is_own, report_is_whole, request_in_parts}
use Rattle.law_refinement.proofs.MissionsLemmas.Asked.{request_is_own}
use Rattle.law_refinement.proofs.MissionsLemmas.Heard.{state_then}
use Rattle.law_refinement.proofs.Pieces.{found, not_here, why_listened}
use Rattle.law_refinement.proofs.SessionsLemmas.Changes.{supervises_is}
use Rattle.law_refinement.proofs.SessionsLemmas.Data.{data_heard, established, rejected}
use Rattle.law_refinement.proofs.SessionsLemmas.Ends.{begins as session_begins, ends as session_ends}
use Rattle.law_refinement.proofs.SessionsLemmas.Starts.{accepted_is, may_is, starts}
use Rattle.law_refinement.proofs.Silence as silence
use Rattle.law_refinement.proofs.Words.{message}
use Rattle.law_refinement.specs.Meets.{Meets}
use Rattle.law_refinement.specs.Missions.Parts.{at_border_then, border_of, IsInParts, IsOwnStep, IsWhole, own_end}
use Rattle.law_refinement.specs.Missions.Parts.{own_granted, own_report, own_request}
use Rattle.law_refinement.specs.Sessions.Heard.{LeadsAlone}
use Rattle.rbc_spec.proofs.Lists.{any-range_none}
use Rattle.rbc_spec.proofs.Worlds.{then_resting}
use Rattle.rbc_spec.specs.Acts.{◌>>◌, Act, hear, Reply, rest}
use Rattle.rbc_spec.specs.Centre.{Centre, is_expected, is_free, is_registrar_of, Mission}
use Rattle.rbc_spec.specs.Line.{is_centre, IsLine, Line}
use Rattle.rbc_spec.specs.LineCentre.{hears, is_at, LineMission, LineState, Said, supervises}
use Rattle.rbc_spec.specs.Message.{EndOfMission, InitiationOfSession, Report, Request, SessionEstablished}
use Rattle.rbc_spec.specs.Message.{ShorteningGranted, ShorteningRejected, StartOfMission, TerminationOfSession}
use Rattle.rbc_spec.specs.Message.{TrackBody, TrainAccepted, TrainBody, TrainData}
use Rattle.rbc_spec.specs.Outcome.{NotSupervised, reasons_of, Saying}
use Rattle.rbc_spec.specs.OwnSteps.{Accepts, begins, may_start, Own, Rejects, Restarts, SaysNothing, Starts, StartsHere}
use Rattle.rbc_spec.specs.OwnSteps.{StartsNew, waits}
use Rattle.rbc_spec.specs.Place.{covered, fit_place, Place, place_on, Position}
use Rattle.rbc_spec.specs.Rules.{at_border}
use Rattle.rbc_spec.specs.Run as run
use Rattle.rbc_spec.specs.SectionRuns.{all_of}
use Rattle.rbc_spec.specs.Step as step
use Rattle.rbc_spec.specs.Theorems.{IsOneCentreLine, IsStartAccepted}
use Rattle.rbc_spec.specs.World.{World}

-- # On a one-centre line nothing follows the own part of a message, since no centre follows on the track. So the own
-- step
-- answers each message, and a start of mission is accepted whenever it may be.

abbrev accepts_it : TrackBody → Bool
accepts_it TrainAccepted = true
accepts_it body = false

-- the first message accepts the train
abbrev is_acceptance : List Saying → Bool
is_acceptance [] = false
is_acceptance (first ∷ others) = accepts_it first.message.body

module _ (line : Line) (ok : IsLine line) (d : ℕ) (one : IsOneCentreLine line d) (w : World) (v : LineState)
    (meets : Meets line w v) (local : IsLocal line w) (c : ℕ) (to : is_centre line c ≡ true)
    (stamp t_train t : ℕ) where
  abbrev pub k : Centre
  k = step.ticked stamp (w.at c)

  abbrev pub reply : TrainBody → Reply
  reply body = step.hear_and_answer line c (message t_train t body) k

  abbrev pub IsHeard : TrainBody → Type 0
  IsHeard body = step.silence line c k (message t_train t body) ≡ None

  abbrev pub Alone : TrainBody → Type 0
  Alone body = LeadsAlone line (flow_of w) c (message t_train t body) (reply body) v

  -- ## An own part, after which nothing follows

  in_parts : (body : TrainBody) (own later : Act) → IsOwnStep line c (message t_train t body) own
      → IsInParts line c (message t_train t body) own later
      → ((x : Centre) → IsFlowSound line (replied (flow_of w) c ((hear (message t_train t body) >> own) k))
      → (replied (flow_of w) c ((hear (message t_train t body) >> own) k)).at c ≡ x → later x ≡ rest x)
      → IsHeard body → Alone body
  in_parts body own later is_own parts resting heard =
      let first : Act = hear (message t_train t body) >> own in
      let leads = is_own (flow_of w) v stamp meets.sound.flow meets.shows to heard in
      let is : reply body ≡ first k = parts k heard
      ∙ then_resting first later k (resting (first k).state leads.sound (state_then (flow_of w) c (first k))) in
      subst (λ (r : Reply). LeadsAlone line (flow_of w) c (message t_train t body) r v) (sym is)
      (record { mid = leads.mid; own = leads.own; shows = leads.shows })

  in_whole : (body : TrainBody) (own : Act) → IsOwnStep line c (message t_train t body) own
      → IsWhole line c (message t_train t body) own → IsHeard body → Alone body
  in_whole body own is_own is_whole heard =
      let leads = is_own (flow_of w) v stamp meets.sound.flow meets.shows to heard in
      subst (λ (r : Reply). LeadsAlone line (flow_of w) c (message t_train t body) r v) (sym (is_whole k heard))
      (record { mid = leads.mid; own = leads.own; shows = leads.shows })

  -- no border is there
  none_at_border : (position : Position) (x : Centre) → at_border_then line c t position x ≡ rest x
  none_at_border position x = by_mission (x.mission t)
    where
      by_place : (o : Option Place) → option_map_or (λ place. border_of line c t place.track) o rest x ≡ rest x
      by_place None = refl
      by_place (Some place) = ap (λ o. option_map_or (at_border line c t) o rest x) (none_next line d one c place.track)

      by_mission : (o : Option Mission)
          → option_map_or (λ m. option_map_or (λ place. border_of line c t place.track)
          (place_on line m.place.track position) rest x) o (rest x) ≡ rest x
      by_mission None = refl
      by_mission (Some m) = by_place (place_on line m.place.track position)

  -- ## Each message

  pub alone : (body : TrainBody) → IsHeard body → Alone body
  alone InitiationOfSession heard = session_begins line (flow_of w) v meets.sound.flow meets.shows c t to t_train stamp
  alone TerminationOfSession heard = session_ends line (flow_of w) v meets.sound.flow meets.shows c t to t_train stamp
  alone SessionEstablished heard = established line (flow_of w) v meets.sound.flow meets.shows c t_train t stamp to
  alone (StartOfMission is_valid position) heard =
      starts line (flow_of w) v meets.sound.flow meets.shows c t_train t stamp to is_valid position heard
  alone (TrainData position) heard = data_heard line (flow_of w) v meets.sound.flow meets.shows c
      t_train t stamp to position heard
  alone (ShorteningRejected asked position) heard =
      rejected line (flow_of w) v meets.sound.flow meets.shows c t_train t stamp to asked position heard
  alone (Request position) heard = in_parts (Request position) (own_request line c t position)
      (at_border_then line c t position)
      (request_is_own line ok c t_train t position) (request_in_parts line c t_train t position)
      (λ x sound at. none_at_border position x) heard
  alone (Report position) heard = in_whole (Report position) (own_report line c t position)
      (report_is_own line ok c t_train t position) (report_is_whole line c t_train t position) heard
  alone (EndOfMission position) heard = in_whole (EndOfMission position) (own_end line c t position)
      (end_is_own line ok c t_train t position) (end_is_whole line c t_train t position) heard
  alone (ShorteningGranted asked position) heard =
      in_whole (ShorteningGranted asked position) (own_granted line c t position)
      (granted_is_own line ok c t_train t position asked) (granted_is_whole line c t_train t position asked) heard

  -- ## A start of mission

  no_mission : v.mission t ≡ None → (w.at c).mission t ≡ None
  no_mission none = by_mission ((w.at c).mission t) refl
    where
      by_mission : (o : Option Mission) → (w.at c).mission t ≡ o → o ≡ None
      by_mission None is = refl
      by_mission (Some m) is = absurd (let wrong = sym none ∙ meets.shows.mission t c m is in cc)

  module _ (is_valid : Bool) (position : Position) where
    abbrev body : TrainBody
    body = StartOfMission is_valid position

    abbrev now : LineState
    now = hears c (message t_train t body) v

    abbrev said : Said
    said = said_by (reply body)

    -- the registrar decides on the start
    module _ (mid : LineState) (place : Place) (fit : fit_place line is_valid position ≡ Some place)
        (may : may_start line now c place ≡ true) (here : is_registrar_of line c t ≡ true)
        (none : v.mission t ≡ None) where
      starts_here : Own line now c (message t_train t body) body said mid → StartsHere line t c place now said mid
      starts_here own =
          let placed : Starts line t c (Some place) now said mid =
          subst (λ (o : Option Place). Starts line t c o now said mid) fit own in
          let away : supervises now c t ≡ false =
          ap (λ (o : Option LineMission). option_map_or (λ m. is_at c m.supervisor) o false) none in
          let new : StartsNew line t c place now said mid =
          subst (λ (b : Bool). MatchBool b (Restarts line t c place now said mid)
          (StartsNew line t c place now said mid)) away placed in
          let free =
          subst (λ (b : Bool).
          MatchBool b (MatchBool (is_registrar_of line c t) (StartsHere line t c place now said mid)
          (SaysNothing (waits line t c place now) said mid)) (Rejects t c now said mid)) may new in
          subst (λ (b : Bool). MatchBool b (StartsHere line t c place now said mid)
          (SaysNothing (waits line t c place now) said mid)) here free

      none_here : (w.at c).mission t ≡ None
      none_here = no_mission none

      all_free : all_of (is_free line c (w.at c)) (covered line place) ≡ true
      all_free =
          sym (may_is line (flow_of w) v meets.sound.flow meets.shows c t_train t stamp to is_valid position
          place fit none_here) ∙ may

      -- the registrar has the right of a train that has no mission
      right : (w.at c).has_right t ≡ true
      right = (local.each c).right t ∙ ap (λ b. b && is_none ((w.at c).mission t)) here ∙ ap is_none none_here

      decided : StartsHere line t c place now said mid → Accepts t c now (begins line t c place now) said mid
      decided (inl begun) = begun.1
      decided (inr rejects) =
          let is = accepted_is line (flow_of w) v meets.sound.flow meets.shows c t_train t stamp to is_valid position
          place fit none_here all_free here right in
          let wrong : true ≡ false = ap (λ (r : Reply). is_acceptance r.sayings) (sym is)
          ∙ ap (λ (s : Said). is_acceptance s.sayings) rejects.said_is in
          absurd (both_ways true wrong refl)

    pub accepts : (mid : LineState) → Own line (hears c (message t_train t (StartOfMission is_valid position)) v) c
        (message t_train t (StartOfMission is_valid position)) (StartOfMission is_valid position)
        (said_by (reply (StartOfMission is_valid position))) mid
        → IsStartAccepted line (hears c (message t_train t (StartOfMission is_valid position)) v) c
        (message t_train t (StartOfMission is_valid position)) (StartOfMission is_valid position)
        (said_by (reply (StartOfMission is_valid position))) mid
    accepts mid own place fit may here none =
        decided mid place fit may here none (starts_here mid place fit may here none own)

  -- a start is accepted whenever it may be
  pub accepted : (body : TrainBody) (a : Alone body)
      → IsStartAccepted line (hears c (message t_train t body) v) c (message t_train t body) body
      (said_by (reply body)) a.mid
  accepted (StartOfMission is_valid position) a = accepts is_valid position a.mid a.own
  accepted InitiationOfSession a = tt
  accepted TerminationOfSession a = tt
  accepted SessionEstablished a = tt
  accepted (TrainData position) a = tt
  accepted (Request position) a = tt
  accepted (Report position) a = tt
  accepted (ShorteningGranted asked position) a = tt
  accepted (ShorteningRejected asked position) a = tt
  accepted (EndOfMission position) a = tt

-- # If no centre expects a train, no centre listens to it elsewhere. So the one line centre answers a message if and
-- only
-- if the centre does.

one_of_both : {X : Type 0} (o : Option X) → is_some o ≡ false → is_none o ≡ false → ⊥
one_of_both (Some x) is none = cc
one_of_both None is none = cc

unawaited : (none expected front : Bool) → expected ≡ false → (none && not (expected && front)) ≡ false → none ≡ false
unawaited false expected front is h = refl
unawaited true true front is h = cc
unawaited true false front is h = cc

module _ (line : Line) (w : World) (v : LineState) (meets : Meets line w v)
    (local : IsLocal line w) (c t_train t : ℕ) where
  unexpected : is_expected line (w.at c) t ≡ false
  unexpected = any-range_none (λ d. is_some ((w.at c).expects d t)) 0 (length line.centres)
      (λ d low high. ap is_some ((local.each c).not_expected d t))

  unlistened : (position : Position) → step.silence line c (w.at c) (message t_train t (Report position)) ≡ None
      → run.may_listen line c (Report position) (run.silence line v c (message t_train t (Report position))) ≡ true → ⊥
  unlistened position heard may =
      let elsewhere : supervises v c t ≡ false =
      not_here c (v.mission t) (found (run.holds line v c (message t_train t (Report position)) (Report position))
      NotSupervised (reasons_of (Report position))
      (why_listened line c position (run.silence line v c (message t_train t (Report position))) may)) in
      one_of_both ((w.at c).mission t) (sym (supervises_is line (flow_of w) v meets.sound.flow meets.shows c t)
      ∙ elsewhere)
      (unawaited (is_none ((w.at c).mission t)) (is_expected line (w.at c) t) _ unexpected
      (not_for line c (w.at c) (message t_train t (Report position)) 4 NotSupervised heard refl))

  never : (body : TrainBody) → step.silence line c (w.at c) (message t_train t body) ≡ None
      → run.may_listen line c body (run.silence line v c (message t_train t body)) ≡ true → ⊥
  never (Report position) heard may = unlistened position heard may
  never SessionEstablished heard may = cc
  never (StartOfMission is_valid position) heard may = cc
  never (TrainData position) heard may = cc
  never (Request position) heard may = cc
  never (ShorteningGranted s position) heard may = cc
  never (ShorteningRejected s position) heard may = cc
  never (EndOfMission position) heard may = cc
  never InitiationOfSession heard may = cc
  never TerminationOfSession heard may = cc

  pub heard_alike : (body : TrainBody) → step.silence line c (w.at c) (message t_train t body) ≡ None
      → run.silence line v c (message t_train t body) ≡ None
  heard_alike body is = ⊎_elim (λ (none : run.silence line v c (message t_train t body) ≡ None). none)
      (λ (may : run.may_listen line c body (run.silence line v c (message t_train t body)) ≡ true).
      absurd (never body is may))
      (silence.heard line w v meets.sound.flow meets.shows c (message t_train t body) is)
