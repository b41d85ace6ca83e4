-- A sound centre stays so through each event.
use Rattle.std.proofs.Common.{◌&&◌, ◌==◌, ◌∙◌, ◌≡◌, ◌≢◌, ap, arith, Bool, eq-eqb, false, if◌then◌else◌, is_none}
use Rattle.std.proofs.Common.{is_some, length, nat_lt, None, not, Option, refl, Some, subst, sym, true, ℕ}
use Rattle.std.proofs.lemmas.Bool.{and_parts, both_ways, not-true, or_parts}
use Rattle.std.specs.Option.{option_map_or}
use Rattle.law_base.proofs.LocalLemmas.Stays.{by_same}
use Rattle.law_base.proofs.RulesLemmas.Places.{not_for}
use Rattle.law_invariants.proofs.SoundLemmas.Again.{changed_sound, dropped_sound, free_sound, IsKnown, phase_sound}
use Rattle.law_invariants.proofs.SoundLemmas.Again.{said_sound}
use Rattle.law_invariants.proofs.SoundLemmas.Handovers.{announced_sound, cancelled_sound, over_sound, yielded_sound}
use Rattle.law_invariants.proofs.SoundLemmas.Reports.{end_sound, granting_sound, other_words, report_sound}
use Rattle.law_invariants.proofs.SoundLemmas.Requests.{request_sound}
use Rattle.law_invariants.proofs.SoundLemmas.Routes.{asked_route, returned_route, set_sound, told_route, unset_sound}
use Rattle.law_invariants.proofs.SoundLemmas.Routes.{withdrawn_route}
use Rattle.law_invariants.proofs.SoundLemmas.Sends.{if_sound, leaves, none_sent, or_sound, rest_sound, sends_of, Sound}
use Rattle.law_invariants.proofs.SoundLemmas.Sends.{then_sound}
use Rattle.law_invariants.proofs.SoundLemmas.Starts.{asked_sound, given_sound, refused_sound, returned_sound}
use Rattle.law_invariants.proofs.SoundLemmas.Starts.{start_sound}
use Rattle.law_invariants.specs.Flow.Sound.{IsCentreSound}
use Rattle.law_invariants.specs.Sound.Stays.{HasHandRange, IsInRange, StaysSound}
use Rattle.rbc_spec.proofs.Lists.{put_here, put_other}
use Rattle.rbc_spec.specs.Acts.{◌>>◌, Act, become, change_mission, hear, rest}
use Rattle.rbc_spec.specs.Centre.{Centre, Closed, is_up, Opened, Up}
use Rattle.rbc_spec.specs.Frame.{Announce, AskRight, Body, Cancel, carried_place, Frame, GiveRight, RefuseRight}
use Rattle.rbc_spec.specs.Frame.{ReturnRight, RouteAsk, RouteInfo, RouteReturn, RouteWithdraw, TakingOver, Yield}
use Rattle.rbc_spec.specs.Line.{is_centre, is_linked, IsLine, Line, section, train_number}
use Rattle.rbc_spec.specs.Links.{announced, is_train, of_train, received, route_returned, route_withdrawn, yielded}
use Rattle.rbc_spec.specs.Maps.{put}
use Rattle.rbc_spec.specs.Message.{EndOfMission, InitiationOfSession, Report, Request, SessionEstablished}
use Rattle.rbc_spec.specs.Message.{ShorteningGranted, ShorteningRejected, StartOfMission, TerminationOfSession}
use Rattle.rbc_spec.specs.Message.{TrainBody, TrainData, TrainMessage}
use Rattle.rbc_spec.specs.Outcome.{Early, ForeignEngine, Next, NoLink, Old, Reason, Taken as LinkAnswer, WrongPhase}
use Rattle.rbc_spec.specs.Place.{Position}
use Rattle.rbc_spec.specs.Rules.{answered, close_session, drop_wait, set_phase}
use Rattle.rbc_spec.specs.SectionRuns.{all_of}
use Rattle.rbc_spec.specs.Step.{Deliver, Effect, effect, Event, hear_and_answer, is_out_of_phase, offered, Set, silence}
use Rattle.rbc_spec.specs.Step.{stamp_of, state_after, taken_by, ticked, Train, Unset}

some_from : {X : Type 0} (o : Option X) → is_none o ≡ false → is_some o ≡ true
some_from (Some x) is = refl
some_from None is = cc

none_from : {X : Type 0} (o : Option X) → is_some o ≡ false → o ≡ None
none_from (Some x) is = cc
none_from None is = refl

-- linked centres are two
pub linked_apart : (line : Line) (c d : ℕ) → is_linked line c d ≡ true → (is_centre line d ≡ true) × (c ≢ d)
linked_apart line c d linked =
    let ends = and_parts (is_centre line c && is_centre line d) (not (c == d)) linked in (
      (and_parts (is_centre line c) (is_centre line d) ends.0).1,
      λ same. both_ways (c == d) (not-true (c == d) ends.1) (eq-eqb c d same),
    )

module _ (line : Line) (ok : IsLine line) (c : ℕ) where
  -- ## A train's message

  closed_sound : (t : ℕ) (k : Centre) → IsCentreSound line c k → Sound line c (close_session line c t k)
  closed_sound t k old = then_sound line c (set_phase t Closed >> change_mission t (λ m. record m { proposal = None }))
      (drop_wait line c t) k
      (then_sound line c (set_phase t Closed) (change_mission t (λ m. record m { proposal = None })) k
      (phase_sound line c k old t Closed)
      (λ j is sound. changed_sound line c j sound t (λ m. record m { proposal = None }) (λ n at. refl)
      (λ n at. other_words line ok c j n n.has_data n.is_ended None (sound.mission t n at))))
      (λ j is sound. dropped_sound line c j sound t)

  -- a start of mission arrives at a centre at which the train is known and no start of it waits
  abbrev MayStart : TrainBody → Centre → ℕ → Type 0
  MayStart body k t = (is_valid : Bool) (position : Position) → body ≡ StartOfMission is_valid position
      → IsKnown line k t × (k.wait t ≡ None)

  answer_sound : (m : TrainMessage) (body : TrainBody) (k : Centre) → IsCentreSound line c k
      → MayStart body k m.nid_engine → Sound line c (answered line c m body k)
  answer_sound m (TrainData position) k old start =
      then_sound line c (change_mission m.nid_engine (λ n. record n { has_data = true })) _ k
      (changed_sound line c k old m.nid_engine (λ n. record n { has_data = true }) (λ n at. refl)
      (λ n at. other_words line ok c k n true n.is_ended n.proposal (old.mission m.nid_engine n at)))
      (λ j is sound. said_sound line c j sound m.nid_engine)
  answer_sound m (Request position) k old start = request_sound line ok c m.nid_engine position k old
  answer_sound m (Report position) k old start = report_sound line ok c m.nid_engine position k old
  answer_sound m (ShorteningGranted stamp position) k old start = granting_sound line ok c m.nid_engine position k old
  answer_sound m (ShorteningRejected stamp position) k old start =
      changed_sound line c k old m.nid_engine (λ n. record n { proposal = None }) (λ n at. refl)
      (λ n at. other_words line ok c k n n.has_data n.is_ended None (old.mission m.nid_engine n at))
  answer_sound m (EndOfMission position) k old start = end_sound line ok c m.nid_engine position k old
  answer_sound m InitiationOfSession k old start =
      then_sound line c (close_session line c m.nid_engine >> set_phase m.nid_engine Opened) _ k
      (then_sound line c (close_session line c m.nid_engine) (set_phase m.nid_engine Opened) k
      (closed_sound m.nid_engine k old) (λ j is sound. phase_sound line c j sound m.nid_engine Opened))
      (λ j is sound. said_sound line c j sound m.nid_engine)
  answer_sound m TerminationOfSession k old start =
      then_sound line c (close_session line c m.nid_engine) _ k (closed_sound m.nid_engine k old)
      (λ j is sound. said_sound line c j sound m.nid_engine)
  answer_sound m (StartOfMission is_valid position) k old start =
      let may = start is_valid position refl in start_sound line ok c k old m.nid_engine is_valid position may.0 may.1
  answer_sound m SessionEstablished k old start = phase_sound line c k old m.nid_engine Up

  heard_sound : (m : TrainMessage) (k : Centre) → IsCentreSound line c k → Sound line c (hear m k)
  heard_sound m k old =
      leaves line c (free_sound line c k old (record k { heard = put k.heard m.nid_engine (Some m.t_train) })
      refl refl refl refl
      (λ u is. by_same u m.nid_engine (λ here. ap is_some (put_here k.heard m.nid_engine u (Some m.t_train) here))
      (λ other. ap is_some (put_other k.heard m.nid_engine u (Some m.t_train) other) ∙ is))
      (omega arith) old.asks) (none_sent line c)

  may_start : (m : TrainMessage) (k : Centre) → silence line c k m ≡ None
      → MayStart m.body (hear m k).state m.nid_engine
  may_start m k heard is_valid position is = (
    (
      some_from (train_number line m.nid_engine)
          (not_for line c k m (StartOfMission is_valid position) 0 ForeignEngine is heard refl),
      ap is_some (put_here k.heard m.nid_engine m.nid_engine (Some m.t_train) refl),
    ),
    none_from (k.wait m.nid_engine)
        (or_parts (not (is_up (k.phase m.nid_engine))) (is_some (k.wait m.nid_engine))
        (sym (ap (is_out_of_phase k m.nid_engine) is)
        ∙ not_for line c k m (StartOfMission is_valid position) 3 WrongPhase is heard refl)).1,
  )

  pub train_sound : (m : TrainMessage) (k : Centre) → IsCentreSound line c k
      → Sound line c (effect line c k (Train m)).reply
  train_sound m k old = by_silence (silence line c k m) refl
    where
      by_silence : (o : Option Reason) → silence line c k m ≡ o → Sound line c (option_map_or {U = Effect}
          (λ why. record { reply = rest k; link = None; silence = Some why }) o
          (record { reply = hear_and_answer line c m k; link = None; silence = None })).reply
      by_silence (Some why) is = rest_sound line c k old
      by_silence None is = then_sound line c (hear m) (answered line c m m.body) k (heard_sound m k old)
          (λ j same sound. answer_sound m m.body j sound
          (subst (λ (x : Centre). MayStart m.body x m.nid_engine) (sym same) (may_start m k is)))

  -- ## A frame

  module _ (d : ℕ) (to : is_centre line d ≡ true) (apart : c ≢ d) where
    trained : (t : ℕ) (act : Act) (k : Centre) → IsCentreSound line c k
        → (is_some (train_number line t) ≡ true → Sound line c (act k)) → Sound line c (of_train line t act k)
    trained t act k old sound = if_sound line c (is_train line t) act rest k sound (λ foreign. rest_sound line c k old)

    frame_sound : (body : Body) (k : Centre) → HasHandRange body → IsCentreSound line c k
        → Sound line c (received line c d body k)
    frame_sound (AskRight t) k range old = trained t _ k old (λ known. asked_sound line ok c d t k to old)
    frame_sound (GiveRight t) k range old = trained t _ k old (λ known. given_sound line ok c t k old)
    frame_sound (RefuseRight t) k range old = trained t _ k old (λ known. refused_sound line ok c t k old)
    frame_sound (ReturnRight t) k range old = trained t _ k old (λ known. returned_sound line ok c t k old)
    frame_sound (RouteAsk t first most) k range old =
        trained t _ k old (λ known. asked_route line ok c d to t first most k old)
    frame_sound (RouteInfo t r) k range old = trained t _ k old (λ known. told_route line ok c d to apart t r k old)
    frame_sound (RouteWithdraw t s) k range old =
        trained t _ k old (λ known. if_sound line c (is_some (section line s)) (route_withdrawn line c t s) rest k
        (λ there. withdrawn_route line ok c d to t s k old) (λ none. rest_sound line c k old))
    frame_sound (RouteReturn t r) k range old =
        trained t _ k old (λ known. if_sound line c (all_of (λ s. is_some (section line s)) r)
        (route_returned line c t r) rest k
        (λ there. returned_route line ok c d to t r k old) (λ none. rest_sound line c k old))
    frame_sound (Announce number t track) k range old =
        trained t _ k old (λ known. if_sound line c (nat_lt track (length line.tracks)) (announced d number t) rest k
        (λ there. announced_sound line ok c d number t k old) (λ none. rest_sound line c k old))
    frame_sound (Cancel number t) k range old = trained t _ k old (λ known. cancelled_sound line ok c d number t k old)
    frame_sound (TakingOver number t) k range old = trained t _ k old (λ known. over_sound line ok c d number t k old)
    frame_sound (Yield number t heard has_data is_ended place hand) k range old =
        trained t _ k old (λ known. or_sound line c (carried_place place)
        (yielded line c d number t hand heard has_data is_ended) rest k
        (λ at is. yielded_sound line ok c d number t heard hand has_data is_ended at k old known range)
        (λ none. rest_sound line c k old))

  pub deliver_sound : (d : ℕ) (f : Frame) (k : Centre) → HasHandRange f.body → IsCentreSound line c k
      → Sound line c (effect line c k (Deliver d f)).reply
  deliver_sound d f k range old = by_link (is_linked line c d) refl
    where
      by_answer : is_linked line c d ≡ true → (answer : LinkAnswer) → Sound line c (taken_by line c d f answer k)
      by_answer linked Next =
          let ends = linked_apart line c d linked in
          then_sound line c (become (λ j. record j { taken = put j.taken d f.number })) (received line c d f.body) k
          (leaves line c (free_sound line c k old (record k { taken = put k.taken d f.number }) refl refl refl refl
          (λ u is. is) (omega arith) old.asks) (none_sent line c))
          (λ j is sound. frame_sound d ends.0 ends.1 f.body j range sound)
      by_answer linked Old = rest_sound line c k old
      by_answer linked Early = rest_sound line c k old
      by_answer linked NoLink = rest_sound line c k old

      by_link : (b : Bool) → is_linked line c d ≡ b
          → Sound line c (taken_by line c d f (if b then offered (k.taken d) f.number else NoLink) k)
      by_link true linked = by_answer linked (offered (k.taken d) f.number)
      by_link false linked = rest_sound line c k old

  -- ## The step

  effect_sound : (event : Event) (k : Centre) → IsInRange event → IsCentreSound line c k
      → Sound line c (effect line c k event).reply
  effect_sound (Train m) k range old = train_sound m k old
  effect_sound (Set s) k range old = set_sound line ok c s k old
  effect_sound (Unset s) k range old = unset_sound line ok c s k old
  effect_sound (Deliver d f) k range old = deliver_sound d f k range old

  pub stays_sound : (k : Centre) (event : Event) → IsInRange event → IsCentreSound line c k → StaysSound line c k event
  stays_sound k event range old =
      let stamp : ℕ = stamp_of k event in
      let e : Effect = effect line c (ticked stamp k) event in
      let after = effect_sound event (ticked stamp k) range
      (free_sound line c k old (ticked stamp k) refl refl refl refl (λ u is. is) (omega arith) old.asks) in
      leaves line c (free_sound line c e.reply.state after.centre (state_after stamp k e) refl refl refl refl
      (λ u is. is) (omega arith) after.centre.asks) (sends_of line c after)
