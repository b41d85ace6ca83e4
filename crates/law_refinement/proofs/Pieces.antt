-- Each step of a centre is a piece of the one line centre's run.
use Rattle.std.proofs.Common.{[], ⊎_elim, ◌&&◌, ◌+◌, ◌∙◌, ◌∷◌, ◌≡◌, ap, Bool, false, if◌then◌else◌, inl, List, None}
use Rattle.std.proofs.Common.{not, Ok, Option, refl, Some, subst, sym, true, ℕ}
use Rattle.std.proofs.lemmas.Option.{same_Some}
use Rattle.std.specs.Bool.{MatchBool}
use Rattle.std.specs.List.{find, list_all}
use Rattle.std.specs.Option.{option_map_or}
use Rattle.law_base.specs.Counting.Network.{TakesHead, took}
use Rattle.law_invariants.proofs.FlowLemmas.Shown.{own_of}
use Rattle.law_invariants.proofs.FlowLemmas.Steps.{at_head, is_next}
use Rattle.law_invariants.proofs.FlowLemmas.Takes.{deliver_taken, set_keeps, train_keeps, unset_keeps}
use Rattle.law_invariants.proofs.HandoverLemmas.Worlds.{linked_next}
use Rattle.law_invariants.specs.Flow.Flow.{Flow, flow_of, took_frame}
use Rattle.law_invariants.specs.Flow.Leads.{HeardAs, Leads, Reports, said_by}
use Rattle.law_invariants.specs.Flow.Numbers.{taken_after}
use Rattle.law_invariants.specs.Flow.Shows.{Shows}
use Rattle.law_refinement.proofs.Cited.{body_leads, ended, had_data, initiated, reported, requested}
use Rattle.law_refinement.proofs.Cited.{session_established, set_leads_on, shortening_granted, shortening_rejected}
use Rattle.law_refinement.proofs.Cited.{started, terminated, unset_leads_on}
use Rattle.law_refinement.proofs.InOrderSteps.{effect_in_order}
use Rattle.law_refinement.proofs.Silence as silence
use Rattle.law_refinement.proofs.Still.{at_work, Met, shown_after, silent_met, stray_met}
use Rattle.law_refinement.proofs.Words.{begun, begun_at_work, begun_brought, begun_replied, begun_taken, IsAtWork}
use Rattle.law_refinement.proofs.Words.{message, shows_stamped}
use Rattle.law_refinement.specs.Announced.{HasAnnounced}
use Rattle.law_refinement.specs.Meets.{Meets}
use Rattle.law_refinement.specs.Routes.Interlocking.{LeadsFrom}
use Rattle.rbc_spec.specs.Acts.{◌>>◌, rest}
use Rattle.rbc_spec.specs.Centre.{Centre}
use Rattle.rbc_spec.specs.Frame.{Frame}
use Rattle.rbc_spec.specs.Line.{is_centre, is_linked, IsLine, Line}
use Rattle.rbc_spec.specs.LineCentre.{hears, is_at, LineMission, LineState, nothing, Said, supervises}
use Rattle.rbc_spec.specs.Links.{received}
use Rattle.rbc_spec.specs.Maps.{put}
use Rattle.rbc_spec.specs.Message.{EndOfMission, InitiationOfSession, Report, Request, SessionEstablished}
use Rattle.rbc_spec.specs.Message.{ShorteningGranted, ShorteningRejected, StartOfMission, TerminationOfSession}
use Rattle.rbc_spec.specs.Message.{TrainBody, TrainData, TrainMessage}
use Rattle.rbc_spec.specs.Outcome as outcome
use Rattle.rbc_spec.specs.Outcome.{Early, Next, NoLink, NotSupervised, Old, Reason, reasons_of}
use Rattle.rbc_spec.specs.OwnSteps.{SaysNothing, Sets, track_of, Unsets}
use Rattle.rbc_spec.specs.Place.{place_on, Position}
use Rattle.rbc_spec.specs.Quiet.{is_of_centre}
use Rattle.rbc_spec.specs.Run as run
use Rattle.rbc_spec.specs.Run.{heard, listened, may_listen, OwnStep, Piece, Steps, TellsInOrder}
use Rattle.rbc_spec.specs.Step as step
use Rattle.rbc_spec.specs.Step.{Effect, effect, link_answer, outcome_of, state_after, taken_by}
use Rattle.rbc_spec.specs.World.{Bytes, centre_of, Delivery, Event, Set, Unset, World}

-- ## A train that is listened to

pub why_listened : (line : Line) (c : ℕ) (position : Position) (o : Option Reason)
    → may_listen line c (Report position) o ≡ true → o ≡ Some NotSupervised
why_listened line c position (Some NotSupervised) h = refl
why_listened line c position o h = cc

pub not_here : (c : ℕ) (o : Option LineMission) → not (option_map_or (λ m. is_at c m.supervisor && true) o false) ≡ true
    → option_map_or (λ m. is_at c m.supervisor) o false ≡ false
not_here c None h = refl
not_here c (Some m) h = by_centre (is_at c m.supervisor) h
  where
    by_centre : (b : Bool) → not (b && true) ≡ true → b ≡ false
    by_centre true e = cc
    by_centre false e = refl

pub found : (test : Reason → Bool) (why : Reason) (xs : List Reason) → find test xs ≡ Some why → test why ≡ true
found test why [] is = cc
found test why (x ∷ xs) is = by_test (λ e. found test why xs e) (test x) refl is
  where
    by_test : (find test xs ≡ Some why → test why ≡ true) → (b : Bool) → test x ≡ b
        → (if b then Some x else find test xs) ≡ Some why → test why ≡ true
    by_test others true so e = ap test (sym (same_Some x why e)) ∙ so
    by_test others false so e = others e

module _ (line : Line) (v : LineState) (c t_train t : ℕ) (said : Said) (mid : LineState) where
  -- only the stamp of its report is recorded
  listens : (body : TrainBody) → may_listen line c body (run.silence line v c (message t_train t body)) ≡ true
      → HeardAs line (hears c (message t_train t body) v) c (message t_train t body) body said mid → (said ≡ nothing)
      × (mid ≡ hears c (message t_train t body) v)
  listens (Report position) may own = let says = subst
      (λ (b : Bool). MatchBool b (Reports line t c (place_on line (track_of heard_by t) position) heard_by said mid)
      (SaysNothing heard_by said mid)) elsewhere own
      in (says.said_is, says.new_is)
    where
      heard_by : LineState
      heard_by = hears c (message t_train t (Report position)) v

      elsewhere : supervises heard_by c t ≡ false
      elsewhere =
          not_here c (v.mission t) (found (run.holds line v c (message t_train t (Report position)) (Report position))
          NotSupervised (reasons_of (Report position))
          (why_listened line c position (run.silence line v c (message t_train t (Report position))) may))
  listens SessionEstablished may own = cc
  listens (StartOfMission is_valid position) may own = cc
  listens (TrainData position) may own = cc
  listens (Request position) may own = cc
  listens (ShorteningGranted s position) may own = cc
  listens (ShorteningRejected s position) may own = cc
  listens (EndOfMission position) may own = cc
  listens InitiationOfSession may own = cc
  listens TerminationOfSession may own = cc

-- ## A step

module _ (line : Line) (ok : IsLine line) (w : World) (v : LineState) (meets : Meets line w v) (c : ℕ)
    (to : is_centre line c ≡ true)
    (announced : HasAnnounced line c (w.at c)) (stamp : ℕ) (trains : List ℕ) where
  abbrev k : Centre
  k = step.ticked stamp (w.at c)

  abbrev work : IsAtWork line (flow_of w) c (w.at c) v
  work = at_work line w v meets c to stamp trains

  abbrev ticking : Flow
  ticking = begun line (flow_of w) c v stamp work

  abbrev MetSo : Event → Effect → Type 0
  MetSo event e = Met line w v meets c to stamp trains event e

  -- a step whose first part is an own step
  own_met : (event : Event) (e : Effect) (Owns : Said → LineState → Type 0)
      → ((said : Said) (mid : LineState) → Owns said mid → OwnStep line v event said mid None) → centre_of event ≡ c
      → e.silence ≡ None → e.reply.state.taken ≡ (w.at c).taken → TellsInOrder e.reply.words
      → LeadsFrom line ticking c Owns e.reply → MetSo event e
  own_met event e Owns own here answered still order h = (
    h.new,
    record {
      own = h.said;
      mid = h.mid;
      quiets = h.quiets;
      later = h.later;
      own_step = subst (OwnStep line v event h.said h.mid) (sym answered) (own h.said h.mid h.own);
      quiet_steps = h.takes;
      own_centre = subst (λ d. list_all (is_of_centre line d) h.quiets ≡ true) (sym here) h.own_centre;
      none_if_silent = inl answered;
      in_order = order;
      says = h.says;
    },
    shown_after line w v meets c to stamp trains e h.new still
        (subst (λ (f : Flow). Shows line f h.new) (begun_replied line (flow_of w) c v stamp work e.reply) h.shows),
  )

  -- ## A message

  abbrev of_silence : TrainMessage → Option Reason → Effect
  of_silence m o = option_map_or {U = Effect} (λ why. record { reply = rest k; link = None; silence = Some why }) o
      (record { reply = step.hear_and_answer line c m k; link = None; silence = None })

  answers : (t_train t : ℕ) (body : TrainBody) → step.silence line c k (message t_train t body) ≡ None
      → LeadsFrom line ticking c (HeardAs line (hears c (message t_train t body) v) c (message t_train t body) body)
      (step.hear_and_answer line c (message t_train t body) k)
  answers t_train t InitiationOfSession =
      initiated line ok ticking c k v t_train t (begun_at_work line (flow_of w) c v stamp work)
  answers t_train t TerminationOfSession =
      terminated line ok ticking c k v t_train t (begun_at_work line (flow_of w) c v stamp work)
  answers t_train t SessionEstablished =
      session_established line ok ticking c k v t_train t (begun_at_work line (flow_of w) c v stamp work)
  answers t_train t (StartOfMission is_valid position) =
      started line ok is_valid position ticking c k v t_train t (begun_at_work line (flow_of w) c v stamp work)
  answers t_train t (TrainData position) =
      had_data line ok position ticking c k v t_train t (begun_at_work line (flow_of w) c v stamp work)
  answers t_train t (Request position) =
      requested line ok position ticking c k v t_train t (begun_at_work line (flow_of w) c v stamp work) announced
  answers t_train t (Report position) =
      reported line ok position ticking c k v t_train t (begun_at_work line (flow_of w) c v stamp work)
  answers t_train t (ShorteningGranted s position) =
      shortening_granted line ok s position ticking c k v t_train t (begun_at_work line (flow_of w) c v stamp work)
  answers t_train t (ShorteningRejected s position) =
      shortening_rejected line ok s position ticking c k v t_train t (begun_at_work line (flow_of w) c v stamp work)
  answers t_train t (EndOfMission position) =
      ended line ok position ticking c k v t_train t (begun_at_work line (flow_of w) c v stamp work)

  -- the own step of a message that a centre answers
  hears_or_listens : (m : TrainMessage) → step.silence line c k m ≡ None → (said : Said) (mid : LineState)
      → HeardAs line (hears c m v) c m m.body said mid → Steps line v c m said mid None
  hears_or_listens m is said mid own = ⊎_elim
      (λ (none : run.silence line v c m ≡ None). heard none refl
      (own_of line v c m.t_train m.nid_engine said mid m.body none own))
      (λ (may : may_listen line c m.body (run.silence line v c m) ≡ true).
      let only = listens line v c m.t_train m.nid_engine said mid m.body may own in listened may refl only.0 only.1)
      (silence.heard line w v meets.sound.flow meets.shows c m
      (sym (silence.silent_by_clock line c stamp (w.at c) m) ∙ is))

  by_silence : (m : TrainMessage) (o : Option Reason) → step.silence line c k m ≡ o
      → (of_silence m o).reply.state.taken ≡ (w.at c).taken → TellsInOrder (of_silence m o).reply.words
      → MetSo (Bytes c (Ok m)) (of_silence m o)
  by_silence m (Some why) is still order = let stays = silent_met line w v meets c to stamp trains m why is in
      (v, stays.0, stays.1)
  by_silence m None is still order =
      own_met (Bytes c (Ok m)) (of_silence m None) (HeardAs line (hears c m v) c m m.body)
      (λ said mid own. (to, hears_or_listens m is said mid own)) refl refl still order
      (answers m.t_train m.nid_engine m.body is)

  pub message_met : (m : TrainMessage) → MetSo (Bytes c (Ok m)) (effect line c k (step.Train m))
  message_met m = by_silence m (step.silence line c k m) refl (train_keeps line c m k)
      (effect_in_order line c k (step.Train m))

  -- ## The interlocking

  pub set_met : (s : ℕ) → MetSo (Set c s) (effect line c k (step.Set s))
  set_met s = own_met (Set c s) (effect line c k (step.Set s)) (Sets line v c s) (λ said mid own. (to, own, refl)) refl
      refl ((set_keeps line c s).each k)
      (effect_in_order line c k (step.Set s))
      (set_leads_on line ok ticking c s k v (begun_at_work line (flow_of w) c v stamp work))

  pub unset_met : (s : ℕ) → MetSo (Unset c s) (effect line c k (step.Unset s))
  unset_met s = own_met (Unset c s) (effect line c k (step.Unset s)) (Unsets line v c s)
      (λ said mid own. (to, own, refl)) refl refl ((unset_keeps line c s).each k)
      (effect_in_order line c k (step.Unset s))
      (unset_leads_on line ok ticking c s k v (begun_at_work line (flow_of w) c v stamp work))

  -- ## A frame

  module _ (a number : ℕ) (f : Frame) (from : is_centre line a ≡ true)
      (head : link_answer line c (w.at c) a f ≡ Next → TakesHead (flow_of w) a c f.body) where
    abbrev of_answer : outcome.Taken → Effect
    of_answer o = record { reply = taken_by line c a f o k; link = Some o; silence = None }

    next_reply : taken_by line c a f Next k ≡ received line c a f.body (took_frame a f.number k)
    unfolding ◌>>◌
    next_reply = refl

    next_follows : link_answer line c (w.at c) a f ≡ Next
        → Leads line (took ticking a c) c (taken_by line c a f Next k) v
    next_follows is = subst (λ (r : _). Leads line (took ticking a c) c r v) (sym next_reply)
        (body_leads line ok f.body ticking a c f.number k v
        (begun_brought line (flow_of w) c v stamp work a f.body from
        (linked_next (is_linked line c a) ((w.at c).taken a) f.number is).0 (head is)))

    -- only quiet steps
    frame_piece : (o : outcome.Taken) (h : Leads line (took ticking a c) c (taken_by line c a f o k) v)
        → TellsInOrder (taken_by line c a f o k).words
        → Piece line v (Delivery a c number) (outcome_of stamp (w.at c) (of_answer o)) h.new
    frame_piece o h order = record {
      own = nothing;
      mid = v;
      quiets = h.quiets;
      later = said_by (taken_by line c a f o k);
      own_step = (refl, refl, refl);
      quiet_steps = h.takes;
      own_centre = h.own_centre;
      none_if_silent = inl refl;
      in_order = order;
      says = refl;
    }

    by_answer : (o : outcome.Taken) → link_answer line c (w.at c) a f ≡ o
        → (taken_by line c a f o k).state.taken ≡ taken_after a f o (w.at c)
        → TellsInOrder (taken_by line c a f o k).words
        → MetSo (Delivery a c number) (of_answer o)
    by_answer Next is taken order =
        let h = next_follows is in
        let number_is : f.number ≡ (w.at c).taken a + 1 =
        is_next ((w.at c).taken a) f.number (linked_next (is_linked line c a) ((w.at c).taken a) f.number is).1 in (
          h.new,
          frame_piece Next h order,
          subst (λ (u : Flow). Shows line u h.new)
              (sym (at_head w c stamp (w.at c) (of_answer Next) trains (λ d. refl) a (λ x. ap (λ (g : ℕ → ℕ). g x) taken
              ∙ ap (λ n. put (w.at c).taken a n x) number_is)))
              (shows_stamped line (took (flow_of w) a c) c (of_answer Next).reply.state (of_answer Next).reply.frames
              (of_answer Next).reply.state.clock
              (state_after stamp (w.at c) (of_answer Next)).sent (of_answer Next).reply.state.taken h.new
              (subst (λ (u : Flow). Shows line u h.new)
              (begun_taken line (flow_of w) c v stamp work a (of_answer Next).reply) h.shows)),
        )
    by_answer Old is taken order = let stays = stray_met line w v meets c to stamp trains a number f Old refl in
        (v, stays.0, stays.1)
    by_answer Early is taken order = let stays = stray_met line w v meets c to stamp trains a number f Early refl in
        (v, stays.0, stays.1)
    by_answer NoLink is taken order = let stays = stray_met line w v meets c to stamp trains a number f NoLink refl in
        (v, stays.0, stays.1)

    pub frame_met : MetSo (Delivery a c number) (effect line c k (step.Deliver a f))
    frame_met = by_answer (link_answer line c (w.at c) a f) refl (deliver_taken line c a stamp f (w.at c))
        (effect_in_order line c k (step.Deliver a f))
