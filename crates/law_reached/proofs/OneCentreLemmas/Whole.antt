-- Replies to the interlocking, events and lists of events of a one-centre line leave no choice.
use Rattle.std.proofs.Common.{[], ◌∙◌, ◌∷◌, ◌≡◌, ap, append-nil, Bool, eq-eqb, Err, false, if◌then◌else◌, inl, List}
use Rattle.std.proofs.Common.{None, Ok, Option, refl, Some, subst, sym, true, ℕ}
use Rattle.std.proofs.lemmas.Bool.{both_ways}
use Rattle.std.specs.Bool.{MatchBool}
use Rattle.law_base.proofs.LocalLemmas.Worlds.{is_ordered, new_local, none_delivered, world_step_local}
use Rattle.law_base.specs.Local.Local.{hand_has, IsLocal}
use Rattle.law_invariants.proofs.FlowLemmas.Takes.{set_keeps, unset_keeps}
use Rattle.law_invariants.proofs.HandoverLemmas.Worlds.{world_step_sound}
use Rattle.law_invariants.specs.Flow.Flow.{Flow, flow_of}
use Rattle.law_invariants.specs.Flow.Leads.{said_by}
use Rattle.law_invariants.specs.Flow.Shows.{is_in_hand, shown, Shows}
use Rattle.law_reached.proofs.OneCentreLemmas.Messages.{given_is_hand, IsForced, message_forced, none_elsewhere}
use Rattle.law_reached.proofs.OneCentreLemmas.Messages.{none_in_hand, none_shut}
use Rattle.law_refinement.proofs.Events.{delivery_goes, fault_goes, Leaves, message_goes, set_goes, StandsStill}
use Rattle.law_refinement.proofs.Events.{unset_goes}
use Rattle.law_refinement.proofs.InOrderSteps.{effect_in_order}
use Rattle.law_refinement.proofs.Promises.{is_read, line_begins, stands_read}
use Rattle.law_refinement.proofs.RoutesLemmas.Interlocking.{set_leads, unset_leads}
use Rattle.law_refinement.proofs.Still.{at_work, shown_after}
use Rattle.law_refinement.proofs.Words.{begun, begun_at_work, begun_replied, IsAtWork}
use Rattle.law_refinement.specs.Meets.{Meets}
use Rattle.law_refinement.specs.Routes.Interlocking.{asked_for, LeadsAtOnce, LeadsFrom, LeadsUnset}
use Rattle.rbc_spec.proofs.Worlds.{bind_ok, same_ok}
use Rattle.rbc_spec.specs.Acts.{may_propose}
use Rattle.rbc_spec.specs.Centre as centre
use Rattle.rbc_spec.specs.Centre.{Centre, Entry, is_taken_for, Mission}
use Rattle.rbc_spec.specs.Line.{is_centre, is_home, IsLine, Line}
use Rattle.rbc_spec.specs.LineCentre as line_centre
use Rattle.rbc_spec.specs.LineCentre.{is_given_to, line_beginning, LineState, Mark, nothing, Said}
use Rattle.rbc_spec.specs.Maps.{has}
use Rattle.rbc_spec.specs.Outcome.{Asked, Done, NotHome}
use Rattle.rbc_spec.specs.OwnSteps.{is_unused_mark, set_mark, Sets, Tells, Unsets, wished_back}
use Rattle.rbc_spec.specs.Quiet.{Propose, Quiet, TakesAll}
use Rattle.rbc_spec.specs.ReadOff.{read_off}
use Rattle.rbc_spec.specs.Step as step
use Rattle.rbc_spec.specs.Step.{effect, stamp_of}
use Rattle.rbc_spec.specs.Theorems.{asked, Asks, ForcedRun, GoesForced, IsOneCentreLine, IsOneCentreRun, MayPropose}
use Rattle.rbc_spec.specs.Theorems.{not_asked}
use Rattle.rbc_spec.specs.World.{Answer, Bytes, Delivery, Event, mention, new_world, Set, Unset, World, world_run}
use Rattle.rbc_spec.specs.World.{world_step}

-- # An event of the interlocking leaves no choice. After an unset a request to shorten is sent if it may be, and
-- nothing
-- else is done.

-- a train is asked by that quiet step, which may be taken
asked_so : (line : Line) (mid : LineState) (c s t : ℕ) (quiets : List Quiet) (later : Said) (new : LineState)
    → TakesAll line mid quiets later new → quiets ≡ Propose t c s ∷ [] → Asks line mid c s quiets
asked_so line mid c s t quiets later new takes is =
    let one : TakesAll line mid (Propose t c s ∷ []) later new =
    subst (λ (qs : List Quiet). TakesAll line mid qs later new) is takes in
    subst (Asks line mid c s) (sym is) (asked t (one.0, one.2, one.3))

none_so : (line : Line) (mid there : LineState) (c s : ℕ) (quiets : List Quiet) → mid ≡ there → quiets ≡ []
    → ((t : ℕ) → MayPropose line there t c s → ⊥) → Asks line mid c s quiets
none_so line mid there c s quiets same is none =
    subst (Asks line mid c s) (sym is)
    (not_asked (subst (λ (u : LineState). (t : ℕ) → MayPropose line u t c s → ⊥) (sym same) none))

given_is_used : (mark : Mark) (t : ℕ) → is_given_to t mark ≡ true → is_unused_mark mark ≡ false
given_is_used (line_centre.Given e) t given = refl
given_is_used (line_centre.Kept e) t given = refl
given_is_used line_centre.Shut t given = cc
given_is_used line_centre.Open t given = cc

module _ (line : Line) (ok : IsLine line) (d : ℕ) (one : IsOneCentreLine line d) (w : World) (v : LineState)
    (meets : Meets line w v) (local : IsLocal line w) (c : ℕ) (to : is_centre line c ≡ true)
    (stamp : ℕ) (trains : List ℕ) (s : ℕ) where
  abbrev k : Centre
  k = step.ticked stamp (w.at c)

  abbrev work : IsAtWork line (flow_of w) c (w.at c) v
  work = at_work line w v meets c to stamp trains

  abbrev ticking : Flow
  ticking = begun line (flow_of w) c v stamp work

  ready : IsAtWork line ticking c k v
  ready = begun_at_work line (flow_of w) c v stamp work

  -- ## A set

  set_once : LeadsAtOnce line ticking c (Sets line v c s) (step.set line c s k)
  set_once = subst (λ (j : Centre). LeadsAtOnce line ticking c (Sets line v c s) (step.set line c s j)) ready.state
      (set_leads line ticking ready.sound v ready.shows c s to)

  pub set_forced : IsForced line ok d one w v meets local c to stamp trains (Set c s) (effect line c k (step.Set s))
  set_forced =
      let said : Said = said_by (step.set line c s k) in
      let once = set_once in (
        once.mid,
        record {
          piece = record {
            own = said;
            mid = once.mid;
            quiets = [];
            later = nothing;
            own_step = (to, once.own, refl);
            quiet_steps = (refl, refl);
            own_centre = refl;
            none_if_silent = inl refl;
            in_order = effect_in_order line c k (step.Set s);
            says = λ i. record { sayings = sym (append-nil said.sayings) i; words = sym (append-nil said.words) i };
          };
          own_step = tt;
          quiet_steps = refl;
        },
        shown_after line w v meets c to stamp trains (effect line c k (step.Set s)) once.mid
            ((set_keeps line c s).each k)
            (subst (λ (f : Flow). Shows line f once.mid)
            (begun_replied line (flow_of w) c v stamp work (step.set line c s k)) once.shows),
      )

  -- ## An unset

  unset_so : LeadsUnset line ticking c s (step.unset line c s k) v
  unset_so = subst (λ (j : Centre). LeadsUnset line ticking c s (step.unset line c s j) v) ready.state
      (unset_leads line ticking ready.sound v ready.shows c s to ok)

  module _ (h : LeadsFrom line ticking c (Unsets line v c s) (step.unset line c s k)) where
    -- a section of the home, by its entry in the book
    by_entry : (home : is_home line c s ≡ true) (e : Entry) → (w.at c).book s ≡ e → h.quiets ≡ asked_for line c s k e
        → MatchBool (is_unused_mark (v.mark s)) (Tells (Done s ∷ []) (set_mark s line_centre.Shut v) h.said h.mid)
        (Tells (Asked s ∷ []) (wished_back s true v) h.said h.mid)
        → Asks line h.mid c s h.quiets
    by_entry home centre.Shut book is own =
        let tells : Tells (Done s ∷ []) (set_mark s line_centre.Shut v) h.said h.mid = subst
        (λ (b : Bool). MatchBool b (Tells (Done s ∷ []) (set_mark s line_centre.Shut v) h.said h.mid)
        (Tells (Asked s ∷ []) (wished_back s true v) h.said h.mid))
        (ap is_unused_mark (meets.shows.mark s c home
        ∙ ap (λ (e : Entry). shown e (is_in_hand line (flow_of w) s)) book)) own in
        none_so line h.mid (set_mark s line_centre.Shut v) c s h.quiets tells.new_is is
        (none_shut line w v meets local c s)
    by_entry home centre.Open book is own =
        let tells : Tells (Done s ∷ []) (set_mark s line_centre.Shut v) h.said h.mid = subst
        (λ (b : Bool). MatchBool b (Tells (Done s ∷ []) (set_mark s line_centre.Shut v) h.said h.mid)
        (Tells (Asked s ∷ []) (wished_back s true v) h.said h.mid))
        (ap is_unused_mark (meets.shows.mark s c home
        ∙ ap (λ (e : Entry). shown e (is_in_hand line (flow_of w) s)) book)) own in
        none_so line h.mid (set_mark s line_centre.Shut v) c s h.quiets tells.new_is is
        (none_shut line w v meets local c s)
    by_entry home (centre.Out t) book is own = absurd
        (both_ways _ (ap (centre.is_out_for t) (sym book) ∙ (local.each c).not_out s t) (eq-eqb t t refl))
    by_entry home (centre.Taken t) book is own = by_mission ((w.at c).mission t) refl
      where
        in_hand : hand_has ((w.at c).mission t) s ≡ true
        in_hand = sym ((local.each c).taken s t) ∙ ap (is_taken_for t) book ∙ eq-eqb t t refl

        by_may : (m : Mission) → (w.at c).mission t ≡ Some m → is_given_to t (v.mark s) ≡ true → (b : Bool)
            → may_propose line t s m k ≡ b → h.quiets ≡ (if b then Propose t c s ∷ [] else [])
            → Asks line h.mid c s h.quiets
        by_may m at given true may quiets = asked_so line h.mid c s t h.quiets h.later h.new h.takes quiets
        by_may m at given false may quiets =
            let tells : Tells (Asked s ∷ []) (wished_back s true v) h.said h.mid = subst
            (λ (b : Bool). MatchBool b (Tells (Done s ∷ []) (set_mark s line_centre.Shut v) h.said h.mid)
            (Tells (Asked s ∷ []) (wished_back s true v) h.said h.mid))
            (given_is_used (v.mark s) t given) own in
            none_so line h.mid (wished_back s true v) c s h.quiets tells.new_is quiets
            (none_in_hand line w v meets local c s t m at given may)

        by_mission : (o : Option Mission) → (w.at c).mission t ≡ o → Asks line h.mid c s h.quiets
        by_mission None none = absurd (let wrong : false ≡ true = sym (ap (λ o. hand_has o s) none) ∙ in_hand in cc)
        by_mission (Some m) at = by_may m at (given_is_hand line w v meets local c t m at s
            ∙ sym (ap (λ o. hand_has o s) at) ∙ in_hand) (may_propose line t s m k) refl
            (is ∙ ap (λ (o : Option Mission). if has (λ n. may_propose line t s n k) o then Propose t c s
            ∷ [] else []) at)

    unset_asks : h.quiets ≡ (if is_home line c s then asked_for line c s k (k.book s) else [])
        → Asks line h.mid c s h.quiets
    unset_asks is = by_home (is_home line c s) refl h.own is
      where
        by_home : (b : Bool) → is_home line c s ≡ b
            → MatchBool b (MatchBool (is_unused_mark (v.mark s))
            (Tells (Done s ∷ []) (set_mark s line_centre.Shut v) h.said h.mid)
            (Tells (Asked s ∷ []) (wished_back s true v) h.said h.mid))
            (Tells (NotHome s ∷ []) v h.said h.mid)
            → h.quiets ≡ (if b then asked_for line c s k (k.book s) else []) → Asks line h.mid c s h.quiets
        by_home true home own quiets = by_entry home ((w.at c).book s) refl quiets own
        by_home false away own quiets = none_so line h.mid v c s h.quiets own.new_is quiets
            (none_elsewhere line w v meets local c s away)

  pub unset_forced : IsForced line ok d one w v meets local c to stamp trains (Unset c s)
      (effect line c k (step.Unset s))
  unset_forced =
      let h = unset_so.leads in
      let quiets : h.quiets ≡ (if is_home line c s then asked_for line c s k (k.book s) else []) =
      unset_so.asks ∙ ap (λ (j : Centre). if is_home line c s then asked_for line c s j (j.book s) else [])
      ready.state in (
        h.new,
        record {
          piece = record {
            own = h.said;
            mid = h.mid;
            quiets = h.quiets;
            later = h.later;
            own_step = (to, h.own, refl);
            quiet_steps = h.takes;
            own_centre = h.own_centre;
            none_if_silent = inl refl;
            in_order = effect_in_order line c k (step.Unset s);
            says = h.says;
          };
          own_step = tt;
          quiet_steps = unset_asks h quiets;
        },
        shown_after line w v meets c to stamp trains (effect line c k (step.Unset s)) h.new
            ((unset_keeps line c s).each k)
            (subst (λ (f : Flow). Shows line f h.new)
            (begun_replied line (flow_of w) c v stamp work (step.unset line c s k)) h.shows),
      )

-- # Each event at the centres of a one-centre line is met without free choice.

module _ (line : Line) (ok : IsLine line) (d : ℕ) (one : IsOneCentreLine line d) (w : World) (v : LineState)
    (meets : Meets line w v) (local : IsLocal line w) where
  still : StandsStill line w v meets (GoesForced line v)
  still = record {
    fault = λ c number to. (to, refl, refl);
    bytes_nowhere = λ c read away. (away, refl);
    set_nowhere = λ c s away. (away, refl);
    unset_nowhere = λ c s away. (away, refl);
    not_sent = λ a b number. refl;
  }

  -- no frame was ever sent
  event_goes : (event : Event) → Leaves line w v meets (GoesForced line v) event (world_step line w event)
  event_goes (Bytes c (Ok m)) = message_goes line w v meets (GoesForced line v) still c m
      (λ to. message_forced line ok d one w v meets local c to (stamp_of (w.at c) (step.Train m))
      (mention line m.nid_engine w.trains) m)
  event_goes (Bytes c (Err number)) = fault_goes line w v meets (GoesForced line v) still c number
  event_goes (Set c s) = set_goes line w v meets (GoesForced line v) still c s
      (λ to. set_forced line ok d one w v meets local c to (stamp_of (w.at c) (step.Set s)) w.trains s)
  event_goes (Unset c s) = unset_goes line w v meets (GoesForced line v) still c s
      (λ to. unset_forced line ok d one w v meets local c to (stamp_of (w.at c) (step.Unset s)) w.trains s)
  event_goes (Delivery a b number) = delivery_goes line w v meets (GoesForced line v) still a b number
      (λ f sent to. absurd (let wrong : None ≡ Some f = sym (none_delivered line w local a b number) ∙ sent in cc))

  -- after each event, the one line centre goes on so, and shows the new world
  pub each_event_goes : (event : Event) (answer : Answer) (new : World) → world_step line w event ≡ Ok (answer, new)
      → (u : LineState) × GoesForced line v event answer u × Meets line new u
  each_event_goes event answer new is =
      let goes = event_goes event answer new is in
      (goes.0, goes.1, record { sound = world_step_sound line ok w meets.sound event answer new is; shows = goes.2 })

-- # Whole lists of events at the centres of a one-centre line are met without free choice.

module _ (line : Line) (ok : IsLine line) (d : ℕ) (one : IsOneCentreLine line d) where
  -- each step, between the states that are read off
  pub step_read : (w new : World) (event : Event) (answer : Answer) → Meets line w (read_off line w) → IsLocal line w
      → world_step line w event ≡ Ok (answer, new)
      → GoesForced line (read_off line w) event answer (read_off line new)
  step_read w new event answer meets local is =
      let next = each_event_goes line ok d one w (read_off line w) meets local event answer new is in
      subst (GoesForced line (read_off line w) event answer) (is_read line new next.0 next.2) next.1

  -- from such a world on
  run_goes : (events : List Event) (w : World) (v : LineState) → Meets line w v → IsLocal line w
      → (answers : List Answer) (last : World) → world_run line w events ≡ Ok (answers, last)
      → (u : LineState) × ForcedRun line v events answers u × Meets line last u
  unfolding world_run
  run_goes [] w v meets local answers last is =
      subst (λ (q : List Answer × World). (u : LineState) × ForcedRun line v [] q.0 u × Meets line q.1 u)
      (same_ok ([], w) (answers, last) is) (v, refl, meets)
  run_goes (event ∷ events) w v meets local answers last is =
      let first = bind_ok (world_step line w event) _ (answers, last) is in
      let others = bind_ok (world_run line first.0.1 events) _ (answers, last) first.2 in
      let next = each_event_goes line ok d one w v meets local event first.0.0 first.0.1 first.1 in
      let rest = run_goes events first.0.1 next.0 next.2
      (world_step_local line w local (is_ordered line ok) d one event first.0.0 first.0.1 first.1)
      others.0.0 others.0.1 others.1 in
      subst (λ (q : List Answer × World). (u : LineState) × ForcedRun line v (event ∷ events) q.0 u × Meets line q.1 u)
      (same_ok (first.0.0 ∷ others.0.0, others.0.1) (answers, last) others.2)
      (rest.0, (next.0, next.1, rest.1), rest.2)

  -- from the initial state to the state that is read off
  module _ (events : List Event) (answers : List Answer) (w : World)
      (is : world_run line (new_world line) events ≡ Ok (answers, w)) where
    goes : (u : LineState) × ForcedRun line line_beginning events answers u × Meets line w u
    goes = run_goes events (new_world line) line_beginning (line_begins line) (new_local line) answers w is

    pub run_read : ForcedRun line line_beginning events answers (read_off line w)
    run_read = subst (ForcedRun line line_beginning events answers) (is_read line w goes.0 goes.2) goes.1

    -- the answers and states of the centres are such a run
    pub run_is : IsOneCentreRun line events answers w
    run_is = record { last = read_off line w; is_run = run_read; stands = stands_read line w goes.0 goes.2 }
