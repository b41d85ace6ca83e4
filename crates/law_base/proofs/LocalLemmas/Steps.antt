-- A centre that is local stays so through each step that no frame brings.
use Rattle.std.proofs.Common.{[], ◌++◌, ◌+◌, ◌-◌, ◌==◌, ◌∙◌, ◌≡◌, ap, Bool, eq-eqb, false, if◌then◌else◌, is_none}
use Rattle.std.proofs.Common.{length, None, not, Option, refl, slice_get, Some, sym, true, ℕ}
use Rattle.std.proofs.lemmas.Bool.{both_ways, not-false}
use Rattle.std.specs.Option.{option_map_or}
use Rattle.law_base.proofs.LocalLemmas.Changes.{changed}
use Rattle.law_base.proofs.LocalLemmas.Entries.{unused_out, unused_taken}
use Rattle.law_base.proofs.LocalLemmas.Missions.{answered_request, answered_start, if_act, said, then_both}
use Rattle.law_base.proofs.LocalLemmas.Reports.{answered_report, answered_shortening, ended}
use Rattle.law_base.proofs.LocalLemmas.Stays.{alike_stays, by_same, if_stays, no_wait_dropped, or_stays, other_parts}
use Rattle.law_base.proofs.LocalLemmas.Stays.{rest_stays, Stays, then_stays}
use Rattle.law_base.specs.Local.Local.{hand_has, IsLocalAt, IsOrdered}
use Rattle.law_base.specs.Local.Stays.{StaysLocal}
use Rattle.rbc_spec.proofs.Lists.{none_passes, put_here, put_other}
use Rattle.rbc_spec.specs.Acts.{◌>>◌, become, change_mission, hear, may_propose, propose, propose_if_so, rest, say}
use Rattle.rbc_spec.specs.Centre.{Centre, Closed, Entry, is_out_for, is_taken_for, is_unused, Open, Opened, Out, Phase}
use Rattle.rbc_spec.specs.Centre.{Shut, Taken, Up}
use Rattle.rbc_spec.specs.Line.{is_home, Line, start, train_number}
use Rattle.rbc_spec.specs.Maps.{put}
use Rattle.rbc_spec.specs.Message.{EndOfMission, InitiationOfSession, Report, Request, SessionEstablished}
use Rattle.rbc_spec.specs.Message.{ShorteningGranted, ShorteningRejected, ShorteningRequest, StartOfMission}
use Rattle.rbc_spec.specs.Message.{TerminationOfSession, TrainBody, TrainData, TrainMessage}
use Rattle.rbc_spec.specs.Outcome.{Asked, Done, ForeignEngine, NotHome, Reason, reasons_of, Word}
use Rattle.rbc_spec.specs.Place.{group_start}
use Rattle.rbc_spec.specs.Rules.{answered, close_session, drop_wait, set_phase, tell}
use Rattle.rbc_spec.specs.Step.{Effect, effect, Event, holds, make, numbered, Set, set, silence, stamp_of, ticked}
use Rattle.rbc_spec.specs.Step.{Train, Unset, unset, wished}
use Rattle.rbc_spec.specs.Theorems.{IsOneCentreLine}

module _ (line : Line) (c : ℕ) where
  -- ## Sessions

  pub phase_set : (t : ℕ) (phase : Phase) (k : Centre) → IsLocalAt line c k → Stays line c (set_phase t phase k)
  phase_set t phase k h =
      record {
        state = other_parts line c k k.clock (put k.phase t phase) k.heard k.said k.announced k.taken h;
        frames = λ d. refl;
      }

  pub heard : (m : TrainMessage) (k : Centre) → IsLocalAt line c k → Stays line c (hear m k)
  heard m k h =
      record {
        state = other_parts line c k k.clock k.phase (put k.heard m.nid_engine (Some m.t_train)) k.said
            k.announced k.taken h;
        frames = λ d. refl;
      }

  pub told : (word : Word) (k : Centre) → IsLocalAt line c k → Stays line c (tell word k)
  told word k h = record { state = h; frames = λ d. refl }

  unproposed : (t : ℕ) (k : Centre) → IsLocalAt line c k
      → Stays line c (change_mission t (λ n. record n { proposal = None }) k)
  unproposed t k h = changed line c t (λ n. record n { proposal = None }) k h (λ n is. refl)
      (λ n is. let local = h.mission t n is in record {
        no_pool = local.no_pool;
        no_handing = local.no_handing;
        some = local.some;
        few = local.few;
        on_track = local.on_track;
      })

  pub closed : (t : ℕ) (k : Centre) → IsLocalAt line c k → Stays line c (close_session line c t k)
  closed t k h = then_both line c (set_phase t Closed >> change_mission t (λ n. record n { proposal = None }))
      (drop_wait line c t) k
      (then_both line c (set_phase t Closed) (change_mission t (λ n. record n { proposal = None })) k
      (phase_set t Closed k h) (λ j stays. unproposed t j stays))
      (λ j stays. alike_stays line c (drop_wait line c t j) (rest j) (no_wait_dropped line c t j (stays.no_wait t))
      (rest_stays line c j stays))

  -- ## The interlocking

  -- other wishes, of which none is of an unused section
  pub wished_local : (k : Centre) (wish : ℕ → Bool) → IsLocalAt line c k
      → ((s : ℕ) → is_unused (k.book s) ≡ true → wish s ≡ false) → IsLocalAt line c (record k { wish = wish })
  wished_local k wish h unwished = record {
    taken = h.taken;
    not_out = h.not_out;
    foreign = h.foreign;
    unwished = unwished;
    right = h.right;
    at_registrar = h.at_registrar;
    mission = h.mission;
    no_wait = h.no_wait;
    not_asked = h.not_asked;
    no_route_ask = h.no_route_ask;
    not_expected = h.not_expected;
    none_sent = h.none_sent;
  }

  -- an unused section of home becomes another that is unused
  pub made : (s : ℕ) (entry : Entry) (k : Centre) → IsLocalAt line c k → is_home line c s ≡ true
      → is_unused (k.book s) ≡ true → is_unused entry ≡ true → Stays line c (make s entry false k)
  made s entry k h home unused new = record {
    state = record {
      taken = λ u t. by_same u s
          (λ here. ap (is_taken_for t) (put_here k.book s u entry here) ∙ unused_taken t entry new
          ∙ sym (unused_taken t (k.book s) unused) ∙ h.taken s t ∙ ap (hand_has (k.mission t)) (sym here))
          (λ apart. ap (is_taken_for t) (put_other k.book s u entry apart) ∙ h.taken u t);
      not_out = λ u t. by_same u s
          (λ here. ap (is_out_for t) (put_here k.book s u entry here) ∙ unused_out t entry new)
          (λ apart. ap (is_out_for t) (put_other k.book s u entry apart) ∙ h.not_out u t);
      foreign = λ u away. by_same u s
          (λ here. absurd (both_ways (is_home line c s) (ap (is_home line c) (sym here) ∙ away) home))
          (λ apart. put_other k.book s u entry apart ∙ h.foreign u away);
      unwished = λ u is. by_same u s
          (λ here. put_here k.wish s u false here)
          (λ apart. put_other k.wish s u false apart
          ∙ h.unwished u (ap is_unused (sym (put_other k.book s u entry apart)) ∙ is));
      right = h.right;
      at_registrar = h.at_registrar;
      mission = h.mission;
      no_wait = h.no_wait;
      not_asked = h.not_asked;
      no_route_ask = h.no_route_ask;
      not_expected = h.not_expected;
      none_sent = h.none_sent;
    };
    frames = λ d. refl;
  }

  pub proposed : (t s : ℕ) (k : Centre) → IsLocalAt line c k → Stays line c (propose_if_so line t s k)
  proposed t s k h = or_stays line c (k.mission t) _ (rest k)
      (λ m at. if_stays line c (may_propose line t s m k) (propose line t s m k) (rest k)
      (λ may. then_both line c (say t m.place.group (ShorteningRequest (start line s - group_start line m.place)))
      (change_mission t (λ n. record n { proposal = Some (record { stamp = k.said t + 1; last_kept = s - 1 }) })) k
      (said line c t _ _ k h)
      (λ j stays. changed line c t
      (λ n. record n { proposal = Some (record { stamp = k.said t + 1; last_kept = s - 1 }) }) j stays
      (λ n is. refl) (λ n is. let local = stays.mission t n is in record {
        no_pool = local.no_pool;
        no_handing = local.no_handing;
        some = local.some;
        few = local.few;
        on_track = local.on_track;
      })))
      (λ may_not. rest_stays line c k h))
      (λ none. rest_stays line c k h)

  -- the acts for a wish, if its section is not out
  pub wished_back : (s : ℕ) (entry : Entry) (k : Centre) → IsLocalAt line c k → ((t : ℕ) → is_out_for t entry ≡ false)
      → Stays line c (wished line c s entry k)
  wished_back s Shut k h not_out = rest_stays line c k h
  wished_back s Open k h not_out = rest_stays line c k h
  wished_back s (Taken t) k h not_out = proposed t s k h
  wished_back s (Out t) k h not_out = absurd (both_ways (t == t) (not_out t) (eq-eqb t t refl))

  pub set_stays : (s : ℕ) (k : Centre) → IsLocalAt line c k → Stays line c (set line c s k)
  set_stays s k h = if_stays line c (not (is_home line c s)) _ _
      (λ away. told (NotHome s) k h)
      (λ here.
      let unwished : IsLocalAt line c (record k { wish = put k.wish s false }) = wished_local k (put k.wish s false) h
      (λ u unused. by_same u s (λ same. put_here k.wish s u false same) (λ apart. put_other k.wish s u false apart
      ∙ h.unwished u unused)) in
      then_stays line c (become (λ j. record j { wish = put j.wish s false }))
      ((if is_unused (k.book s) then make s Open false else rest) >> tell (Done s)) k (λ d. refl)
      (then_both line c (if is_unused (k.book s) then make s Open false else rest) (tell (Done s))
      (record k { wish = put k.wish s false })
      (if_act line c (is_unused (k.book s)) (make s Open false) rest (record k { wish = put k.wish s false })
      (λ unused. made s Open (record k { wish = put k.wish s false }) unwished
      (not-false (is_home line c s) here) unused refl)
      (λ used. rest_stays line c (record k { wish = put k.wish s false }) unwished))
      (λ j stays. told (Done s) j stays)))

  pub unset_stays : (s : ℕ) (k : Centre) → IsLocalAt line c k → Stays line c (unset line c s k)
  unset_stays s k h = if_stays line c (not (is_home line c s)) _ _
      (λ away. told (NotHome s) k h)
      (λ here. if_act line c (is_unused (k.book s)) (make s Shut false >> tell (Done s))
      ((become (λ j. record j { wish = put j.wish s true }) >> tell (Asked s)) >> wished line c s (k.book s)) k
      (λ unused. then_both line c (make s Shut false) (tell (Done s)) k
      (made s Shut k h (not-false (is_home line c s) here) unused refl) (λ j stays. told (Done s) j stays))
      (λ used.
      let wishes : IsLocalAt line c (record k { wish = put k.wish s true }) = wished_local k (put k.wish s true) h
      (λ u unused.
      by_same u s
      (λ same. absurd (both_ways (is_unused (k.book s)) used (ap (λ v. is_unused (k.book v)) (sym same) ∙ unused)))
      (λ apart. put_other k.wish s u true apart ∙ h.unwished u unused)) in
      then_both line c (become (λ j. record j { wish = put j.wish s true }) >> tell (Asked s))
      (wished line c s (k.book s)) k
      (then_both line c (become (λ j. record j { wish = put j.wish s true })) (tell (Asked s)) k
      (record { state = wishes; frames = λ d. refl }) (λ j stays. told (Asked s) j stays))
      (λ j stays. wished_back s (k.book s) j stays (λ t. h.not_out s t))))

  -- ## The step

  either : (o : Option Reason) (f : Reason → Effect) (e : Effect) → ((why : Reason) → Stays line c (f why).reply)
      → (o ≡ None → Stays line c e.reply) → Stays line c (option_map_or f o e).reply
  either (Some why) f e one two = one why
  either None f e one two = two refl

  ticked_local : (k : Centre) (stamp : ℕ) → IsLocalAt line c k → IsLocalAt line c (ticked stamp k)
  ticked_local k stamp h = other_parts line c k stamp k.phase k.heard k.said k.announced k.taken h

  -- a reply that stays and sends nothing, as a step
  step_stays : (k : Centre) (event : Event) → IsLocalAt line c k
      → Stays line c (effect line c (ticked (stamp_of k event) k) event).reply → StaysLocal line c k event
  step_stays k event h stays =
      let none : (d : ℕ) → numbered (stamp_of k event) (length (k.sent d))
      ((effect line c (ticked (stamp_of k event) k) event).reply.frames d) ≡ []
      = λ d. ap (numbered (stamp_of k event) (length (k.sent d))) (stays.frames d) in
      record {
        state = record {
          taken = stays.state.taken;
          not_out = stays.state.not_out;
          foreign = stays.state.foreign;
          unwished = stays.state.unwished;
          right = stays.state.right;
          at_registrar = stays.state.at_registrar;
          mission = stays.state.mission;
          no_wait = stays.state.no_wait;
          not_asked = stays.state.not_asked;
          no_route_ask = stays.state.no_route_ask;
          not_expected = stays.state.not_expected;
          none_sent = λ d. ap (λ xs. k.sent d ++ xs) (none d) ∙ ap (λ xs. xs ++ []) (h.none_sent d);
        };
        frames = none;
      }

  pub set_step_stays : (k : Centre) (s : ℕ) → IsLocalAt line c k → StaysLocal line c k (Set s)
  set_step_stays k s h =
      step_stays k (Set s) h (set_stays s (ticked (stamp_of k (Set s)) k) (ticked_local k (stamp_of k (Set s)) h))

  pub unset_step_stays : (k : Centre) (s : ℕ) → IsLocalAt line c k → StaysLocal line c k (Unset s)
  unset_step_stays k s h =
      step_stays k (Unset s) h (unset_stays s (ticked (stamp_of k (Unset s)) k)
      (ticked_local k (stamp_of k (Unset s)) h))

  -- a message with an answer is of a train of the line
  heard_known : (k : Centre) (m : TrainMessage) (body : TrainBody) → m.body ≡ body → silence line c k m ≡ None
      → is_none (train_number line m.nid_engine) ≡ false
  heard_known k m body is none = none_passes (holds line c k m) (reasons_of m.body) 0 ForeignEngine none
      (ap (λ (b : TrainBody). slice_get (reasons_of b) 0) is ∙ first body)
    where
      first : (b : TrainBody) → slice_get (reasons_of b) 0 ≡ Some ForeignEngine
      first InitiationOfSession = refl
      first TerminationOfSession = refl
      first SessionEstablished = refl
      first (StartOfMission is_valid position) = refl
      first (TrainData position) = refl
      first (Request position) = refl
      first (Report position) = refl
      first (ShorteningGranted stamp position) = refl
      first (ShorteningRejected stamp position) = refl
      first (EndOfMission position) = refl

  -- ## On a one-centre line

  module _ (ordered : IsOrdered line) (d : ℕ) (one : IsOneCentreLine line d) where
    -- ## A train's message

    pub answer_stays : (m : TrainMessage) (body : TrainBody) (k : Centre)
        → is_none (train_number line m.nid_engine) ≡ false → IsLocalAt line c k
        → Stays line c (answered line c m body k)
    answer_stays m (TrainData position) k known h =
        then_both line c (change_mission m.nid_engine (λ n. record n { has_data = true })) _ k
        (changed line c m.nid_engine (λ n. record n { has_data = true }) k h (λ n is. refl)
        (λ n is. let local = h.mission m.nid_engine n is in record {
          no_pool = local.no_pool;
          no_handing = local.no_handing;
          some = local.some;
          few = local.few;
          on_track = local.on_track;
        }))
        (λ j stays. said line c m.nid_engine _ _ j stays)
    answer_stays m (Request position) k known h = answered_request line c ordered d one m.nid_engine position k h
    answer_stays m (Report position) k known h = answered_report line c ordered m.nid_engine position k h
    answer_stays m (ShorteningGranted stamp position) k known h =
        answered_shortening line c ordered m.nid_engine position k h
    answer_stays m (ShorteningRejected stamp position) k known h = unproposed m.nid_engine k h
    answer_stays m (EndOfMission position) k known h = ended line c ordered m.nid_engine position k h
    answer_stays m InitiationOfSession k known h =
        then_both line c (close_session line c m.nid_engine >> set_phase m.nid_engine Opened) _ k
        (then_both line c (close_session line c m.nid_engine) (set_phase m.nid_engine Opened) k
        (closed m.nid_engine k h) (λ j stays. phase_set m.nid_engine Opened j stays))
        (λ j stays. said line c m.nid_engine _ _ j stays)
    answer_stays m TerminationOfSession k known h =
        then_both line c (close_session line c m.nid_engine) _ k (closed m.nid_engine k h)
        (λ j stays. said line c m.nid_engine _ _ j stays)
    answer_stays m (StartOfMission is_valid position) k known h =
        answered_start line c ordered d one m.nid_engine is_valid position k known h
    answer_stays m SessionEstablished k known h = phase_set m.nid_engine Up k h

    pub train_stays : (k : Centre) (m : TrainMessage) → IsLocalAt line c k → StaysLocal line c k (Train m)
    train_stays k m h =
        let j : Centre = ticked (stamp_of k (Train m)) k in
        let local = ticked_local k (stamp_of k (Train m)) h in
        step_stays k (Train m) h (either (silence line c j m) _ _
        (λ why. rest_stays line c j local)
        (λ none. then_both line c (hear m) (answered line c m m.body) j (heard m j local)
        (λ i stays. answer_stays m m.body i (heard_known j m m.body refl none) stays)))
