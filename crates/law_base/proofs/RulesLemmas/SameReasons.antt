-- The one line centre has a centre's reasons of silence, in each world that its state represents.
use Rattle.std.proofs.Common.{⊎_elim, ◌&&◌, ◌*◌, ◌+◌, ◌-◌, ◌<◌, ◌==◌, ◌∙◌, ◌≡◌, ◌⊎◌, ap, arith, Bool, eq-eqb, false}
use Rattle.std.proofs.Common.{if◌then◌else◌, inl, inr, is_none, is_some, nat_le, None, not, Option, refl, Some, subst}
use Rattle.std.proofs.Common.{sym, true, ℕ}
use Rattle.std.proofs.lemmas.Bool.{and_left, and_parts, cases_Bool}
use Rattle.std.specs.List.{find}
use Rattle.std.specs.Option.{option_map_or}
use Rattle.law_base.specs.Rules.Silences.{EndsOnLine, HasEndIfAsked}
use Rattle.rbc_spec.proofs.Held.{held_as, held_first, is_seen, is_the_centres, is_there}
use Rattle.rbc_spec.proofs.Lists.{find-range}
use Rattle.rbc_spec.proofs.Runs.{within_after, within_from, within_true}
use Rattle.rbc_spec.specs.Centre as centre
use Rattle.rbc_spec.specs.Centre.{is_closed, is_expected, is_up}
use Rattle.rbc_spec.specs.Line.{end, Line}
use Rattle.rbc_spec.specs.LineCentre as line_centre
use Rattle.rbc_spec.specs.LineCentre.{is_at, is_given_to, LineState}
use Rattle.rbc_spec.specs.Message.{EndOfMission, InitiationOfSession, is_stale, Report, Request, SessionEstablished}
use Rattle.rbc_spec.specs.Message.{ShorteningGranted, ShorteningRejected, StartOfMission, TerminationOfSession}
use Rattle.rbc_spec.specs.Message.{TrainBody, TrainData, TrainMessage}
use Rattle.rbc_spec.specs.Outcome.{ForeignEngine, MissionEnded, NoPlace, NoSession, NoTrainData, NotSupervised}
use Rattle.rbc_spec.specs.Outcome.{ProposalPending, Reason, reasons_of, StaleStamp, Unasked, WrongPhase}
use Rattle.rbc_spec.specs.Place.{group_start, place_on, Position}
use Rattle.rbc_spec.specs.ReadOff.{seen, StandsFor}
use Rattle.rbc_spec.specs.Run as run
use Rattle.rbc_spec.specs.SectionRuns.{next_after, within}
use Rattle.rbc_spec.specs.Sections.{section_count}
use Rattle.rbc_spec.specs.Step as step
use Rattle.rbc_spec.specs.World.{World}

true_and : (a b : Bool) → a ≡ true → (a && b) ≡ b
true_and true b is = refl
true_and false b is = cc

module _ (line : Line) (w : World) (v : LineState) (stands : StandsFor line w v) (c t : ℕ) where
  abbrev k : centre.Centre
  k = w.at c

  abbrev mission : Option centre.Mission
  mission = k.mission t

  here_at : (test : line_centre.LineMission → Bool) (n : centre.Mission) → mission ≡ Some n
      → run.has_here v c t test ≡ test (seen c n)
  here_at test n has =
      ap (λ (o : Option line_centre.LineMission). option_map_or (λ m. is_at c m.supervisor && test m) o false)
      (is_seen line w v stands t c n has) ∙ true_and (c == c) (test (seen c n)) (eq-eqb c c refl)

  not_here : (test : line_centre.LineMission → Bool) → mission ≡ None → run.has_here v c t test ≡ false
  not_here test none = by_mission (v.mission t) refl
    where
      away : (m : line_centre.LineMission) → v.mission t ≡ Some m → (b : Bool) → is_at c m.supervisor ≡ b
          → is_at c m.supervisor ≡ false
      away m is false at = at
      away m is true at = absurd (let theirs = is_the_centres line w v stands t c m is at in
          let wrong : None ≡ Some theirs.0 = sym none ∙ theirs.1 in cc)

      by_mission : (o : Option line_centre.LineMission) → v.mission t ≡ o
          → option_map_or (λ m. is_at c m.supervisor && test m) o false ≡ false
      by_mission (Some m) is = and_left (is_at c m.supervisor) (test m) (away m is (is_at c m.supervisor) refl)
      by_mission None is = refl

  -- the centre's mission passes one test if and only if the line's mission passes the other
  pub here_is : (test : line_centre.LineMission → Bool) (other : centre.Mission → Bool)
      → ((n : centre.Mission) → mission ≡ Some n → test (seen c n) ≡ other n)
      → run.has_here v c t test ≡ step.mission_has other mission
  here_is test other same = by_mission mission refl
    where
      by_mission : (o : Option centre.Mission) → mission ≡ o → run.has_here v c t test ≡ step.mission_has other o
      by_mission (Some n) is = here_at test n is ∙ same n is
      by_mission None is = not_here test is

  -- the last section of the train's hand
  last_is : (n : centre.Mission) → mission ≡ Some n → EndsOnLine line n.hand
      → run.last_of_hand line v t ≡ Some (next_after n.hand - 1)
  last_is n has ok =
      let last : ℕ = next_after n.hand - 1 in
      find-range (λ s. is_given_to t (v.mark s) && not (is_given_to t (v.mark (s + 1)))) 0 (section_count line) last
      (omega arith) (omega (arith, ok.some, ok.last))
      (ap (λ b. b && not (is_given_to t (v.mark (last + 1)))) (given last
      ∙ within_from n.hand last (omega (arith, ok.some)) (omega (arith, ok.some)))
      ∙ ap not (given (last + 1) ∙ within_after n.hand (last + 1) (omega (arith, ok.some))))
      (λ e low high. before e high)
    where
      given : (s : ℕ) → is_given_to t (v.mark s) ≡ within n.hand s
      given = (stands.hands t (held_as (seen c n) n.hand)
          (held_first line w v stands t (held_as (seen c n) n.hand) (is_there line w v stands t c n has))).each

      before : (e : ℕ) → e < next_after n.hand - 1
          → (is_given_to t (v.mark e) && not (is_given_to t (v.mark (e + 1)))) ≡ false
      before e high = ⊎_elim
          (λ (is : within n.hand e ≡ true). let ends = within_true n.hand e is in
          let next : within n.hand (e + 1) ≡ true = within_from n.hand (e + 1) (omega arith) (omega arith) in
          rw (given e ∙ is, given (e + 1) ∙ next) refl)
          (λ (out : within n.hand e ≡ false). and_left (is_given_to t (v.mark e))
          (not (is_given_to t (v.mark (e + 1)))) (given e ∙ out))
          (cases_Bool (within n.hand e))

  may_request_is : (position : Position) (n : centre.Mission) → mission ≡ Some n → EndsOnLine line n.hand
      → run.may_request_at line v t (seen c n) position ≡ step.may_request line n position
  may_request_is position n has ok = ap (λ (last : Option ℕ). option_map_or
      (λ place. option_map_or (λ s. nat_le place.front (10 * end line s)
      && nat_le (end line s) (group_start line place + 32767)) last false)
      (place_on line n.place.track position) false) (last_is n has ok)

  supervised_is : not (run.has_here v c t (λ n. true)) ≡ is_none mission
  supervised_is = ap not (here_is (λ n. true) (λ n. true) (λ n has. refl)) ∙ by_mission mission
    where
      by_mission : (o : Option centre.Mission) → not (step.mission_has (λ n. true) o) ≡ is_none o
      by_mission (Some n) = refl
      by_mission None = refl

  module _ (t_train : ℕ) where
    abbrev m : TrainBody → TrainMessage
    m body = record { t_train = t_train; nid_engine = t; body = body }

    same_phase : (body : TrainBody) → run.holds line v c (m body) body WrongPhase ≡ step.is_out_of_phase k t body
    same_phase SessionEstablished = ap is_up (stands.phase t c)
    same_phase (StartOfMission is_valid position) = rw (stands.phase t c, stands.wait t c) refl
    same_phase (TrainData position) = rw (stands.phase t c) refl
    same_phase (Request position) = rw (stands.phase t c) refl
    same_phase (Report position) = rw (stands.phase t c) refl
    same_phase (ShorteningGranted s position) = rw (stands.phase t c) refl
    same_phase (ShorteningRejected s position) = rw (stands.phase t c) refl
    same_phase (EndOfMission position) = rw (stands.phase t c) refl
    same_phase InitiationOfSession = rw (stands.phase t c) refl
    same_phase TerminationOfSession = rw (stands.phase t c) refl

    same_place : (body : TrainBody) → HasEndIfAsked line k (m body)
        → run.holds line v c (m body) body NoPlace ≡ step.has_no_place line mission body
    same_place SessionEstablished ok = refl
    same_place (StartOfMission is_valid position) ok = refl
    same_place (TrainData position) ok = refl
    same_place (Request position) ok =
        here_is (λ n. not (run.may_request_at line v t n position)) (λ n. not (step.may_request line n position))
        (λ n has. ap not (may_request_is position n has (ok position n refl has)))
    same_place (Report position) ok = here_is (λ n. is_none (place_on line n.place.track position))
        (λ n. is_none (place_on line n.place.track position)) (λ n has. refl)
    same_place (ShorteningGranted s position) ok = refl
    same_place (ShorteningRejected s position) ok = refl
    same_place (EndOfMission position) ok = refl
    same_place InitiationOfSession ok = refl
    same_place TerminationOfSession ok = refl

    same_ask : (body : TrainBody) → run.holds line v c (m body) body Unasked ≡ step.is_unasked mission body
    same_ask SessionEstablished = refl
    same_ask (StartOfMission is_valid position) = refl
    same_ask (TrainData position) = refl
    same_ask (Request position) = refl
    same_ask (Report position) = refl
    same_ask (ShorteningGranted s position) =
        ap not (here_is (run.answers_it s) (λ n. option_map_or (λ p. p.stamp == s) n.proposal false) (λ n has. refl))
    same_ask (ShorteningRejected s position) =
        ap not (here_is (run.answers_it s) (λ n. option_map_or (λ p. p.stamp == s) n.proposal false) (λ n has. refl))
    same_ask (EndOfMission position) = refl
    same_ask InitiationOfSession = refl
    same_ask TerminationOfSession = refl

    -- a centre's reasons, but for a report elsewhere
    abbrev pub without_waiting : TrainBody → Reason → Bool
    without_waiting body NotSupervised = is_none mission
    without_waiting body why = step.holds line c k (m body) why

    same_reason : (body : TrainBody) → HasEndIfAsked line k (m body) → (why : Reason)
        → run.holds line v c (m body) body why ≡ without_waiting body why
    same_reason body ok StaleStamp = ap (is_stale t_train) (stands.heard t c)
    same_reason body ok NoSession = ap is_closed (stands.phase t c)
    same_reason body ok ForeignEngine = refl
    same_reason body ok NoPlace = same_place body ok
    same_reason body ok NotSupervised = supervised_is
    same_reason body ok NoTrainData = here_is (λ n. not n.has_data) (λ n. not n.has_data) (λ n has. refl)
    same_reason body ok ProposalPending = here_is (λ n. is_some n.proposal) (λ n. is_some n.proposal) (λ n has. refl)
    same_reason body ok Unasked = same_ask body
    same_reason body ok MissionEnded = here_is (λ n. n.is_ended) (λ n. n.is_ended) (λ n has. refl)
    same_reason body ok WrongPhase = same_phase body

    pub run_is : (body : TrainBody) → HasEndIfAsked line k (m body)
        → run.silence line v c (m body) ≡ find (without_waiting body) (reasons_of body)
    run_is body ok = ap (λ (test : Reason → Bool). find test (reasons_of body)) (λ i why. same_reason body ok why i)

    -- ## A report

    abbrev found : Bool → Bool → Bool → Bool → Bool → Bool → Option Reason
    found foreign stale closed early elsewhere off =
        if foreign then Some ForeignEngine else
        (if stale then Some StaleStamp else (if closed then Some NoSession else (if early then Some WrongPhase
        else (if elsewhere then Some NotSupervised else (if off then Some NoPlace else None)))))

    report_silent : (f s n e u a p : Bool) (why : Reason) → (u ≡ true → p ≡ false)
        → found f s n e (u && not a) p ≡ Some why → found f s n e u p ≡ Some why
    report_silent true s n e u a p why none is = is
    report_silent false true n e u a p why none is = is
    report_silent false false true e u a p why none is = is
    report_silent false false false true u a p why none is = is
    report_silent false false false false true true true why none is = let wrong : true ≡ false = none refl in cc
    report_silent false false false false true true false why none is = cc
    report_silent false false false false true false p why none is = is
    report_silent false false false false false a p why none is = is

    report_heard : (position : Position) (f s n e u a p : Bool) → (a ≡ true → run.has_front_at line c position ≡ true)
        → found f s n e (u && not a) p ≡ None
        → (found f s n e u p ≡ None) ⊎ (run.may_listen line c (Report position) (found f s n e u p) ≡ true)
    report_heard position true s n e u a p front is = cc
    report_heard position false true n e u a p front is = cc
    report_heard position false false true e u a p front is = cc
    report_heard position false false false true u a p front is = cc
    report_heard position false false false false true true p front is = inr (front refl)
    report_heard position false false false false true false p front is = cc
    report_heard position false false false false false a p front is = inl is

    no_place_of_none : (position : Position) → is_none mission ≡ true
        → step.has_no_place line mission (Report position) ≡ false
    no_place_of_none position = by_mission mission
      where
        by_mission : (o : Option centre.Mission) → is_none o ≡ true → step.has_no_place line o (Report position) ≡ false
        by_mission (Some n) h = cc
        by_mission None h = refl

    -- ## Every message

    same_if : (body : TrainBody) → HasEndIfAsked line k (m body)
        → step.silence line c k (m body) ≡ find (without_waiting body) (reasons_of body)
        → run.silence line v c (m body) ≡ step.silence line c k (m body)
    same_if body ok same = run_is body ok ∙ sym same

    pub silent : (body : TrainBody) (why : Reason) → HasEndIfAsked line k (m body)
        → step.silence line c k (m body) ≡ Some why → run.silence line v c (m body) ≡ Some why
    silent (Report position) why ok is = run_is (Report position) ok
        ∙ report_silent (step.holds line c k (m (Report position)) ForeignEngine)
        (step.holds line c k (m (Report position)) StaleStamp) (step.holds line c k (m (Report position)) NoSession)
        (step.holds line c k (m (Report position)) WrongPhase) (is_none mission) (step.is_awaited line c k t position)
        (step.has_no_place line mission (Report position)) why (no_place_of_none position) is
    silent SessionEstablished why ok is = same_if SessionEstablished ok refl ∙ is
    silent (StartOfMission is_valid position) why ok is = same_if (StartOfMission is_valid position) ok refl ∙ is
    silent (TrainData position) why ok is = same_if (TrainData position) ok refl ∙ is
    silent (Request position) why ok is = same_if (Request position) ok refl ∙ is
    silent (ShorteningGranted s position) why ok is = same_if (ShorteningGranted s position) ok refl ∙ is
    silent (ShorteningRejected s position) why ok is = same_if (ShorteningRejected s position) ok refl ∙ is
    silent (EndOfMission position) why ok is = same_if (EndOfMission position) ok refl ∙ is
    silent InitiationOfSession why ok is = same_if InitiationOfSession ok refl ∙ is
    silent TerminationOfSession why ok is = same_if TerminationOfSession ok refl ∙ is

    pub heard : (body : TrainBody) → HasEndIfAsked line k (m body) → step.silence line c k (m body) ≡ None
        → (run.silence line v c (m body) ≡ None) ⊎ (run.may_listen line c body (run.silence line v c (m body)) ≡ true)
    heard (Report position) ok is = subst (λ o. (o ≡ None) ⊎ (run.may_listen line c (Report position) o ≡ true))
        (sym (run_is (Report position) ok))
        (report_heard position (step.holds line c k (m (Report position)) ForeignEngine)
        (step.holds line c k (m (Report position)) StaleStamp) (step.holds line c k (m (Report position)) NoSession)
        (step.holds line c k (m (Report position)) WrongPhase) (is_none mission) (step.is_awaited line c k t position)
        (step.has_no_place line mission (Report position))
        (λ awaited. (and_parts (is_expected line k t) (run.has_front_at line c position) awaited).1) is)
    heard SessionEstablished ok is = inl (same_if SessionEstablished ok refl ∙ is)
    heard (StartOfMission is_valid position) ok is = inl (same_if (StartOfMission is_valid position) ok refl ∙ is)
    heard (TrainData position) ok is = inl (same_if (TrainData position) ok refl ∙ is)
    heard (Request position) ok is = inl (same_if (Request position) ok refl ∙ is)
    heard (ShorteningGranted s position) ok is = inl (same_if (ShorteningGranted s position) ok refl ∙ is)
    heard (ShorteningRejected s position) ok is = inl (same_if (ShorteningRejected s position) ok refl ∙ is)
    heard (EndOfMission position) ok is = inl (same_if (EndOfMission position) ok refl ∙ is)
    heard InitiationOfSession ok is = inl (same_if InitiationOfSession ok refl ∙ is)
    heard TerminationOfSession ok is = inl (same_if TerminationOfSession ok refl ∙ is)
