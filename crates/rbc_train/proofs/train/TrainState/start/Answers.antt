use Rattle.std.proofs.Common.{◌∙◌, ◌≡◌, ap, is_some, length, option_map, refl, rules, subst, sym}
use Rattle.std.specs.Option.{option_map_or}
use Rattle.rbc_allocation.specs.Sections.{IsAllOpen}
use Rattle.rbc_line.specs.SectionRuns.{run_of}
use Rattle.rbc_mission.specs.Supervisions.{hand_of, handing_in, mission_of, pool_of, SupervisionState}
use Rattle.rbc_msgs.specs.StepMessage.{is_valid, position_of}
use Rattle.rbc_place.specs.Places.{place_of}
use Rattle.rbc_spec.specs.Acts.{say}
use Rattle.rbc_spec.specs.Centre.{is_free, is_registrar_of, Mission}
use Rattle.rbc_spec.specs.Message.{TrainAccepted, unknown_group}
use Rattle.rbc_spec.specs.Place.{covered}
use Rattle.rbc_spec.specs.SectionRuns.{all_of, no_run, SectionRun, within}
use Rattle.rbc_train.proofs.Fits.{a_centre_of, all_open}
use Rattle.rbc_train.proofs.Kept.{keeps_state, still_held}
use Rattle.rbc_train.proofs.Requests.{some_mapped}
use Rattle.rbc_train.proofs.Runs.{is_registered, not_registered}
use Rattle.rbc_train.proofs.Starts.{goes_on_again, none_there, past_the_hand, some_covered, standing, starts_elsewhere}
use Rattle.rbc_train.proofs.Starts.{starts_here}
use Rattle.rbc_train.proofs.train.TrainState.start.Goals as goal
use Rattle.rbc_train.specs.declared.train.TrainState.{TrainState}
use Rattle.rbc_train.specs.Desk.{with_parts}

pub returns-then-is_some-clause-exact : goal.returns-then-is_some-clause-exact
returns-then-is_some-clause-exact c = λ k has.
    let line = c.args.line.now in
    let old = c.args.self.now in
    let place = place_of c.in-Some.place in
    let m =
    standing old.supervision.mission
    (ap is_some (sym c.mission.ensures.value)
    ∙ some_mapped (mission_of (hand_of old.supervision) (pool_of old.supervision) (handing_in old.supervision))
    c.mission.result ∙ sym c.is_some.ensures ∙ c.if-is_some.true) in
    let hand : hand_of old.supervision ≡ m.0.hand = ap (λ o. option_map_or (λ (x : Mission). x.hand) o no_run) m.1 in
    goes_on_again line c.args.centre k old c.args.book.now c.args.registrar.now has (is_valid c.args.q_status)
    (position_of c.args.position.now) place m.0
    (sym c.place_of_start.ensures.value ∙ ap (option_map place_of) c.in-Some.is) m.1
    ((λ i. all_of (within (sym (c.hand.ensures.value ∙ hand) i)) (sym c.covered-run.ensures.value i))
    ∙ sym c.has_all.ensures ∙ c.if-not-has_all.false)
    ∙ ap (λ (x : SupervisionState). say old.supervision.engine unknown_group TrainAccepted
    (with_parts (record old { supervision = x }) c.args.book.now c.args.registrar.now k)) (sym c.begin_again.ensures)

pub returns-then-not-has_all-clause-exact : goal.returns-then-not-has_all-clause-exact
returns-then-not-has_all-clause-exact c = λ k has.
    let line = c.args.line.now in
    let old = c.args.self.now in
    let place = place_of c.in-Some.place in
    let m =
    standing old.supervision.mission
    (ap is_some (sym c.mission.ensures.value)
    ∙ some_mapped (mission_of (hand_of old.supervision) (pool_of old.supervision) (handing_in old.supervision))
    c.mission.result ∙ sym c.is_some.ensures ∙ c.if-is_some.true) in
    let hand : hand_of old.supervision ≡ m.0.hand = ap (λ o. option_map_or (λ (x : Mission). x.hand) o no_run) m.1 in
    past_the_hand line c.args.centre k old c.args.book.now c.args.registrar.now has (is_valid c.args.q_status)
    (position_of c.args.position.now) place m.0
    (sym c.place_of_start.ensures.value ∙ ap (option_map place_of) c.in-Some.is) m.1
    ((λ i. all_of (within (sym (c.hand.ensures.value ∙ hand) i)) (sym c.covered-run.ensures.value i))
    ∙ sym c.has_all.ensures ∙ c.if-not-has_all.true)

pub start_here-requires-clause-some : goal.start_here-requires-clause-some
start_here-requires-clause-some c =
    some_covered c.args.line.now (place_of c.in-Some.place)
    (run_of c.covered-run.result) c.covered-run.ensures.line c.in-Some.ensures.fit c.covered-run.ensures.value

pub start_here-requires-clause-open : goal.start_here-requires-clause-open
start_here-requires-clause-open c =
    let line = c.args.line.now in
    let k = a_centre_of line c.args.centre c.args.book.now in
    all_open line c.args.centre k c.args.book.now (run_of c.covered-run.result) (λ s. refl)
    (sym (c.are_free.ensures k (λ s. refl)) ∙ c.if-not-are_free.false)

pub start_waiting-requires-clause-some : goal.start_waiting-requires-clause-some
start_waiting-requires-clause-some c =
    some_covered c.args.line.now (place_of c.in-Some.place)
    (covered c.args.line.now (place_of c.in-Some.place)) c.covered-run.ensures.line c.in-Some.ensures.fit refl

pub start_waiting-requires-clause-open : goal.start_waiting-requires-clause-open
start_waiting-requires-clause-open c =
    let line = c.args.line.now in
    let book = c.args.book.now in
    let k = a_centre_of line c.args.centre book in
    subst (λ (r : SectionRun). IsAllOpen r book) c.covered-run.ensures.value
    (all_open line c.args.centre k book (run_of c.covered-run.result) (λ s. refl)
    (sym (c.are_free.ensures k (λ s. refl)) ∙ c.if-not-are_free.false))

pub returns-then-eq-clause-exact : goal.returns-then-eq-clause-exact
returns-then-eq-clause-exact c = λ k has.
    let line = c.args.line.now in
    let old = c.args.self.now in
    starts_here line c.args.centre k old c.args.book.now c.args.registrar.now has (is_valid c.args.q_status)
    (position_of c.args.position.now) (place_of c.in-Some.place) _
    (sym c.place_of_start.ensures.value ∙ ap (option_map place_of) c.in-Some.is)
    (sym c.mission.ensures.value
    ∙ none_there (mission_of (hand_of old.supervision) (pool_of old.supervision) (handing_in old.supervision))
    c.mission.result (sym c.is_some.ensures ∙ c.if-is_some.false))
    (ap (all_of (is_free line c.args.centre k)) (sym c.covered-run.ensures.value)
    ∙ sym (c.are_free.ensures k has.has_book) ∙ c.if-not-are_free.false)
    (ap (is_registrar_of line c.args.centre) (sym c.nid_engine.ensures)
    ∙ is_registered line c.args.centre c.nid_engine.result c.registrar.result c.registrar.ensures
    (sym c.eq.ensures ∙ c.if-eq.true))
    (c.start_here.ensures.exact line c.args.centre k has c.covered-run.ensures.value)

pub returns-else-eq-clause-exact : goal.returns-else-eq-clause-exact
returns-else-eq-clause-exact c = λ k has.
    let line = c.args.line.now in
    let old = c.args.self.now in
    starts_elsewhere line c.args.centre k old c.args.book.now c.args.registrar.now has (is_valid c.args.q_status)
    (position_of c.args.position.now) (place_of c.in-Some.place) _
    (sym c.place_of_start.ensures.value ∙ ap (option_map place_of) c.in-Some.is)
    (sym c.mission.ensures.value
    ∙ none_there (mission_of (hand_of old.supervision) (pool_of old.supervision) (handing_in old.supervision))
    c.mission.result (sym c.is_some.ensures ∙ c.if-is_some.false))
    (ap (all_of (is_free line c.args.centre k)) (sym c.covered-run.ensures.value)
    ∙ sym (c.are_free.ensures k has.has_book) ∙ c.if-not-are_free.false)
    (ap (is_registrar_of line c.args.centre) (sym c.nid_engine.ensures)
    ∙ not_registered line c.args.centre c.nid_engine.result c.registrar.result c.registrar.ensures
    (sym c.eq.ensures ∙ c.if-eq.false))
    (c.start_waiting.ensures.exact c.args.centre c.args.registrar.now k has)

pub returns-then-is_some-clause-keeps : goal.returns-then-is_some-clause-keeps
returns-then-is_some-clause-keeps c =
    let old = c.args.self.now in
    let left = c.begin_again.new.self in
    let engine = ap (λ (x : SupervisionState). x.engine) c.begin_again.ensures in
    record {
      state =
          keeps_state c.args.line.now c.args.centre old old.heard left
          (ap (λ (x : SupervisionState). x.number) c.begin_again.ensures) engine
          (still_held c.args.line.now c.args.centre old (record old { supervision = left }) engine
          (ap (λ (x : SupervisionState). x.hand) c.begin_again.ensures) c.requires.at.held);
      desk = search rules;
    }

pub returns-then-eq-clause-keeps : goal.returns-then-eq-clause-keeps
returns-then-eq-clause-keeps c =
    let keeps = c.start_here.ensures.keeps in
    record {
      state = record {
        train = keeps.train;
        held = keeps.held c.args.line.now c.args.centre c.requires.at.held;
        covers = keeps.covers c.args.line.now;
        expected = keeps.expected;
      };
      desk = c.start_here.ensures.desk;
    }

pub returns-else-eq-clause-keeps : goal.returns-else-eq-clause-keeps
returns-else-eq-clause-keeps c =
    let same = c.start_waiting.ensures.same in
    record {
      state = record {
        train = c.start_waiting.ensures.kept;
        held =
            still_held c.args.line.now c.args.centre c.args.self.now c.start_waiting.new.self
            (ap (λ (p : TrainState). p.supervision.engine) same)
            (ap (λ (p : TrainState). p.supervision.hand) same) c.requires.at.held;
        covers = c.start_waiting.ensures.covers;
        expected = ap (λ (p : TrainState). length p.expectations) same;
      };
      desk = search rules;
    }
