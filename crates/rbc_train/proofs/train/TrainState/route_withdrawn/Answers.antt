use Rattle.std.proofs.Common.{if◌then◌else◌, ◌∙◌, ap, arith, is_some, option_map, sym}
use Rattle.std.proofs.lemmas.Bool.Decides.{nat_tests}
use Rattle.std.specs.Option.{option_map_or}
use Rattle.rbc_line.specs.SectionRuns.{run_of}
use Rattle.rbc_mission.specs.Supervisions.{hand_of, handing_in, mission_of, pool_of, with_supervision}
use Rattle.rbc_spec.specs.Acts.{propose_if_so, rest, returned}
use Rattle.rbc_spec.specs.Line.{section}
use Rattle.rbc_spec.specs.Links.{route_withdrawn}
use Rattle.rbc_train.proofs.Desk.{has_supervision, same_parts, supervision_left}
use Rattle.rbc_train.proofs.RouteFrames.{asks_back, goes_back, kept_pool, no_section, same_train, some_section}
use Rattle.rbc_train.proofs.RouteFrames.{unsupervised}
use Rattle.rbc_train.proofs.train.TrainState.route_withdrawn.Goals as goal
use Rattle.rbc_train.specs.declared.heard.Heard.{Heard}
use Rattle.rbc_train.specs.Desk.{reply_left, with_parts}
use Rattle.rbc_train.specs.Sayings.{sayings_of}

pub returns-then-s-section_count-clause-exact : goal.returns-then-s-section_count-clause-exact
returns-then-s-section_count-clause-exact c = λ n book rights k has.
    let line = c.args.line.now in
    let p = c.args.self.now in
    let past = c.if-s-section_count.true in
    let count = c.section_count.ensures.value in
    ap (λ b. (if b then route_withdrawn line n p.supervision.engine c.args.s else rest) k)
    (no_section line c.args.s (grind (arith, nat_tests)))
    ∙ same_parts line n k p book rights has
    ∙ ap (reply_left line n p.supervision.engine (with_parts p book rights k)) (sym c.requires.ready.out)

pub returns-in_default-clause-exact : goal.returns-in_default-clause-exact
returns-in_default-clause-exact c = λ n book rights k has.
    let line = c.args.line.now in
    let p = c.args.self.now in
    unsupervised line n k p book rights has c.args.s (is_some (section line c.args.s))
    (sym c.mission.ensures.value
    ∙ ap (option_map (mission_of (hand_of p.supervision) (pool_of p.supervision) (handing_in p.supervision)))
    c.in_default.is)
    ∙ ap (reply_left line n p.supervision.engine (with_parts p book rights k)) (sym c.requires.ready.out)

pub returns-in-Some-withdraw-clause-exact : goal.returns-in-Some-withdraw-clause-exact
returns-in-Some-withdraw-clause-exact c = λ n book rights k has.
    let line = c.args.line.now in
    let p = c.args.self.now in
    let t = p.supervision.engine in
    let m = mission_of (hand_of p.supervision) (pool_of p.supervision) (handing_in p.supervision) c.in-Some.mission in
    let there =
    sym c.mission.ensures.value
    ∙ ap (option_map (mission_of (hand_of p.supervision) (pool_of p.supervision) (handing_in p.supervision)))
    c.in-Some.is in
    let left = c.withdraw.new.self in
    let same = same_train c.args.s p.supervision left c.withdraw.ensures.state in
    ap (λ b. (if b then route_withdrawn line n t c.args.s else rest) k)
    (some_section line c.args.s (let past = c.if-s-section_count.false in let count = c.section_count.ensures.value in
    grind (arith, nat_tests)))
    ∙ c.withdraw.ensures.exact line n k m (has_supervision line n k p book rights has) there
    ∙ (λ i. option_map_or (λ run. returned line n t m.place.track (run_of run)) (c.in-Some-withdraw.is i)
    (propose_if_so line t c.args.s) (supervision_left line n k p book rights has left same.0 same.1 i))
    ∙ goes_back line n t m.place.track c.in-Some-withdraw.sections
    (with_parts (record p { supervision = left }) book rights k)
    (record c.args.out.now {
      mail = record c.args.out.now.mail {
        track = m.place.track;
        first = c.in-Some-withdraw.sections;
      };
    })
    (ap
    (λ (x : Heard). record x { mail = record x.mail { track = m.place.track; first = c.in-Some-withdraw.sections } })
    c.requires.ready.out)

pub returns-in-None-clause-exact : goal.returns-in-None-clause-exact
returns-in-None-clause-exact c = λ n book rights k has.
    let line = c.args.line.now in
    let p = c.args.self.now in
    let t = p.supervision.engine in
    let m = mission_of (hand_of p.supervision) (pool_of p.supervision) (handing_in p.supervision) c.in-Some.mission in
    let there =
    sym c.mission.ensures.value
    ∙ ap (option_map (mission_of (hand_of p.supervision) (pool_of p.supervision) (handing_in p.supervision)))
    c.in-Some.is in
    let left = c.withdraw.new.self in
    let asked = c.ask_back-out.ensures in
    ap (λ b. (if b then route_withdrawn line n t c.args.s else rest) k)
    (some_section line c.args.s (let past = c.if-s-section_count.false in let count = c.section_count.ensures.value in
    grind (arith, nat_tests)))
    ∙ asks_back line n k p book rights has c.args.s left c.ask_back-out.new.self (sayings_of c.ask_back-out.result)
    (kept_pool line n k p book rights has c.args.s c.withdraw.result left c.in-None.is c.withdraw.ensures.run
    c.withdraw.ensures.state)
    (c.withdraw.ensures.exact line n k m (has_supervision line n k p book rights has) there
    ∙ ap (λ o. option_map_or (λ run. returned line n t m.place.track (run_of run)) o (propose_if_so line t c.args.s)
    (with_supervision left k)) c.in-None.is)
    asked.exact asked.engine asked.number asked.question asked.session_state asked.heard asked.waiting
    asked.expectations
    ∙ ap (λ (x : Heard). reply_left line n t (with_parts c.ask_back-out.new.self book rights k)
    (record x { saying = c.ask_back-out.result })) (sym c.requires.ready.out)
