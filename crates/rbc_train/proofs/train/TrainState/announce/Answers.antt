use Rattle.std.proofs.Common.{[], ◌+◌, ◌-◌, ◌∙◌, ◌≡◌, ap, option_map, Some, sym}
use Rattle.rbc_handover.specs.Giving.{announcing, with_count}
use Rattle.rbc_mission.specs.Supervisions.{hand_of, handing_in, mission_of, pool_of, SupervisionState, with_supervision}
use Rattle.rbc_spec.specs.Centre.{Mission}
use Rattle.rbc_spec.specs.Line.{start}
use Rattle.rbc_spec.specs.Message.{Transition}
use Rattle.rbc_spec.specs.Place.{group_start}
use Rattle.rbc_spec.specs.Sections.{nid_rbc}
use Rattle.rbc_train.proofs.Borders.{announces}
use Rattle.rbc_train.proofs.train.TrainState.announce.Goals as goal
use Rattle.rbc_train.proofs.train.TrainState.announce.Goals.{In-Some-announce}
use Rattle.rbc_train.specs.declared.mail.Notice.TheVariants as notice
use Rattle.rbc_train.specs.Desk.{counted_to, posted, replied}
use Rattle.rbc_train.specs.Letters.{notices}
use Rattle.rbc_train.specs.Sayings.{sayings_of}

-- the mission of the train
mission : In-Some-announce → Mission
mission c = let s = c.args.self.now.supervision in mission_of (hand_of s) (pool_of s) (handing_in s) c.in-Some.mission

there : (c : In-Some-announce) → c.args.self.now.supervision.mission ≡ Some (mission c)
unfolding mission
there c = let s = c.args.self.now.supervision in
    sym c.mission.ensures.value ∙ ap (option_map (mission_of (hand_of s) (pool_of s) (handing_in s))) c.in-Some.is

pub transition-requires : goal.transition-requires
unfolding mission
transition-requires c = record {
  near =
      let d = (goal.at.transition-requires c).In-Some-announce in
      let border = c.in-Some-announce.ensures.border (mission d) (there d) in
      c.requires.may.near (mission d) (there d) c.in-Some-announce.announcement.border border.1;
}

pub returns-clause-exact : goal.returns-clause-exact
unfolding mission
returns-clause-exact c = λ e k has counts so_many.
    let line = c.args.line.now in
    let old = c.args.self.now in
    let t = old.supervision.engine in
    let d = (goal.at.returns-clause-exact c).In-Some-announce in
    let m = mission d in
    let a = c.in-Some-announce.announcement in
    let left = c.announce.new.self in
    let border = c.in-Some-announce.ensures.border m (there d) in
    let said = c.answer.ensures.counted in
    announces line t c.args.to k old.said a.number c.announce.new.count m left c.answer.result counts
    (c.announce.ensures.exact m k has (there d) so_many
    ∙ ap (λ o. announcing line t c.args.to m (option_map (λ x. x.number) o)
    (with_supervision left (with_count c.announce.new.count k))) c.in-Some-announce.is)
    (c.answer.ensures.saying
    ∙ (λ i. record {
      nid_engine = ap (λ (x : SupervisionState). x.engine) c.in-Some-announce.ensures.state i;
      message = record { t_train = old.said + 1; nid_lrbg = m.place.group; body = c.transition.ensures i };
    })
    ∙ (λ i. record {
      nid_engine = t;
      message =
          record {
            t_train = old.said + 1;
            nid_lrbg = m.place.group;
            body = Transition (start line (border.0 i) - group_start line m.place) line.nid_c (nid_rbc line c.args.to);
          };
    })) e
    ∙ (λ i. posted (notices t e (notice.Announce (record { number = a.number; to = c.args.to }) m.place.track))
    (replied (with_count c.announce.new.count
    (counted_to t (sym said i).said (with_supervision (sym said i).supervision k)))
    (sayings_of (Some c.answer.result)) []))
