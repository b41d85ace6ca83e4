use Rattle.std.proofs.Common.{◌∙◌, ◌≡◌, ap, subst, sym, true}
use Rattle.std.proofs.lemmas.Option.{same_Some}
use Rattle.rbc_hand.specs.Hands.{run}
use Rattle.rbc_handover.specs.Handings.{handing_of}
use Rattle.rbc_line.specs.SectionRuns.{run_of}
use Rattle.rbc_mission.proofs.Borders.{shared_within}
use Rattle.rbc_mission.proofs.Missions.{stands}
use Rattle.rbc_mission.proofs.supervision.Supervision.announce.Goals as goal
use Rattle.rbc_mission.specs.Supervisions.{mission_of}
use Rattle.rbc_spec.specs.Acts.{part_at}
use Rattle.rbc_spec.specs.Centre.{Mission}
use Rattle.rbc_spec.specs.SectionRuns.{SectionRun, within}
use Rattle.rbc_spec.specs.Sections.{home_run}

pub returns-clause-border : goal.returns-clause-border
returns-clause-border c m is =
    let here =
    mission_of (run c.self.inside.hand) c.self.inside.border.pool
    (handing_of c.self.inside.handover) c.in_ok-mission.mission in
    let there =
    stands c.self.inside.number c.self.inside.nid_engine c.self.inside.mission c.self.inside.hand c.self.inside.border
    (handing_of c.self.inside.handover) c.args.self.now c.self.view_is c.in_ok-mission.mission c.in_ok-mission.was in
    let same : here ≡ m = same_Some here m (sym there ∙ is) in
    let part : run_of c.in_ok-part.part
    ≡ part_at c.args.line.now c.args.to c.in_ok-mission.mission.place.track (run c.self.inside.hand) =
    c.in_ok-part.ensures.part
    ∙ ap (part_at c.args.line.now c.args.to c.in_ok-mission.mission.place.track) c.run.ensures in
    subst (λ (n : Mission). (c.in_ok-part.part.first ≡ (part_at c.args.line.now c.args.to n.place.track n.hand).first)
    × (within n.hand c.in_ok-part.part.first ≡ true)) same (
      ap (λ (r : SectionRun). r.first) part,
      shared_within (run c.self.inside.hand) (home_run c.args.line.now c.args.to c.in_ok-mission.mission.place.track)
          (run_of c.in_ok-part.part) part c.in_ok-part.ensures.range.count.0,
    )
