use Rattle.std.proofs.Common.{◌∙◌, ◌≡◌, ap, None, option_map, refl, subst, sym}
use Rattle.rbc_allocation.specs.Sections.{IsHeldBy}
use Rattle.rbc_border.specs.Border.{BorderState}
use Rattle.rbc_border.specs.Lending.{with_book}
use Rattle.rbc_hand.specs.Hands.{run}
use Rattle.rbc_handover.specs.declared.handing.HandoverName.{HandoverName}
use Rattle.rbc_handover.specs.Handings.{handing_of, kept_as}
use Rattle.rbc_mission.proofs.Borders.{goes_off, none_where, stood}
use Rattle.rbc_mission.proofs.Missions.{stands}
use Rattle.rbc_mission.proofs.supervision.Supervision.yield_to.Goals as goal
use Rattle.rbc_mission.specs.declared.handing_over.Yielded.{Yielded}
use Rattle.rbc_mission.specs.Handovers.{sends_off}
use Rattle.rbc_mission.specs.Passing.{IsBooked}
use Rattle.rbc_mission.specs.Supervisions.{HasSupervision, mission_of, supervision_state, SupervisionState}
use Rattle.rbc_mission.specs.Supervisions.{with_supervision}
use Rattle.rbc_spec.specs.Acts.{yield}
use Rattle.rbc_spec.specs.Centre.{is_taken_for, Out}
use Rattle.rbc_spec.specs.Links.{taking_over}

pub returns-in_err-handing-clause-held : goal.returns-in_err-handing-clause-held
returns-in_err-handing-clause-held c =
    subst (λ (x : SupervisionState). IsHeldBy c.args.self.now.engine x.hand c.args.book.now)
    (sym c.self.view_is) c.requires.held

pub pass_all-requires : goal.pass_all-requires
pass_all-requires c =
    record {
      held = subst (λ (x : SupervisionState). IsHeldBy x.engine x.hand c.args.book.now)
          (sym c.self.view_is) c.requires.held;
    }

pub returns-clause-was : goal.returns-clause-was
returns-clause-was c = record {
  mission =
      mission_of (run c.self.inside.hand) c.self.inside.border.pool
      (handing_of c.self.inside.handover) c.in_ok-mission.mission;
  there =
      stands c.self.inside.number c.self.inside.nid_engine c.self.inside.mission c.self.inside.hand c.self.inside.border
      (handing_of c.self.inside.handover) c.args.self.now c.self.view_is c.in_ok-mission.mission c.in_ok-mission.was;
  handing = stood _ (handing_of c.self.inside.handover) (kept_as c.in_ok-handing.handing) c.in_ok-handing.ensures.due;
  place = refl;
  hand = c.run-hand.ensures;
  pool = c.return_all-pool.ensures.run;
}

pub returns-clause-exact : goal.returns-clause-exact
returns-clause-exact c k has booked = subst
    (λ (x : SupervisionState). HasSupervision k x
    → taking_over c.args.line.now c.args.centre c.args.from c.args.number x.engine k
    ≡ sends_off c.args.line.now c.args.centre x.engine y (with_supervision now (with_book c.pass_all.new.book k)))
    c.self.view_is here has
  where
    y : Yielded
    y = record {
      handover = c.yield_to-handover.result;
      mission = c.in_ok-mission.mission;
      hand = c.run-hand.result;
      pool = c.return_all-pool.result;
      is_gone = c.is_none.result;
    }

    now : SupervisionState
    now =
        record {
          number = c.self.inside.number;
          engine = c.self.inside.nid_engine;
          mission = None;
          hand = c.pass_all.new.hand;
          asked = c.return_all-pool.new.self.asked;
        }

    before : SupervisionState
    before =
        supervision_state c.self.inside.number c.self.inside.nid_engine c.self.inside.mission c.self.inside.hand
        c.self.inside.border (handing_of c.self.inside.handover)

    here : HasSupervision k before
        → taking_over c.args.line.now c.args.centre c.args.from c.args.number c.self.inside.nid_engine k
        ≡ sends_off c.args.line.now c.args.centre c.self.inside.nid_engine y
        (with_supervision now (with_book c.pass_all.new.book k))
    here stands_so =
        let form = mission_of (run c.self.inside.hand) c.self.inside.border.pool (handing_of c.self.inside.handover) in
        c.in_ok-handing.ensures.exact c.args.line.now c.args.centre c.self.inside.nid_engine
        (form c.in_ok-mission.mission) k
        (record { mission = stands_so.has_mission ∙ ap (option_map form) c.in_ok-mission.was; handing = refl })
        ∙ (λ i. yield c.args.line.now c.args.centre c.self.inside.nid_engine
        (mission_of (sym c.run-hand.ensures i) (sym c.return_all-pool.ensures.run i)
        (handing_of c.self.inside.handover) c.in_ok-mission.mission) (kept_as c.in_ok-handing.handing) k)
        ∙ goes_off c.args.line.now c.args.centre c.self.inside.nid_engine c.self.inside.number y
        (handing_of c.self.inside.handover) (kept_as c.in_ok-handing.handing) k c.pass_all.new.hand
        c.return_all-pool.new.self.asked c.args.book.now c.pass_all.new.book
        (ap (λ (x : HandoverName). x.number) (sym c.yield_to-handover.ensures))
        (ap (λ (x : HandoverName). x.to) (sym c.yield_to-handover.ensures))
        (none_where c.part_at.result c.is_none.result c.is_none.ensures ∙ c.part_at.ensures.none) booked
        (subst (λ r. IsBooked (is_taken_for c.self.inside.nid_engine)
        (Out c.self.inside.nid_engine) r c.args.book.now c.pass_all.new.book)
        (sym c.run-hand.ensures) c.pass_all.ensures.book)
        (stands_so.has_question ∙ ap (λ (b : BorderState). b.asked) (sym c.return_all-pool.ensures.state))
