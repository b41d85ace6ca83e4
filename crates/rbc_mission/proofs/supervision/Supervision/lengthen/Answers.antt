use Rattle.std.proofs.Common.{◌-◌, ◌∙◌, ◌≡◌, ap, Option, refl, subst, sym, true}
use Rattle.std.specs.Option.{option_map_or}
use Rattle.rbc_allocation.specs.Sections.{IsHeldBy, next_of, TakesRun}
use Rattle.rbc_hand.specs.Hands.{run}
use Rattle.rbc_hand.specs.Tokens.{Name}
use Rattle.rbc_handover.specs.Handings.{handing_of}
use Rattle.rbc_mission.proofs.Missions.{fed_held, none_stands, others_shut, stands, still_inside, still_open}
use Rattle.rbc_mission.proofs.Missions.{takes_nothing, widened}
use Rattle.rbc_mission.proofs.supervision.Supervision.lengthen.Goals as goal
use Rattle.rbc_mission.specs.Supervisions.{mission_of, SupervisionState}
use Rattle.rbc_spec.specs.Centre.{Mission}
use Rattle.rbc_spec.specs.SectionRuns.{no_run, within}

pub returns-in_default-clause-book : goal.returns-in_default-clause-book
returns-in_default-clause-book c =
    takes_nothing _ c.args.count c.args.self.now _
    (none_stands c.self.inside.number c.self.inside.nid_engine c.self.inside.mission c.self.inside.hand
    c.self.inside.border (handing_of c.self.inside.handover) c.args.self.now c.self.view_is c.in_default.is)

pub take_run-requires-clause-open : goal.take_run-requires-clause-open
take_run-requires-clause-open c s here =
    let grows =
    c.requires (mission_of (run c.self.inside.hand) c.self.inside.border.pool
    (handing_of c.self.inside.handover) c.in-Some.mission)
    (stands c.self.inside.number c.self.inside.nid_engine c.self.inside.mission c.self.inside.hand c.self.inside.border
    (handing_of c.self.inside.handover) c.args.self.now c.self.view_is c.in-Some.mission c.in-Some.is) in
    still_open (mission_of (run c.self.inside.hand) c.self.inside.border.pool
    (handing_of c.self.inside.handover) c.in-Some.mission) c.args.count c.feed-fed.result c.args.book.now
    c.self.inside.hand c.feed-fed.new.hand (Name c.self.inside.border.engine c.self.inside.border.lender) refl grows
    c.feed-fed.ensures.fed c.feed-fed.ensures.hand s
    (subst (λ r. within r s ≡ true)
    (c.run_after-next.ensures ∙ ap (next_of (c.args.count - c.feed-fed.result)) c.run.ensures) here)

pub returns-in-Some-clause-held : goal.returns-in-Some-clause-held
returns-in-Some-clause-held c so =
    let grows =
    c.requires (mission_of (run c.self.inside.hand) c.self.inside.border.pool
    (handing_of c.self.inside.handover) c.in-Some.mission)
    (stands c.self.inside.number c.self.inside.nid_engine c.self.inside.mission c.self.inside.hand c.self.inside.border
    (handing_of c.self.inside.handover) c.args.self.now c.self.view_is c.in-Some.mission c.in-Some.is) in
    subst (λ t. IsHeldBy t c.take_run.new.hand c.take_run.new.book)
    (ap (λ (x : SupervisionState). x.engine) c.self.view_is)
    (c.take_run.ensures.held
    (fed_held (mission_of (run c.self.inside.hand) c.self.inside.border.pool
    (handing_of c.self.inside.handover) c.in-Some.mission) c.args.count c.feed-fed.result c.args.book.now
    c.self.inside.hand c.feed-fed.new.hand (Name c.self.inside.border.engine c.self.inside.border.lender) refl grows
    c.feed-fed.ensures.fed c.feed-fed.ensures.hand
    c.self.inside.nid_engine c.self.inside.border.engine c.self.inside.border.lender refl
    (subst (λ (x : SupervisionState). IsHeldBy x.engine x.hand c.args.book.now) (sym c.self.view_is) so)))

pub returns-in-Some-clause-book : goal.returns-in-Some-clause-book
returns-in-Some-clause-book c =
    let m =
    (mission_of (run c.self.inside.hand) c.self.inside.border.pool
    (handing_of c.self.inside.handover) c.in-Some.mission) in
    let is =
    stands c.self.inside.number c.self.inside.nid_engine c.self.inside.mission c.self.inside.hand c.self.inside.border
    (handing_of c.self.inside.handover) c.args.self.now c.self.view_is c.in-Some.mission c.in-Some.is in
    let grows = c.requires m is in
    let taken =
    subst (λ r. TakesRun c.self.inside.nid_engine r c.args.book.now c.take_run.new.book)
    (c.run_after-next.ensures ∙ ap (next_of (c.args.count - c.feed-fed.result)) c.run.ensures)
    c.take_run.ensures.book in
    subst (λ t. TakesRun t (option_map_or (λ (n : Mission). next_of c.args.count n.hand) c.args.self.now.mission no_run)
    c.args.book.now c.take_run.new.book) (ap (λ (x : SupervisionState). x.engine) c.self.view_is)
    (subst (λ (o : Option Mission).
    TakesRun c.self.inside.nid_engine (option_map_or (λ (n : Mission). next_of c.args.count n.hand) o no_run)
    c.args.book.now c.take_run.new.book) (sym is)
    (widened c.self.inside.nid_engine (next_of c.args.count m.hand)
    (next_of (c.args.count - c.feed-fed.result) (run c.feed-fed.new.hand)) c.args.book.now c.take_run.new.book
    (still_inside m c.args.count c.feed-fed.result c.args.book.now c.self.inside.hand c.feed-fed.new.hand
    (Name c.self.inside.border.engine c.self.inside.border.lender) refl grows c.feed-fed.ensures.fed
    c.feed-fed.ensures.hand)
    (others_shut m c.args.count c.feed-fed.result c.args.book.now c.self.inside.hand c.feed-fed.new.hand
    (Name c.self.inside.border.engine c.self.inside.border.lender) refl grows c.feed-fed.ensures.fed
    c.feed-fed.ensures.hand) taken))
