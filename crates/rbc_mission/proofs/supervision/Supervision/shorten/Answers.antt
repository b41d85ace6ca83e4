use Rattle.std.proofs.Common.{◌-◌, ◌∙◌, ap, arith, Option, subst, sym}
use Rattle.std.specs.Option.{option_map_or}
use Rattle.rbc_allocation.specs.Sections.{IsHeldBy}
use Rattle.rbc_handover.specs.Handings.{handing_of}
use Rattle.rbc_mission.proofs.Missions.{frees_nothing, none_stands}
use Rattle.rbc_mission.proofs.supervision.Supervision.shorten.Goals as goal
use Rattle.rbc_mission.specs.Supervisions.{SupervisionState}
use Rattle.rbc_spec.specs.Centre.{Mission}
use Rattle.rbc_spec.specs.SectionRuns.{no_run}

pub returns-in_default-clause-book : goal.returns-in_default-clause-book
returns-in_default-clause-book c =
    let none =
    none_stands c.self.inside.number c.self.inside.nid_engine c.self.inside.mission c.self.inside.hand
    c.self.inside.border (handing_of c.self.inside.handover) c.args.self.now c.self.view_is c.in_default.is in
    frees_nothing _ _ _ (ap (λ (o : Option Mission). (option_map_or (λ m. m.hand) o no_run).count - c.args.keep) none
    ∙ omega arith)

pub cut-told-requires-clause-held : goal.cut-told-requires-clause-held
cut-told-requires-clause-held c =
    subst (λ (x : SupervisionState). IsHeldBy x.engine x.hand c.args.book.now) (sym c.self.view_is) c.requires.held
