use Rattle.rbc_border.proofs.HomeParts.{part_goes}
use Rattle.rbc_border.proofs.homes.part_of.Goals as goal
use Rattle.rbc_line.specs.SectionRuns.{run_of}

pub returns-clause-exact : goal.returns-clause-exact
returns-clause-exact c t k =
    part_goes c.args.line.now c.args.centre c.args.to t c.args.track c.args.sections.count
    (run_of c.args.sections) c.part_at.result k c.if-to-centre.false
    c.part_at.ensures.none c.part_at.ensures.part c.part_at.ensures.range
