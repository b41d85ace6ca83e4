use Rattle.std.proofs.Common.{◌&&◌, ◌==◌, ◌∙◌, ap, eq-eqb, sym}
use Rattle.rbc_border.proofs.HomeParts.{found, one_home_is}
use Rattle.rbc_border.proofs.homes.is_of_one_home.Goals as goal
use Rattle.rbc_border.specs.Homes.{is_of}
use Rattle.rbc_line.specs.SectionRuns.{run_of}
use Rattle.rbc_spec.specs.SectionRuns.{longest}

pub returns-then-section-home-clause-value : goal.returns-then-section-home-clause-value
returns-then-section-home-clause-value c =
    let line = c.args.line.now in
    let first = c.args.sections.first in
    let count = c.args.sections.count in
    let at = found line first c.section.result c.in-Some.section c.section.ensures.value c.in-Some.is in
    ap (λ n. n == count) (c.stretch.ensures
    ∙ ap (λ track. longest (is_of line c.args.home track) first count) (sym at.track))
    ∙ ap (λ x. x && (longest (is_of line c.args.home at.there.track) first count == count))
    (sym (eq-eqb at.there.home c.args.home (at.home ∙ c.if-section-home.true)))
    ∙ sym (one_home_is line c.args.home (run_of c.args.sections) at.there at.at)
