use Rattle.std.proofs.Common.{◌∙◌, ap, not, sym}
use Rattle.std.proofs.lemmas.Bool.{ne_eqb}
use Rattle.rbc_border.proofs.arriving.arrives.Goals as goal
use Rattle.rbc_border.proofs.Hands.{elsewhere}
use Rattle.rbc_border.proofs.HomeParts.{found}

pub returns-else-section-centre : goal.returns-else-section-centre
returns-else-section-centre c k has =
    let there =
    found c.args.line.now c.args.s c.section.result c.in-Some.section c.section.ensures.value c.in-Some.is in
    ap not c.is_next.ensures
    ∙ sym (elsewhere c.args.line.now c.args.centre c.args.train.nid_engine c.args.train.track c.args.s k there.there
    c.in-Some.section.home there.at there.home (ne_eqb c.in-Some.section.home c.args.centre c.if-section-centre.false))
