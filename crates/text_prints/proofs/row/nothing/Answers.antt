use Rattle.text_prints.proofs.Parts.{row_of_nothing}
use Rattle.text_prints.proofs.row.nothing.Goals as goal

pub returns : goal.returns
returns c =
    row_of_nothing c.args.centre.now c.args.row.now c.in_ok-refuse_said.ensures c.in_ok-refuse_sign.ensures
    c.in_ok-refuse_sign-2.ensures c.in_ok-refuse_sign-3.ensures c.in_ok-refuse_sign-4.ensures
