use Rattle.text_prints.proofs.Parts.{nothing_said}
use Rattle.text_prints.proofs.row.refuse_said.Goals as goal

pub returns : goal.returns
returns c =
    nothing_said c.args.centre.now c.args.row.now c.in_ok-refuse_sign.ensures c.in_ok-refuse_sign-2.ensures
    c.in_ok-refuse_reply.ensures
