use Rattle.text_prints.proofs.Parts.{no_word}
use Rattle.text_prints.proofs.row.refuse_reply.Goals as goal

pub returns : goal.returns
returns c =
    no_word c.args.row.now c.in_ok-refuse_end.ensures c.in_ok-refuse_end-2.ensures c.in_ok-refuse_end-3.ensures
    c.in_ok-refuse_end-4.ensures
