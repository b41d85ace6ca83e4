use Rattle.std.proofs.Common.{◌∙◌}
use Rattle.rbc_border.proofs.Hands.{used_by}
use Rattle.rbc_border.proofs.used.uses_some.Goals as goal

pub returns : goal.returns
returns c centre k has =
    c.is_some.ensures ∙ used_by c.args.line.now centre c.args.nid_engine k c.args.book.now has c.section_in_use.result
    c.section_in_use.ensures.some c.section_in_use.ensures.none
