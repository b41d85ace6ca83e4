use Rattle.std.proofs.Common.{◌∙◌, arith, sym}
use Rattle.text_prints.proofs.Parts.{silent_row}
use Rattle.text_prints.proofs.row.silent.Goals as goal

pub returns-then-is_row : goal.returns-then-is_row
returns-then-is_row c =
    silent_row c.args.centre.now c.in_ok-text.text.items c.args.row.now c.args.reason
    (omega (arith, c.if-reason-eq0.false)) c.if-reason-gt10.false c.in_ok-text.ensures
    (sym c.deref.ensures.value ∙ c.is_row.ensures c.if-is_row.true)
