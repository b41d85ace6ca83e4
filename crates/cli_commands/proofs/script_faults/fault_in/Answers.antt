use Rattle.std.proofs.Common.{◌∙◌, arith, sym}
use Rattle.cli_commands.proofs.RowFaultLemmas.{by_delivery, by_form}
use Rattle.cli_commands.proofs.script_faults.fault_in.Goals as goal

pub returns-then-eq : goal.returns-then-eq
returns-then-eq c =
    by_delivery _ c.args.line.now c.args.words.now _ c.in-len4.len_at_least c.in-len4.len_below
    (sym c.eq.ensures ∙ c.if-eq.true) c.fault_of_delivery.ensures

pub returns-in-len1-up : goal.returns-in-len1-up
returns-in-len1-up c =
    by_form _ c.args.line.now c.args.words.now _ (grind arith) (λ three. grind arith) (λ four. absurd (grind arith))
    c.fault_of_form-in-len1-up.ensures
