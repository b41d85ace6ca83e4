use Rattle.std.proofs.Common.{◌∙◌, codes, sym}
use Rattle.std.proofs.lemmas.Bool.{true≢false}
use Rattle.cli_commands.proofs.script_faults.has_blank.Goals as goal
use Rattle.cli_commands.proofs.RowFaultLemmas.{or_held}

pub returns-else-has_outer_blank : goal.returns-else-has_outer_blank
returns-else-has_outer_blank c =
    or_held (codes "  ") c.args.row.now c.contains.result
    (λ outer. true≢false (sym (c.has_outer_blank.ensures.1 outer) ∙ c.if-has_outer_blank.false))
    c.contains.ensures.cases
