use Rattle.std.proofs.Common.{inl}
use Rattle.cli_commands.proofs.script_faults.has_outer_blank.Goals as goal
use Rattle.cli_commands.proofs.RowFaultLemmas.{begins_char, begins_no_char, one_blank, or_ends}

pub returns-then-starts_with : goal.returns-then-starts_with
returns-then-starts_with c =
    (λ yes. inl (begins_char 32 c.args.row.now one_blank c.if-starts_with.ensures.cases), λ has. c.if-starts_with.true)

pub returns-else-starts_with : goal.returns-else-starts_with
returns-else-starts_with c =
    or_ends 32 c.args.row.now c.ends_with.result one_blank
    (begins_no_char 32 c.args.row.now one_blank c.if-starts_with.ensures.cases) c.ends_with.ensures.cases
