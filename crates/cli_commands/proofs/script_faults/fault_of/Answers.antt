use Rattle.cli_commands.proofs.script_faults.fault_of.Goals as goal
use Rattle.cli_commands.proofs.RowFaultLemmas.{blanks_passed}

pub returns-in-None : goal.returns-in-None
returns-in-None c =
    blanks_passed c.fault_of_words.result c.args.line.now c.args.row.now c.in-None.ensures c.fault_of_words.ensures
