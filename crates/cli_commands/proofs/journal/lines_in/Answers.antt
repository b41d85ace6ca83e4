use Rattle.cli_commands.proofs.journal.lines_in.Goals as goal
use Rattle.cli_commands.proofs.JournalLemmas.{reading}

pub returns-in-Ok : goal.returns-in-Ok
returns-in-Ok c =
    reading c.read_journal.result c.args.given.now c.args.centre c.as_str.ensures.value c.in-Ok.ensures.cases.0
    c.read_journal.ensures.found c.read_journal.ensures.only c.read_journal.ensures.refused
