use Rattle.cli_commands.proofs.journal.entries_in.Goals as goal
use Rattle.cli_commands.proofs.JournalLemmas.{read_all, read_lines}

pub returns-then-count-eq0 : goal.returns-then-count-eq0
returns-then-count-eq0 c =
    read_all c.first_in.result c.args.given.now c.args.centre c.args.bytes.now c.args.count c.if-count-eq0.true
    c.first_in.ensures

pub returns-else-count-eq0 : goal.returns-else-count-eq0
returns-else-count-eq0 c =
    read_lines c.lines_in.result c.args.given.now c.args.centre c.args.bytes.now c.args.count c.if-count-eq0.false
    c.lines_in.ensures
