use Rattle.rbc_line.proofs.DraftLine.{named}
use Rattle.rbc_line.proofs.layout.Line.from_toml.Goals as goal
use Rattle.toml.specs.View.{table_view}

pub returns-clause-ok : goal.returns-clause-ok
returns-clause-ok c =
    named c.args.text.now (table_view c.in-Ok.table) c.in_ok-line.line c.in-Ok.ensures.ok c.in_ok-line.ensures.sound
    c.in_ok-line.ensures.named
