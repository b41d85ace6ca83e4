use Rattle.rbc_bits.proofs.row.at_top.Goals as goal
use Rattle.rbc_bits.proofs.Rows.{topped, topped-none}

pub returns-then-count-eq0 : goal.returns-then-count-eq0
returns-then-count-eq0 c = topped-none c.args.held c.args.count c.if-count-eq0.true

pub returns : goal.returns
returns c = topped c.args.held c.args.count c.requires.held c.requires.count
