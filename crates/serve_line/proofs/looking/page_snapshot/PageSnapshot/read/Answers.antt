use Rattle.serve_line.proofs.AnswerLemmas.{if_ok}
use Rattle.serve_line.proofs.LookLemmas.{looked}
use Rattle.serve_line.proofs.looking.page_snapshot.PageSnapshot.read.Goals as goal

pub returns-clause-seen : goal.returns-clause-seen
returns-clause-seen g c =
    if_ok c.read_on-2.result
    (looked c.args.line.now c.args.node.now _ c.log-log.result.now c.args.view.now.snapshot c.add.new.self
    c.look-look.ensures c.log-log.ensures c.add.ensures)
