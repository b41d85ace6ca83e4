use Rattle.serve_workers.proofs.writing.laws.no_reply_waits_for_good.Goals as goal
use Rattle.serve_workers.proofs.WritingLemmas.Waiting.{nobody_waits}

pub returns : goal.returns
returns ctx next last n serving early left calls goes none each =
    nobody_waits next last n serving early left calls goes none each
