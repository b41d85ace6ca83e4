use Rattle.serve_workers.proofs.Carried.{delivers}
use Rattle.serve_workers.proofs.laws.frames_are_committed_in_their_order.Goals as goal

pub returns : goal.returns
returns ctx known c from o p old new turns took = delivers known c from o p old new turns took
