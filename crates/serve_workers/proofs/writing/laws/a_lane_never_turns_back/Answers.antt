use Rattle.std.proofs.Common.{arith}
use Rattle.serve_workers.proofs.writing.laws.a_lane_never_turns_back.Goals as goal
use Rattle.serve_workers.proofs.WritingLemmas.Lane.{rising}

pub returns : goal.returns
returns ctx next serving early calls last left goes =
    rising calls next next serving early (omega arith) last left goes
