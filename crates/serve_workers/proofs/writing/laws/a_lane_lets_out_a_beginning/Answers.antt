use Rattle.serve_workers.proofs.writing.laws.a_lane_lets_out_a_beginning.Goals as goal
use Rattle.serve_workers.proofs.WritingLemmas.Lane.{beginning}

pub returns : goal.returns
returns ctx said first c serving early calls last left counted waits come goes serves =
    beginning said first c serving early calls counted waits come last left goes serves
