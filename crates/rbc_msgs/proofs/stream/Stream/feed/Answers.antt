use Rattle.rbc_msgs.proofs.Needed.{rest-short}
use Rattle.rbc_msgs.proofs.stream.Stream.feed.Goals as goal

pub returns-clause-few : goal.returns-clause-few
returns-clause-few c = rest-short _ c.in_ok-read_on.ensures.ends
