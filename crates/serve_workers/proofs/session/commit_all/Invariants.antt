use Rattle.std.proofs.Common.{◌++◌, ◌≡◌, List, reverse, vec_len}
use Rattle.rbc_msgs.specs.TrainText.{TrainText}
use Rattle.rbc_node.specs.Node.{centre_of}
use Rattle.serve_workers.proofs.session.commit_all.Given as goal
use Rattle.serve_workers.specs.Session.{Joins}

abbrev pub invariant-loop-message : goal.invariant-loop-message
invariant-loop-message g l =
    (done : List TrainText) × Joins (centre_of l.initial.node) l.initial.share l.share done
    × (reverse l.initial.messages.items ≡ done ++ reverse l.messages.items)

abbrev pub decreases-loop-message : goal.decreases-loop-message
decreases-loop-message g l = vec_len l.messages
