use Rattle.std.proofs.Common.{◌++◌, ◌≡◌, drop}
use Rattle.serve_line.proofs.status.mention_order.MentionOrder.heard.Given as goal
use Rattle.serve_line.specs.Mentions.{heard_from}

abbrev pub invariant-loop-train : goal.invariant-loop-train
invariant-loop-train l =
    heard_from 0 l.self.first.items ≡ l.heard.items ++ heard_from l.train (drop l.train l.self.first.items)
