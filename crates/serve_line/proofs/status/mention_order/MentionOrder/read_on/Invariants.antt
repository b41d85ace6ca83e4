use Rattle.std.proofs.Common.{◌≡◌, drop}
use Rattle.serve_line.proofs.status.mention_order.MentionOrder.read_on.Given as goal
use Rattle.serve_line.specs.Mentions.{named_in}

abbrev pub invariant-loop-entry : goal.invariant-loop-entry
invariant-loop-entry l =
    named_in l.line l.self.first.items (drop l.entry-index l.piece) ≡ named_in l.line l.initial.self.first.items l.piece
