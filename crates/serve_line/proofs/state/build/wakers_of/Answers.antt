use Rattle.std.proofs.Common.{length, ℕ}
use Rattle.serve_line.proofs.Ranges.{map_next}
use Rattle.serve_line.proofs.state.build.wakers_of.Goals as goal

pub loop-preserved : goal.loop-preserved
loop-preserved c =
    map_next (λ row. length row.items) (λ (n : ℕ). length c.args.line.now.centres) c.loop.counter c.loop.wakers.items
    c.push.new.self.items c.in_ok-row.row c.in_ok-push.ensures.items c.in_ok-row.ensures c.loop.invariant
