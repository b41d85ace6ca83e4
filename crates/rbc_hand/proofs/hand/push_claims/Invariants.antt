use Rattle.std.proofs.Common.{◌≡◌}
use Rattle.std.specs.VecDeque.{deque_capacity}
use Rattle.rbc_hand.proofs.Grows.{HasPushed}
use Rattle.rbc_hand.proofs.hand.push_claims.Given as goal

abbrev pub invariant-loop : goal.invariant-loop
invariant-loop l = HasPushed l.counter l.fn.claims l.claims l.fn.tokens.items l.tokens.items
    × (deque_capacity l.tokens ≡ deque_capacity l.fn.tokens)
