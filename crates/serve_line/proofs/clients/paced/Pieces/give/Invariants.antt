use Rattle.std.proofs.Common.{◌+◌, ◌<◌, ◌≡◌, get_or, ℕ}
use Rattle.serve_line.proofs.clients.paced.Pieces.give.Given as goal

abbrev pub invariant-loop-place : goal.invariant-loop-place
invariant-loop-place g l = record {
  given : l.self.given ≡ l.fn.self.given + l.place-index;
  count : l.count ≡ l.place-index;
  piece : l.self.piece ≡ l.fn.self.piece;
  copied : (k : ℕ) → k < l.place-index → get_or l.buffer k 0 ≡ get_or l.fn.self.piece (l.fn.self.given + k) 0;
}
