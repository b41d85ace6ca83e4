use Rattle.std.proofs.Common.{◌≡◌}
use Rattle.rbc_border.proofs.Hands.{cut_by}
use Rattle.rbc_border.proofs.names.spend_back.Given as goal

abbrev pub invariant-loop : goal.invariant-loop
invariant-loop l = l.names ≡ cut_by l.counter l.fn.names
