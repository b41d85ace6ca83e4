use Rattle.test_library.proofs.codec.board.puts_all.Given as goal

abbrev pub invariant-loop-k : goal.invariant-loop-k
invariant-loop-k g l = g.C.Carrier.is_of l.carrier l.seen
