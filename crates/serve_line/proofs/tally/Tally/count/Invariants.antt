use Rattle.std.proofs.Common.{◌≡◌, drop}
use Rattle.std.specs.List.{fold}
use Rattle.serve_line.proofs.tally.Tally.count.Given as goal
use Rattle.serve_line.specs.Tallies.{tallied, tally_of}

abbrev pub invariant-loop-byte : goal.invariant-loop-byte
invariant-loop-byte l =
    fold tallied (tally_of l.self.events l.self.is_new) (drop l.byte-index l.bytes)
    ≡ fold tallied (tally_of l.initial.self.events l.initial.self.is_new) l.bytes
