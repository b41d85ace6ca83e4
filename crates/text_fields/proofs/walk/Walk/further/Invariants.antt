use Rattle.std.proofs.Common.{◌<◌, ◌≡◌, Bool, length, List}
use Rattle.std.specs.List.{AllByRecursion}
use Rattle.text_fields.proofs.Further.{Passed}
use Rattle.text_fields.proofs.walk.Walk.further.Given as goal
use Rattle.text_fields.specs.Messages.{PacketFields, packets_shown}
use Rattle.text_fields.specs.Shown.{all_bits}
use Rattle.text_fields.specs.Walks.{IsLaidPacket, Next}

abbrev pub invariant-loop : goal.invariant-loop
invariant-loop l = record {
  bits : all_bits l.self.look ≡ all_bits l.fn.self.look;
  passed : (packets : List PacketFields) (rest : List Bool) → AllByRecursion (IsLaidPacket l.side) packets
      → length rest < 8 → l.fn.self.end ≡ 0
      → Next (packets_shown l.side packets) rest l.fn.self.look l.fn.self.end
      → Passed l.side packets rest l.fn.self.look l.self.look l.fn.self.end l.self.end l.counter;
}
