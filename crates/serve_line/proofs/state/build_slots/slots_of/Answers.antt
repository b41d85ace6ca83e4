use Rattle.std.proofs.Common.{false, ℕ}
use Rattle.serve_line.proofs.Ranges.{map_next}
use Rattle.serve_line.proofs.state.build_slots.slots_of.Goals as goal
use Rattle.serve_line.specs.Building.{place_of}

pub loop-number-preserved : goal.loop-number-preserved
loop-number-preserved c =
    map_next place_of (λ (n : ℕ). (n, false)) c.loop-number.number c.loop-number.slots.items c.push.new.self.items
    c.in_ok-slot.slot c.in_ok-push.ensures.items c.in_ok-slot.ensures c.loop-number.invariant
