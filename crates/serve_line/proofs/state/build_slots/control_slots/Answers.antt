use Rattle.serve_line.proofs.Ranges.{map_last}
use Rattle.serve_line.proofs.state.build_slots.control_slots.Goals as goal
use Rattle.serve_line.specs.Building.{place_of}

pub returns : goal.returns
returns c =
    map_last place_of c.in_ok-slots.slots.items c.push.new.self.items c.in_ok-reserve.reserve _ _
    c.in_ok-push.ensures.items c.in_ok-reserve.ensures c.in_ok-slots.ensures
