use Rattle.std.proofs.Common.{◌≡◌, map, take}
use Rattle.serve_line.proofs.clients.endpoint_loop.states_of.Given as goal

abbrev pub invariant-loop-slot : goal.invariant-loop-slot
invariant-loop-slot g l =
    map (λ state. state.is_reserve) l.states.items
    ≡ map (λ slot. slot.is_reserve) (take l.slot-index l.endpoint.slots.items)
