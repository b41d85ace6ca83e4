-- The slots of an endpoint.
use Rattle.std.specs.Prelude.{◌≡◌, slice_get, Some, ℕ}
use Rattle.serve_line.specs.declared.state.slots.Endpoint.{Endpoint}
use Rattle.serve_line.specs.declared.state.slots.Slot.{Slot}

-- the endpoint has the slot, at some place
abbrev pub IsSlotOf : Endpoint → Slot → Type 0
IsSlotOf endpoint slot = (place : ℕ) × (slice_get endpoint.slots.items place ≡ Some slot)
