-- The slot for a new connection at an endpoint.
use Rattle.std.specs.List.{list_any}
use Rattle.std.specs.Prelude.{◌≡◌, ◌≤◌, ◌&&◌, ℕ, All, Bool, false, if◌then◌else◌, List, nat_le, None, not}
use Rattle.std.specs.Prelude.{Option, position, slice_get, Some, true}
use Rattle.serve_line.specs.declared.state.room.Room.{Room}
use Rattle.serve_line.specs.declared.state.room.Room.TheVariants.{Full, Leave, Reserve, Take, Wait}
use Rattle.serve_line.specs.declared.state.room.SlotState.{SlotState}

-- the slot is free, and not in reserve
abbrev pub is_open : SlotState → Bool
is_open slot = not slot.is_taken && not slot.is_reserve

-- the slot is free, and in reserve
abbrev pub is_spare : SlotState → Bool
is_spare slot = not slot.is_taken && slot.is_reserve

-- the connection of the slot has to leave it, and has not left yet
abbrev pub is_leaving : SlotState → Bool
is_leaving slot = slot.is_leaving && slot.is_taken

-- the connection of the slot may have to leave it: it serves no train, and the slot is not in reserve
abbrev pub may_leave : SlotState → Bool
may_leave slot = (not slot.is_reserve && not slot.is_leaving) && not slot.is_serving

-- of the slot that was found and this one the slot that was last active earlier, with that time
abbrev pub earlier : Option (ℕ × ℕ) → ℕ → ℕ → Option (ℕ × ℕ)
earlier None place heard = Some (place, heard)
earlier (Some found) place heard = if nat_le found.1 heard then Some found else Some (place, heard)

-- the slot that was found and its time, after the slot at this place
abbrev pub found_after : Option (ℕ × ℕ) → ℕ → SlotState → Option (ℕ × ℕ)
found_after found place slot = if may_leave slot then earlier found place slot.heard else found

-- the connection of slot p may have to leave, and no other that may was last active before it
pub record IsEarliest (slots : List SlotState) (p : ℕ) : Type 0 where
  pub slot : SlotState
  pub there : slice_get slots p ≡ Some slot
  pub leaves : may_leave slot ≡ true
  pub first : All (λ other. may_leave other ≡ true → slot.heard ≤ other.heard) slots

-- No slot is free but for those in reserve. Unless the new connection waits no longer, none becomes free.
pub record IsCrowded (slots : List SlotState) (is_last : Bool) : Type 0 where
  pub none : position is_open slots ≡ None
  pub stay : is_last ≡ false → All (λ slot. may_leave slot ≡ false) slots
  pub leaving : is_last ≡ false → list_any is_leaving slots ≡ false

-- A free slot is taken. If there is none, another connection has to leave if that is due. The reserve slot is taken if
-- no other slot becomes free.
abbrev pub IsRoom : List SlotState → Bool → Bool → Room → Type 0
IsRoom slots is_due is_last (Take p) = position is_open slots ≡ Some p
IsRoom slots is_due is_last (Reserve p) = IsCrowded slots is_last × (position is_spare slots ≡ Some p)
IsRoom slots is_due is_last (Leave p) =
    (position is_open slots ≡ None) × (is_due ≡ true) × (is_last ≡ false) × IsEarliest slots p
IsRoom slots is_due is_last Wait =
    (position is_open slots ≡ None) × (is_last ≡ false)
    × (is_due ≡ true → All (λ slot. may_leave slot ≡ false) slots × (list_any is_leaving slots ≡ true))
IsRoom slots is_due is_last Full = IsCrowded slots is_last × (position is_spare slots ≡ None)
