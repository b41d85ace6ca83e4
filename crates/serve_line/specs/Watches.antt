-- How the queue of a journal moves.
use Rattle.std.specs.declared.time.Instant.{Instant}
use Rattle.std.specs.Prelude.{◌-◌, ◌/◌, ◌==◌, ◌||◌, ◌≡◌, Bool, false, if◌then◌else◌, nat_le, None, not}
use Rattle.std.specs.Prelude.{Option, Some, true, unwrap_or, ℕ}
use Rattle.std.specs.Time.{instant_nanos}
use Rattle.serve_line.specs.declared.state.watch.LastMove.{LastMove}
use Rattle.serve_line.specs.declared.state.watch.Movement.{Movement}
use Rattle.serve_line.specs.declared.state.watch.Movement.TheVariants.{IsLong, Moves, Waits}

-- the queue is empty, or an event has left it since the last look
abbrev pub has_moved : LastMove → ℕ → ℕ → Bool
has_moved before entered left = (entered == left) || not (left == before.left)

-- the movement of a queue that has not moved since the first moment
abbrev pub movement_since : Instant → Instant → Movement
movement_since since now =
    if nat_le 1 ((instant_nanos now - instant_nanos since) / 1_000_000_000) then IsLong else Waits

-- The look at a queue that has not moved. Its time counts from the first such look at which the clock did not fail.
abbrev pub HasNotMoved : LastMove → Option Instant → Movement → LastMove → Type 0
HasNotMoved before None movement after = (movement ≡ Waits) × (after ≡ before)
HasNotMoved before (Some now) movement after =
    (movement ≡ movement_since (unwrap_or before.since now) now)
    × (after ≡ record before { since = Some (unwrap_or before.since now) })

-- the look at a queue
abbrev pub IsMovement : LastMove → ℕ → ℕ → Option Instant → Movement → LastMove → Type 0
IsMovement before entered left now movement after =
    (has_moved before entered left ≡ true → (movement ≡ Moves) × (after ≡ record { left = left; since = None }))
    × (has_moved before entered left ≡ false → HasNotMoved before now movement after)

-- Whether a queue that moves so is long, and whether that is noted: when it becomes long.
abbrev pub marks_of : Movement → Bool → Bool × Bool
marks_of Moves was_long = (false, false)
marks_of Waits was_long = (was_long, false)
marks_of IsLong was_long = (true, not was_long)
