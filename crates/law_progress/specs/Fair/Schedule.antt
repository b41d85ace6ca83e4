-- Endless schedules: the world after n events, which schedules are fair, and when one has reached rest.
use Rattle.std.specs.Prelude.{◌≡◌, ◌≢◌, ℕ, zero, suc, ◌+◌, ◌≤◌, List, [], Some, Result, Ok, Err, slice_get}
use Rattle.rbc_spec.specs.Line.{Line}
use Rattle.rbc_spec.specs.Centre.{Centre}
use Rattle.rbc_spec.specs.Step.{Refusal}
use Rattle.rbc_spec.specs.World.{World, Event, Delivery, Answer, Answered, new_world, way, world_step}
use Rattle.law_progress.specs.Rest.Rest.{IsDelivery, IsAtRest}

-- ## Schedules

-- the world after a step: a refused one changes nothing
abbrev pub after : World → Result (Answer × World) Refusal → World
after w (Ok (answer, new)) = new
after w (Err why) = w

-- the world after the first n events of the schedule, from the line's initial state
unfoldable pub world_after : Line → (ℕ → Event) → ℕ → World
world_after line schedule zero = new_world line
world_after line schedule (suc n) =
    after (world_after line schedule n) (world_step line (world_after line schedule n) (schedule n))

-- the number of the frame that b takes next of a
abbrev pub next_number : World → ℕ → ℕ → ℕ
next_number w a b = (w.at b).taken a + 1

-- if a frame from a to b is on the way, the next frame of that link is delivered at that position or later
pub record IsFair (line : Line) (schedule : ℕ → Event) : Type 0 where
  pub delivers : (n a b : ℕ) → way (world_after line schedule n) a b ≢ []
      → (m : ℕ) × (n ≤ m) × (schedule m ≡ Delivery a b (next_number (world_after line schedule m) a b))

-- from some position on each event is a delivery, of any frame
pub record EndsInDeliveries (schedule : ℕ → Event) : Type 0 where
  pub from : ℕ
  pub are_deliveries : (n : ℕ) → from ≤ n → IsDelivery (schedule n)

-- the schedule begins with these events
pub record BeginsWith (events : List Event) (schedule : ℕ → Event) : Type 0 where
  pub each : (i : ℕ) (event : Event) → slice_get events i ≡ Some event → schedule i ≡ event

-- ## Rest

-- a centre with its clock set back
abbrev pub clockless : Centre → Centre
clockless k = record k { clock = 0 }

-- v is w, but for the clocks of the centres
pub record IsSameButClocks (w v : World) : Type 0 where
  pub trains : v.trains ≡ w.trains
  pub centres : (c : ℕ) → clockless (v.at c) ≡ clockless (w.at c)

-- a step without any message to a train, frame to a centre, or reply to the interlocking
abbrev pub IsSilent : Result (Answer × World) Refusal → Type 0
IsSilent (Ok (Answered o, new)) = (o.sayings ≡ []) × ((d : ℕ) → o.frames d ≡ []) × (o.words ≡ [])
IsSilent (Ok (answer, new)) = Unit {0}
IsSilent (Err why) = Unit {0}

-- from position n on all is at rest, each step is silent, and the world stays as it is at n
pub record RestsFrom (line : Line) (schedule : ℕ → Event) (n : ℕ) : Type 0 where
  pub at_rest : (m : ℕ) → n ≤ m → IsAtRest line (world_after line schedule m)
  pub silent : (m : ℕ) → n ≤ m → IsSilent (world_step line (world_after line schedule m) (schedule m))
  pub same : (m : ℕ) → n ≤ m → IsSameButClocks (world_after line schedule n) (world_after line schedule m)

-- At position n a frame from a to b is on the way. From there on, each delivery of the next frame of that link is
-- refused. A step clock is at its end, or a link is full.
pub record StopsFrom (line : Line) (schedule : ℕ → Event) (n : ℕ) : Type 0 where
  pub a : ℕ
  pub b : ℕ
  pub on_way : way (world_after line schedule n) a b ≢ []
  pub refused : (m : ℕ) → n ≤ m
      → (why : Refusal) × (world_step line (world_after line schedule m)
      (Delivery a b (next_number (world_after line schedule n) a b)) ≡ Err why)
