-- The train of a message, the connection that begins to serve it, and the train that each connection serves.
use Rattle.std.specs.Prelude.{◌==◌, Bool, false, if◌then◌else◌, List, None, Option, option_and_then, option_map}
use Rattle.std.specs.Prelude.{slice_get, Some, true, ℕ}
use Rattle.rbc_spec.specs.Line.{Line, train_number}
use Rattle.rbc_spec.specs.Message.{SystemVersion, TrackBody}
use Rattle.serve_workers.specs.declared.connections.route.Route.{Route}

-- message 32, which begins a session
abbrev pub is_version : TrackBody → Bool
is_version SystemVersion = true
is_version body = false

-- The train of the engine, by its place in the line file. The answered connection serves the train from message 32 on.
abbrev pub route_of : Line → Option ℕ → ℕ → TrackBody → Option Route
route_of line own t body =
    option_map (λ i. record { train = i; begins = if is_version body then own else None }) (train_number line t)

-- the train that a connection serves
abbrev pub served_by : ℕ → List (Option ℕ) → Option ℕ
served_by number trains = option_and_then (λ n. n) (slice_get trains number)

-- the train, if it is not this one
abbrev pub other_than : ℕ → Option ℕ → Option ℕ
other_than n (Some b) = if b == n then None else Some b
other_than n None = None
