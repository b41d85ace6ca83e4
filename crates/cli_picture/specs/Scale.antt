-- Places on the page, in pixels.
use Rattle.std.specs.Prelude.{◌*◌, ◌+◌, ◌-◌, ◌/◌, ◌==◌, ◌^◌, ◌||◌, Bool, if◌then◌else◌, is_some, length, List, max, min}
use Rattle.std.specs.Prelude.{nat_le, nat_lt, negsuc, None, Option, option_and_then, pos, slice_get, Some, suc}
use Rattle.std.specs.Prelude.{unwrap_or, zero, ℕ, ℤ}
use Rattle.cli_picture.specs.declared.scale.Scale.{Scale}
use Rattle.cli_picture.specs.declared.time.TimeAxis.{TimeAxis}
use Rattle.cli_picture.specs.Time.{place_at}
use Rattle.rbc_place.specs.declared.place.Place.{Place}
use Rattle.rbc_spec.specs.Line.{Line}
use Rattle.rbc_spec.specs.Sections.{track_end}

-- the share of a part of the whole in a room, rounded to the nearest; without a whole the whole room
abbrev pub nearest : ℕ → ℕ → ℕ → ℕ
nearest room part whole = if whole == 0 then room else (room * min part whole * 2 + whole) / (whole * 2)

-- ## To the right

-- the length of the first tracks, this many, in metres
abbrev pub metres_before : Line → ℕ → ℕ
metres_before line zero = 0
metres_before line (suc t) = metres_before line t + track_end line t

-- the length of the line up to a point of a track; a point past the track's end is at the end
abbrev pub metres_to : Line → ℕ → ℕ → ℕ
metres_to line track metres = metres_before line track + min metres (track_end line track)

-- the room of the tracks from 180 to 1180, without the 30 between two tracks
abbrev pub room_of : Line → ℕ
room_of line = 1000 - (length line.tracks - 1) * 30

-- the place of a point of a track
abbrev pub x_of : Line → ℕ → ℕ → ℕ
x_of line track metres =
    min (180 + track * 30
    + nearest (room_of line) (metres_to line track metres) (metres_before line (length line.tracks))) 1180

-- the place of a safe front end, which is in decimetres
abbrev pub front_of : Line → Place → ℕ
front_of line place = x_of line place.track (place.front / 10)

-- a safe rear end in metres, from decimetres; 0 before the start of the track
abbrev pub rear_metres : ℤ → ℕ
rear_metres (pos n) = n / 10
rear_metres (negsuc n) = 0

-- the place of a safe rear end; that of the front end if it is not known
abbrev pub rear_of : Line → Place → Option ℤ → ℕ
rear_of line place (Some rear) = x_of line place.track (rear_metres rear)
rear_of line place None = front_of line place

-- ## Downward

-- the time at a place; 0 if it is not known
abbrev pub time_at : List (Option ℕ) → ℕ → ℕ
time_at times place = unwrap_or (option_and_then (λ time. time) (slice_get times place)) 0

-- the time of an event of an axis, whose event 0 is its beginning
abbrev pub time_of : TimeAxis → ℕ → ℕ
time_of axis event = if event == 0 then axis.from_ms else time_at axis.times_ms.now (event - 1)

-- the height of all events: 24 for each, at least 24 or, with an axis of time, 400, and at most 3400
abbrev pub height : Scale → ℕ
height scale = min 3400 (max (if is_some scale.axis then 400 else 24) (24 * scale.event_count))

-- this far below the upper edge of the events
abbrev pub below : Scale → ℕ → ℕ
below scale distance = min (2 ^ 64 - 1) (scale.top + distance)

-- the place of a time of an axis
abbrev pub place_in : Scale → TimeAxis → ℕ → ℕ
place_in scale axis time = below scale (place_at (height scale) axis.from_ms axis.to_ms time)

-- the middle of an event's line; an event past the last is at the lower edge
abbrev pub middle_of : Scale → ℕ → ℕ
middle_of scale event = below scale (nearest (height scale) (event * 2 + 1) (scale.event_count * 2))

-- the place of an event: that of its time, or else the middle of its line
abbrev pub y_by : Scale → ℕ → Option TimeAxis → ℕ
y_by scale event (Some axis) = place_in scale axis (time_of axis event)
y_by scale event None = middle_of scale event

abbrev pub y_of : Scale → ℕ → ℕ
y_of scale event = y_by scale event scale.axis

-- the end of a mark: at an event, or after the last one at the lower edge
abbrev pub until_of : Scale → ℕ → ℕ
until_of scale event =
    if nat_lt event scale.event_count then y_of scale event else below scale (height scale)

-- there is room for labels with this many events from one to the next: at least 18, or at most one event
abbrev pub has_room : Scale → ℕ → Bool
has_room scale stride =
    nat_le 18 (nearest (height scale) stride scale.event_count) || nat_le scale.event_count 1
