-- The title of the diagram.
use Rattle.cli_picture.specs.Bars.{number_of}
use Rattle.cli_picture.specs.declared.run.Run.{Run}
use Rattle.std.specs.Fmt.{decimal}
use Rattle.std.specs.Prelude.{◌+◌, ◌++◌, ◌-◌, ◌^◌, codes, if◌then◌else◌, is_some, length, List, min, nat_le, ℕ}

-- the number of drawn events; the beginning of an axis of time is none
abbrev pub drawn : Run → ℕ
drawn run = if is_some run.axis then length run.events.items - 1 else length run.events.items

-- Which events are drawn: all of them; over time the number of them; or else the first and the last by number.
abbrev pub count_text : Run → List ℕ
count_text run =
    if nat_le run.event_count (drawn run) then decimal (drawn run) ++ codes " events"
    else if is_some run.axis
    then decimal (drawn run) ++ (codes " of " ++ (decimal run.event_count ++ codes " events"))
    else codes "events " ++ (decimal (number_of run 0) ++ (codes " to "
    ++ (decimal (min (run.skipped + drawn run) (2 ^ 64 - 1)) ++ (codes " of " ++ decimal run.event_count))))
