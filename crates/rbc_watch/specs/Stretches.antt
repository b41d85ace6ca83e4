-- The plain data of stretches in memory.
use Rattle.std.specs.Option.{option_map_or}
use Rattle.std.specs.Prelude.{◌&&◌, ◌*◌, ◌==◌, if◌then◌else◌, nat_le, nat_lt, Option, option_map, Some, ℕ}
use Rattle.law_outside.specs.Outside as spec
use Rattle.rbc_spec.specs.Line.{end, Line, start}
use Rattle.rbc_spec.specs.Place.{Place}
use Rattle.rbc_spec.specs.Sections.{is_on}
use Rattle.rbc_watch.specs.declared.stretch.Shortening.{Shortening}
use Rattle.rbc_watch.specs.declared.stretch.Stretch.{Stretch}

abbrev pub shortening_of : Shortening → spec.Shortening
shortening_of a = record { centre = a.centre; stamp = a.stamp; end = a.end }

abbrev pub stretch_of : Stretch → spec.Stretch
stretch_of x = record {
  track = x.track;
  rear = x.rear;
  end = x.end;
  since = x.since;
  asked = option_map shortening_of x.asked;
}

-- the rest after a granted request, as `takes_back` has it
abbrev pub less_granted : ℕ → ℕ → Place → spec.Stretch → spec.Stretch
less_granted c stamp place x =
    option_map_or
    (λ a. if ((a.centre == c) && (a.stamp == stamp)) && nat_le place.front (10 * a.end) then spec.up_to x a.end else x)
    x.asked x

-- the end of section s if the front is in advance of its start, as `front_end` has it
abbrev pub front_end_with : Line → Place → ℕ → Option ℕ → Option ℕ
front_end_with line place s before =
    if is_on line place.track s && nat_lt (10 * start line s) place.front then Some (end line s) else before
