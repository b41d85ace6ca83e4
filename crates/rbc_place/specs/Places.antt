-- Places of trains in memory.
use Rattle.std.specs.Option.{option_map_or}
use Rattle.std.specs.Prelude.{if◌then◌else◌, ◌&&◌, ◌*◌, ◌+◌, ◌-ℤ◌, ◌==◌, ◌||◌, Bool, false, int_le, nat_lt, Option}
use Rattle.std.specs.Prelude.{option_map, pos, true, ℕ, ℤ}
use Rattle.rbc_place.specs.declared.place.Place.{Place}
use Rattle.rbc_spec.specs.Line.{end, Line, section}
use Rattle.rbc_spec.specs.Place as spec
use Rattle.rbc_spec.specs.SectionRuns.{is_empty, SectionRun}

abbrev pub place_of : Place → spec.Place
place_of p = record { track = p.track; group = p.group; front = p.front; rear = p.rear }

-- the place of a report whose group is `metres` from the start of the track
abbrev pub place_from : ℕ → ℕ → spec.Position → spec.Place
place_from track metres p = record {
  track = track;
  group = p.nid_lrbg;
  front = 10 * metres + p.scale * p.d_lrbg + p.scale * p.l_doubtunder;
  rear = option_map (λ l. pos (10 * metres + p.scale * p.d_lrbg) -ℤ pos
      (p.scale * p.l_doubtover + 10 * l)) p.l_trainint;
}

-- the run with one more section after its last; an empty run then begins with it
abbrev pub with_last : SectionRun → ℕ → SectionRun
with_last r s = if is_empty r then record { first = s; count = 1 } else record { first = r.first; count = r.count + 1 }

-- A section is in rear if it is of an earlier track. One of this track is if it ends at or before the rear end, in
-- decimetres, or if that is not known.
abbrev pub is_in_rear : Line → ℕ → Option ℤ → ℕ → Bool
is_in_rear line track rear s =
    option_map_or (λ p. nat_lt p.track track
    || ((p.track == track) && option_map_or (λ r. int_le (pos (10 * end line s)) r) rear true))
    (section line s) false
