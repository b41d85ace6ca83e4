-- The marks of sections after each quiet step that may give or free one.
use Rattle.rbc_spec.specs.LineCentre.{Given, Kept, line_beginning, LineState, Mark, Open}
use Rattle.rbc_spec.specs.Maps.{put, put_pair}
use Rattle.rbc_spec.specs.Place.{Place}
use Rattle.rbc_spec.specs.Quiet.{Quiet}
use Rattle.std.specs.Option.{option_map_or}
use Rattle.std.specs.Prelude.{[], ◌∷◌, List, map, None, Option, pos, Some}
use Rattle.test_scenes.specs.Scene.{line}
use Rattle.test_scenes.specs.Turns.{quiet_turn}

-- at 600 m in section 5
abbrev pub in_section_5 : Place
in_section_5 = record { track = 0; group = 82025; front = 56200; rear = Some (pos 53900) }

-- Section 4 is open, sections 5 and 6 are kept for train 1, and section 7 is given to train 2. A start of train 1 in
-- section 5 waits at B.
abbrev pub start_waits : LineState
start_waits = record line_beginning {
  mark = put (put (put (put line_beginning.mark 4 Open) 5 (Kept 1)) 6 (Kept 1)) 7 (Given 2);
  wait = put_pair line_beginning.wait 1 1 (Some in_section_5);
}

-- the marks of these four sections after a quiet step, if it may be taken
abbrev pub marks_after : Quiet → Option (List Mark)
marks_after q =
    option_map_or (λ turn. Some (map turn.state.mark (4 ∷ 5 ∷ 6 ∷ 7 ∷ []))) (quiet_turn line start_waits q) None
