-- The signs of requests to shorten an authority.
use Rattle.cli_picture.specs.declared.marks.Point.{Point}
use Rattle.cli_picture.specs.declared.marks.Sign.{Sign}
use Rattle.cli_picture.specs.declared.marks.Sign.TheVariants.{Asked, Ended}
use Rattle.cli_picture.specs.declared.scale.Scale.{Scale}
use Rattle.cli_picture.specs.Missions.{answer_of, end_of, is_dropped, is_same, last_kept_in}
use Rattle.cli_picture.specs.Scale.{x_of, y_of}
use Rattle.cli_picture.specs.Texts.{cut_text, sign_text}
use Rattle.rbc_line.specs.Views.{placed_section}
use Rattle.rbc_place.specs.declared.place.Place.{Place}
use Rattle.rbc_spec.specs.Line.{end, Line}
use Rattle.std.specs.Option.{option_map_or}
use Rattle.std.specs.Prelude.{[], ◌++◌, ◌-◌, ◌/◌, if◌then◌else◌, List, Option, option_map, unwrap_or, ℕ}
use Rattle.text_script.specs.rbc_world.declared.view.MissionView.{MissionView}

-- the track of a section
abbrev pub track_of : Line → ℕ → ℕ
track_of line section = unwrap_or (option_map (λ s. s.track) (placed_section line section)) 0

-- the end of a section, as a point of a train in an event
abbrev pub end_point : Line → ℕ → ℕ → ℕ → Point
end_point line section train event = record {
  train = train;
  event = event;
  track = track_of line section;
  metres = end line section;
}

-- a sign at a point
abbrev pub sign_of : Scale → Sign → Point → List ℕ
sign_of scale sign point =
    sign_text sign point.train (x_of scale.line.now point.track point.metres) (y_of scale point.event)

-- the line at an event to a point from the end of the authority of its train, which ends before section `after`
abbrev pub cut_of : Scale → Point → ℕ → List ℕ
cut_of scale point after =
    cut_text point.train (x_of scale.line.now point.track (end scale.line.now (after - 1))) (y_of scale point.event)
    (x_of scale.line.now point.track point.metres)

-- a sign at the proposed end, and a line to it from the authority's end unless the request is dropped
abbrev pub request_text : Scale → Sign → Point → ℕ → List ℕ
request_text scale sign point after =
    if is_dropped sign then sign_of scale sign point else cut_of scale point after ++ sign_of scale sign point

-- the end of the request that was pending before
abbrev pub answered_text : Scale → Option MissionView → Option MissionView → ℕ → ℕ → List ℕ
answered_text scale before now train event =
    option_map_or
    (λ p. request_text scale (answer_of before now) (end_point scale.line.now p.1 train event) (end_of before))
    (last_kept_in before) []

-- the request that is pending now
abbrev pub asked_text : Scale → Option MissionView → ℕ → ℕ → List ℕ
asked_text scale now train event =
    option_map_or (λ p. request_text scale Asked (end_point scale.line.now p.1 train event) (end_of now))
    (last_kept_in now) []

-- the request that ends in an event, and the one that begins in it
abbrev pub requests_text : Scale → Option MissionView → Option MissionView → ℕ → ℕ → List ℕ
requests_text scale before now train event =
    if is_same (last_kept_in before) (last_kept_in now) then []
    else answered_text scale before now train event ++ asked_text scale now train event

-- the square at the place at which a mission ends
abbrev pub end_text : Scale → Option Place → ℕ → ℕ → List ℕ
end_text scale place train event =
    option_map_or (λ p. sign_of scale Ended (record {
      train = train;
      event = event;
      track = p.track;
      metres = p.front / 10;
    })) place []
