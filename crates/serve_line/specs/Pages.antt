-- The line as the page shows it.
use Rattle.std.specs.Prelude.{◌==◌, if◌then◌else◌, length, List, slice_get, slice_set}
use Rattle.std.specs.Option.{option_map_or}
use Rattle.rbc_log.specs.Log.{LogValue}
use Rattle.serve_line.specs.declared.directions.Direction.{Direction}
use Rattle.serve_line.specs.Lives.{end_of}
use Rattle.serve_line.specs.Stamps.{last_stamp}
use Rattle.text_page.specs.declared.view.CentreNow.{CentreNow}
use Rattle.text_page.specs.declared.view.LinkNow.{LinkNow}
use Rattle.text_script.specs.rbc_centre.declared.centre.Centre.{Centre}
use Rattle.text_script.specs.rbc_centre.States.{number_of, state_of}

-- a link over which no frame was sent
abbrev pub unused_link : Direction → LinkNow
unused_link direction = record { from = direction.from; to = direction.to; sent = 0; taken = 0 }

-- the counts of the frames that centre c has sent, or has taken, over a link
abbrev pub with_frames : Centre → LinkNow → LinkNow
with_frames k link = record {
  from = link.from;
  to = link.to;
  sent = if link.from == number_of k then length ((state_of k).sent link.to) else link.sent;
  taken = if link.to == number_of k then (state_of k).taken link.from else link.taken;
}

-- the usage of a centre with this log
abbrev pub with_life : LogValue → CentreNow → CentreNow
with_life l centre = record centre { entries = length l.entries; clock = last_stamp l.entries; end = end_of l }

-- the usage of the centres, of which one has this log
abbrev pub lives_with : LogValue → List CentreNow → List CentreNow
lives_with l centres =
    option_map_or (λ centre. slice_set centres (number_of l.core) (with_life l centre))
    (slice_get centres (number_of l.core)) centres
