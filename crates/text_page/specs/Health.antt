-- Whether the centres of a line answer.
use Rattle.std.specs.List.{list_all}
use Rattle.std.specs.Option.{is_some}
use Rattle.std.specs.Prelude.{◌&&◌, Bool, not}
use Rattle.text_page.specs.declared.view.CentreNow.{CentreNow}
use Rattle.text_page.specs.declared.view.LineNow.{LineNow}

-- a centre takes events: its journal can be written, and it has reached no end
abbrev pub takes_events : CentreNow → Bool
takes_events centre = not centre.is_stuck && not (is_some centre.end)

-- connections are accepted, and each centre takes events
abbrev pub is_healthy : LineNow → Bool
is_healthy now = not now.is_stopped && list_all takes_events now.centres.items
