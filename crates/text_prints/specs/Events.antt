-- The events that lines of a script ask for.
use Rattle.std.specs.Prelude.{None, Option, Some}
use Rattle.rbc_msgs.specs.TrainReading.{read_train}
use Rattle.rbc_spec.specs.World as world
use Rattle.rbc_watch.specs.Events.{numbered}
use Rattle.text_script.specs.Script.{Asked, Deliver, Set, Show, Train, Unset}

-- the event of a request; `show` is none
abbrev pub event_asked : Asked → Option world.Event
event_asked Show = None
event_asked (Train c bytes) = Some (world.Bytes c (numbered (read_train bytes)))
event_asked (Set c s) = Some (world.Set c s)
event_asked (Unset c s) = Some (world.Unset c s)
event_asked (Deliver from to number) = Some (world.Delivery from to number)
