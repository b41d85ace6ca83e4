-- The endpoints of running centres that listen.
use Rattle.std.specs.Prelude.{List, Option, option_map, Some, string_bytes, ℕ}
use Rattle.serve_line.specs.declared.state.endpoints.ListeningAt.{ListeningAt}
use Rattle.serve_line.specs.declared.state.endpoints.PagePort.{PagePort}
use Rattle.serve_line.specs.declared.true_places.TruePlaces.{TruePlaces}

-- the path of the socket of the control endpoint
abbrev pub socket_path : Option ListeningAt → Option (List ℕ)
socket_path socket = option_map (λ at. string_bytes at.path) socket

-- the port of the page, which shows these true places too
abbrev pub page_with : TruePlaces → PagePort → PagePort
page_with places page = record page { true_places = Some places }
