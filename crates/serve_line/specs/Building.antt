-- The shared state of running centres as it is built.
use Rattle.std.specs.List.{range_with_len}
use Rattle.std.specs.Option.{option_map_or}
use Rattle.std.specs.Prelude.{[], ◌+◌, ◌++◌, ◌∷◌, Bool, false, if◌then◌else◌, is_some, length, List, map, None, Option}
use Rattle.std.specs.Prelude.{option_map, slice_get, Some, true, ℕ}
use Rattle.rbc_node.specs.declared.node.Node.{Node}
use Rattle.rbc_node.specs.Node.{centre_of}
use Rattle.rbc_spec.specs.Line.{Line}
use Rattle.serve_line.specs.declared.directions.Direction.{Direction}
use Rattle.serve_line.specs.declared.journaling.journal.Journal.{Journal}
use Rattle.serve_line.specs.declared.state.peer.DirectedLink.{DirectedLink}
use Rattle.serve_line.specs.declared.state.peer.Peer.{Peer}
use Rattle.serve_line.specs.declared.state.peer.Peer.TheVariants.{Interlocking, Trains}
use Rattle.serve_line.specs.declared.state.sink.CentreSink.{CentreSink}
use Rattle.serve_line.specs.declared.state.slots.Endpoint.{Endpoint}
use Rattle.serve_line.specs.declared.state.slots.Slot.{Slot}

-- ## Links

abbrev pub direction_of : DirectedLink → Direction
direction_of link = record { from = link.from; to = link.to }

-- the receiver of the direction has a node
abbrev pub has_node : List Node → Direction → Bool
has_node nodes direction = is_some (slice_get nodes direction.to)

-- ## Endpoints and slots

-- the number of a slot at its endpoint, and whether it is the reserve slot
abbrev pub place_of : Slot → ℕ × Bool
place_of slot = (slot.number, slot.is_reserve)

-- the slots of the control endpoint: four, and the reserve slot
abbrev pub control_places : List (ℕ × Bool)
control_places = map (λ number. (number, false)) (range_with_len 0 4) ++ (4, true) ∷ []

-- the endpoint of this number is that of the centre of the node in this place, or after those the control endpoint
abbrev pub peer_at : List Node → ℕ → Peer
peer_at nodes number = option_map_or (λ node. Trains (centre_of node)) (slice_get nodes number) Interlocking

-- a centre's endpoint has a slot for each train of the line, and eight more
abbrev pub slot_places : Line → List Node → ℕ → List (ℕ × Bool)
slot_places line nodes number =
    option_map_or (λ node. map (λ n. (n, false)) (range_with_len 0 (length line.trains + 8))) (slice_get nodes number)
    control_places

-- the peer of an endpoint, and the places of its slots
abbrev pub seats_of : Endpoint → Peer × List (ℕ × Bool)
seats_of endpoint = (endpoint.peer, map place_of endpoint.slots.items)

-- those of the endpoint of this number
abbrev pub seats_at : Line → List Node → ℕ → Peer × List (ℕ × Bool)
seats_at line nodes number = (peer_at nodes number, slot_places line nodes number)

-- those of the control endpoint
abbrev pub control_seats : Peer × List (ℕ × Bool)
control_seats = (Interlocking, control_places)

-- ## Connections and sinks

-- the centre whose journal keeps the events of the replies of centre n before they leave: its own, if it keeps one
abbrev pub awaited_journal : Bool → ℕ → Option ℕ
awaited_journal is_journaled n = if is_journaled then Some n else None

-- the journal for which the answers of a sink wait
abbrev pub journal_in : CentreSink → Option Journal
journal_in sink = option_map (λ journal. journal.now) sink.journal
