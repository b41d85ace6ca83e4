-- The addresses of the endpoints, and their connections.
use Rattle.std.specs.Arc.{arc_value}
use Rattle.std.specs.declared.sync.Arc.{Arc}
use Rattle.std.specs.declared.alloc.Global.{Global}
use Rattle.std.specs.declared.net.TcpStream.{TcpStream}
use Rattle.std.specs.Net.Socket.{socket_port}
use Rattle.std.specs.Prelude.{◌≡◌, Bool, false, None, Option, Some, true, ℕ}
use Rattle.serve_line.specs.declared.clients.entrance.Entrance.{Entrance}
use Rattle.serve_line.specs.declared.state.streams.Address.{Address}
use Rattle.serve_line.specs.declared.state.streams.Address.TheVariants.{Path, Port}
use Rattle.serve_line.specs.declared.state.streams.Listener.{Listener}
use Rattle.serve_line.specs.declared.state.streams.Listener.TheVariants as listener
use Rattle.serve_line.specs.declared.state.streams.PeerStream.{PeerStream}
use Rattle.serve_line.specs.declared.state.streams.PeerStream.TheVariants.{Tcp, Unix}

-- the endpoint is a port, and not a Unix socket
abbrev pub is_port : Address → Bool
is_port (Port address) = true
is_port (Path path) = false

-- the number of the port; 0 of a Unix socket
abbrev pub port_number : Address → ℕ
port_number (Port address) = socket_port address
port_number (Path path) = 0

-- the listener is that of a port, and not of a Unix socket
abbrev pub listens_at_port : Listener → Bool
listens_at_port (listener.Tcp source) = true
listens_at_port (listener.Unix source) = false

-- the connection is over a port
abbrev pub is_tcp : PeerStream → Bool
is_tcp (Tcp stream) = true
is_tcp (Unix stream) = false

-- both accept connections of the same listener, and both may have a file in reserve or neither
abbrev pub IsSameSource : Entrance → Entrance → Type 0
IsSameSource old new = (new.listener ≡ old.listener) × (new.has_reserve ≡ old.has_reserve)

-- the connection over a port, if it is one
abbrev pub tcp_of : PeerStream → Option (Arc TcpStream Global)
tcp_of (Tcp stream) = Some stream
tcp_of (Unix stream) = None

-- both are the same connection
abbrev pub IsSameStream : PeerStream → PeerStream → Type 0
IsSameStream (Tcp one) (Tcp other) = arc_value other ≡ arc_value one
IsSameStream (Unix one) (Unix other) = arc_value other ≡ arc_value one
IsSameStream (Tcp one) (Unix other) = ⊥
IsSameStream (Unix one) (Tcp other) = ⊥
