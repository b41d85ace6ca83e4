-- The plain data of a stream: the bytes that it keeps, and `None` after a fault.
use Rattle.std.specs.Prelude.{ℕ, List, Option, Some, None, IfSome}
use Rattle.rbc_msgs.specs.Streams.{IsRest}
use Rattle.rbc_msgs.specs.declared.stream.State.{State}
use Rattle.rbc_msgs.specs.declared.stream.State.TheVariants.{Reading, Failed}
use Rattle.rbc_msgs.specs.declared.stream.Stream.TheInside.{Inside}

abbrev pub bytes_of : State → Option (List ℕ)
bytes_of (Reading rest) = Some rest.items
bytes_of Failed = None

abbrev pub kept_bytes : Inside → Option (List ℕ)
kept_bytes s = bytes_of s.state

-- no whole message is kept, nor bytes that show a fault
abbrev pub KeepsARest : Inside → Type 0
KeepsARest s = IfSome (bytes_of s.state) IsRest
