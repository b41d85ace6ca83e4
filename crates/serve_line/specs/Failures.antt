-- The meaning of an error of the system.
use Rattle.std.specs.declared.io.ErrorKind.{ErrorKind}
use Rattle.std.specs.declared.io.ErrorKind.TheVariants.{ConnectionAborted, Interrupted, TimedOut, WouldBlock}
use Rattle.std.specs.Prelude.{Bool, false, true}

-- an error of `accept` that only means that no connection came
abbrev pub is_idle : ErrorKind → Bool
is_idle WouldBlock = true
is_idle Interrupted = true
is_idle ConnectionAborted = true
is_idle kind = false

-- an error of a read or a write that only means that nothing could be done now
abbrev pub is_rest : ErrorKind → Bool
is_rest WouldBlock = true
is_rest TimedOut = true
is_rest Interrupted = true
is_rest kind = false
