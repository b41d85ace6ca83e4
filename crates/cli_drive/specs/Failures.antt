-- Failed reads of connections.
use Rattle.std.specs.Prelude.{Bool, false, true}
use Rattle.std.specs.declared.io.ErrorKind.{ErrorKind}
use Rattle.std.specs.declared.io.ErrorKind.TheVariants.{Interrupted, TimedOut, WouldBlock}

-- the read has only found nothing yet: it would have waited, its time is over, or it was interrupted
abbrev pub is_nothing : ErrorKind → Bool
is_nothing WouldBlock = true
is_nothing TimedOut = true
is_nothing Interrupted = true
is_nothing kind = false
