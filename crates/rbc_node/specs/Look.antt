-- The log that a look at a node shows.
use Rattle.std.specs.Sync.Mutex.{mutex_guard_value}
use Rattle.rbc_log.specs.Log.{LogValue}
use Rattle.rbc_node.specs.declared.look.Look.{Look}

-- the log under the lock
abbrev pub log_seen : Look → LogValue
log_seen look = mutex_guard_value look.log
