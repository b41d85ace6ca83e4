-- The beginning of the journals of running centres.
use Rattle.std.specs.Prelude.{◌≡◌, length}
use Rattle.rbc_log.specs.Log.{LogValue}
use Rattle.rbc_node.specs.declared.node.Node.{Node}
use Rattle.rbc_node.specs.Node.{centre_of, IsLogOf}
use Rattle.serve_line.specs.declared.journaling.journal.Journal.{Journal}
use Rattle.serve_line.specs.Stamps.{last_stamp}

-- the journal is that of the node's centre, and begins after the events of a log of this centre
pub record BeginsAfter (n : Node) (j : Journal) : Type 0 where
  pub centre : j.centre ≡ centre_of n
  pub log : LogValue
  pub its : IsLogOf (centre_of n) log
  pub begins : j.begins ≡ length log.entries
  pub begun : j.begun ≡ last_stamp log.entries
