use Rattle.std.proofs.Common.{◌≡◌, All, map, take}
use Rattle.rbc_log.proofs.merging.all_entries.Given as goal
use Rattle.rbc_log.specs.Entries.{written_of}
use Rattle.rbc_log.specs.Log.{IsReplaying}
use Rattle.rbc_log.specs.Merge.{all_entries}

abbrev pub invariant-loop-log : goal.invariant-loop-log
invariant-loop-log l =
    (map written_of l.all.items ≡ map written_of (all_entries (map (λ r. r.now) (take l.log-index l.logs))))
    × All IsReplaying (map (λ r. r.now) (take l.log-index l.logs))
