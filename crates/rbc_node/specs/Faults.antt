-- The numbers of the faults of a commit with a share, and of a gathering.
use Rattle.std.specs.Prelude.{ℕ}
use Rattle.rbc_log.specs.Faults.{number_of_fault as number_of_commit_fault}
use Rattle.rbc_node.specs.declared.fault.ShareFault.{ShareFault}
use Rattle.rbc_node.specs.declared.fault.ShareFault.TheVariants.{Commit, Stray}
use Rattle.rbc_node.specs.declared.gather_fault.GatherFault.{GatherFault}
use Rattle.rbc_node.specs.declared.gather_fault.GatherFault.TheVariants.{Memory, Shares, Foreign, Centres}

abbrev pub number_of_fault : ShareFault → ℕ
number_of_fault (Commit fault) = number_of_commit_fault fault
number_of_fault Stray = 5

abbrev pub number_of_gather_fault : GatherFault → ℕ
number_of_gather_fault Memory = 1
number_of_gather_fault Shares = 2
number_of_gather_fault Foreign = 3
number_of_gather_fault Centres = 4
