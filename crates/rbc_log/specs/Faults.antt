-- The numbers of the faults of a commit and of a merge.
use Rattle.std.specs.Prelude.{ℕ}
use Rattle.rbc_centre.specs.Views.{number_of_fault as number_of_step_fault}
use Rattle.rbc_log.specs.declared.fault.CommitFault.{CommitFault}
use Rattle.rbc_log.specs.declared.fault.CommitFault.TheVariants.{Step, LogFull}
use Rattle.rbc_log.specs.declared.merge_fault.MergeFault.{MergeFault}
use Rattle.rbc_log.specs.declared.merge_fault.MergeFault.TheVariants.{Memory, Twice, OtherLine}

abbrev pub number_of_fault : CommitFault → ℕ
number_of_fault (Step fault) = number_of_step_fault fault
number_of_fault LogFull = 4

abbrev pub number_of_merge_fault : MergeFault → ℕ
number_of_merge_fault Memory = 1
number_of_merge_fault Twice = 2
number_of_merge_fault OtherLine = 3
