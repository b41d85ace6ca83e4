use Rattle.law_base.proofs.rules.sections.a_run_is_cut_in_two.Goals as goal
use Rattle.rbc_spec.proofs.Runs.{parts_count, within_part_before, within_part_from}

pub returns-clause-before : goal.returns-clause-before
returns-clause-before c = within_part_before

pub returns-clause-from : goal.returns-clause-from
returns-clause-from c = within_part_from

pub returns-clause-count : goal.returns-clause-count
returns-clause-count c = parts_count
