use Rattle.law_base.proofs.rules.sections.the_longest_run.Goals as goal
use Rattle.rbc_spec.proofs.Runs.{longest_is, longest_only}
use Rattle.rbc_spec.specs.SectionRuns.{longest}

pub returns-clause-is : goal.returns-clause-is
returns-clause-is c = longest_is

pub returns-clause-only : goal.returns-clause-only
returns-clause-only c test first most count is =
    longest_only test first most count (longest test first most) is (longest_is test first most)
