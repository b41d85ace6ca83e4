use Rattle.test_scenes.proofs.QuietMarks.{admits, dismisses, given, given_to_another, keeps, never_freed, never_given}
use Rattle.test_scenes.proofs.QuietMarks.{no_other_start, unkeeps, waited_for}
use Rattle.test_scenes.proofs.quiet_marks.only_an_admission_gives.Goals as goal

pub returns-clause-keeps : goal.returns-clause-keeps
returns-clause-keeps c = keeps

pub returns-clause-admits : goal.returns-clause-admits
returns-clause-admits c = admits

pub returns-clause-dismisses : goal.returns-clause-dismisses
returns-clause-dismisses c = dismisses

pub returns-clause-unkeeps : goal.returns-clause-unkeeps
returns-clause-unkeeps c = unkeeps

pub returns-clause-no_other_start : goal.returns-clause-no_other_start
returns-clause-no_other_start c = no_other_start

pub returns-clause-waited_for : goal.returns-clause-waited_for
returns-clause-waited_for c = waited_for

pub returns-clause-given : goal.returns-clause-given
returns-clause-given c = given

pub returns-clause-given_to_another : goal.returns-clause-given_to_another
returns-clause-given_to_another c = given_to_another

pub returns-clause-never_given : goal.returns-clause-never_given
returns-clause-never_given c = never_given

pub returns-clause-never_freed : goal.returns-clause-never_freed
returns-clause-never_freed c = never_freed
