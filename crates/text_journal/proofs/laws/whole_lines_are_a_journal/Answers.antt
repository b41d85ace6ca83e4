use Rattle.text_journal.proofs.laws.whole_lines_are_a_journal.Goals as goal
use Rattle.text_journal.proofs.Whole.{whole_journal}

pub returns : goal.returns
returns c =
    λ v line number file text es n good it h whole some. whole_journal v line good number file text es n it h whole some
