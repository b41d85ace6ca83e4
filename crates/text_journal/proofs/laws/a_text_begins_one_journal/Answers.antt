use Rattle.text_journal.proofs.Entries.{one_beginning}
use Rattle.text_journal.proofs.laws.a_text_begins_one_journal.Goals as goal

pub returns : goal.returns
returns c =
    λ v w line number file text es fs good it h k. one_beginning v w line good number file text es fs it h k
