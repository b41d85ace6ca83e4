use Rattle.text_journal.proofs.Entries.{cut_journal}
use Rattle.text_journal.proofs.laws.a_cut_leaves_a_beginning.Goals as goal

pub returns : goal.returns
returns c = λ v line number file es n good h. cut_journal v line good number file es n h
