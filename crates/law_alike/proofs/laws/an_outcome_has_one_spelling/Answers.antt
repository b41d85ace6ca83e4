use Rattle.law_alike.proofs.Bytes.{one_spelling}
use Rattle.law_alike.proofs.laws.an_outcome_has_one_spelling.Goals as goal

pub returns : goal.returns
returns ctx o messages others frames other_frames is also = one_spelling o messages others frames other_frames is also
