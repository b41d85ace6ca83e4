use Rattle.rbc_msgs.proofs.laws.no_spelling_begins_another.Goals as goal
use Rattle.rbc_msgs.proofs.TrackLaws.{track_spellings-apart}
use Rattle.rbc_msgs.proofs.TrainLaws.{train_spellings-apart}

pub returns-clause-train : goal.returns-clause-train
returns-clause-train c = train_spellings-apart

pub returns-clause-track : goal.returns-clause-track
returns-clause-track c = track_spellings-apart
