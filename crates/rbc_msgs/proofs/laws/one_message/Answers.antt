use Rattle.rbc_msgs.proofs.laws.one_message.Goals as goal
use Rattle.rbc_msgs.proofs.TrackLaws.{one_track_message}
use Rattle.rbc_msgs.proofs.TrainLaws.{one_train_message}

pub returns-clause-train : goal.returns-clause-train
returns-clause-train c = one_train_message

pub returns-clause-track : goal.returns-clause-track
returns-clause-track c = one_track_message
