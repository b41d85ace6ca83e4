use Rattle.rbc_msgs.proofs.laws.each_message_has_a_spelling.Goals as goal
use Rattle.rbc_msgs.proofs.TrackLaws.{each_track_message}
use Rattle.rbc_msgs.proofs.TrainLaws.{each_train_message}

pub returns-clause-train : goal.returns-clause-train
returns-clause-train c = each_train_message

pub returns-clause-track : goal.returns-clause-track
returns-clause-track c = each_track_message
