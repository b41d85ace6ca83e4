use Rattle.rbc_msgs.proofs.TrainLaws.{read_train-again}
use Rattle.rbc_railway.proofs.sending.spelled.Goals as goal

pub returns-in-Ok-clause-read : goal.returns-in-Ok-clause-read
returns-in-Ok-clause-read c = read_train-again c.in-Ok.bytes.items c.args.message.now c.in-Ok.ensures.spelled
