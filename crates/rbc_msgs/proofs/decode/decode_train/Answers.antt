use Rattle.std.proofs.Common.{◌∙◌, sym}
use Rattle.rbc_msgs.proofs.decode.decode_train.Goals as goal
use Rattle.rbc_msgs.proofs.TrainLaws.{read_train-again}

pub returns-in-Some-clause-only : goal.returns-in-Some-clause-only
returns-in-Some-clause-only c = λ m s. sym (read_train-again c.args.bytes.now m s) ∙ c.in-Some.ensures.exact

pub returns-in-Some-request-clause-only : goal.returns-in-Some-request-clause-only
returns-in-Some-request-clause-only c = λ m s. sym (read_train-again c.args.bytes.now m s)
    ∙ c.in-Some-request.ensures.exact

pub returns-in-Ok-clause-only : goal.returns-in-Ok-clause-only
returns-in-Ok-clause-only c = λ m s. sym (read_train-again c.args.bytes.now m s) ∙ c.in-Ok.ensures.exact

pub returns-in-Err-clause-only : goal.returns-in-Err-clause-only
returns-in-Err-clause-only c = λ m s other. sym (read_train-again c.args.bytes.now m s) ∙ c.in-Err.ensures.exact other
