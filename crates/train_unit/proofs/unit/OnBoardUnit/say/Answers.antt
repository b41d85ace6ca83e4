use Rattle.std.proofs.Common.{◌∙◌, ap, is_ok, sym}
use Rattle.rbc_msgs.specs.StepMessage.{step_message}
use Rattle.train_unit.specs.Units.{train_of}
use Rattle.train_unit.proofs.Verdicts.{may_say_there, not_ok, verdict_is}
use Rattle.train_unit.proofs.unit.OnBoardUnit.say.Goals as goal

pub returns-clause-obeys : goal.returns-clause-obeys
returns-clause-obeys c there within =
    may_say_there c.args.self.now there c.args.ends within c.args.line.now c.args.self.now.nid_engine c.args.centre
    (step_message c.args.message.now) (sym (ap is_ok c.look_at.ensures) ∙ ap is_ok c.in_ok-look_at.was)

pub returns-in_err-look_at-clause-may : goal.returns-in_err-look_at-clause-may
returns-in_err-look_at-clause-may c =
    not_ok c.from_residual.result c.from_residual.ensures.0 ∙ sym (ap is_ok c.in_err-look_at.was)
    ∙ ap is_ok c.look_at.ensures
    ∙ verdict_is c.args.line.now c.args.self.now.nid_engine c.args.centre (step_message c.args.message.now)
    (train_of c.args.self.now c.args.ends)
