use Rattle.std.proofs.Common.{◌==◌, ◌∙◌, ap, nat_eq, option_map, sym}
use Rattle.rbc_spec.specs.Maps.{has}
use Rattle.rbc_msgs.specs.StepMessage.{step_body}
use Rattle.law_trains.specs.Trains.{was_asked}
use Rattle.train_unit.specs.Units.{asked_of, train_of}
use Rattle.train_unit.proofs.unit.OnBoardUnit.was_asked.Goals as goal

pub returns-in-Some : goal.returns-in-Some
returns-in-Some c ends =
    (λ i. nat_eq (c.from.ensures i) (c.value.ensures.value i))
    ∙ ap (has (λ a. a.stamp == c.in-ShorteningGranted.request))
    (sym (ap (option_map asked_of) c.in-Some.is) ∙ c.asked.ensures)
    ∙ ap (λ body. was_asked c.args.centre (step_body body) (train_of c.args.self.now ends))
    (sym c.in-ShorteningGranted.is)

pub returns-in-None : goal.returns-in-None
returns-in-None c ends =
    ap (has (λ a. a.stamp == c.in-ShorteningGranted.request))
    (sym (ap (option_map asked_of) c.in-None.is) ∙ c.asked.ensures)
    ∙ ap (λ body. was_asked c.args.centre (step_body body) (train_of c.args.self.now ends))
    (sym c.in-ShorteningGranted.is)
