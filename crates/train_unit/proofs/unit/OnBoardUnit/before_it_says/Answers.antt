use Rattle.std.proofs.Common.{if◌then◌else◌, ◌==◌, ◌∙◌, ap, None, sym}
use Rattle.rbc_msgs.specs.StepMessage.{step_body}
use Rattle.law_trains.specs.Trains.{before_it_says, gives_back}
use Rattle.train_unit.specs.Units.{train_of}
use Rattle.train_unit.proofs.unit.OnBoardUnit.before_it_says.Goals as goal

pub returns-in-ShorteningGranted-clause-exact : goal.returns-in-ShorteningGranted-clause-exact
returns-in-ShorteningGranted-clause-exact c ends =
    let x = train_of c.args.self.now ends in
    c.gives_back.ensures.exact ends ∙ ap (λ left. gives_back c.args.t_train left x) c.no_farther.ensures
    ∙ ap (λ body. before_it_says c.args.centre c.args.t_train (step_body body) x) (sym c.in-ShorteningGranted.is)

pub returns-in-EndOfMission-clause-exact : goal.returns-in-EndOfMission-clause-exact
returns-in-EndOfMission-clause-exact c ends =
    let x = train_of c.args.self.now ends in
    c.gives_back-in-EndOfMission.ensures.exact ends
    ∙ sym (ap (λ stands. if stands then gives_back c.args.t_train None x else x)
    (ap (λ speed. speed == 0) (sym c.value.ensures.value ∙ c.if-value-eq0.true)))
    ∙ ap (λ body. before_it_says c.args.centre c.args.t_train (step_body body) x) (sym c.in-EndOfMission.is)
