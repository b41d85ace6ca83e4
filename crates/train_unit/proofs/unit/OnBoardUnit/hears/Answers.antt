use Rattle.std.proofs.Common.{◌∙◌, ap, sym}
use Rattle.rbc_spec.specs.Message.{DataAcknowledged}
use Rattle.rbc_msgs.specs.Bodies.{track_body}
use Rattle.law_trains.specs.Trains.{hears}
use Rattle.train_unit.specs.Units.{train_of}
use Rattle.train_unit.proofs.unit.OnBoardUnit.hears.Goals as goal

pub returns-in-DataAcknowledged-clause-exact : goal.returns-in-DataAcknowledged-clause-exact
returns-in-DataAcknowledged-clause-exact c ends =
    let x = train_of c.args.self.now ends in
    c.data_acknowledged.ensures.exact c.args.line.now ends
    ∙ ap (λ stamp. hears c.args.line.now c.args.centre c.args.message.now (DataAcknowledged stamp) x)
    c.value.ensures.value
    ∙ ap (λ body. hears c.args.line.now c.args.centre c.args.message.now body x)
    (ap track_body (sym c.in-DataAcknowledged.is) ∙ c.body.ensures)
