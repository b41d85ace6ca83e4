use Rattle.std.proofs.Common.{◌∙◌, ap}
use Rattle.std.proofs.lemmas.Result.{IfOk-weaker}
use Rattle.text_fields.proofs.Message.{track_good, train_good}
use Rattle.text_fields.proofs.walk.fields_of.Goals as goal
use Rattle.text_fields.specs.Named.{all_named}

pub returns-clause-train : goal.returns-clause-train
returns-clause-train c = λ m s.
    let g = train_good c.args.bytes.now m c.new-walk.result.look c.message.new.self.look c.new-walk.result.end s
    c.new-walk.ensures.look c.new-walk.ensures.end c.in_ok-message.ensures.shows in
    IfOk-weaker c.finish.result _ _ (λ seen e. ap all_named e ∙ g.1) (c.finish.ensures.none g.0)

pub returns-clause-track : goal.returns-clause-track
returns-clause-track c = λ m s.
    let g = track_good c.args.bytes.now m c.new-walk.result.look c.message.new.self.look c.new-walk.result.end s
    c.new-walk.ensures.look c.new-walk.ensures.end c.in_ok-message.ensures.shows in
    IfOk-weaker c.finish.result _ _ (λ seen e. ap all_named e ∙ g.1) (c.finish.ensures.none g.0)
