use Rattle.text_fields.proofs.Steps.{filling_shown, no_filling}
use Rattle.text_fields.proofs.walk.Walk.filling.Goals as goal

pub returns-in_ok-take-clause-shows : goal.returns-in_ok-take-clause-shows
returns-in_ok-take-clause-shows c = λ fill e n.
    filling_shown fill c.room-width.result c.args.self.now.end c.take.new.self.end c.args.self.now.look
    c.take.new.self.look c.in_ok-take.field-0
    e c.room-width.ensures c.if-width-gt0.true n c.in_ok-take.ensures.shows

pub returns-else-width-gt0-clause-shows : goal.returns-else-width-gt0-clause-shows
returns-else-width-gt0-clause-shows c = λ fill e n.
    no_filling fill c.room-width.result c.args.self.now.end c.args.self.now.look e c.room-width.ensures
    c.if-width-gt0.false n
