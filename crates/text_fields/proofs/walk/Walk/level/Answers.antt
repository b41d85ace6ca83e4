use Rattle.std.proofs.Common.{◌≡◌}
use Rattle.std.proofs.lemmas.Result.{IfOk-weaker}
use Rattle.text_fields.specs.Messages.{level_shown}
use Rattle.text_fields.proofs.Optional.{m_level, nid_ntc, level_split, no_first, has_two, has_one}
use Rattle.text_fields.proofs.walk.Walk.level.Goals as goal

pub returns-then-not-branch-clause-shows : goal.returns-then-not-branch-clause-shows
returns-then-not-branch-clause-shows c = λ l.
    no_first m_level nid_ntc (λ v. v ≡ 1) (level_shown l) c.args.self.now.look c.take.new.self.look c.take.new.self.look
    c.args.self.now.end c.take.new.self.end c.take.new.self.end c.in_ok-take.field-0
    (level_split l) c.in_ok-take.ensures.shows c.if-not-branch.true

pub returns-then-self-ne1-clause-shows : goal.returns-then-self-ne1-clause-shows
returns-then-self-ne1-clause-shows c = λ l.
    has_one m_level nid_ntc (λ v. v ≡ 1) (level_shown l) c.args.self.now.look c.take.new.self.look
    c.args.self.now.end c.take.new.self.end c.take.new.self.last c.in_ok-take.field-0
    (level_split l) c.in_ok-take.ensures.shows c.if-not-branch.false c.in_ok-take.ensures.last c.if-self-ne1.true

pub returns-clause-shows : goal.returns-clause-shows
returns-clause-shows c =
    IfOk-weaker c.take-2.result _ _ (λ there h l.
    has_two m_level nid_ntc (λ v. v ≡ 1) (level_shown l) c.args.self.now.look c.take.new.self.look
    c.take-2.new.self.look
    c.args.self.now.end c.take.new.self.end c.take-2.new.self.end c.take.new.self.last c.in_ok-take.field-0 there
    (level_split l) c.in_ok-take.ensures.shows c.if-not-branch.false c.in_ok-take.ensures.last c.if-self-ne1.false h)
    c.take-2.ensures.shows
