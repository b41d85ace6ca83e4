use Rattle.std.proofs.Common.{◌≡◌, ◌⊎◌, ◌∙◌, sym, true≢false}
use Rattle.std.proofs.lemmas.Result.{IfOk-weaker}
use Rattle.text_fields.specs.Messages.{length_shown}
use Rattle.text_fields.proofs.Optional.{q_length, l_trainint, length_split, no_first, has_two, has_one}
use Rattle.text_fields.proofs.walk.Walk.train_length.Goals as goal

pub returns-then-not-branch-clause-shows : goal.returns-then-not-branch-clause-shows
returns-then-not-branch-clause-shows c = λ t.
    no_first q_length l_trainint (λ v. (v ≡ 1) ⊎ (v ≡ 2)) (length_shown t) c.args.self.now.look c.take.new.self.look
    c.take.new.self.look
    c.args.self.now.end c.take.new.self.end c.take.new.self.end c.in_ok-take.field-0
    (length_split t) c.in_ok-take.ensures.shows c.if-not-branch.true

pub returns-then-not-has_length-clause-shows : goal.returns-then-not-has_length-clause-shows
returns-then-not-has_length-clause-shows c = λ t.
    has_one q_length l_trainint (λ v. (v ≡ 1) ⊎ (v ≡ 2)) (length_shown t) c.args.self.now.look c.take.new.self.look
    c.args.self.now.end c.take.new.self.end c.take.new.self.last c.in_ok-take.field-0
    (length_split t) c.in_ok-take.ensures.shows c.if-not-branch.false c.in_ok-take.ensures.last
    (λ two. true≢false (sym (c.has_length.ensures.1 two) ∙ c.if-not-has_length.true))

pub returns-clause-shows : goal.returns-clause-shows
returns-clause-shows c =
    IfOk-weaker c.take-2.result _ _ (λ there h t.
    has_two q_length l_trainint (λ v. (v ≡ 1) ⊎ (v ≡ 2)) (length_shown t) c.args.self.now.look c.take.new.self.look
    c.take-2.new.self.look
    c.args.self.now.end c.take.new.self.end c.take-2.new.self.end c.take.new.self.last c.in_ok-take.field-0 there
    (length_split t) c.in_ok-take.ensures.shows c.if-not-branch.false c.in_ok-take.ensures.last
    (c.has_length.ensures.0 c.if-not-has_length.false) h) c.take-2.ensures.shows
