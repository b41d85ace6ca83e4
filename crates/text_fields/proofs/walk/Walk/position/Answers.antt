use Rattle.std.proofs.Common.{false}
use Rattle.std.proofs.lemmas.Result.{IfOk-weaker}
use Rattle.text_fields.specs.Messages.{location_shown, length_shown, running_shown, level_shown}
use Rattle.text_fields.proofs.Steps.{takes_both, not_taken, taken_as}
use Rattle.text_fields.proofs.walk.Walk.position.Goals as goal

pub returns-then-not-branch-clause-shows : goal.returns-then-not-branch-clause-shows
returns-then-not-branch-clause-shows c = λ p.
    not_taken (location_shown p.location) _ c.args.self.now.look c.location.new.self.look _ c.args.self.now.end
    c.location.new.self.end _
    (taken_as _ _ _ _ _ _ _ c.if-not-branch.true (c.in_ok-location.ensures.shows p.location))

pub returns-then-not-branch-2-clause-shows : goal.returns-then-not-branch-2-clause-shows
returns-then-not-branch-2-clause-shows c = λ p.
    takes_both (location_shown p.location) _ c.args.self.now.look c.location.new.self.look _ c.args.self.now.end
    c.location.new.self.end _ false
    (taken_as _ _ _ _ _ _ _ c.if-not-branch.false (c.in_ok-location.ensures.shows p.location))
    (not_taken (length_shown p.train_length) _ c.location.new.self.look c.train_length.new.self.look _
    c.location.new.self.end c.train_length.new.self.end _
    (taken_as _ _ _ _ _ _ _ c.if-not-branch-2.true (c.in_ok-train_length.ensures.shows p.train_length)))

pub returns-then-not-branch-3-clause-shows : goal.returns-then-not-branch-3-clause-shows
returns-then-not-branch-3-clause-shows c = λ p.
    takes_both (location_shown p.location) _ c.args.self.now.look c.location.new.self.look _ c.args.self.now.end
    c.location.new.self.end _ false
    (taken_as _ _ _ _ _ _ _ c.if-not-branch.false (c.in_ok-location.ensures.shows p.location))
    (takes_both (length_shown p.train_length) _ c.location.new.self.look c.train_length.new.self.look _
    c.location.new.self.end c.train_length.new.self.end _ false
    (taken_as _ _ _ _ _ _ _ c.if-not-branch-2.false (c.in_ok-train_length.ensures.shows p.train_length))
    (not_taken (running_shown p) _ c.train_length.new.self.look c.running.new.self.look _ c.train_length.new.self.end
    c.running.new.self.end _
    (taken_as _ _ _ _ _ _ _ c.if-not-branch-3.true (c.in_ok-running.ensures.shows p))))

pub returns-clause-shows : goal.returns-clause-shows
returns-clause-shows c =
    IfOk-weaker c.level.result _ _ (λ there h p.
    takes_both (location_shown p.location) _ c.args.self.now.look c.location.new.self.look _ c.args.self.now.end
    c.location.new.self.end _ there
    (taken_as _ _ _ _ _ _ _ c.if-not-branch.false (c.in_ok-location.ensures.shows p.location))
    (takes_both (length_shown p.train_length) _ c.location.new.self.look c.train_length.new.self.look _
    c.location.new.self.end c.train_length.new.self.end _ there
    (taken_as _ _ _ _ _ _ _ c.if-not-branch-2.false (c.in_ok-train_length.ensures.shows p.train_length))
    (takes_both (running_shown p) (level_shown p.level) c.train_length.new.self.look c.running.new.self.look
    c.level.new.self.look c.train_length.new.self.end c.running.new.self.end c.level.new.self.end there
    (taken_as _ _ _ _ _ _ _ c.if-not-branch-3.false (c.in_ok-running.ensures.shows p))
    (h p.level)))) c.level.ensures.shows
