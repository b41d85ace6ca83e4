use Rattle.std.proofs.Common.{[], ◌++◌, ◌∙◌, sym, true≢false}
use Rattle.std.proofs.lemmas.Result.{on_ok_weaker}
use Rattle.text_fields.proofs.Message.{goes}
use Rattle.text_fields.proofs.Steps.{both}
use Rattle.text_fields.proofs.walk.Walk.body.Goals as goal
use Rattle.text_fields.specs.Messages.{packets_shown}
use Rattle.text_fields.specs.Walks.{rest_shown}

pub returns-then-not-branch-clause-shows : goal.returns-then-not-branch-clause-shows
returns-then-not-branch-clause-shows c = λ fill own packets further is count laid others few e n.
    let t = goes own (packets_shown c.args.side packets ++ rest_shown c.args.side further fill) c.args.self.now.look
    c.own.new.self.look c.args.self.now.end c.own.new.self.end
    c.in_ok-own.field-0 (c.in_ok-own.ensures.shows own is) e n in
    absurd (true≢false (sym t.is_there ∙ c.if-not-branch.true))

pub returns-clause-shows : goal.returns-clause-shows
returns-clause-shows c =
    on_ok_weaker c.rest.result (λ h fill own packets further is count laid others few e n.
    let t = goes own (packets_shown c.args.side packets ++ rest_shown c.args.side further fill) c.args.self.now.look
    c.own.new.self.look c.args.self.now.end c.own.new.self.end
    c.in_ok-own.field-0 (c.in_ok-own.ensures.shows own is) e n in
    let u = goes (packets_shown c.args.side packets) (rest_shown c.args.side further fill) c.own.new.self.look
    c.required.new.self.look c.own.new.self.end c.required.new.self.end
    _ (c.in_ok-required.ensures.shows packets count laid t.end_is) t.end_is t.next in
    both own (packets_shown c.args.side packets ++ rest_shown c.args.side further fill) [] c.args.self.now.look
    c.own.new.self.look
    c.rest.new.self.look t.shows
    (both (packets_shown c.args.side packets) (rest_shown c.args.side further fill) [] c.own.new.self.look
    c.required.new.self.look
    c.rest.new.self.look u.shows
    (h fill further others few u.end_is u.next))) c.rest.ensures.shows
