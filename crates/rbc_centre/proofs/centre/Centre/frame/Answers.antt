use Rattle.std.proofs.Common.{◌∙◌, ap, Option, option_map, Some, sym}
use Rattle.rbc_centre.proofs.centre.Centre.frame.Goals as goal
use Rattle.rbc_centre.proofs.centre.Centre.frame.Goals.{In_ok-sent}
use Rattle.rbc_centre.proofs.SentFrames.{frame_in_range, frame_number-by}
use Rattle.rbc_centre.proofs.Turns.{sent_in_range}
use Rattle.rbc_centre.specs.State.{stands_for}
use Rattle.rbc_link.specs.declared.sent.Sent.{Sent}
use Rattle.rbc_link.specs.Links.{sent_to}
use Rattle.rbc_link.specs.Outgoing.{frame_by}
use Rattle.rbc_linkmsg.specs.Bodies.{body_of}
use Rattle.rbc_linkmsg.specs.declared.body.Body.{Body}
use Rattle.rbc_spec.specs.Frame.{HasFrameRanges}

pub returns-in_err-sent : goal.returns-in_err-sent
unfolding stands_for
returns-in_err-sent c =
    c.from_residual.ensures ∙ ap (λ (o : Option (Sent Body)). option_map (frame_by body_of) o) c.in_err-sent.ensures
    ∙ frame_number-by (sent_to c.args.self.now.links c.args.to) c.args.number

-- the invariant of each frame that was sent
ranges : (c : In_ok-sent) → HasFrameRanges (frame_by body_of c.in_ok-sent.sent.now)
ranges c =
    let k = c.args.self.now in
    frame_in_range (sent_to k.links c.args.to) c.args.number c.in_ok-sent.sent.now (sent_in_range k c.args.to)
    (sym c.in_ok-sent.ensures)

pub new-requires-clause-number : goal.new-requires-clause-number
new-requires-clause-number c = (ranges (goal.at.new-requires-clause-number c).In_ok-sent).number

pub new-requires-clause-stamp : goal.new-requires-clause-stamp
new-requires-clause-stamp c = (ranges (goal.at.new-requires-clause-stamp c).In_ok-sent).stamp

pub new-requires-clause-body : goal.new-requires-clause-body
new-requires-clause-body c = (ranges (goal.at.new-requires-clause-body c).In_ok-sent).body

pub returns : goal.returns
unfolding stands_for
returns c =
    ap (λ f. Some f) c.new.ensures ∙ ap (λ (o : Option (Sent Body)). option_map (frame_by body_of) o)
    c.in_ok-sent.ensures
    ∙ frame_number-by (sent_to c.args.self.now.links c.args.to) c.args.number
