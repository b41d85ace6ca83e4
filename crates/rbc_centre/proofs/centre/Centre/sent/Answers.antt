use Rattle.std.proofs.Common.{◌∙◌, sym}
use Rattle.std.proofs.lemmas.List.{length-map}
use Rattle.rbc_centre.proofs.centre.Centre.sent.Goals as goal
use Rattle.rbc_centre.specs.State.{stands_for}
use Rattle.rbc_link.specs.Links.{sent_to}
use Rattle.rbc_link.specs.Outgoing.{frame_by}
use Rattle.rbc_linkmsg.specs.Bodies.{body_of}

pub returns : goal.returns
unfolding stands_for
returns c = c.sent.ensures ∙ sym (length-map (sent_to c.args.self.now.links c.args.to) (frame_by body_of))
