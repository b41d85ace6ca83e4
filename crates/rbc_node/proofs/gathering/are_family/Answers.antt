use Rattle.std.proofs.Common.{◌∙◌, ◌≡◌, false, sym, true}
use Rattle.rbc_node.proofs.gathering.are_family.Goals as goal
use Rattle.rbc_node.proofs.Legal.{all_sent, family}

pub returns-clause-family : goal.returns-clause-family
returns-clause-family c =
    let centres = c.are_centres.ensures.exact.0 c.if-not-are_centres.false in
    family centres.0 c.args.logs.now centres.1 (c.are_centres.ensures.replays c.if-not-are_centres.false)
    (c.all_take_sent.ensures.0 c.if-not-all_take_sent.false)

pub returns-then-not-all_take_sent-clause-fault : goal.returns-then-not-all_take_sent-clause-fault
returns-then-not-all_take_sent-clause-fault c =
    let centres = c.are_centres.ensures.exact.0 c.if-not-are_centres.false in
    let replays = c.are_centres.ensures.replays c.if-not-are_centres.false in (
      centres,
      c.in_ok-are_shared.ensures.exact.0 c.if-not-branch.false,
      λ h. let wrong : true ≡ false =
          sym (c.all_take_sent.ensures.1 (all_sent centres.0 c.args.logs.now centres.1.places replays h))
          ∙ c.if-not-all_take_sent.true in absurd cc,
    )
