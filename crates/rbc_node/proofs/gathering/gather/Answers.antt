use Rattle.std.proofs.Common.{◌≡◌, length, rules, subst, vec_len}
use Rattle.rbc_node.proofs.Gathered.{gathers}
use Rattle.rbc_node.proofs.gathering.gather.Goals as goal
use Rattle.rbc_node.specs.Gather.{Unites}

pub returns : goal.returns
returns c =
    let count : length c.in_ok-logs_of.field-0.items ≡ vec_len c.args.nodes = search rules in
    gathers (vec_len c.args.nodes) c.in_ok-logs_of.field-0.items c.args.shares.items c.unite.result count
    c.in_ok-logs_of.ensures.replays
    (subst (λ shares. Unites c.in_ok-logs_of.field-0.items shares c.unite.result) c.as_slice.ensures.value
    c.unite.ensures)
