use Rattle.std.proofs.Common.{◌≡◌, arith, length, refl, rules}
use Rattle.std.proofs.Math.ListN.{replicate}
use Rattle.rbc_centre.specs.States.{number_of}
use Rattle.rbc_node.proofs.Counting.{ones_tell}
use Rattle.rbc_node.proofs.counts.has_each_once.Goals as goal
use Rattle.rbc_node.specs.Counted.{counted}
use Rattle.rbc_node.specs.Gather.{places_of}

pub returns-clause-exact : goal.returns-clause-exact
returns-clause-exact c =
    let start : c.in_ok-counts.counts.items ≡ replicate (length c.args.log.now.entries) 0 = search rules in
    let is : c.count_shares.new.counts.items
    ≡ counted c.in_ok-counts.counts.items (places_of (number_of c.args.log.now.core) c.args.shares.now) =
    search rules in
    ones_tell c.args.shares.now c.args.log.now c.in_ok-counts.counts.items c.count_shares.new.counts.items
    c.are_ones.result start is (search rules)

pub returns-then-is_empty-clause-exact : goal.returns-then-is_empty-clause-exact
returns-then-is_empty-clause-exact c =
    let none : length c.args.log.now.entries ≡ 0 = search rules in
    (λ h. record { each = λ k within. absurd (omega (arith, none, within)) }, λ h. refl)
