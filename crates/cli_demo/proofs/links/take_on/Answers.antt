use Rattle.std.proofs.Common.{◌++◌, ◌+◌, ◌<◌, ◌≡◌, drop, length, map, slice_set, subst, sym, take, ℕ}
use Rattle.std.proofs.lemmas.List.{get_or_default}
use Rattle.std.proofs.lemmas.List.Edits.{map_over_more}
use Rattle.cli_demo.proofs.links.take_on.Goals as goal
use Rattle.cli_demo.specs.Deliveries.{taken_by}

pub loop-link-preserved : goal.loop-link-preserved
loop-link-preserved c =
    subst
    (λ y. slice_set c.loop-link.link-items c.loop-link.link-index y
    ≡ map (taken_by c.args.from c.args.to c.args.number) (take (c.loop-link.link-index + 1) c.args.links.now.items)
    ++ drop (c.loop-link.link-index + 1) c.args.links.now.items)
    (sym c.taken_by.ensures)
    (map_over_more (taken_by c.args.from c.args.to c.args.number) _ c.loop-link.link-items c.loop-link.link-index _
    (subst (λ xs. c.loop-link.link-index < length xs) c.deref_mut-link-items.ensures.value c.loop-link-test.true)
    c.loop-link.invariant
    (get_or_default _ _ _ _ (subst (λ (n : ℕ). c.loop-link.link-index < n) (sym c.loop-link.auto.link-items)
    c.loop-link-test.true)))
