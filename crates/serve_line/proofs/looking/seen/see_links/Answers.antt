use Rattle.std.proofs.Common.{◌++◌, ◌+◌, ◌<◌, ◌≡◌, drop, map, slice_set, subst, sym, take, ℕ}
use Rattle.std.proofs.lemmas.List.{get_or_default}
use Rattle.std.proofs.lemmas.List.Edits.{map_over_more}
use Rattle.serve_line.proofs.looking.seen.see_links.Goals as goal
use Rattle.serve_line.specs.Pages.{with_frames}

pub loop-link-preserved : goal.loop-link-preserved
loop-link-preserved c =
    subst
    (λ y. slice_set c.loop-link.links c.loop-link.link-index y
    ≡ map (with_frames c.args.centre.now) (take (c.loop-link.link-index + 1) c.args.links.now)
    ++ drop (c.loop-link.link-index + 1) c.args.links.now)
    (sym c.with_frames.ensures)
    (map_over_more (with_frames c.args.centre.now) _ c.loop-link.links c.loop-link.link-index _
    c.loop-link-test.true
    c.loop-link.invariant
    (get_or_default _ _ _ _ (subst (λ (n : ℕ). c.loop-link.link-index < n) (sym c.loop-link.auto.links)
    c.loop-link-test.true)))
