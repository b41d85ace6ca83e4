use Rattle.std.proofs.Common.{◌++◌, ◌<◌, ◌∙◌, ◌≡◌, drop, IfSome, length, rules, slice_get, subst, sym, take, take_at, ℕ}
use Rattle.serve_line.proofs.LookLemmas.{looked_at, looked_at_all}
use Rattle.serve_line.proofs.looking.page_snapshot.PageSnapshot.look.Goals as goal
use Rattle.serve_line.specs.Snapshots.{IsViewIn}

pub loop-node-preserved : goal.loop-node-preserved
loop-node-preserved g c = record {
  shown = c.in_ok-read.ensures.shown ∙ c.loop-node.invariant.shown;
  looks = λ last looks. c.loop-node.invariant.looks last
      (looked_at c.args.line.now c.args.nodes.now c.loop-node.node-index c.node-item.result c.loop-node.view.snapshot
      c.read.new.view.snapshot last c.loop-node-test.true c.node-item.is c.in_ok-read.ensures.seen looks);
}

pub returns-clause-sections : goal.returns-clause-sections
returns-clause-sections g c =
    let looked = c.loop-node.view.snapshot in
    let seen = c.see_sections.new.sections in
    let before = c.add_handovers.new.now.sections in
    let len : length seen ≡ before.len = search rules in
    let whole : take before.len (seen ++ drop (length seen) before.items) ≡ seen =
    take_at seen (drop (length seen) before.items) before.len len
    in (
      looked,
      record {
        before = c.in_ok-view.view.snapshot;
        shut = c.in_ok-view.ensures.pages;
        unserved = c.in_ok-view.ensures.missions;
        looks = c.loop-node.invariant.looks looked
            (looked_at_all c.args.line.now c.args.nodes.now c.loop-node.node-index looked c.loop-node-test.false);
      },
      λ s low. subst (λ views. IfSome (slice_get views s) (IsViewIn c.args.line.now looked s)) (sym whole)
          (c.see_sections.ensures s low),
    )
