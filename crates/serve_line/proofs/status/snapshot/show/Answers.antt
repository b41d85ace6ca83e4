use Rattle.std.proofs.Common.{◌++◌, ◌∙◌, ap, append_assoc, codes, refl}
use Rattle.serve_line.proofs.AnswerLemmas.{at_ok}
use Rattle.serve_line.proofs.LookLemmas.{looked, looked_at, looked_at_all}
use Rattle.serve_line.proofs.status.snapshot.show.Goals as goal

pub loop-node-2-preserved : goal.loop-node-2-preserved
loop-node-2-preserved g c = λ last looks.
    let node = c.node-item-in-loop-node-2.result in
    let old = c.loop-node-2.snapshot in
    let next = c.add.new.self in
    c.loop-node-2.invariant last
    (looked_at c.args.line.now c.args.nodes.now c.loop-node-2.node-index node old next last c.loop-node-2-test.true
    c.node-item-in-loop-node-2.is
    (looked c.args.line.now node _ c.log.result.now old next c.look-look.ensures c.log.ensures c.add.ensures) looks)

pub returns : goal.returns
returns g c =
    let seen = c.loop-node-2.snapshot in
    at_ok c.print.result c.print.ensures
    (λ (rows, is, put). (
      codes "> show\n" ++ rows,
      (
        seen,
        c.deref.result.now,
        rows,
        record {
          before = c.in_ok-snapshot.snapshot;
          shut = c.in_ok-snapshot.ensures.pages;
          unserved = c.in_ok-snapshot.ensures.missions;
          looks = c.loop-node-2.invariant seen
              (looked_at_all c.args.line.now c.args.nodes.now c.loop-node-2.node-index seen c.loop-node-2-test.false);
        },
        is,
        refl,
      ),
      put ∙ ap (λ text. text ++ rows) c.in_ok-print_show.ensures
          ∙ append_assoc c.args.text.now.items (codes "> show\n") rows,
    ))
