use Rattle.std.proofs.Common.{◌++◌, ◌∙◌, Err, Ok, subst, sym}
use Rattle.rbc_node.specs.Node.{centre_of}
use Rattle.serve_workers.proofs.session.run_session.Goals as goal
use Rattle.serve_workers.proofs.Turns.{adds-turn, consumes-then, joins-then, serves-end, serves-refused, turn}
use Rattle.serve_workers.specs.declared.end.SessionEnd.{SessionEnd}
use Rattle.serve_workers.specs.Session.{Serves}

pub returns-in-Err-clause-serves : goal.returns-in-Err-clause-serves
returns-in-Err-clause-serves g c =
    let i = c.loop.invariant in
    let b = c.read_messages-came.ensures.brings in
    let t = turn i.2 b.0 c.loop.messages.items c.read_messages-came.new.messages.items c.loop.stream
    c.read_messages-came.new.stream c.read_messages-came.result i.7 i.6 i.8 b.2 in (
      i.0 ++ b.0,
      consumes-then (g.S.Source.left c.args.source.now) (g.S.Source.left c.loop.source)
          (g.S.Source.left c.read_messages-came.new.source) i.0 b.0 i.3 b.1,
      serves-refused (centre_of c.args.node.now) c.args.share.now c.loop.share c.commit_all.new.share i.0 i.2 b.0 i.1
          c.read_messages-came.new.messages.items
          c.read_messages-came.new.stream c.read_messages-came.result c.in-Err.fault i.5 i.4 t c.in-Err.ensures.commits,
    )

pub returns-in-Err-came-clause-serves : goal.returns-in-Err-came-clause-serves
returns-in-Err-came-clause-serves g c =
    let i = c.loop.invariant in
    let b = c.in-Err-came.ensures.brings in
    let t = turn i.2 b.0 c.loop.messages.items c.read_messages-came.new.messages.items c.loop.stream
    c.read_messages-came.new.stream (Err c.in-Err-came.end) i.7 i.6 i.8 b.2 in
    let served = serves-end (centre_of c.args.node.now) c.args.share.now c.loop.share c.commit_all.new.share i.0 i.2 b.0
    i.1 c.read_messages-came.new.messages.items
    c.read_messages-came.new.stream c.in-Err-came.end i.5 i.4 t c.in_default.ensures.commits in (
      i.0 ++ b.0,
      consumes-then (g.S.Source.left c.args.source.now) (g.S.Source.left c.loop.source)
          (g.S.Source.left c.read_messages-came.new.source) i.0 b.0 i.3 b.1,
      subst (λ (e : SessionEnd). Serves (centre_of c.args.node.now) c.args.share.now c.commit_all.new.share (i.0 ++ b.0)
          e) (sym c.from.ensures) served,
    )

pub loop-preserved : goal.loop-preserved
loop-preserved g c =
    let i = c.loop.invariant in
    let b = c.in_default-came.ensures.brings in
    let t = turn i.2 b.0 c.loop.messages.items c.read_messages-came.new.messages.items c.loop.stream
    c.read_messages-came.new.stream (Ok tt) i.7 i.6 i.8 b.2 in (
      i.0 ++ b.0,
      i.1 ++ c.read_messages-came.new.messages.items,
      t.rest,
      consumes-then (g.S.Source.left c.args.source.now) (g.S.Source.left c.loop.source)
          (g.S.Source.left c.read_messages-came.new.source) i.0 b.0 i.3 b.1,
      joins-then (centre_of c.args.node.now) c.args.share.now c.loop.share c.commit_all.new.share i.1
          c.read_messages-came.new.messages.items i.4 c.in_default.ensures.commits,
      adds-turn i.0 i.2 b.0 t.rest i.1 c.read_messages-came.new.messages.items i.5 t.adds,
      t.leaves.0,
      t.leaves.1,
      c.in_default.ensures.none,
      c.in_default-came.ensures.ends ∙ i.9,
    )
