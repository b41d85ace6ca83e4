use Rattle.std.proofs.Common.{[], ◌++◌, ◌∷◌}
use Rattle.rbc_node.specs.Node.{centre_of}
use Rattle.serve_workers.proofs.Carried.{turns-one}
use Rattle.serve_workers.proofs.links.receive_frames.Goals as goal
use Rattle.serve_workers.proofs.links.receive_frames.Goals.{in-None, in-Some+in-Some-false, in-Some+then-not-rests}

pub loop-preserved-in-Some-true : goal.loop-preserved-in-Some-true
loop-preserved-in-Some-true g c =
    let i = c.loop.invariant.1 in
    let e = c.take_turn.ensures in (
      e.link,
      (
        i.0 ++ c.take_turn.result ∷ [],
        turns-one g.N.Order.asks g.N.Order.follows (centre_of c.args.committer.now.node.now) c.args.from
            (g.C.Carrier.known c.loop.seen) (g.C.Carrier.known c.take_turn.new.seen)
            c.args.order.now c.loop.order c.take_turn.new.order c.args.share.now c.loop.share c.take_turn.new.share i.0
            c.take_turn.result e.keeps i.1 e.takes,
      ),
    )

pub loop-preserved : goal.loop-preserved
loop-preserved g c =
    let i = c.loop.invariant.1 in
    let e = c.take_turn.ensures in (
      e.link,
      (
        i.0 ++ c.take_turn.result ∷ [],
        turns-one g.N.Order.asks g.N.Order.follows (centre_of c.args.committer.now.node.now) c.args.from
            (g.C.Carrier.known c.loop.seen) (g.C.Carrier.known c.take_turn.new.seen)
            c.args.order.now c.loop.order c.take_turn.new.order c.args.share.now c.loop.share c.take_turn.new.share i.0
            c.take_turn.result e.keeps i.1 e.takes,
      ),
    )

pub returns-clause-takes : goal.returns-clause-takes
returns-clause-takes g c =
    let i = c.loop.invariant.1 in
    elim c.match-next.branch [
      | in-None w ↦ rw (w.share-is, w.order-is, w.seen-is) i
      | in-Some+in-Some-false w ↦
          let e = w.take_turn.ensures in
          rw (w.share-is, w.order-is, w.seen-is) (
            i.0 ++ w.take_turn.result ∷ [],
            turns-one g.N.Order.asks g.N.Order.follows (centre_of c.args.committer.now.node.now) c.args.from
                (g.C.Carrier.known c.loop.seen) (g.C.Carrier.known w.take_turn.new.seen)
                c.args.order.now c.loop.order w.take_turn.new.order c.args.share.now c.loop.share w.take_turn.new.share
                i.0 w.take_turn.result e.keeps i.1 e.takes,
          )
      | in-Some+then-not-rests w ↦
          let e = w.take_turn.ensures in
          rw (w.share-is, w.order-is, w.seen-is) (
            i.0 ++ w.take_turn.result ∷ [],
            turns-one g.N.Order.asks g.N.Order.follows (centre_of c.args.committer.now.node.now) c.args.from
                (g.C.Carrier.known c.loop.seen) (g.C.Carrier.known w.take_turn.new.seen)
                c.args.order.now c.loop.order w.take_turn.new.order c.args.share.now c.loop.share w.take_turn.new.share
                i.0 w.take_turn.result e.keeps i.1 e.takes,
          )
    ]
