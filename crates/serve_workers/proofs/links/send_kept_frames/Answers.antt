use Rattle.std.proofs.Common.{◌+◌, ◌∙◌, refl, subst, sym}
use Rattle.rbc_node.specs.Node.{centre_of}
use Rattle.serve_workers.proofs.Carried.{kept-keeps, kept-one, puts-keeps, puts-one}
use Rattle.serve_workers.proofs.links.send_kept_frames.Goals as goal
use Rattle.serve_workers.proofs.links.send_kept_frames.Goals.{in-None, in-Some+in_default+then-ne}
use Rattle.serve_workers.proofs.links.send_kept_frames.Goals.{in-Some+then-not-rests, in-Some-frame+in_default-put_kept}
use Rattle.serve_workers.proofs.links.send_kept_frames.Goals.{in_default+else-ne}
use Rattle.serve_workers.specs.Carried.{AreKept, PutsInOrder}

pub loop-preserved-in-Ok : goal.loop-preserved-in-Ok
loop-preserved-in-Ok g c =
    let known = g.C.Carrier.known in
    let awaits = g.L.Release.awaits c.args.release.now in
    let centre = centre_of c.args.node.now in
    let counted = c.number-frames.ensures.value ∙ c.in-Ok.ensures.own in
    let puts = puts-one (known c.loop.seen) (known c.put_kept.new.seen) centre c.args.to c.loop.frames
    (c.loop.frames + 1) c.in-Some-frame.frame refl c.loop.invariant.1
    c.in-Ok.ensures.keeps c.in-Ok.ensures.ok c.in-Some-frame.ensures in
    let kept = kept-one awaits (known c.loop.seen) (known c.put_kept.new.seen) c.loop.frames (c.loop.frames + 1)
    c.loop.kept.stamp c.put_kept.new.kept.stamp c.in-Some-frame.frame refl c.loop.invariant.2
    c.in-Ok.ensures.keeps c.in-Ok.ensures.kept c.in-Ok.ensures.ok c.in-Ok.ensures.event in (
      c.in-Ok.ensures.link,
      subst (PutsInOrder (known c.put_kept.new.seen) centre c.args.to) (sym counted) puts,
      subst (λ n. AreKept awaits (known c.put_kept.new.seen) n c.put_kept.new.kept.stamp) (sym counted) kept,
      c.number-frames.ensures.range.1,
      c.in-Ok.ensures.centre ∙ c.loop.invariant.4,
    )

pub loop-preserved : goal.loop-preserved
loop-preserved g c =
    let known = g.C.Carrier.known in
    let awaits = g.L.Release.awaits c.args.release.now in
    let centre = centre_of c.args.node.now in
    elim c.match-frame.branch [
      | in-Some-frame+in_default-put_kept w ↦ rw (w.seen-is, w.kept-is) (
        w.put_kept.ensures.link,
        puts-keeps (known c.loop.seen) (known w.put_kept.new.seen) centre c.args.to c.loop.frames c.loop.invariant.1
            w.put_kept.ensures.keeps,
        kept-keeps awaits (known c.loop.seen) (known w.put_kept.new.seen) c.loop.frames c.loop.kept.stamp
            w.put_kept.new.kept.stamp c.loop.invariant.2 w.put_kept.ensures.keeps w.put_kept.ensures.kept,
        c.loop.invariant.3,
        w.put_kept.ensures.centre ∙ c.loop.invariant.4,
      )
      | in_default+else-ne w ↦ rw (w.seen-is, w.kept-is) c.loop.invariant
    ]

pub returns-clause-puts : goal.returns-clause-puts
returns-clause-puts g c =
    let known = g.C.Carrier.known in
    let centre = centre_of c.args.node.now in
    elim c.match-next.branch [
      | in-None w ↦ rw w.seen-is c.loop.invariant.1
      | in-Some+in_default+then-ne w ↦ rw w.seen-is c.loop.invariant.1
      | in-Some+then-not-rests w ↦ rw w.seen-is (elim w.match-frame.branch [
        | in-Some-frame+in_default-put_kept v ↦
            rw v.seen-is (puts-keeps (known c.loop.seen) (known v.put_kept.new.seen) centre c.args.to c.loop.frames
            c.loop.invariant.1 v.put_kept.ensures.keeps)
        | in_default+else-ne v ↦ rw v.seen-is c.loop.invariant.1
      ])
    ]

pub returns-clause-kept : goal.returns-clause-kept
returns-clause-kept g c =
    let known = g.C.Carrier.known in
    let awaits = g.L.Release.awaits c.args.release.now in
    elim c.match-next.branch [
      | in-None w ↦ rw (w.seen-is, w.kept-is) c.loop.invariant.2
      | in-Some+in_default+then-ne w ↦ rw (w.seen-is, w.kept-is) c.loop.invariant.2
      | in-Some+then-not-rests w ↦ rw (w.seen-is, w.kept-is) (elim w.match-frame.branch [
        | in-Some-frame+in_default-put_kept v ↦
            rw (v.seen-is, v.kept-is) (kept-keeps awaits (known c.loop.seen) (known v.put_kept.new.seen) c.loop.frames
            c.loop.kept.stamp v.put_kept.new.kept.stamp c.loop.invariant.2 v.put_kept.ensures.keeps
            v.put_kept.ensures.kept)
        | in_default+else-ne v ↦ rw (v.seen-is, v.kept-is) c.loop.invariant.2
      ])
    ]

pub returns-clause-own : goal.returns-clause-own
returns-clause-own g c =
    elim c.match-next.branch [
      | in-None w ↦ rw w.kept-is c.loop.invariant.4
      | in-Some+in_default+then-ne w ↦ rw w.kept-is c.loop.invariant.4
      | in-Some+then-not-rests w ↦ rw w.kept-is (elim w.match-frame.branch [
        | in-Some-frame+in_default-put_kept v ↦ rw v.kept-is (v.put_kept.ensures.centre ∙ c.loop.invariant.4)
        | in_default+else-ne v ↦ rw v.kept-is c.loop.invariant.4
      ])
    ]
