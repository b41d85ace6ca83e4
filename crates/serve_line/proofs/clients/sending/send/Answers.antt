use Rattle.serve_line.proofs.clients.sending.send.Goals as goal
use Rattle.serve_line.proofs.WrittenLemmas.{begun_then}

pub returns-in_default-write_some : goal.returns-in_default-write_some
returns-in_default-write_some g c =
    begun_then c.args.text.now.answer.items c.loop.rest.now c.loop.rest.now (g.O.Write.contents c.args.out.now)
    (g.O.Write.contents c.loop.out) (g.O.Write.contents c.write_some.new.out) c.loop.invariant
    c.in_default-write_some.ensures.none

pub returns-then-is_late : goal.returns-then-is_late
returns-then-is_late g c =
    begun_then c.args.text.now.answer.items c.loop.rest.now c.in-Some.left.now (g.O.Write.contents c.args.out.now)
    (g.O.Write.contents c.loop.out) (g.O.Write.contents c.write_some.new.out) c.loop.invariant
    c.in-Some.ensures.some
