use Rattle.std.proofs.Common.{◌+◌, arith, drop}
use Rattle.std.proofs.lemmas.List.{length-drop, take_all}
use Rattle.rbc_line.proofs.faults.has_name_twice.Goals as goal
use Rattle.rbc_line.proofs.Twice.{name_new, name_seen}

pub returns-then-is_among : goal.returns-then-is_among
returns-then-is_among c =
    let after = drop (c.loop-i.i + 1) c.args.names.now in
    name_seen c.args.names.now _ c.loop-i.i _ _ c.loop-i-test.true c.loop-i.invariant c.if-is_among.ensures
    (take_all _ after (omega (arith, length-drop (c.loop-i.i + 1) c.args.names.now)))

pub loop-i-preserved : goal.loop-i-preserved
loop-i-preserved c =
    let after = drop (c.loop-i.i + 1) c.args.names.now in
    name_new c.args.names.now _ c.loop-i.i _ _ c.loop-i-test.true c.loop-i.invariant c.if-is_among.ensures
    (take_all _ after (omega (arith, length-drop (c.loop-i.i + 1) c.args.names.now)))
