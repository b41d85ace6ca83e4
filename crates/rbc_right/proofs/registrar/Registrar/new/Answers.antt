use Rattle.std.proofs.Common.{◌≡◌, arith, length}
use Rattle.rbc_right.proofs.registrar.Registrar.new.Goals as goal
use Rattle.rbc_right.proofs.Rights.{new_engines, new_here}

pub returns-clause-here : goal.returns-clause-here
returns-clause-here c =
    let all : c.loop-i.i ≡ length c.args.line.now.trains = omega arith in
    new_here c.args.line.now c.args.centre c.loop-i.i c.loop-i.rights.items c.loop-i.invariant all

pub returns-clause-engines : goal.returns-clause-engines
returns-clause-engines c =
    let all : c.loop-i.i ≡ length c.args.line.now.trains = omega arith in
    new_engines c.args.line.now c.args.centre c.loop-i.i c.loop-i.rights.items c.loop-i.invariant all
