use Rattle.std.proofs.Common.{subst, sym}
use Rattle.rbc_spec.specs.Line.{IsLine}
use Rattle.rbc_world.proofs.Theorems.{is_world_of, keeps_theorems}
use Rattle.rbc_world.proofs.world.World.step_to.Goals as goal
use Rattle.rbc_world.specs.Views.{answer_of}
use Rattle.rbc_world.specs.World.{state_of}

pub returns-clause-theorems : goal.returns-clause-theorems
returns-clause-theorems c =
    let old = c.args.self.now in
    keeps_theorems (λ u. answer_of c.write_answer.new.answer) old.line c.known_line.ensures (state_of old)
    (state_of c.write_answer.new.self) c.args.event.now old.reached c.write_answer.result c.write_answer.ensures.exact

pub returns-clause-world : goal.returns-clause-world
returns-clause-world c =
    let new = c.write_answer.new.self in
    is_world_of new.line (state_of new) (subst IsLine (sym c.write_answer.ensures.line) c.known_line.ensures)
    new.reached
