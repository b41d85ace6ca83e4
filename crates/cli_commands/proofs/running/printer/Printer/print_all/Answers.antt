use Rattle.std.proofs.Common.{◌∙◌, refl, sym}
use Rattle.cli_commands.proofs.running.printer.Printer.print_all.Goals as goal
use Rattle.cli_commands.proofs.RunningLemmas.Prints.{prints_all, prints_until}
use Rattle.text_script.specs.declared.status.fault.Fault.{Fault}
use Rattle.text_script.specs.rbc_world.World.{line_of, state_of}

pub returns-in-Err : goal.returns-in-Err
returns-in-Err g c same begins =
    prints_until (λ t. t.out.ghost_name) (λ t. t.line.now) (λ t. g.W.Write.contents t.out.now) c.args.self.now.line.now
    (line_of c.args.world.now) (state_of c.args.world.now)
    c.args.self.now c.args.entries.now c.in-Err.fault (state_of c.play.new.world) c.play.new.observer same refl begins
    c.in-Err.ensures.told

pub returns-in-Ok : goal.returns-in-Ok
returns-in-Ok g c same begins =
    prints_all (λ t. t.out.ghost_name) (λ t. t.line.now) (λ t. g.W.Write.contents t.out.now) c.args.self.now.line.now
    Fault (line_of c.args.world.now) (state_of c.args.world.now)
    c.args.self.now c.args.entries.now (state_of c.play.new.world) c.play.new.observer
    c.show_line.new.self.out.ghost_name (g.W.Write.contents c.show_line.new.self.out.now)
    same refl begins c.in_default.ensures.told c.in-Ok.ensures.writer
    (λ at. c.in-Ok.ensures.shown (at ∙ sym c.in_default.ensures.line))
