use Rattle.std.proofs.Common.{◌++◌, ◌∙◌, arith, List, refl, subst, sym}
use Rattle.std.proofs.lemmas.List.{take_all}
use Rattle.rbc_log.specs.declared.entry.Entry.{Entry}
use Rattle.rbc_spec.specs.World.{new_world}
use Rattle.serve_control.proofs.Printed.{adds_both, next_printed, same_step}
use Rattle.serve_control.proofs.printing.print_entries.Goals as goal
use Rattle.serve_control.specs.Prints.{ArePrinted}
use Rattle.text_script.specs.Print.Shown.{line_text}
use Rattle.text_script.specs.rbc_world.World.{line_of, state_of}

pub loop-entry-preserved : goal.loop-entry-preserved
loop-entry-preserved g c =
    let before = c.loop-entry.invariant in
    let step = same_step (line_of c.loop-entry.world) c.args.line.now (state_of c.loop-entry.world)
    (state_of c.step_to.new.self) _ _ _ before.2 c.in_ok-event.ensures.happened c.in_ok-step_to.ensures.exact in
    let it = next_printed _ _ _ c.args.line.now (new_world c.args.line.now) (state_of c.loop-entry.world)
    (state_of c.step_to.new.self) c.args.entries.now c.loop-entry.entry-index c.entry-item.result _
    c.loop-entry-test.true c.entry-item.is (before.0, before.1, before.3) step c.in_ok-event.ensures.print in
    (it.0, it.1, c.step_to.ensures.line ∙ before.2, it.2)

pub returns : goal.returns
returns g c =
    let before = c.loop-entry.invariant in
    let last = state_of c.loop-entry.world in
    let all = take_all c.loop-entry.entry-index c.args.entries.now (omega (c.loop-entry-test.false, arith)) in (
      before.0 ++ line_text c.args.line.now last,
      (
        last,
        before.0,
        subst (λ (es : List Entry). ArePrinted c.args.line.now (new_world c.args.line.now) es last before.0) all
            before.1,
        refl,
      ),
      adds_both _ _ _ before.0 (line_text c.args.line.now last) before.3 (c.in_ok-print_line.ensures (sym before.2)),
    )
