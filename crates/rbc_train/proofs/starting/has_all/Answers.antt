use Rattle.std.proofs.Common.{◌∙◌, arith, sym}
use Rattle.std.proofs.lemmas.Bool.Decides.{nat_tests}
use Rattle.rbc_line.specs.SectionRuns.{run_of}
use Rattle.rbc_train.proofs.Runs.{all_within, within_none}
use Rattle.rbc_train.proofs.starting.has_all.Goals as goal

pub returns-then-hand-run : goal.returns-then-hand-run
returns-then-hand-run c =
    rw (c.next_after.ensures, c.next_after-then-hand-run.ensures)
    (all_within (run_of c.args.hand) (run_of c.args.run) (sym c.is_empty.ensures ∙ c.if-is_empty.false)
    (grind (arith, nat_tests)))

pub returns-else-hand-run : goal.returns-else-hand-run
returns-else-hand-run c = let low = c.if-hand-run.false in
    grind (arith, nat_tests)
    ∙ sym (within_none (run_of c.args.hand) (run_of c.args.run) (sym c.is_empty.ensures ∙ c.if-is_empty.false)
    (grind (arith, nat_tests)))
