use Rattle.std.proofs.Common.{◌∙◌, ap, arith}
use Rattle.std.proofs.lemmas.Bool.Decides.{nat_tests}
use Rattle.rbc_spec.specs.Centre.{is_open}
use Rattle.rbc_train.proofs.Runs.{free_open, not_free_past}
use Rattle.rbc_train.proofs.starting.is_free.Goals as goal

pub returns-then-s-from : goal.returns-then-s-from
returns-then-s-from c = λ k pages. c.is_open.ensures ∙ ap is_open c.page.ensures.entry
    ∙ free_open c.args.line.now c.args.centre k c.args.book.now c.args.s pages (c.requires c.args.s)

pub returns-else-s-from : goal.returns-else-s-from
returns-else-s-from c = λ k pages.
    let past = c.if-s-from.false in
    let same = c.from.ensures ∙ c.section_count.ensures.value in
    grind (arith, nat_tests) ∙ not_free_past c.args.line.now c.args.centre k c.args.s (omega (arith, past, same))
