use Rattle.std.proofs.Common.{◌+◌, ◌<◌, ◌∙◌, ◌≡◌, ◌≤◌, ap, arith, false, sym, true, ℕ}
use Rattle.std.proofs.lemmas.Bool.{not-true}
use Rattle.rbc_border.proofs.HomeParts.{no_part, part_is, part_range, some}
use Rattle.rbc_border.proofs.homes.part_at.Goals as goal
use Rattle.rbc_border.proofs.homes.part_at.Goals.{After-stretch-count}
use Rattle.rbc_border.specs.Homes.{is_of}
use Rattle.rbc_line.specs.SectionRuns.{run_of}
use Rattle.rbc_spec.proofs.Runs.{some_count}
use Rattle.rbc_spec.specs.SectionRuns.{is_empty, shared}
use Rattle.rbc_spec.specs.Sections.{home_run}

abbrev first : After-stretch-count → ℕ
first c = c.from.result + c.from-in-loop-k.result

at : (c : After-stretch-count) → first c ≡ c.args.sections.first + c.loop-k.k
at c = omega (arith, c.from.ensures, c.from-in-loop-k.ensures)

before : (c : After-stretch-count) (j : ℕ) → c.args.sections.first ≤ j → j < c.args.sections.first + c.loop-k.k
    → is_of c.args.line.now c.args.home c.args.track j ≡ false
before c j low high = not-true _ (c.loop-k.invariant.before.each j low high)

of : (c : After-stretch-count) → is_of c.args.line.now c.args.home c.args.track (first c) ≡ true
of c = sym c.is_of.ensures.value ∙ c.if-is_of.true

found : (c : After-stretch-count)
    → shared (run_of c.args.sections) (home_run c.args.line.now c.args.home c.args.track)
    ≡ record { first = first c; count = c.stretch-count.result }
found c =
    part_is c.args.line.now c.args.home c.args.track (run_of c.args.sections)
    (λ any. c.is_of.ensures.line) c.loop-k.k c.stretch-count.result (first c) (at c) c.loop-k-test.true (before c)
    (of c) c.stretch-count.ensures

pub returns-then-is_of-clause-none : goal.returns-then-is_of-clause-none
returns-then-is_of-clause-none c =
    sym (ap is_empty (found c)
    ∙ some_count c.stretch-count.result
    (some c.args.line.now c.args.home c.args.track (run_of c.args.sections)
    (λ any. c.is_of.ensures.line) c.loop-k.k c.stretch-count.result (first c) (at c) c.loop-k-test.true (before c)
    (of c) c.stretch-count.ensures))

pub returns-then-is_of-clause-part : goal.returns-then-is_of-clause-part
returns-then-is_of-clause-part c = sym (found c)

pub returns-then-is_of-clause-range : goal.returns-then-is_of-clause-range
returns-then-is_of-clause-range c =
    part_range c.args.line.now c.args.home c.args.track (run_of c.args.sections)
    (λ any. c.is_of.ensures.line) c.loop-k.k c.stretch-count.result (first c) (at c) c.loop-k-test.true (before c)
    (of c) c.stretch-count.ensures

pub returns-clause-none : goal.returns-clause-none
returns-clause-none c =
    sym (no_part c.args.line.now c.args.home c.args.track (run_of c.args.sections)
    (λ any. c.loop-k.invariant.line (omega (arith, any, c.loop-k-test.false)))
    (λ j low high. not-true _ (c.loop-k.invariant.before.each j low (omega (arith, high, c.loop-k-test.false)))))
