use Rattle.std.proofs.Common.{◌+◌, ◌-◌, ◌∙◌, arith, false, refl, sym}
use Rattle.rbc_book.proofs.runs.Runs.open_run.Goals as goal
use Rattle.rbc_book.proofs.Sheets.{after_next, all_open, none_open, opens_more, run_open, stops}

pub returns-in_default : goal.returns-in_default
returns-in_default c = stops c.args.self.now c.args.first c.args.most c.loop-count.count c.loop-count-test.true
    (none_open c.args.self.now (c.args.first + c.loop-count.count) (c.in_default.ensures.none refl))
    c.loop-count.invariant

pub returns-then-not-is_open : goal.returns-then-not-is_open
returns-then-not-is_open c = stops c.args.self.now c.args.first c.args.most c.loop-count.count c.loop-count-test.true
    (run_open c.args.self.now (c.args.first + c.loop-count.count) c.in-Some.run' false c.in-Some.ensures.some
    (sym c.is_open.ensures ∙ c.if-not-is_open.true)) c.loop-count.invariant

pub overflow_sub-count : goal.overflow_sub-count
overflow_sub-count c =
    omega (
      arith,
      c.from.ensures,
      c.next_after.ensures,
      after_next c.args.self.now (c.args.first + c.loop-count.count) c.in-Some.run' c.in-Some.ensures.some,
    )

pub loop-count-smaller : goal.loop-count-smaller
loop-count-smaller c =
    omega (
      arith,
      c.loop-count-test.true,
      c.from.ensures,
      c.next_after.ensures,
      after_next c.args.self.now (c.args.first + c.loop-count.count) c.in-Some.run' c.in-Some.ensures.some,
    )

pub loop-count-preserved : goal.loop-count-preserved
loop-count-preserved c = opens_more c.args.self.now c.args.first c.loop-count.count
    (c.next_after.result - c.from.result) c.in-Some.run' c.in-Some.ensures.some (sym c.is_open.ensures
    ∙ c.if-not-is_open.false)
    (omega (
      arith,
      c.from.ensures,
      c.next_after.ensures,
      after_next c.args.self.now (c.args.first + c.loop-count.count) c.in-Some.run'
          c.in-Some.ensures.some,
    )) c.loop-count.invariant

pub returns : goal.returns
returns c = all_open c.args.self.now c.args.first c.args.most c.loop-count.count
    c.loop-count-test.false c.loop-count.invariant
