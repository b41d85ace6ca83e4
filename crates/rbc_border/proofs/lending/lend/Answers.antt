use Rattle.std.proofs.Common.{arith}
use Rattle.rbc_border.proofs.HomeParts.{found}
use Rattle.rbc_border.proofs.lending.lend.Goals as goal
use Rattle.rbc_border.proofs.lending.lend.Goals.{After-lend_run}
use Rattle.rbc_border.proofs.Loans.{asked_some, few, IsLending, lent_range, stretch_below}

pub lend_run-requires : goal.lend_run-requires
lend_run-requires c =
    let lending : IsLending c.args.line.now c.args.centre c.args.first c.args.most c.args.book.now
    c.in_ok-section.section c.stretch-on_track.result c.open_run-count.result = record {
      rules = c.section.ensures.line;
      first =
          found c.args.line.now c.args.first c.section.result c.in_ok-section.section c.section.ensures.value
          c.in_ok-section.was;
      stretch = c.stretch-on_track.ensures;
      released = c.open_run-count.ensures;
    } in
    let below = stretch_below _ _ _ _ _ _ _ _ lending in
    let most = few _ _ _ _ _ _ _ _ lending in
    omega (arith, below, most)

lends : (c : After-lend_run)
    → IsLending c.args.line.now c.args.centre c.args.first c.args.most c.args.book.now c.in_ok-section.section
    c.stretch-on_track.result c.open_run-count.result
lends c = record {
  rules = c.section.ensures.line;
  first =
      found c.args.line.now c.args.first c.section.result c.in_ok-section.section c.section.ensures.value
      c.in_ok-section.was;
  stretch = c.stretch-on_track.ensures;
  released = c.open_run-count.ensures;
}

pub returns-clause-range : goal.returns-clause-range
returns-clause-range c = lent_range _ _ _ _ _ _ _ _ (lends c)

pub returns-clause-exact : goal.returns-clause-exact
returns-clause-exact c d k has =
    asked_some _ _ _ _ _ _ _ _ (lends c) d c.args.nid_engine k c.lend_run.new.book has c.lend_run.ensures
