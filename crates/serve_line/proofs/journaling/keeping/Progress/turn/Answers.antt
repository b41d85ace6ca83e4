use Rattle.std.proofs.Common.{ap, arith, Option, refl, rules, subst, unwrap_or, ℕ}
use Rattle.rbc_node.specs.Node.{centre_of}
use Rattle.serve_line.proofs.journaling.keeping.Progress.turn.Goals as goal
use Rattle.serve_line.proofs.JournalingLemmas.Keeping.{goes_on, stays}
use Rattle.serve_line.specs.Journaling.Keeping.{TriesWrite}

pub returns-in-Done : goal.returns-in-Done
returns-in-Done g c = (
  subst
      (λ (k : Option ℕ). TriesWrite c.args.writer.now.line.now (centre_of c.args.writer.now.node.now)
      c.args.self.now.written k c.args.file.now c.try_next-count.new.file)
      c.in-Done.ensures.0 c.try_next-count.ensures,
  refl,
)

pub returns-in-GiveUp : goal.returns-in-GiveUp
returns-in-GiveUp g c = (
  subst
      (λ (k : Option ℕ). TriesWrite c.args.writer.now.line.now (centre_of c.args.writer.now.node.now)
      c.args.self.now.written k c.args.file.now c.try_next-count.new.file)
      c.in-GiveUp.ensures.0 c.try_next-count.ensures,
  refl,
)

pub returns-in-Retry : goal.returns-in-Retry
returns-in-Retry g c = (
  c.try_next-count.result,
  c.try_next-count.ensures,
  stays c.args.self.now.written c.try_next-count.result (omega arith)
      (ap (λ (o : Option ℕ). unwrap_or o 0) c.in-Retry.ensures.0),
)

pub returns-in-Rest : goal.returns-in-Rest
returns-in-Rest g c = (
  c.try_next-count.result,
  c.try_next-count.ensures,
  stays c.args.self.now.written c.try_next-count.result (omega arith)
      (ap (λ (o : Option ℕ). unwrap_or o 0) c.in-Rest.ensures.0),
)

pub returns-in-Go : goal.returns-in-Go
returns-in-Go g c = (
  c.try_next-count.result,
  c.try_next-count.ensures,
  goes_on c.args.self.now.written c.in-Go.count _ c.try_next-count.result (search rules) c.in-Go.ensures.0,
)
