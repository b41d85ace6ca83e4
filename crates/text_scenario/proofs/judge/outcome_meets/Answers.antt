use Rattle.std.proofs.Common.{◌↔◌, IsTrue, subst, sym}
use Rattle.rbc_world.specs.rbc_centre.Views.{outcome_of}
use Rattle.text_scenario.proofs.judge.outcome_meets.Goals as goal
use Rattle.text_scenario.proofs.Seen.{at_centre}
use Rattle.text_scenario.specs.declared.expectation.Expectation.{Expectation}
use Rattle.text_scenario.specs.Meets.{OutcomeMeets}

pub returns-then-centre-at : goal.returns-then-centre-at
returns-then-centre-at c =
    subst (λ (e : Expectation). IsTrue c.says.result
    ↔ OutcomeMeets c.args.line.now c.args.at (outcome_of c.args.outcome.now) e) (sym c.in-Message.is)
    (at_centre c.in-Message.centre c.args.at c.says.result _ c.if-centre-at.true c.says.ensures)

pub returns-then-from-at : goal.returns-then-from-at
returns-then-from-at c =
    subst (λ (e : Expectation). IsTrue c.sends.result
    ↔ OutcomeMeets c.args.line.now c.args.at (outcome_of c.args.outcome.now) e) (sym c.in-Frame.is)
    (at_centre c.in-Frame.from c.args.at c.sends.result _ c.if-from-at.true c.sends.ensures)

pub returns-then-centre-at-2 : goal.returns-then-centre-at-2
returns-then-centre-at-2 c =
    subst (λ (e : Expectation). IsTrue c.replies.result
    ↔ OutcomeMeets c.args.line.now c.args.at (outcome_of c.args.outcome.now) e) (sym c.in-Reply.is)
    (at_centre c.in-Reply.centre c.args.at c.replies.result _ c.if-centre-at-2.true c.replies.ensures)
