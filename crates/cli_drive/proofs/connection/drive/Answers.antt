use Rattle.std.proofs.Common.{[], ◌+◌, ◌++◌, ◌<◌, ◌∙◌, ◌≡◌, ap, arith, get_or, length, List, refl, subst, sym, take, ℕ}
use Rattle.std.proofs.lemmas.List.Sums.{sum_by_more}
use Rattle.cli_drive.proofs.MessagePrints.{adds_both, adds_none, joined}
use Rattle.cli_drive.specs.Messages.{AreMessages, messages_in, messages_of}
use Rattle.cli_drive.specs.declared.steps.Step.{Step}
use Rattle.cli_drive.proofs.connection.drive.Goals as goal
use Rattle.cli_drive.proofs.connection.drive.Goals.{in-Send+in_ok-write_all-in-Send, in-Wait+in_ok-wait-in-Wait}

-- the messages of the steps before place i, and of the step at i
step_more : (steps : List Step) (i : ℕ) (step : Step) (count : ℕ) → i < length steps → step ≡ get_or steps i step
    → messages_of step ≡ count → messages_in (take i steps) + count ≡ messages_in (take (i + 1) steps)
step_more steps i step count low at is =
    ap (λ n. messages_in (take i steps) + n) (sym is ∙ ap messages_of at)
    ∙ sym (sum_by_more messages_of steps i step low)

pub loop-step-init : goal.loop-step-init
loop-step-init g c = ([], [], (refl, refl), adds_none _)

pub loop-step-preserved : goal.loop-step-preserved
loop-step-preserved g c =
    let before = c.loop-step.invariant in
    let steps = c.args.steps.now in
    let i = c.loop-step.step-index in
    let more = step_more steps i c.step-item.result in
    elim c.match-step.branch [
      | in-Send+in_ok-write_all-in-Send w ↦ (
        before.0,
        before.1,
        subst (λ n. AreMessages n before.0 before.1)
            (let same = more 0 c.loop-step-test.true c.step-item.is (ap messages_of w.in-Send.is) in omega arith)
            before.2,
        rw w.out-is before.3,
      )
      | in-Wait+in_ok-wait-in-Wait w ↦
          let last = w.in_ok-wait-in-Wait.ensures.print in
          let count = w.in-Wait.count in (
            before.0 ++ last.0,
            before.1 ++ last.1,
            subst (λ n. AreMessages n (before.0 ++ last.0) (before.1 ++ last.1))
                (more count c.loop-step-test.true c.step-item.is (ap messages_of w.in-Wait.is))
                (joined (messages_in (take i steps)) count before.0 before.1 last.0 last.1 before.2 last.2),
            rw w.out-is (adds_both _ _ _ before.1 last.1 before.3 last.4),
          )
    ]
