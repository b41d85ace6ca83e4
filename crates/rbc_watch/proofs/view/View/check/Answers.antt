use Rattle.std.proofs.Common.{◌∙◌, ◌≤◌, subst, sym, ℕ}
use Rattle.rbc_watch.proofs.Dangers.{safe_outside}
use Rattle.rbc_watch.proofs.view.View.check.Goals as goal

pub returns-clause-safe : goal.returns-clause-safe
returns-clause-safe c =
    safe_outside c.args.line.now c.args.self.now c.loop-s.s
    (subst (λ (n : ℕ). n ≤ c.loop-s.s) c.section_count-s-end.ensures.value c.loop-s-test.false)
    (sym c.has_strayed.ensures ∙ c.if-has_strayed.false) c.loop-s.invariant
