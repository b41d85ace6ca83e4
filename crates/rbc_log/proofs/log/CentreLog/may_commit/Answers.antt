use Rattle.std.proofs.Common.{arith, subst}
use Rattle.std.proofs.lemmas.Result.{err_from_is_err_and}
use Rattle.rbc_centre.specs.Views.{event_of}
use Rattle.rbc_log.proofs.log.CentreLog.may_commit.Goals as goal
use Rattle.rbc_log.proofs.Refusals.{refused_as}
use Rattle.rbc_log.specs.declared.fault.CommitFault.TheVariants.{Step}
use Rattle.rbc_log.specs.Log.{IsRefusal, LogValue, MayCommit}

pub returns-in_err-may_step-clause-refused : goal.returns-in_err-may_step-clause-refused
returns-in_err-may_step-clause-refused c =
    let p = err_from_is_err_and c.from_residual.result c.from_residual.ensures.1 in
    rw (p.1, p.2) (subst (λ (l : LogValue). IsRefusal l (event_of c.args.event.now) (Step c.in_err-may_step.field-0.0))
    c.self.view_is
    (refused_as (record { core = c.self.inside.core; entries = c.self.inside.entries.items })
    (event_of c.args.event.now) c.in_err-may_step.field-0.0
    (omega (arith, c.if-len-ge-MOST_ENTRIES.false, c.len.ensures)) c.in_err-may_step.ensures.err))

pub returns-clause-ok : goal.returns-clause-ok
returns-clause-ok c =
    subst (λ (l : LogValue). MayCommit l (event_of c.args.event.now)) c.self.view_is
    (record {
      room = omega (arith, c.if-len-ge-MOST_ENTRIES.false, c.len.ensures);
      allowed = c.in_ok-may_step.ensures.ok;
    })
