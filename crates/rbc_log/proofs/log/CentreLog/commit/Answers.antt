use Rattle.std.proofs.lemmas.Result.{err_from_is_err_and}
use Rattle.rbc_centre.specs.Views.{event_of}
use Rattle.rbc_log.proofs.log.CentreLog.commit.Goals as goal
use Rattle.rbc_log.proofs.Refusals.{lacks_memory}

pub returns-in_err-commit_allowed-clause-refused : goal.returns-in_err-commit_allowed-clause-refused
returns-in_err-commit_allowed-clause-refused c =
    let p = err_from_is_err_and c.from_residual-in_err-commit_allowed.result
    c.from_residual-in_err-commit_allowed.ensures.1 in
    rw (p.1, p.2) (lacks_memory c.args.self.now (event_of c.args.event) c.in_ok-may_commit.ensures.ok)
