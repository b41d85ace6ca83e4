use Rattle.std.proofs.Common.{rules}
use Rattle.std.proofs.lemmas.Result.{err_from_is_err_and}
use Rattle.rbc_centre.specs.Views.{event_of}
use Rattle.rbc_log.proofs.Refusals.{lacks_memory}
use Rattle.rbc_node.proofs.share.Share.commit.Goals as goal
use Rattle.rbc_node.specs.Commit.{Fits}

pub returns-in_err-may_commit-clause-refused : goal.returns-in_err-may_commit-clause-refused
returns-in_err-may_commit-clause-refused c =
    let p = err_from_is_err_and c.from_residual.result c.from_residual.ensures.1 in
    let fits : Fits c.args.self.now c.args.log.now = search rules in
    rw (p.1, p.2) ((fits, c.in_err-may_commit.ensures.refused))

pub returns-in_err-reserve-clause-refused : goal.returns-in_err-reserve-clause-refused
returns-in_err-reserve-clause-refused c =
    let p = err_from_is_err_and c.from_residual-in_err-reserve.result c.from_residual-in_err-reserve.ensures.1 in
    let fits : Fits c.args.self.now c.args.log.now = search rules in
    rw (p.1, p.2) ((fits, lacks_memory c.args.log.now (event_of c.args.event) c.in_ok-may_commit.ensures.ok))

pub returns-in_err-reserve-2-clause-refused : goal.returns-in_err-reserve-2-clause-refused
returns-in_err-reserve-2-clause-refused c =
    let p = err_from_is_err_and c.from_residual-in_err-reserve-2.result c.from_residual-in_err-reserve-2.ensures.1 in
    let fits : Fits c.args.self.now c.args.log.now = search rules in
    rw (p.1, p.2) ((fits, lacks_memory c.args.log.now (event_of c.args.event) c.in_ok-may_commit.ensures.ok))

pub returns-in_err-given-clause-refused : goal.returns-in_err-given-clause-refused
returns-in_err-given-clause-refused c =
    let p = err_from_is_err_and c.from_residual-in_err-given.result c.from_residual-in_err-given.ensures.1 in
    let fits : Fits c.args.self.now c.args.log.now = search rules in
    rw (p.1, p.2) ((fits, lacks_memory c.args.log.now (event_of c.args.event) c.in_ok-may_commit.ensures.ok))

pub returns-in_err-commit_allowed-clause-refused : goal.returns-in_err-commit_allowed-clause-refused
returns-in_err-commit_allowed-clause-refused c =
    let p = err_from_is_err_and c.from_residual-in_err-commit_allowed.result
    c.from_residual-in_err-commit_allowed.ensures.1 in
    let fits : Fits c.args.self.now c.args.log.now = search rules in
    rw (p.1, p.2) ((fits, lacks_memory c.args.log.now (event_of c.args.event) c.in_ok-may_commit.ensures.ok))
