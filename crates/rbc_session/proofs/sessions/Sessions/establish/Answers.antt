use Rattle.rbc_session.proofs.Changes.{keys_confirmed, phases_confirmed}
use Rattle.rbc_session.proofs.sessions.Sessions.establish.Goals as goal

pub returns-clause-phases : goal.returns-clause-phases
returns-clause-phases c =
    rw (← c.self.view_is)
    (phases_confirmed c.self.inside.records c.confirm.new.records c.args.session.key c.self.invariant c.confirm.ensures)

pub returns-clause-keys : goal.returns-clause-keys
returns-clause-keys c =
    rw (← c.self.view_is)
    (keys_confirmed c.self.inside.records c.confirm.new.records c.args.session.key c.self.invariant c.confirm.ensures)
