use Rattle.rbc_session.proofs.Records.{one_key}
use Rattle.rbc_session.proofs.sessions.Sessions.train.Goals as goal

pub returns-clause-one : goal.returns-clause-one
returns-clause-one g c = rw (← c.self.view_is) (one_key c.self.inside.records c.self.invariant)
