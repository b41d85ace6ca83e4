use Rattle.rbc_session.proofs.Changes.{keys_after, one_opened, phases_opened, train_of_none}
use Rattle.rbc_session.proofs.sessions.Sessions.open_reserved.Goals as goal
use Rattle.rbc_session.specs.Sessions.{HasRoom}

pub insert_reserved-key-requires : goal.insert_reserved-key-requires
unfolding HasRoom
insert_reserved-key-requires c = rw c.self.view_is c.requires.room

pub invariant_of-self : goal.invariant_of-self
invariant_of-self c =
    one_opened c.self.inside.records c.insert_reserved-key.new.self c.insert_reserved-key.result _
    c.insert_reserved-key.ensures.updates c.self.invariant c.insert_reserved-key.ensures.was_vacant
    (rw c.self.view_is c.requires.closed)

pub returns-clause-phases : goal.returns-clause-phases
returns-clause-phases c =
    rw (← c.self.view_is)
    (phases_opened c.self.inside.records c.insert_reserved-key.new.self c.insert_reserved-key.result _
    c.insert_reserved-key.ensures.updates c.self.invariant c.insert_reserved-key.ensures.was_vacant
    (rw c.self.view_is c.requires.closed))

pub returns-clause-keys : goal.returns-clause-keys
returns-clause-keys c =
    rw (← c.self.view_is)
    (keys_after c.self.inside.records c.insert_reserved-key.new.self c.insert_reserved-key.result _
    c.insert_reserved-key.ensures.updates)

pub returns-clause-fresh : goal.returns-clause-fresh
returns-clause-fresh c =
    rw (← c.self.view_is)
    (train_of_none c.self.inside.records c.insert_reserved-key.result c.insert_reserved-key.ensures.was_vacant)
