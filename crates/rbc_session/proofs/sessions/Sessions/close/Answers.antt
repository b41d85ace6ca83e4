use Rattle.rbc_session.proofs.Changes.{keys_after, phases_closed, room_kept, room_left}
use Rattle.rbc_session.proofs.sessions.Sessions.close.Goals as goal

pub returns-clause-phases : goal.returns-clause-phases
returns-clause-phases g c =
    rw (← c.self.view_is)
    (phases_closed c.self.inside.records c.try_remove.new.self c.args.session.key c.self.invariant
    c.try_remove.ensures.updates)

pub returns-clause-keys : goal.returns-clause-keys
returns-clause-keys g c =
    rw (← c.self.view_is)
    (keys_after c.self.inside.records c.try_remove.new.self c.args.session.key _ c.try_remove.ensures.updates)

pub returns-clause-room : goal.returns-clause-room
returns-clause-room g c =
    rw (← c.self.view_is)
    (room_left c.self.inside.records c.try_remove.new.self c.args.session.key c.try_remove.result
    c.try_remove.ensures.value c.try_remove.ensures.room)

pub returns-clause-had_room : goal.returns-clause-had_room
returns-clause-had_room g c =
    rw (← c.self.view_is)
    (room_kept c.self.inside.records c.try_remove.new.self c.try_remove.result c.try_remove.ensures.room
    c.try_remove.ensures.absent)
