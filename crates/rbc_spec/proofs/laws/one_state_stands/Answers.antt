use Rattle.rbc_spec.proofs.laws.one_state_stands.Goals as goal
use Rattle.rbc_spec.proofs.Safe.{same_mission, same_section, same_sessions}

pub returns-clause-sessions : goal.returns-clause-sessions
returns-clause-sessions c = same_sessions

pub returns-clause-missions : goal.returns-clause-missions
returns-clause-missions c = same_mission

pub returns-clause-sections : goal.returns-clause-sections
returns-clause-sections c = same_section
