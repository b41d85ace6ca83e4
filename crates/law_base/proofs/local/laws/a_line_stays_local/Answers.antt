use Rattle.law_base.proofs.local.laws.a_line_stays_local.Goals as goal
use Rattle.law_base.proofs.LocalLemmas.Worlds.{is_ordered, new_local, run_local}
use Rattle.rbc_spec.specs.World.{new_world}

pub returns-clause-local : goal.returns-clause-local
returns-clause-local c line d events answers w ok one is =
    run_local line (is_ordered line ok) d one events (new_world line) (new_local line) answers w is

pub returns-clause-none_sent : goal.returns-clause-none_sent
returns-clause-none_sent c line d events answers w a b ok one is =
    ((run_local line (is_ordered line ok) d one events (new_world line) (new_local line) answers w is).each a).none_sent
    b
