use Rattle.std.proofs.Common.{◌∙◌, ap, sym}
use Rattle.rbc_session.specs.SessionStates.{phase_of}
use Rattle.rbc_train.proofs.train.TrainState.up.Goals as goal
use Rattle.rbc_train.specs.Guards.{not_up}

pub returns-in-Closed : goal.returns-in-Closed
returns-in-Closed c = ap not_up (sym c.phase.ensures ∙ ap phase_of c.in-Closed.is)

pub returns-in-Opened : goal.returns-in-Opened
returns-in-Opened c = ap not_up (sym c.phase.ensures ∙ ap phase_of c.in-Opened.is)

pub returns-in-Up : goal.returns-in-Up
returns-in-Up c = sym c.phase.ensures ∙ ap phase_of c.in-Up.is
