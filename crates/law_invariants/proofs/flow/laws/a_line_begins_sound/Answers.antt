use Rattle.law_invariants.proofs.flow.laws.a_line_begins_sound.Goals as goal
use Rattle.law_invariants.proofs.FlowLemmas.OnePlace.{line_begins, line_begins_numbered, line_begins_whole, line_shows}

pub returns-clause-sound : goal.returns-clause-sound
returns-clause-sound c line = line_begins line

pub returns-clause-whole : goal.returns-clause-whole
returns-clause-whole c line = line_begins_whole line

pub returns-clause-numbered : goal.returns-clause-numbered
returns-clause-numbered c line = line_begins_numbered line

pub returns-clause-shown : goal.returns-clause-shown
returns-clause-shown c line = line_shows line
