use Rattle.law_base.proofs.rules.silences.a_silent_message_changes_nothing.Goals as goal
use Rattle.law_base.proofs.RulesLemmas.Places.{frames_are, sayings_are, state_is, words_are}

pub returns-clause-state : goal.returns-clause-state
returns-clause-state a = state_is

pub returns-clause-sayings : goal.returns-clause-sayings
returns-clause-sayings a = sayings_are

pub returns-clause-frames : goal.returns-clause-frames
returns-clause-frames a line c d k m = frames_are line c k m d

pub returns-clause-words : goal.returns-clause-words
returns-clause-words a = words_are
