use Rattle.law_base.proofs.rules.steps.a_step_sends_few.Goals as goal
use Rattle.law_base.proofs.RulesLemmas.SentTaken.{few_frames, few_sayings, few_words}

pub returns-clause-frames : goal.returns-clause-frames
returns-clause-frames a line c d k event h few = few_frames d line c k event h few

pub returns-clause-sayings : goal.returns-clause-sayings
returns-clause-sayings a line c k event h few = few_sayings 0 line c k event h few

pub returns-clause-words : goal.returns-clause-words
returns-clause-words a line c k event h few = few_words 0 line c k event h few
