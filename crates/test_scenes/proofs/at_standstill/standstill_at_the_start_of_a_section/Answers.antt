use Rattle.test_scenes.proofs.at_standstill.standstill_at_the_start_of_a_section.Goals as goal
use Rattle.test_scenes.proofs.Standstill.{ahead, ahead_of_the_front, at_the_start, cleared_section, freed}
use Rattle.test_scenes.proofs.Standstill.{met_at_the_start, met_past_the_start, past_the_start, section_of_the_front}

pub returns-clause-at_the_start : goal.returns-clause-at_the_start
returns-clause-at_the_start c = at_the_start

pub returns-clause-met_at_the_start : goal.returns-clause-met_at_the_start
returns-clause-met_at_the_start c = met_at_the_start

pub returns-clause-past_the_start : goal.returns-clause-past_the_start
returns-clause-past_the_start c = past_the_start

pub returns-clause-met_past_the_start : goal.returns-clause-met_past_the_start
returns-clause-met_past_the_start c = met_past_the_start

pub returns-clause-cleared : goal.returns-clause-cleared
returns-clause-cleared c = cleared_section

pub returns-clause-ahead : goal.returns-clause-ahead
returns-clause-ahead c = ahead

pub returns-clause-freed : goal.returns-clause-freed
returns-clause-freed c = freed

pub returns-clause-ahead_of_the_front : goal.returns-clause-ahead_of_the_front
returns-clause-ahead_of_the_front c = ahead_of_the_front

pub returns-clause-section_of_the_front : goal.returns-clause-section_of_the_front
returns-clause-section_of_the_front c = section_of_the_front
