use Rattle.law_base.proofs.rules.asks.a_question_stands_for_an_empty_pool.Goals as goal
use Rattle.law_base.proofs.RulesLemmas.Questions.{begins, step_keeps, wanted_is}

pub returns-clause-beginning : goal.returns-clause-beginning
returns-clause-beginning a = begins

pub returns-clause-step : goal.returns-clause-step
returns-clause-step a line c k event = step_keeps line c event k

pub returns-clause-wanted : goal.returns-clause-wanted
returns-clause-wanted a line k t first m r asks stands has = wanted_is line r m (asks t first m stands has)
