use Rattle.law_reached.proofs.Known.{goes, promises}
use Rattle.law_reached.proofs.laws.each_further_event.Goals as goal

pub returns-clause-goes : goal.returns-clause-goes
returns-clause-goes o line w new event answer ok known is = goes line w known ok new event answer is

pub returns-clause-promises : goal.returns-clause-promises
returns-clause-promises o line w new event answer ok known is = promises line w known ok new event answer is
