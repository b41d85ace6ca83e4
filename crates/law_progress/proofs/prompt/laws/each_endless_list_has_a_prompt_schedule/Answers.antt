use Rattle.law_progress.proofs.PromptLemmas.Between.{has_prompt}
use Rattle.law_progress.proofs.prompt.laws.each_endless_list_has_a_prompt_schedule.Goals as goal

pub returns : goal.returns
returns ctx line others ok = has_prompt line others ok
