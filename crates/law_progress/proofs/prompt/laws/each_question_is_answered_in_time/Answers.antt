use Rattle.law_progress.proofs.PromptLemmas.Prompt.{is_answered_soon}
use Rattle.law_progress.proofs.prompt.laws.each_question_is_answered_in_time.Goals as goal

pub returns : goal.returns
returns ctx line schedule k n c d x ok ranges prompt to asked pending =
    is_answered_soon line ok schedule ranges k prompt c d x to asked n pending
