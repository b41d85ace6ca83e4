use Rattle.law_progress.proofs.PromptLemmas.Starts.{is_start_answered}
use Rattle.law_progress.proofs.prompt.laws.each_start_is_answered_in_time.Goals as goal

pub returns : goal.returns
returns ctx line schedule k n c d t place ok ranges prompt to registrar waits =
    is_start_answered line ok schedule ranges c t k prompt d to registrar n place waits
