use Rattle.law_progress.proofs.PromptLemmas.Soon.{is_taken_soon}
use Rattle.law_progress.proofs.prompt.laws.each_frame_is_taken_in_time.Goals as goal

pub returns : goal.returns
returns ctx line schedule k n a b i ok ranges prompt small =
    is_taken_soon line ok schedule ranges k prompt n a b i small
