use Rattle.law_progress.proofs.PromptLemmas.Answers.{ends_at_once, sends_at_once}
use Rattle.law_progress.proofs.prompt.laws.a_question_is_answered_at_once.Goals as goal

pub returns-clause-asked : goal.returns-clause-asked
returns-clause-asked ctx line events replies w new c d number f o x ok before sent next is done =
    sends_at_once line ok events replies w before c d number f sent next x is o new done

pub returns-clause-ended : goal.returns-clause-ended
returns-clause-ended ctx line events replies w new c d number f answer x ok before sent next is done =
    ends_at_once line ok events replies w before d c number f sent next x is answer new done
