use Rattle.law_base.proofs.rules.steps.each_frame_is_counted_in_range.Goals as goal
use Rattle.law_base.proofs.RulesLemmas.SentTaken.{counted}

pub returns : goal.returns
returns a line c d k event h few linked = counted d line c k event h few linked
