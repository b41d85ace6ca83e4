use Rattle.law_base.proofs.rules.silences.the_line_centre_is_silent_for_the_same_reasons.Goals as goal
use Rattle.law_base.proofs.RulesLemmas.SameReasons.{heard, silent}

pub returns-clause-silent : goal.returns-clause-silent
returns-clause-silent a line w v c m why stands ok = silent line w v stands c m.nid_engine m.t_train m.body why ok

pub returns-clause-heard : goal.returns-clause-heard
returns-clause-heard a line w v c m stands ok = heard line w v stands c m.nid_engine m.t_train m.body ok
