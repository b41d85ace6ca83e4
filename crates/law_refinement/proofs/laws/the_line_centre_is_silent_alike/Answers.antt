use Rattle.law_refinement.proofs.laws.the_line_centre_is_silent_alike.Goals as goal
use Rattle.law_refinement.proofs.Silence.{heard, heard_alike, silent}

pub returns-clause-silent : goal.returns-clause-silent
returns-clause-silent ctx line w v c m why meets is = silent line w v meets.sound.flow meets.shows c m why is

pub returns-clause-heard : goal.returns-clause-heard
returns-clause-heard ctx line w v c m meets is = heard line w v meets.sound.flow meets.shows c m is

pub returns-clause-answered : goal.returns-clause-answered
returns-clause-answered ctx line w v c m meets is = heard_alike line w v meets.sound.flow meets.shows c m is
