use Rattle.test_scenes.proofs.not_allowed.moves_not_allowed.Goals as goal
use Rattle.test_scenes.proofs.NotAllowed.{after_silence, at_home, elsewhere, in_order, none_after_silence}
use Rattle.test_scenes.proofs.NotAllowed.{none_elsewhere, none_out_of_order, out_of_order, silent}

pub returns-clause-at_home : goal.returns-clause-at_home
returns-clause-at_home c = at_home

pub returns-clause-elsewhere : goal.returns-clause-elsewhere
returns-clause-elsewhere c = elsewhere

pub returns-clause-silent : goal.returns-clause-silent
returns-clause-silent c = silent

pub returns-clause-after_silence : goal.returns-clause-after_silence
returns-clause-after_silence c = after_silence

pub returns-clause-in_order : goal.returns-clause-in_order
returns-clause-in_order c = in_order

pub returns-clause-out_of_order : goal.returns-clause-out_of_order
returns-clause-out_of_order c = out_of_order

pub returns-clause-none_elsewhere : goal.returns-clause-none_elsewhere
returns-clause-none_elsewhere c = none_elsewhere

pub returns-clause-none_after_silence : goal.returns-clause-none_after_silence
returns-clause-none_after_silence c = none_after_silence

pub returns-clause-none_out_of_order : goal.returns-clause-none_out_of_order
returns-clause-none_out_of_order c = none_out_of_order
