use Rattle.law_refinement.proofs.abstraction.laws.what_a_mark_tells.Goals as goal
use Rattle.law_refinement.proofs.AbstractionLemmas.Marks.{given_mark_of, in_no_hand, in_use, is_given, kept_mark_of}

pub returns-clause-given : goal.returns-clause-given
returns-clause-given ctx line w v t s sound sees = is_given line w v t sound sees s

pub returns-clause-mark : goal.returns-clause-mark
returns-clause-mark ctx line w v t s sound sees = given_mark_of line w v t sound sees s

pub returns-clause-kept : goal.returns-clause-kept
returns-clause-kept ctx line w v t s d sound sees = kept_mark_of line w v t sound sees s d

pub returns-clause-used : goal.returns-clause-used
returns-clause-used ctx = in_use

pub returns-clause-aside : goal.returns-clause-aside
returns-clause-aside ctx = in_no_hand
