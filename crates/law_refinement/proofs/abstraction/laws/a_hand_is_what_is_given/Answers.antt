use Rattle.law_refinement.proofs.abstraction.laws.a_hand_is_what_is_given.Goals as goal
use Rattle.law_refinement.proofs.AbstractionLemmas.Marks.{hand_at_centre, hand_on_way}

pub returns-clause-at_centre : goal.returns-clause-at_centre
returns-clause-at_centre ctx line w v t c m sound sees = hand_at_centre line w v t sound sees c m

pub returns-clause-on_way : goal.returns-clause-on_way
returns-clause-on_way ctx line w v t a b number heard has_data is_ended place hand sound sees =
    hand_on_way line w v t sound sees a b number heard has_data is_ended place hand
