use Rattle.test_scenes.proofs.RuleScenes.{centre_after_grant, centre_at_a_standstill, data_after_grant}
use Rattle.test_scenes.proofs.RuleScenes.{data_at_a_standstill, end_after_grant, end_at_a_standstill, followed_centre}
use Rattle.test_scenes.proofs.RuleScenes.{heard_request, one_clock, since_acknowledged, to_the_end, true_front}
use Rattle.test_scenes.proofs.RuleScenes.{true_rear, with_authority}
use Rattle.test_scenes.proofs.train_rules.each_part_of_the_rules_is_needed.Goals as goal

pub returns-clause-one_clock : goal.returns-clause-one_clock
returns-clause-one_clock c = one_clock

pub returns-clause-true_front : goal.returns-clause-true_front
returns-clause-true_front c = true_front

pub returns-clause-true_rear : goal.returns-clause-true_rear
returns-clause-true_rear c = true_rear

pub returns-clause-heard_request : goal.returns-clause-heard_request
returns-clause-heard_request c = heard_request

pub returns-clause-end_after_grant : goal.returns-clause-end_after_grant
returns-clause-end_after_grant c = end_after_grant

pub returns-clause-centre_after_grant : goal.returns-clause-centre_after_grant
returns-clause-centre_after_grant c = centre_after_grant

pub returns-clause-data_after_grant : goal.returns-clause-data_after_grant
returns-clause-data_after_grant c = data_after_grant

pub returns-clause-end_at_a_standstill : goal.returns-clause-end_at_a_standstill
returns-clause-end_at_a_standstill c = end_at_a_standstill

pub returns-clause-centre_at_a_standstill : goal.returns-clause-centre_at_a_standstill
returns-clause-centre_at_a_standstill c = centre_at_a_standstill

pub returns-clause-data_at_a_standstill : goal.returns-clause-data_at_a_standstill
returns-clause-data_at_a_standstill c = data_at_a_standstill

pub returns-clause-followed_centre : goal.returns-clause-followed_centre
returns-clause-followed_centre c = followed_centre

pub returns-clause-since_acknowledged : goal.returns-clause-since_acknowledged
returns-clause-since_acknowledged c = since_acknowledged

pub returns-clause-to_the_end : goal.returns-clause-to_the_end
returns-clause-to_the_end c = to_the_end

pub returns-clause-with_authority : goal.returns-clause-with_authority
returns-clause-with_authority c = with_authority
