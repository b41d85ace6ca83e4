use Rattle.law_invariants.proofs.FlowLemmas.Steps.{sent_number}
use Rattle.law_reached.proofs.Known.{is_known, one_proof, sound, stands}
use Rattle.law_reached.proofs.laws.what_is_known_of_a_world.Goals as goal

pub returns-clause-reached : goal.returns-clause-reached
returns-clause-reached o line events answers w ok is = is_known line ok events answers w is

pub returns-clause-one_proof : goal.returns-clause-one_proof
returns-clause-one_proof o line w p q = one_proof line w p q

pub returns-clause-stands : goal.returns-clause-stands
returns-clause-stands o line w known = stands line w known

pub returns-clause-sound : goal.returns-clause-sound
returns-clause-sound o line w ok known = sound line w known ok

pub returns-clause-number : goal.returns-clause-number
returns-clause-number o line w a b number f known sent = sent_number w known.numbered a b number f sent
