use Rattle.law_refinement.proofs.Events.{fault_stays, nowhere_stays, silent_stays, stray_stays, unsent_stays}
use Rattle.law_refinement.proofs.laws.what_leads_nowhere.Goals as goal

pub returns-clause-silent : goal.returns-clause-silent
returns-clause-silent ctx line w v c m why ok meets is = silent_stays line ok w v meets c m why is

pub returns-clause-unspelled : goal.returns-clause-unspelled
returns-clause-unspelled ctx line w v c number ok meets = fault_stays line ok w v meets c number

pub returns-clause-stray : goal.returns-clause-stray
returns-clause-stray ctx line w v a b number f ok meets sent stray =
    stray_stays line ok w v meets a b number f sent stray

pub returns-clause-unsent : goal.returns-clause-unsent
returns-clause-unsent ctx line w v a b number ok meets none = unsent_stays line ok w v meets a b number none

pub returns-clause-nowhere : goal.returns-clause-nowhere
returns-clause-nowhere ctx line w v event ok meets away = nowhere_stays line ok w v meets event away
