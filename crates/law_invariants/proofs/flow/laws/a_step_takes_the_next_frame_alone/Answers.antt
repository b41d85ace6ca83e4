use Rattle.law_invariants.proofs.flow.laws.a_step_takes_the_next_frame_alone.Goals as goal
use Rattle.law_invariants.proofs.FlowLemmas.Takes.{deliver_taken, set_keeps, train_keeps, unset_keeps}
use Rattle.rbc_spec.specs.Step.{Deliver, Set, stamp_of, ticked, Train, Unset}

pub returns-clause-train : goal.returns-clause-train
returns-clause-train ctx line c k m = train_keeps line c m (ticked (stamp_of k (Train m)) k)

pub returns-clause-set : goal.returns-clause-set
returns-clause-set ctx line c s k = (set_keeps line c s).each (ticked (stamp_of k (Set s)) k)

pub returns-clause-unset : goal.returns-clause-unset
returns-clause-unset ctx line c s k = (unset_keeps line c s).each (ticked (stamp_of k (Unset s)) k)

pub returns-clause-deliver : goal.returns-clause-deliver
returns-clause-deliver ctx line c d f k = deliver_taken line c d (stamp_of k (Deliver d f)) f k
