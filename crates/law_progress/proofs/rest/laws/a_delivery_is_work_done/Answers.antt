use Rattle.std.proofs.Common.{arith}
use Rattle.law_invariants.proofs.NoStrayLemmas.Worlds.{each_reached}
use Rattle.law_progress.proofs.rest.laws.a_delivery_is_work_done.Goals as goal
use Rattle.law_progress.proofs.RestLemmas.Delivers.{less_work}
use Rattle.law_progress.proofs.RestLemmas.Rest.{work_is}

pub returns : goal.returns
returns ctx line events answers w new answer a b number f ok before sent next is = let reached =
    each_reached line ok events answers w before in
    omega (
      arith,
      work_is line w,
      work_is line new,
      less_work line w reached.sound.flow reached.sound.numbered a b number f
          (record { sent = sent; next = next }) answer new is,
    )
