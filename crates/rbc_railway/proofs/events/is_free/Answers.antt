use Rattle.std.proofs.Common.{◌∙◌, ◌≡◌, ap, false, Ok, subst, sym}
use Rattle.rbc_msgs.specs.TrainReading.{read_train}
use Rattle.rbc_railway.proofs.events.is_free.Goals as goal
use Rattle.rbc_railway.proofs.Moves.{ok_map}
use Rattle.rbc_railway.specs.History.{IsFree, obeys}
use Rattle.rbc_spec.specs.World.{Bytes}
use Rattle.rbc_world.specs.Views.{event_of, numbered}

pub returns-in-Ok-clause-free : goal.returns-in-Ok-clause-free
returns-in-Ok-clause-free c =
    let obey = obeys c.args.trains.now in
    let read : read_train c.in-Train.bytes.items ≡ Ok c.in-Ok.message = ap read_train (sym c.deref.ensures.value)
    ∙ c.in-Ok.ensures.exact in
    ok_map c.is_foreign.result (λ no. subst (λ e. IsFree obey (event_of e)) (sym c.in-Train.is)
    (subst (λ r. IsFree obey (Bytes c.in-Train.centre (numbered r))) (sym read)
    (subst (λ n. obey n ≡ false) c.nid_engine.ensures.value no))) c.is_foreign.ensures.foreign

pub returns-in-Err-clause-free : goal.returns-in-Err-clause-free
returns-in-Err-clause-free c =
    let obey = obeys c.args.trains.now in
    ok_map c.unread.result (λ other. subst (λ e. IsFree obey (event_of e)) (sym c.in-Train.is)
    (subst (λ r. IsFree obey (Bytes c.in-Train.centre (numbered r)))
    (sym (ap read_train (sym c.deref.ensures.value) ∙ c.in-Err.ensures.exact other)) tt)) c.unread.ensures.other
