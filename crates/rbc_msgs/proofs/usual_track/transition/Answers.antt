use Rattle.std.proofs.Common.{refl}
use Rattle.rbc_msgs.proofs.TrackLaws.{put-together, some_read-again}
use Rattle.rbc_msgs.proofs.usual_track.transition.Goals as goal

pub returns-clause-found : goal.returns-clause-found
returns-clause-found c =
    let h = c.in_ok-header in
    let transition = c.in_ok-transition.ensures.found in
    put-together c.args.bytes.now c.message.result 24 h.header.t_train h.header.nid_lrbg _ h.header.rest
    c.usual.new.reader refl h.ensures.taken transition.0
    h.ensures.length h.ensures.time h.ensures.group transition.1 c.message.ensures.value c.message.ensures.filling

pub returns-clause-exact : goal.returns-clause-exact
returns-clause-exact c = some_read-again c.args.bytes.now c.message.result (returns-clause-found c)
