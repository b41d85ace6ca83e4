use Rattle.std.proofs.Common.{◌++◌, ◌∙◌, ap, sym}
use Rattle.rbc_msgs.proofs.TrackLaws.{put-together, some_read-again}
use Rattle.rbc_msgs.proofs.usual_track.bare.Goals as goal
use Rattle.rbc_msgs.specs.Numbers.{track_number_value}
use Rattle.rbc_packets.proofs.Again.{joined-nil}
use Rattle.rbc_packets.specs.Layout.{joined}

pub returns-clause-found : goal.returns-clause-found
returns-clause-found c =
    let h = c.in_ok-header in
    let body = c.in_ok-bare_body.ensures in
    let rest = h.header.rest in
    put-together c.args.bytes.now c.message.result (track_number_value c.in-Ok.number) h.header.t_train
    h.header.nid_lrbg _ rest rest (sym body.number) h.ensures.taken
    (sym (ap (λ fields. joined fields ++ rest) body.fields ∙ ap (λ t. t ++ rest) joined-nil))
    h.ensures.length h.ensures.time h.ensures.group body.fits c.message.ensures.value c.message.ensures.filling

pub returns-clause-exact : goal.returns-clause-exact
returns-clause-exact c = some_read-again c.args.bytes.now c.message.result (returns-clause-found c)
