use Rattle.std.proofs.Common.{◌∙◌, arith, sym}
use Rattle.rbc_msgs.proofs.decode.track_from.Goals as goal
use Rattle.rbc_msgs.proofs.TrackLaws.{spells}

pub returns-clause-found : goal.returns-clause-found
returns-clause-found c =
    let start = c.in_ok-reader.ensures.taken in
    rw c.new.ensures
    (spells c.args.bytes.now _ c.in_ok-number.number c.in_ok-number.l_message start.0 c.in_ok-reader.reader
    c.take_time.new.reader c.take_fixed.new.reader c.take.new.reader c.read_body.new.reader
    (sym (c.in_ok-body.ensures.number ∙ c.in_ok-number-2.ensures.value))
    c.in_ok-reader.ensures.length c.in_ok-number.ensures.taken start.1
    c.in_ok-t_train.ensures.taken c.in_ok-take_fixed.ensures.taken c.in_ok-nid_lrbg.ensures.taken
    c.in_ok-body.ensures.taken c.in_ok-end.ensures.filling
    (omega (arith, c.in_ok-reader.ensures.length, c.in_ok-number.ensures.length))
    (record {
      t_train = c.in_ok-t_train.ensures.known;
      nid_lrbg = c.in_ok-nid_lrbg.ensures.fits;
      body = c.in_ok-body.ensures.fits;
    }))
