use Rattle.std.proofs.Common.{◌++◌, ◌∙◌, ap, refl}
use Rattle.std.proofs.lemmas.Result.{IfOk-weaker}
use Rattle.rbc_bits.specs.Bits.{filled}
use Rattle.rbc_msgs.proofs.encode.encode_track.Goals as goal
use Rattle.rbc_msgs.proofs.TrackLaws.{written, written-parts}
use Rattle.rbc_msgs.specs.TrackSpelling.{SpellsTrack, track_body_fields, track_length, track_number}
use Rattle.rbc_packets.specs.Layout.{joined}

pub returns-clause-spelled : goal.returns-clause-spelled
returns-clause-spelled c =
    let m = c.args.message.now in
    let header = c.header-row.result in
    let all = header ++ joined (track_body_fields m.body) in
    IfOk-weaker c.bytes.result _ (λ bytes. SpellsTrack bytes.items m)
    (λ bytes text. written bytes.items m c.length_of-l_message.result all
    (written-parts m c.number_of-number.result c.length_of-l_message.result header all c.header-row.ensures.ok
    (c.number_of-number.ensures.value ∙ ap track_number c.body.ensures) refl)
    (text ∙ ap (λ b. filled (header ++ joined (track_body_fields b))) c.body-3.ensures)
    (c.length_of-l_message.ensures.value ∙ ap track_length c.body-2.ensures)
    (record {
      t_train = c.header-row.ensures.fits.0;
      nid_lrbg = c.header-row.ensures.fits.1;
      body = rw c.body-3.ensures at c.bytes.ensures.fits;
    }))
    c.bytes.ensures.ok
