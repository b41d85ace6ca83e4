use Rattle.std.proofs.Common.{◌++◌, Err, Ok, refl, Result}
use Rattle.std.proofs.lemmas.Result.{IfOk-weaker}
use Rattle.std.specs.List.{flat_map}
use Rattle.std.specs.Prelude.{IfOk, OnOk}
use Rattle.rbc_msgs.proofs.encode.train_bytes.Goals as goal
use Rattle.rbc_msgs.proofs.TrainLaws.{written, written-parts}
use Rattle.rbc_msgs.specs.TrainSpelling.{packet_bits, SpellsTrain, train_body_bits, train_header}
use Rattle.rbc_packets.specs.Layout.{joined}

both : {T E : Type 0} (r : Result T E) (P : T → Type 0) (F : Type 0) → IfOk r P → OnOk r F → IfOk r (λ x. P x × F)
both (Ok x) P F p f = (p, f)
both (Err e) P F p f = tt

pub returns-clause-spelled : goal.returns-clause-spelled
returns-clause-spelled c =
    let m = c.args.message.now in
    let l_message = c.args.l_message in
    let header = joined (train_header l_message m) in
    let body = header ++ train_body_bits m.body in
    let all = body ++ flat_map packet_bits m.further in
    let spelled = written-parts m l_message header body all refl refl refl in
    IfOk-weaker c.bytes.result _ (λ bytes. SpellsTrain bytes.items m)
    (λ bytes found. written bytes.items m l_message all spelled found.0 c.requires.length c.requires.limit found.1)
    (both c.bytes.result _ _ c.bytes.ensures.ok c.bytes.ensures.fits)
