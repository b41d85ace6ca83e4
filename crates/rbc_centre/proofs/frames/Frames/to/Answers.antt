use Rattle.std.proofs.Common.{◌==◌, ◌≡◌, ap, arith, eq-eqb, length, refl, sym, true}
use Rattle.std.proofs.lemmas.Option.{slice_get_read}
use Rattle.rbc_centre.proofs.frames.Frames.to.Goals as goal
use Rattle.rbc_centre.proofs.Rows.{few_to, one_more_to}

pub push-requires : goal.push-requires
push-requires c =
    let d = c.args.centre in
    let f = c.sent-item.result in
    let goes : (d == f.to) ≡ true = eq-eqb d f.to (sym c.if-sent-centre.true) in
    let at = slice_get_read _ _ _ _ refl c.loop-sent-test.true c.sent-item.is in
    let more = one_more_to c.as_slice-sent-items.result.now c.loop-sent.sent-index f d at goes in
    let most = few_to c.args.self.now d in
    let all = ap (λ g. length (g d)) c.as_slice-sent-items.ensures.value in
    let now = ap length c.loop-sent.invariant in
    (omega arith, omega (arith, more, most, all, now))
