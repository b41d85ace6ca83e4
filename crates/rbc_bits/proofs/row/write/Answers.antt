use Rattle.std.proofs.Common.{◌++◌, ◌+◌, ◌-◌, ◌^◌, ◌∙◌, ◌≡◌, ◌≤◌, ap, append_assoc, arith, subst, sym}
use Rattle.std.proofs.lemmas.Nat.{shr_below}
use Rattle.std.proofs.Math.Nat.{pow-le-pow_right}
use Rattle.std.specs.Prelude.{OnOk}
use Rattle.rbc_bits.proofs.Fields.{field-add, field-mod}
use Rattle.rbc_bits.proofs.row.write.Goals as goal
use Rattle.rbc_bits.specs.Bits.{field}

pub put-requires-clause-fits : goal.put-requires-clause-fits
put-requires-clause-fits c = omega (arith, c.halves-high.ensures.low, c.requires.held)

pub put-requires-2-clause-fits : goal.put-requires-2-clause-fits
put-requires-2-clause-fits c =
    let n = c.args.count - 64 in
    let width : c.args.count ≡ n + 64 = omega (arith, c.if-count-le64.false) in
    rw c.halves-high.ensures.high (shr_below c.args.held n 64 (rw (← width) c.requires.held))

pub returns-then-count-le64-clause-ok : goal.returns-then-count-le64-clause-ok
returns-then-count-le64-clause-ok c =
    let most : 2 ^ c.args.count ≤ 2 ^ 64 = pow-le-pow_right (omega arith) c.if-count-le64.true in
    let low : c.halves-high.result.1 ≡ c.args.held = omega (arith, c.halves-high.ensures.low, c.requires.held, most) in
    rw (← low) c.put.ensures.ok

pub returns-clause-ok : goal.returns-clause-ok
returns-clause-ok c =
    let w = c.args.writer.now in
    let n = c.args.count - 64 in
    let high = c.halves-high.result.0 in
    let low = c.halves-high.result.1 in
    let width : c.args.count ≡ n + 64 = omega (arith, c.if-count-le64.false) in
    let whole : field c.args.count c.args.held ≡ field n high ++ field 64 low =
    ap (λ k. field k c.args.held) width ∙ field-add n 64 c.args.held
    ∙ ap (λ v. field n v ++ field 64 c.args.held) (sym c.halves-high.ensures.high)
    ∙ ap (λ t. field n high ++ t) (sym (field-mod 64 c.args.held) ∙ ap (field 64) (sym c.halves-high.ensures.low)) in
    let all = ap (λ t. t ++ field 64 low) c.in_ok-put.ensures.ok ∙ append_assoc w (field n high) (field 64 low)
    ∙ ap (λ t. w ++ t) (sym whole) in
    subst (λ t. OnOk c.put-3.result (c.put-3.new.self ≡ t)) all c.put-3.ensures.ok
