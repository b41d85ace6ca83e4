use Rattle.std.proofs.Common.{◌++◌, ◌+◌, ◌/◌, ◌∙◌, ◌≡◌, ap, refl, take}
use Rattle.std.proofs.lemmas.Result.{IfOk-weaker}
use Rattle.std.specs.Int.{bytes_high_first}
use Rattle.rbc_bits.proofs.Bytes.{words-bytes}
use Rattle.rbc_bits.proofs.row.BitRow.finish.Goals as goal
use Rattle.rbc_bits.proofs.Rows.{row-filled}
use Rattle.rbc_bits.specs.Bits.{bits_of, field, filled}

pub returns-clause-ok : goal.returns-clause-ok
returns-clause-ok c =
    let r = c.self.inside in
    let one = c.at_top.result in
    let two = c.at_top-2.result in
    let count = (r.first + r.second + 7) / 8 in
    let third = c.halves-third.result in
    let front = words-bytes one c.halves-first.result.0 c.halves-first.result.1 c.halves-first.ensures.high
    c.halves-first.ensures.low in
    let back = words-bytes two third.0 third.1 c.halves-third.ensures.high c.halves-third.ensures.low in
    rw (← c.self.view_is)
    (IfOk-weaker c.bytes_of.result _ (λ bytes. bits_of bytes.items
    ≡ filled (field r.first r.front ++ field r.second r.back))
    (λ bytes are. row-filled r.front r.back r.first r.second c.self.invariant bytes.items one two count
    c.at_top.ensures c.at_top-2.ensures refl
    (are ∙ ap (λ t. take count (t ++ (bytes_high_first 8 third.0 ++ bytes_high_first 8 third.1))) front
    ∙ ap (λ t. take count (bytes_high_first 16 one ++ t)) back))
    c.bytes_of.ensures.ok)
