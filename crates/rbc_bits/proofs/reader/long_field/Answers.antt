use Rattle.std.proofs.Common.{◌*◌, ◌+◌, ◌-◌, ◌/◌, ◌<◌, ◌^◌, ◌∙◌, ◌≡◌, ◌≤◌, ap, arith, drop, length, take}
use Rattle.std.proofs.lemmas.List.{length-drop, length-take-le}
use Rattle.rbc_bits.proofs.Bytes.{window-number}
use Rattle.rbc_bits.proofs.Fields.{field-mod}
use Rattle.rbc_bits.proofs.reader.long_field.Goals as goal
use Rattle.rbc_bits.proofs.Words.{masked}
use Rattle.rbc_bits.specs.Bits.{field}

pub returns-clause-field : goal.returns-clause-field
returns-clause-field c =
    let bytes = c.args.bytes.now in
    let used = c.args.used in
    let n = c.args.n in
    let first = used / 8 in
    let count = (used + n + 7) / 8 - used / 8 in
    let after = 8 * ((used + n + 7) / 8) - (used + n) in
    let number = c.number_of.result in
    let within : first + count ≤ length bytes = omega (arith, c.requires.within) in
    let len : length (take count (drop first bytes)) ≡ count =
    length-take-le count (drop first bytes) (omega (arith, length-drop first bytes)) in
    let small : n < 128 = omega (arith, c.requires.width) in
    rw (masked n (number / 2 ^ after) small, field-mod n (number / 2 ^ after))
    (window-number bytes first count used n after number within (omega arith) (omega arith) (c.number_of.ensures
    ∙ ap (λ k. field (8 * k) number) len))
