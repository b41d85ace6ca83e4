use Rattle.std.proofs.Common.{◌*◌, ◌+◌, ◌-◌, ◌/◌, ◌^◌, ◌∙◌, ◌≡◌, ◌≤◌, ap, arith, drop, length, List, take, ℕ}
use Rattle.std.proofs.lemmas.List.{get_or-drop, length-drop, take_all}
use Rattle.std.specs.Int.{from_be_bytes, w64}
use Rattle.rbc_bits.proofs.Bytes.{number-at_once, window-number}
use Rattle.rbc_bits.proofs.Fields.{field-mod}
use Rattle.rbc_bits.proofs.reader.field_from.Goals as goal
use Rattle.rbc_bits.proofs.Words.{masked_64}
use Rattle.rbc_bits.specs.Bits.{bits_of, field}

-- the field ends in the eight bytes
ends : (bytes : List ℕ) (first used n : ℕ) → 8 ≤ length (take (length bytes - first) (drop first bytes)) → n ≤ 57
    → used + n ≤ 8 * length bytes
    → ((k : ℕ) → k ≤ 57 → used + k ≤ 8 * length bytes → first + 8 ≤ length bytes → used + k ≤ 8 * first + 64)
    → used + n ≤ 8 * first + 64
ends bytes first used n enough few within near =
    near n few within
    (omega (
      arith,
      enough,
      ap length (take_all (length bytes - first) (drop first bytes) (omega (arith, length-drop first bytes))),
      length-drop first bytes,
    ))

pub overflow_sub-after : goal.overflow_sub-after
overflow_sub-after c =
    ends c.args.bytes.now c.first_of_eight-first.result c.args.used c.args.n c.in-Some.ensures.cases.enough
    (omega (arith, c.if-n-le57.true)) c.requires.within c.first_of_eight-first.ensures.near

pub returns-in-Some-clause-field : goal.returns-in-Some-clause-field
returns-in-Some-clause-field c =
    let bytes = c.args.bytes.now in
    let used = c.args.used in
    let n = c.args.n in
    let first = c.first_of_eight-first.result in
    let after = 8 * first + 64 - (used + n) in
    let number = c.from_be_bytes.result in
    let chunk = c.in-Some.ensures.cases in
    let whole : take (length bytes - first) (drop first bytes) ≡ drop first bytes =
    take_all (length bytes - first) (drop first bytes) (omega (arith, length-drop first bytes)) in
    let enough : 8 ≤ length (drop first bytes) = omega (arith, chunk.enough, ap length whole) in
    let within : first + 8 ≤ length bytes = omega (arith, enough, length-drop first bytes) in
    let eight : bits_of (take 8 (drop first bytes)) ≡ field 64 number =
    number-at_once (drop first bytes) number enough
    (λ i. omega (arith, get_or-drop first bytes i 0, c.type_inv.bytes (first + i))) (c.from_be_bytes.ensures
    ∙ ap (from_be_bytes w64) (chunk.same ∙ ap (take 8) whole)) in
    rw (masked_64 n (number / 2 ^ after) (omega (arith, c.if-n-le57.true)), field-mod n (number / 2 ^ after))
    (window-number bytes first 8 used n after number within (omega (arith, c.first_of_eight-first.ensures.before))
    (omega (
      arith,
      ends bytes first used n chunk.enough (omega (arith, c.if-n-le57.true)) c.requires.within
          c.first_of_eight-first.ensures.near,
    )) eight)
