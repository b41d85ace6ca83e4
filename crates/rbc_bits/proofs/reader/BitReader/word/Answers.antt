use Rattle.std.proofs.Common.{◌*◌, ◌+◌, ◌-◌, ◌/◌, ◌^◌, ◌∙◌, ◌≡◌, ◌≤◌, ap, arith, drop, sym, take}
use Rattle.std.proofs.lemmas.List.{take-take}
use Rattle.rbc_bits.proofs.Bytes.{window-field, window-number}
use Rattle.rbc_bits.proofs.reader.BitReader.word.Goals as goal
use Rattle.rbc_bits.specs.Bits.{bits_of, field}

pub returns : goal.returns
returns c =
    let r = c.self.inside in
    let bytes = r.bytes.now in
    let last = (r.used + r.left + 7) / 8 in
    let first = last - 16 in
    let after = 8 * last - (r.used + r.left) in
    let number = c.in_ok-number.number in
    let enough : 16 ≤ last = omega (arith, c.if-last-lt16.false) in
    let width : last - first ≡ 16 = omega (arith, enough) in
    let sixteen : bits_of (take 16 (drop first bytes)) ≡ field 128 number =
    ap bits_of (sym (ap (λ n. take 16 (take n (drop first bytes))) width
    ∙ take-take 16 16 (drop first bytes) (omega arith))) ∙ c.in_ok-number.ensures.1 in
    let there = window-number bytes first 16 r.used r.left after number (omega (arith, enough, c.self.invariant.1))
    (omega (arith, enough, c.if-self-gt-MOST_IN_A_WORD.false)) (omega (arith, enough)) sixteen in
    c.of.ensures ∙ sym (window-field r.used r.left (number / 2 ^ after) (bits_of bytes) there) ∙ c.self.view_is
