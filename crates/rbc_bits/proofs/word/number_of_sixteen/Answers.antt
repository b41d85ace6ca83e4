use Rattle.std.proofs.Common.{◌*◌, ◌+◌, ◌-◌, ◌<◌, ◌^◌, ◌∙◌, ◌≡◌, ◌≤◌, ap, arith, drop, length, take}
use Rattle.std.proofs.lemmas.List.{get_or-drop, length-drop, take_all}
use Rattle.std.proofs.Math.Nat.{mod-eq_of_lt}
use Rattle.std.specs.Int.{from_be_bytes, w64}
use Rattle.rbc_bits.proofs.Bytes.{number-at_once}
use Rattle.rbc_bits.proofs.word.number_of_sixteen.Goals as goal
use Rattle.rbc_bits.proofs.Words.{joined_words}

pub returns : goal.returns
returns c =
    let bytes = c.args.bytes.now in
    let first = c.in_ok-high.ensures.cases in
    let second = c.in_ok-low.ensures.cases in
    let high = c.from-high.result in
    let low = c.from-low.result in
    let whole : take (length bytes - 8) (drop 8 bytes) ≡ drop 8 bytes =
    take_all (length bytes - 8) (drop 8 bytes) (omega (arith, length-drop 8 bytes)) in
    let more : 8 ≤ length (drop 8 bytes) = omega (arith, second.enough, ap length whole) in
    let small : low < 2 ^ 64 = omega (arith, c.from-low.ensures, c.from_be_bytes-2.type_inv) in
    let fits : high * 2 ^ 64 < 2 ^ 128 = omega (arith, c.from-high.ensures, c.from_be_bytes.type_inv) in
    let front = number-at_once bytes high first.enough (λ i. omega (arith, c.type_inv.bytes i)) (c.from-high.ensures
    ∙ c.from_be_bytes.ensures ∙ ap (from_be_bytes w64) first.same) in
    let back = number-at_once (drop 8 bytes) low more
    (λ i. omega (arith, get_or-drop 8 bytes i 0, c.type_inv.bytes (8 + i))) (c.from-low.ensures
    ∙ c.from_be_bytes-2.ensures ∙ ap (from_be_bytes w64) (second.same ∙ ap (take 8) whole)) in
    rw (mod-eq_of_lt fits)
    (omega (arith, more, length-drop 8 bytes), joined_words bytes high low first.enough small front back)
