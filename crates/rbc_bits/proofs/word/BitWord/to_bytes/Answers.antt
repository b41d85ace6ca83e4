use Rattle.std.proofs.Common.{◌∙◌, ◌≡◌, ap, length, sym, take}
use Rattle.rbc_bits.proofs.Bytes.{bits_of-bytes_high_first}
use Rattle.rbc_bits.proofs.word.BitWord.to_bytes.Goals as goal
use Rattle.rbc_bits.proofs.Words.{length-front}
use Rattle.rbc_bits.specs.Bits.{bits_of, field}

pub returns : goal.returns
returns c =
    let w = c.self.inside in
    let left : w.left ≡ length c.args.self = sym (length-front w.word w.left c.self.invariant)
    ∙ ap length c.self.view_is in
    let bits : bits_of c.to_be_bytes.result ≡ field 128 w.word = ap bits_of c.to_be_bytes.ensures
    ∙ bits_of-bytes_high_first 16 w.word in
    ap (λ n. take n (bits_of c.to_be_bytes.result)) (sym left) ∙ ap (take w.left) bits ∙ c.self.view_is
