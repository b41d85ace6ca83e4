-- The bits that fill the last byte of a message.
use Rattle.std.proofs.Common.{◌≡◌, ◌∙◌, sym, ap, ℕ, zero, suc, ◌<◌, List, []}
use Rattle.std.proofs.Common.{◌++◌, append-nil, pow_pos, arith}
use Rattle.std.specs.Prelude.{replicate, false}
use Rattle.std.specs.List.{AllByRecursion}
use Rattle.std.proofs.lemmas.List.{map-append}
use Rattle.rbc_bits.specs.Bits.{filling, filled}
use Rattle.rbc_packets.specs.Layout.{joined, widths}
use Rattle.rbc_packets.proofs.Again.{filled-parts, length-joined, joined-append}
use Rattle.text_fields.specs.Named.{Named, NamedFits, fields_in}
use Rattle.text_fields.specs.Messages.{filling_fields}
use Rattle.text_fields.specs.Messages.{with_filling}
use Rattle.text_fields.proofs.Steps.{filling_bits}

-- the bits of fields that are filled up to whole bytes
pub all_bits-filled : (fields : List Named) → filled (joined (fields_in fields)) ≡ joined
    (fields_in (with_filling fields)) ++ []
all_bits-filled fields =
    let bits = joined (fields_in fields) in
    let n = filling (widths (fields_in fields)) in
    filled-parts bits
    ∙ (ap (λ k. bits ++ replicate (filling k) false) (length-joined (fields_in fields))
    ∙ (ap (λ others. bits ++ others) (sym (filling_bits n))
    ∙ (sym (joined-append (fields_in fields) (fields_in (filling_fields n)))
    ∙ (ap joined (sym (map-append (λ (f : Named). f.field) fields (filling_fields n)))
    ∙ sym (append-nil (joined (fields_in (with_filling fields))))))))

pub few : (n : ℕ) → filling n < 8
few n = omega arith

pub filling-fit : (n : ℕ) → n < 8 → AllByRecursion NamedFits (filling_fields n)
filling-fit zero h = tt
filling-fit (suc n) h = ((omega (arith, h), pow_pos (suc n)), tt)
