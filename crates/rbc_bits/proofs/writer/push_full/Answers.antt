use Rattle.std.proofs.Common.{arith}
use Rattle.rbc_bits.proofs.Words.{word_fits, word_writes}
use Rattle.rbc_bits.proofs.writer.push_full.Goals as goal

pub overflow_cast-bits-2 : goal.overflow_cast-bits-2
overflow_cast-bits-2 c =
    let r = c.requires in
    let fits = word_fits c.args.held c.args.count c.args.n c.args.value r.held r.count r.width r.full r.fits in
    rw (c.from.ensures, c.from-2.ensures) (omega (arith, fits))

pub returns-clause-ok : goal.returns-clause-ok
returns-clause-ok c =
    let r = c.requires in
    rw (c.from.ensures, c.from-2.ensures)
    (word_writes c.args.bytes.now.items c.extend_from_slice.new.self.items c.args.held c.args.count c.args.n
    c.args.value r.held r.count r.width r.full r.fits
    (rw (← c.from.ensures, ← c.from-2.ensures, ← c.to_be_bytes-word.ensures) c.in_ok-extend_from_slice.ensures.items))
