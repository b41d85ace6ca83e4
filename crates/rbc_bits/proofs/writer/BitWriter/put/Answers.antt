use Rattle.std.proofs.Common.{arith}
use Rattle.rbc_bits.proofs.Words.{held_back, joined_fits}
use Rattle.rbc_bits.proofs.writer.BitWriter.put.Goals as goal

pub invariant_of-self : goal.invariant_of-self
invariant_of-self c =
    let s = c.self.inside in (
      c.if-count-lt64.true,
      joined_fits 64 s.held s.count c.args.n c.args.value c.self.invariant.1
          (omega (arith, c.if-count-lt64.true)) c.requires.fits,
    )

pub returns-then-count-lt64-clause-ok : goal.returns-then-count-lt64-clause-ok
returns-then-count-lt64-clause-ok c =
    let s = c.self.inside in
    rw (← c.self.view_is) (held_back s.bytes.items s.held s.count c.args.n c.args.value c.self.invariant.1
    c.if-count-lt64.true c.requires.fits)
