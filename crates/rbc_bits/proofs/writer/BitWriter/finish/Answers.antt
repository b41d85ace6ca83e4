use Rattle.std.proofs.Common.{◌++◌, ◌+◌, ◌/◌, ◌∙◌, ap, arith, take}
use Rattle.rbc_bits.proofs.Words.{filled-part, filled-whole}
use Rattle.rbc_bits.proofs.writer.BitWriter.finish.Goals as goal
use Rattle.rbc_bits.proofs.writer.BitWriter.finish.Goals.{else-count-gt0, then-count-gt0+in_ok-extend_from_slice}

pub returns-clause-ok : goal.returns-clause-ok
returns-clause-ok c =
    let s = c.self.inside in
    rw (← c.self.view_is) (elim c.if-count-gt0.branch [
      | then-count-gt0+in_ok-extend_from_slice w ↦
          rw w.bytes-is (filled-part 8 s.bytes.items w.extend_from_slice.new.self.items s.held s.count
          (omega (arith, w.if-count-gt0.true)) (omega (arith, c.self.invariant.0)) c.self.invariant.1
          (w.in_ok-extend_from_slice.ensures.items
          ∙ ap (λ t. s.bytes.items ++ take ((s.count + 7) / 8) t) w.to_be_bytes-word.ensures))
      | else-count-gt0 w ↦ rw w.bytes-is (filled-whole s.bytes.items s.held s.count w.if-count-gt0.false)
    ])
