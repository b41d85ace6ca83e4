use Rattle.std.proofs.Common.{◌∙◌, ap, length, sym}
use Rattle.rbc_bits.proofs.word.BitWord.remaining.Goals as goal
use Rattle.rbc_bits.proofs.Words.{length-front}

pub returns : goal.returns
returns c = sym (length-front c.self.inside.word c.self.inside.left c.self.invariant) ∙ ap length c.self.view_is
