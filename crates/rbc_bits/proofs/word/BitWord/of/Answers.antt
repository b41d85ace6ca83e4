use Rattle.rbc_bits.proofs.word.BitWord.of.Goals as goal
use Rattle.rbc_bits.proofs.Words.{moved}

pub returns : goal.returns
returns c = moved c.args.number c.args.n c.args.after c.requires.1
