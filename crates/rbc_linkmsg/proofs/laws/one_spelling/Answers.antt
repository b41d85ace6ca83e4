use Rattle.std.proofs.Common.{◌∙◌, sym}
use Rattle.rbc_linkmsg.proofs.laws.one_spelling.Goals as goal

pub returns : goal.returns
returns c = λ a b f p q. p.text ∙ sym q.text
