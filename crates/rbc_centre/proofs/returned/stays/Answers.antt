use Rattle.std.proofs.Common.{◌∙◌, refl, sym}
use Rattle.rbc_centre.proofs.returned.stays.Goals as goal

pub returns-then-is_empty : goal.returns-then-is_empty
returns-then-is_empty c = λ is t track d. let none = sym c.is_empty.ensures ∙ c.if-is_empty.true in rw none refl
