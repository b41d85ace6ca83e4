use Rattle.std.proofs.Common.{◌∙◌, ap}
use Rattle.law_promises.proofs.laws.a_section_that_left_was_freed.Goals as goal
use Rattle.law_promises.proofs.Promised.{freed_within}
use Rattle.rbc_spec.proofs.Lists.{itself}
use Rattle.rbc_spec.specs.LineCentre.{is_given_to}

pub returns : goal.returns
returns ctx line past events earlier answers w last t s ok before is given not_given =
    freed_within line ok t s events w past earlier before answers last is
    (ap (is_given_to t) given ∙ itself t) not_given
