use Rattle.law_reached.proofs.Known.{flow, sections_seen}
use Rattle.law_reached.proofs.laws.what_a_section_is_marked.Goals as goal

pub returns : goal.returns
returns o line w known = sections_seen line w (flow line w known) known.shows
