use Rattle.std.proofs.Common.{sym, ◌∙◌}
use Rattle.text_words.proofs.track.add_time_of_data.Goals as goal

pub returns : goal.returns
returns c = rw (sym c.is_unknown_time.ensures ∙ c.if-is_unknown_time.false) c.add.ensures
