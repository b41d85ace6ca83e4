use Rattle.std.proofs.Common.{sym, ◌∙◌}
use Rattle.text_words.proofs.train.add_request.Goals as goal

pub returns : goal.returns
returns c = rw (sym c.is_unknown_time.ensures ∙ c.if-is_unknown_time.false) c.words-2.ensures
