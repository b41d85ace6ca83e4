use Rattle.std.proofs.Common.{refl}
use Rattle.std.proofs.lemmas.Result.{IfOk-weaker}
use Rattle.text_fields.specs.Messages.{running_shown}
use Rattle.text_fields.proofs.walk.Walk.running.Goals as goal

pub returns-clause-shows : goal.returns-clause-shows
returns-clause-shows c =
    IfOk-weaker c.rows.result _ _ (λ there h p. h (running_shown p) (
      refl,
      refl,
      (refl, refl, (refl, refl, tt)),
    )) c.rows.ensures.shows
