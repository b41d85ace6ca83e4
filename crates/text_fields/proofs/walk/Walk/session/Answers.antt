use Rattle.std.proofs.Common.{refl}
use Rattle.std.proofs.lemmas.Result.{IfOk-weaker}
use Rattle.text_fields.specs.Messages.{end_of_session_content}
use Rattle.text_fields.proofs.walk.Walk.session.Goals as goal

pub returns-clause-shows : goal.returns-clause-shows
returns-clause-shows c =
    IfOk-weaker c.rows.result _ _ (λ there h s r. h (end_of_session_content s r) (
      refl,
      refl,
      (refl, refl, (refl, refl, (refl, refl, (refl, refl, tt)))),
    )) c.rows.ensures.shows
