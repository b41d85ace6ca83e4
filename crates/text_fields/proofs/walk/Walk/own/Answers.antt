use Rattle.std.proofs.Common.{sym, subst, true, List}
use Rattle.std.proofs.lemmas.Result.{IfOk-weaker}
use Rattle.text_fields.specs.Named.{Named}
use Rattle.text_fields.specs.Walks.{IsOwn, Takes}
use Rattle.text_fields.proofs.Steps.{none}
use Rattle.text_fields.proofs.walk.Walk.own.Goals as goal

pub returns-in-None-clause-shows : goal.returns-in-None-clause-shows
returns-in-None-clause-shows c = λ fields is.
    let e = subst (λ own. IsOwn own fields) c.in-None.is is in
    subst (λ (list : List Named). Takes list c.args.self.now.look c.args.self.now.end c.args.self.now.look
    c.args.self.now.end true)
    (sym e) (none c.args.self.now.look c.args.self.now.end)

pub returns-in-Version-clause-shows : goal.returns-in-Version-clause-shows
returns-in-Version-clause-shows c =
    IfOk-weaker c.take-in-Version.result _ _ (λ there h fields is.
    let e = subst (λ own. IsOwn own fields) c.in-Version.is is in
    subst (λ (list : List Named). Takes list c.args.self.now.look c.args.self.now.end c.take-in-Version.new.self.look
    c.take-in-Version.new.self.end there)
    (sym e.1) (h e.0)) c.take-in-Version.ensures.shows
