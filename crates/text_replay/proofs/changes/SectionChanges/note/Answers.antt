use Rattle.std.proofs.lemmas.Result.{on_ok_weaker}
use Rattle.text_replay.proofs.changes.SectionChanges.note.Goals as goal
use Rattle.text_replay.proofs.Kept.{kept_more}

pub returns : goal.returns
returns c = λ n views k len.
    on_ok_weaker c.note_all.result
    (kept_more n c.args.event views c.args.view.now c.args.self.now _ k len)
    c.note_all.ensures
