use Rattle.std.proofs.Common.{◌∙◌, ap}
use Rattle.std.proofs.lemmas.Result.{IfErr-weaker, IfOk-weaker}
use Rattle.rbc_centre.specs.States.{number_of}
use Rattle.rbc_log.specs.Log.{LogValue}
use Rattle.rbc_node.proofs.node.Node.commit.Goals as goal

-- the log under the lock is the one to which the share committed
pub returns-clause-commits : goal.returns-clause-commits
returns-clause-commits g c =
    IfOk-weaker c.commit-answer.result _ _
    (λ o h. (
      c.deref_mut.result.now,
      c.commit-answer.new.log,
      record {
        replays = c.commit-answer.ensures.replayed;
        centre = ap (λ (l : LogValue). number_of l.core) c.deref_mut.ensures.value ∙ c.locked-log.ensures;
      },
      h,
    )) c.commit-answer.ensures.commits

pub returns-clause-refused : goal.returns-clause-refused
returns-clause-refused g c =
    IfErr-weaker c.commit-answer.result _ _
    (λ fault h. (
      c.deref_mut.result.now,
      record {
        replays = c.commit-answer.ensures.replayed;
        centre = ap (λ (l : LogValue). number_of l.core) c.deref_mut.ensures.value ∙ c.locked-log.ensures;
      },
      h,
    )) c.commit-answer.ensures.refused
