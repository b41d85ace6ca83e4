use Rattle.std.proofs.Common.{◌∙◌, ap}
use Rattle.rbc_centre.specs.States.{number_of}
use Rattle.rbc_log.specs.Log.{LogValue}
use Rattle.rbc_node.proofs.node.Node.frame.Goals as goal

-- the log under the lock is the one whose frame is shown
pub returns : goal.returns
returns g c = (
  c.deref.result.now,
  record {
    replays = c.frame.ensures.replays;
    centre = ap (λ (l : LogValue). number_of l.core) c.deref.ensures ∙ c.locked-log.ensures;
  },
  c.frame.ensures.value,
)
