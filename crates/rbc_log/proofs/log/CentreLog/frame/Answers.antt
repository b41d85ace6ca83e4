use Rattle.std.proofs.Common.{◌∙◌, ◌≡◌, ap, List, map, subst}
use Rattle.law_logs.specs.Logs.{sent_to}
use Rattle.rbc_centre.specs.Views.{frame_number}
use Rattle.rbc_log.proofs.log.CentreLog.frame.Goals as goal
use Rattle.rbc_log.proofs.Sent.{sent_is}
use Rattle.rbc_log.specs.Entries.{entry_of}
use Rattle.rbc_log.specs.Log.{LogValue}
use Rattle.rbc_spec.specs.Frame.{Frame}

pub returns-clause-value : goal.returns-clause-value
returns-clause-value c =
    subst (λ (l : LogValue). c.frame.result ≡ frame_number (sent_to c.args.to (map entry_of l.entries)) c.args.number)
    c.self.view_is
    (c.frame.ensures ∙ ap (λ (frames : List Frame). frame_number frames c.args.number)
    (sent_is (record { core = c.self.inside.core; entries = c.self.inside.entries.items })
    c.self.invariant.0 c.args.to))
