use Rattle.law_logs.proofs.beginnings.laws.beginnings_are_logs.Goals as goal
use Rattle.law_logs.proofs.BeginningsLemmas.Written.{cut_logs}
use Rattle.law_logs.proofs.Merged.{family}
use Rattle.law_logs.specs.Beginnings.Beginnings.{cut}

pub returns : goal.returns
returns c = λ line logs ends count h.
    let beginnings = cut_logs line logs ends count h in (
      beginnings.0,
      beginnings.1,
      λ legal merged is. family line (cut count logs) beginnings.0
          beginnings.1 legal merged is,
    )
