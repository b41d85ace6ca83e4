use Rattle.law_logs.proofs.laws.the_family_theorem.Goals as goal
use Rattle.law_logs.proofs.Merged.{family}

pub returns : goal.returns
returns ctx line logs ends merged are legal is = family line logs ends are legal merged is
