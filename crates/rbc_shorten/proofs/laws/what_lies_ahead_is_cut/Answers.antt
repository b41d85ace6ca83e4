use Rattle.rbc_shorten.proofs.laws.what_lies_ahead_is_cut.Goals as goal
use Rattle.rbc_shorten.proofs.Requests.{ahead_is_cut}

pub returns : goal.returns
returns ctx = ahead_is_cut
