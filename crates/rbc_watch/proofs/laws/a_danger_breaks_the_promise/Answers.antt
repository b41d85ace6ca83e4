use Rattle.rbc_watch.proofs.Dangers.{unsafe}
use Rattle.rbc_watch.proofs.laws.a_danger_breaks_the_promise.Goals as goal

pub returns : goal.returns
returns c = unsafe
