use Rattle.std.proofs.Common.{◌≡◌}
use Rattle.rbc_watch.proofs.Verdicts.{IsWatched}
use Rattle.rbc_watch.proofs.watch.watch_all.Given as goal

abbrev pub invariant-loop-exchange : goal.invariant-loop-exchange
invariant-loop-exchange l = IsWatched l.line l.exchanges l.watch l.exchange-index × (l.before ≡ l.exchange-index)
