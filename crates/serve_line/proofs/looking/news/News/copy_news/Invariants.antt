use Rattle.std.proofs.Common.{◌≡◌}
use Rattle.serve_line.proofs.looking.news.News.copy_news.Given as goal
use Rattle.serve_line.specs.Lists.{Continues}

abbrev pub invariant-loop-i : goal.invariant-loop-i
invariant-loop-i l = record {
  looked : l.self.looked.items ≡ l.initial.self.looked.items;
  fresh : Continues l.initial.self.fresh.items l.self.fresh.items;
}
