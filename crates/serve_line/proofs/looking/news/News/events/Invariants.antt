use Rattle.std.proofs.Common.{◌≡◌, map, take}
use Rattle.std.specs.Prelude.{string_bytes}
use Rattle.serve_line.proofs.looking.news.News.events.Given as goal

abbrev pub invariant-loop-told : goal.invariant-loop-told
invariant-loop-told l =
    map (λ e. string_bytes e.words) l.last.items ≡ map (λ t. string_bytes t.words) (take l.told-index l.self.told.items)
