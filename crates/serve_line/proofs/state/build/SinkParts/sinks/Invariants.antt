use Rattle.std.proofs.Common.{◌≡◌, length, map, slice_get}
use Rattle.std.specs.List.{range_with_len}
use Rattle.serve_line.proofs.state.build.SinkParts.sinks.Given as goal
use Rattle.serve_line.specs.Building.{journal_in}
use Rattle.text_script.specs.Print.Rows.{name_at}

abbrev pub invariant-loop-centre : goal.invariant-loop-centre
invariant-loop-centre l = record {
  long : length l.sinks.items ≡ l.centre;
  centres : map (λ sink. sink.centre) l.sinks.items ≡ map (λ c. c) (range_with_len 0 l.centre);
  journals : map journal_in l.sinks.items ≡ map (slice_get l.self.journals.now) (range_with_len 0 l.centre);
  names : map (λ sink. sink.name.now) l.sinks.items ≡ map (name_at l.self.line.now) (range_with_len 0 l.centre);
}
