use Rattle.std.proofs.Common.{rules, slice_get}
use Rattle.serve_line.proofs.Ranges.{map_next}
use Rattle.serve_line.proofs.state.build.SinkParts.sinks.Goals as goal
use Rattle.serve_line.specs.Building.{journal_in}
use Rattle.text_script.specs.Print.Rows.{name_at}

pub loop-centre-preserved : goal.loop-centre-preserved
loop-centre-preserved c =
    let parts = c.args.self.now in
    let n = c.loop-centre.centre in
    let sink = c.in_ok-sink.sink in
    let put = c.in_ok-push.ensures.items in
    record {
      long = search rules;
      centres = map_next (λ sink. sink.centre) (λ c. c) n _ _ sink put c.in_ok-sink.ensures.centre
          c.loop-centre.invariant.centres;
      journals = map_next journal_in (slice_get parts.journals.now) n _ _ sink put c.in_ok-sink.ensures.journal
          c.loop-centre.invariant.journals;
      names = map_next (λ sink. sink.name.now) (name_at parts.line.now) n _ _ sink put c.in_ok-sink.ensures.name
          c.loop-centre.invariant.names;
    }
