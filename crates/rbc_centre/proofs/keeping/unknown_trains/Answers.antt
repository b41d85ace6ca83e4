use Rattle.std.proofs.Common.{[], ◌+◌, ◌∙◌, ◌∷◌, ap, arith, length, length-append, option_map, slice_get, sym}
use Rattle.rbc_centre.proofs.Begins.{each_more}
use Rattle.rbc_centre.proofs.keeping.unknown_trains.Goals as goal
use Rattle.rbc_train.specs.Trains.{unknown_state}

pub loop-i-preserved : goal.loop-i-preserved
loop-i-preserved c =
    let states = c.loop-i.trains.items in
    record {
      each =
          each_more c.args.line.now states c.push_reserved.new.self.items c.in-Ok.train c.engine_of.result
          c.push_reserved.ensures.items
          (c.in-Ok.ensures.state ∙ ap (λ n. unknown_state n c.engine_of.result c.in-Ok.train.expectations)
          (sym c.loop-i.invariant.count)) c.in-Ok.ensures.count c.in-Ok.ensures.none
          (ap (λ n. option_map (λ q. q.nid_engine) (slice_get c.args.line.now.trains n)) c.loop-i.invariant.count
          ∙ c.engine_of.ensures) c.loop-i.invariant.each;
      room = omega (arith, c.push_reserved.ensures.capacity, c.loop-i.invariant.room);
      made = omega (arith, c.push_reserved.ensures.len, c.loop-i.invariant.made);
      count =
          ap length c.push_reserved.ensures.items ∙ length-append states (c.in-Ok.train ∷ [])
          ∙ ap (λ n. n + 1) c.loop-i.invariant.count;
      sessions = c.loop-i.invariant.sessions;
      book = c.in-Ok.ensures.book ∙ c.loop-i.invariant.book;
    }
