use Rattle.std.proofs.Common.{◌∙◌, ap}
use Rattle.rbc_place.specs.Places.{place_of}
use Rattle.rbc_watch.proofs.Fronts.{front_end_more, front_end_none}
use Rattle.rbc_watch.proofs.stretch.front_end.Goals as goal
use Rattle.rbc_watch.specs.Stretches.{front_end_with}

pub loop-s-init : goal.loop-s-init
loop-s-init c = front_end_none c.args.line.now (place_of c.args.place)

pub loop-s-preserved : goal.loop-s-preserved
loop-s-preserved c =
    let line = c.args.line.now in
    let place = place_of c.args.place in
    c.farther-end.ensures ∙ ap (front_end_with line place c.loop-s.s) c.loop-s.invariant
    ∙ front_end_more line place c.loop-s.s
