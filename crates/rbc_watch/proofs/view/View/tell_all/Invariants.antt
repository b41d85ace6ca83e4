use Rattle.std.proofs.Common.{◌≡◌, drop, map}
use Rattle.law_outside.specs.Outside as spec
use Rattle.rbc_watch.proofs.view.View.tell_all.Given as goal
use Rattle.rbc_watch.specs.Events.{event_of, saying_of}
use Rattle.rbc_watch.specs.Seen.{view_of}

abbrev pub invariant-loop-saying : goal.invariant-loop-saying
invariant-loop-saying l =
    spec.all_told l.line (event_of l.event) (map saying_of (drop l.saying-index l.sayings)) (view_of l.self)
    ≡ spec.all_told l.line (event_of l.event) (map saying_of l.sayings) (view_of l.initial.self)
