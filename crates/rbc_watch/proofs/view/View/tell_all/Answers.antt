use Rattle.std.proofs.Common.{◌+◌, ◌∙◌, ap, drop, List, map, sym}
use Rattle.law_outside.specs.Outside as spec
use Rattle.rbc_spec.specs.Outcome.{Saying}
use Rattle.rbc_watch.proofs.Lists.{map_drop, map_drop_all}
use Rattle.rbc_watch.proofs.view.View.tell_all.Goals as goal
use Rattle.rbc_watch.specs.Events.{event_of, saying_of}
use Rattle.rbc_watch.specs.Seen.{view_of}

pub loop-saying-preserved : goal.loop-saying-preserved
loop-saying-preserved c =
    let line = c.args.line.now in
    let event = event_of c.args.event.now in
    let sayings = c.args.sayings.now in
    let i = c.loop-saying.saying-index in
    ap (λ (v : spec.View). spec.all_told line event (map saying_of (drop (i + 1) sayings)) v) c.in_ok-tell.ensures
    ∙ sym (ap (λ (all : List Saying). spec.all_told line event all (view_of c.loop-saying.self))
    (map_drop saying_of sayings i c.saying-item.result c.loop-saying-test.true c.saying-item.is))
    ∙ c.loop-saying.invariant

pub returns : goal.returns
returns c =
    sym (ap (λ (all : List Saying). spec.all_told c.args.line.now (event_of c.args.event.now) all
    (view_of c.loop-saying.self))
    (map_drop_all saying_of c.args.sayings.now c.loop-saying.saying-index c.loop-saying-test.false))
    ∙ c.loop-saying.invariant
