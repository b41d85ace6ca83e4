use Rattle.std.proofs.Common.{◌+◌, ◌∙◌, ap, drop, List, map, subst, sym}
use Rattle.std.proofs.lemmas.Result.{err_from_is_err_and}
use Rattle.law_reached.proofs.Known.{at_end, goes_on, Reaches}
use Rattle.rbc_spec.specs.Line.{Line}
use Rattle.rbc_spec.specs.World.{Answer, Event, world_step}
use Rattle.rbc_world.proofs.Loop.{map_drop, map_drop_all, map_push, starts, stops}
use Rattle.rbc_world.proofs.world.World.outputs.Goals as goal
use Rattle.rbc_world.specs.Answers.{IsRefusal}
use Rattle.rbc_world.specs.Views.{answer_of, event_of}
use Rattle.rbc_world.specs.World.{state_of}

pub returns-in_err-step : goal.returns-in_err-step
returns-in_err-step c =
    let p = err_from_is_err_and c.from_residual-in_err-step.result c.from_residual-in_err-step.ensures.1 in
    let line = c.args.line.now in
    let events = c.args.events.now in
    let item = c.event-item.result in
    let rest = map event_of (drop (c.loop-event.event-index + 1) events) in
    let so_far =
    subst (λ (left : List Event). Reaches line (map event_of events) left (map answer_of c.loop-event.answers.items)
    (state_of c.loop-event.world))
    (map_drop event_of events c.loop-event.event-index item c.loop-event-test.true c.event-item.is)
    c.loop-event.invariant.reaches
    in
    let refused =
    subst (λ (l : Line). IsRefusal c.in_err-step.field-0.0 (world_step l (state_of c.loop-event.world) (event_of item)))
    c.loop-event.invariant.line c.in_err-step.ensures.exact in
    rw (p.1, p.2) (stops line (map event_of events) rest _ _ (event_of item) c.in_err-step.field-0.0 so_far refused)

pub loop-event-init : goal.loop-event-init
loop-event-init c = record {
  line = c.in_ok-world.ensures.line;
  reaches =
      starts c.args.line.now (map event_of c.args.events.now) _ _ (ap (map answer_of) c.in_ok-answers.ensures.items)
      c.in_ok-world.ensures.beginning;
}

pub loop-event-preserved : goal.loop-event-preserved
loop-event-preserved c =
    let line = c.args.line.now in
    let events = c.args.events.now in
    let item = c.event-item.result in
    let rest = map event_of (drop (c.loop-event.event-index + 1) events) in
    let so_far =
    subst (λ (left : List Event). Reaches line (map event_of events) left (map answer_of c.loop-event.answers.items)
    (state_of c.loop-event.world))
    (map_drop event_of events c.loop-event.event-index item c.loop-event-test.true c.event-item.is)
    c.loop-event.invariant.reaches
    in
    let done = ap (λ (l : Line). world_step l (state_of c.loop-event.world) (event_of item))
    (sym c.loop-event.invariant.line) ∙ c.in_ok-step.ensures.exact in
    let more = goes_on line (map event_of events) rest (map answer_of c.loop-event.answers.items)
    (state_of c.loop-event.world) (event_of item) (answer_of c.in_ok-step.field-0) (state_of c.step.new.self)
    so_far done in
    let answers =
    sym (ap (map answer_of) c.in_ok-push.ensures.items
    ∙ map_push answer_of c.loop-event.answers.items c.in_ok-step.field-0) in
    record {
      line = c.in_ok-step.ensures.line ∙ c.loop-event.invariant.line;
      reaches =
          subst (λ (all : List Answer). Reaches line (map event_of events) rest all (state_of c.step.new.self))
          answers more;
    }

pub returns : goal.returns
returns c =
    at_end c.args.line.now _ _ _
    (subst (λ (left : List Event). Reaches c.args.line.now (map event_of c.args.events.now) left
    (map answer_of c.loop-event.answers.items) (state_of c.loop-event.world))
    (map_drop_all event_of c.args.events.now c.loop-event.event-index c.loop-event-test.false)
    c.loop-event.invariant.reaches)
