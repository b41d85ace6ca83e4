use Rattle.std.proofs.Common.{◌∙◌, List, subst}
use Rattle.rbc_railway.proofs.Leading.{free_sent}
use Rattle.rbc_railway.proofs.Moves.{centres_after, happened, led_after, ok_map}
use Rattle.rbc_railway.proofs.railway.Railway.happen.Goals as goal
use Rattle.rbc_railway.proofs.Safe.{is_safe}
use Rattle.rbc_railway.specs.declared.train.RunningTrain.{RunningTrain}
use Rattle.rbc_railway.specs.History.{IsFree, obeys}
use Rattle.rbc_world.specs.Views.{event_of}
use Rattle.rbc_world.specs.World.{state_of}

pub returns-clause-safe : goal.returns-clause-safe
returns-clause-safe c = is_safe _ c.known.ensures.theorem c.known.ensures.line

pub returns-in_err-is_free-clause-safe : goal.returns-in_err-is_free-clause-safe
returns-in_err-is_free-clause-safe c = is_safe _ c.known.ensures.theorem c.known.ensures.line

pub returns-clause-moment : goal.returns-clause-moment
returns-clause-moment c =
    let r = c.args.self.now in
    let e = event_of c.args.event.now in
    let free : IsFree (obeys r.trains.items) e = subst (λ (ts : List RunningTrain). IsFree (obeys ts) e)
    c.deref.ensures.value c.in_ok-is_free.ensures.free in
    ok_map c.take.result (λ taken. record {
      taken = taken r.one_line;
      moment =
          happened r.line (state_of r.world) (state_of c.take.new.world) r.trains.items r.sent.items r.told.items
          c.take.new.told.items e (λ k before. free_sent (obeys r.trains.items) k.said e free) (taken r.one_line);
    }) c.take.ensures.taken

pub invariant_of-self : goal.invariant_of-self
invariant_of-self c =
    let r = c.args.self.now in
    let e = event_of c.args.event.now in
    let free : IsFree (obeys r.trains.items) e = subst (λ (ts : List RunningTrain). IsFree (obeys ts) e)
    c.deref.ensures.value c.in_ok-is_free.ensures.free in
    let taken = ok_map c.take.result (λ taken. taken r.one_line) c.take.ensures.taken in
    record {
      one_line = c.take.ensures.line ∙ r.one_line;
      own_names = r.own_names;
      of_centres =
          centres_after c.take.result r.line (state_of r.world) (state_of c.take.new.world) r.told.items
          c.take.new.told.items e taken c.take.ensures.told r.of_centres;
      led =
          led_after c.take.result r.line (state_of r.world) (state_of c.take.new.world) r.told.items
          c.take.new.told.items e r.trains.items r.sent.items
          (λ k before. free_sent (obeys r.trains.items) k.said e free) taken c.take.ensures.world c.take.ensures.told
          r.led;
    }
