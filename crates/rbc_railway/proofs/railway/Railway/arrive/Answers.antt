use Rattle.std.proofs.Common.{◌<◌, ◌∙◌, ◌≡◌, length, refl, rules, slice_get, Some, subst, sym}
use Rattle.std.proofs.lemmas.Option.{slice_get_read}
use Rattle.rbc_railway.proofs.Moves.{centres_after, happened, led_after, ok_map, one_some}
use Rattle.rbc_railway.proofs.railway.Railway.arrive.Goals as goal
use Rattle.rbc_railway.proofs.Safe.{is_safe}
use Rattle.rbc_railway.specs.History.{IsTaken}
use Rattle.rbc_world.specs.Views.{event_of}
use Rattle.rbc_world.specs.World.{state_of}

pub returns-clause-safe : goal.returns-clause-safe
returns-clause-safe c = is_safe _ c.known.ensures.theorem c.known.ensures.line

pub returns-then-message-len-clause-safe : goal.returns-then-message-len-clause-safe
returns-then-message-len-clause-safe c = is_safe _ c.known.ensures.theorem c.known.ensures.line

pub returns-clause-moment : goal.returns-clause-moment
returns-clause-moment c =
    let r = c.args.self.now in
    let within : c.args.message < length r.sent.items = search rules in
    let at : slice_get r.sent.items c.args.message ≡ Some c.index.result.now =
    slice_get_read _ _ _ _ refl within c.index.ensures in
    ok_map c.take.result (λ taken e found. let here = subst (λ sent. IsTaken r.line (state_of r.world)
    (state_of c.take.new.world) r.told.items c.take.new.told.items (event_of sent)) (one_some (sym at ∙ found))
    (taken r.one_line) in record {
      taken = here;
      moment =
          happened r.line (state_of r.world) (state_of c.take.new.world) r.trains.items r.sent.items r.told.items
          c.take.new.told.items (event_of e) (λ k before. before c.args.message e found) here;
    }) c.take.ensures.taken

pub invariant_of-self-2 : goal.invariant_of-self-2
invariant_of-self-2 c =
    let r = c.args.self.now in
    let within : c.args.message < length r.sent.items = search rules in
    let at : slice_get r.sent.items c.args.message ≡ Some c.index.result.now =
    slice_get_read _ _ _ _ refl within c.index.ensures in
    let e = event_of c.index.result.now in
    let taken = ok_map c.take.result (λ taken. taken r.one_line) c.take.ensures.taken in
    record {
      one_line = c.take.ensures.line ∙ r.one_line;
      own_names = r.own_names;
      of_centres =
          centres_after c.take.result r.line (state_of r.world) (state_of c.take.new.world) r.told.items
          c.take.new.told.items e taken c.take.ensures.told r.of_centres;
      led =
          led_after c.take.result r.line (state_of r.world) (state_of c.take.new.world) r.told.items
          c.take.new.told.items e r.trains.items r.sent.items
          (λ k before. before c.args.message c.index.result.now at) taken c.take.ensures.world c.take.ensures.told
          r.led;
    }
