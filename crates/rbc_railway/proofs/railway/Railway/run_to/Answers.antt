use Rattle.std.proofs.Common.{◌<◌, ◌∙◌, ◌≡◌, ap, length, refl, rules, set, slice_get, Some, sym}
use Rattle.std.proofs.lemmas.Int.{to_z-of_z}
use Rattle.std.proofs.lemmas.Option.{slice_get_read}
use Rattle.rbc_railway.proofs.Moves.{led_ran, ok_map, one_some, ran}
use Rattle.rbc_railway.proofs.railway.Railway.run_to.Goals as goal
use Rattle.rbc_railway.proofs.Safe.{is_safe}
use Rattle.rbc_railway.proofs.Trains.{own_names_set}
use Rattle.rbc_railway.specs.History.{ran_to, train_at}
use Rattle.rbc_railway.specs.Verdicts.{run_verdict}
use Rattle.rbc_world.specs.World.{state_of}

pub returns-then-train-len-clause-safe : goal.returns-then-train-len-clause-safe
returns-then-train-len-clause-safe c = is_safe _ c.known.ensures.theorem c.known.ensures.line

pub returns-clause-safe : goal.returns-clause-safe
returns-clause-safe c = is_safe _ c.known.ensures.theorem c.known.ensures.line

pub invariant_of-self : goal.invariant_of-self
invariant_of-self c =
    let r = c.args.self.now in
    let within : c.args.train < length r.trains.items = search rules in
    let x = c.index_mut.result.now in
    let y = c.run_to.new.self in
    let at : slice_get r.trains.items c.args.train ≡ Some x =
    slice_get_read _ _ _ _ refl within c.index_mut.ensures.value in
    record {
      one_line = r.one_line;
      own_names = own_names_set r.trains.items c.args.train x y at c.run_to.ensures.name r.own_names within;
      led =
          led_ran r.line (state_of r.world) r.trains.items r.sent.items r.told.items r.own_names c.args.train x y at
          within c.run_to.ensures.name c.run_to.result c.args.front _ c.run_to.ensures.may c.run_to.ensures.ok
          c.run_to.ensures.err r.led;
      of_centres = r.of_centres;
    }

pub returns-clause-moment : goal.returns-clause-moment
returns-clause-moment c =
    let r = c.args.self.now in
    let within : c.args.train < length r.trains.items = search rules in
    let x = c.index_mut.result.now in
    let at : slice_get r.trains.items c.args.train ≡ Some x =
    slice_get_read _ _ _ _ refl within c.index_mut.ensures.value in
    ran r.line (state_of r.world) r.trains.items r.sent.items r.told.items r.own_names c.args.train x
    c.run_to.new.self at within c.run_to.ensures.name c.run_to.result c.args.front _ c.args.rear
    (to_z-of_z _ _ c.ranges.rear) c.run_to.ensures.may c.run_to.ensures.ok

pub returns-clause-exact : goal.returns-clause-exact
returns-clause-exact c z found =
    let r = c.args.self.now in
    let within : c.args.train < length r.trains.items = search rules in
    let at : slice_get r.trains.items c.args.train ≡ Some c.index_mut.result.now =
    slice_get_read _ _ _ _ refl within c.index_mut.ensures.value in
    c.run_to.ensures.exact
    ∙ (λ n. run_verdict c.args.front (to_z-of_z _ _ c.ranges.rear n) (train_at (one_some (sym at ∙ found) n)))

pub returns-clause-ok : goal.returns-clause-ok
returns-clause-ok c =
    let r = c.args.self.now in
    let within : c.args.train < length r.trains.items = search rules in
    let at : slice_get r.trains.items c.args.train ≡ Some c.index_mut.result.now =
    slice_get_read _ _ _ _ refl within c.index_mut.ensures.value in
    ok_map c.run_to.result (λ so z found. ap (set r.trains.items c.args.train)
    (so ∙ (λ n. ran_to c.args.front (to_z-of_z _ _ c.ranges.rear n) (one_some (sym at ∙ found) n)))) c.run_to.ensures.ok
