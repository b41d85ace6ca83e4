use Rattle.std.proofs.Common.{[], ◌++◌, ◌<◌, ◌∙◌, ◌∷◌, ◌≡◌, ap, length, option_map, refl, rules, set, slice_get, Some}
use Rattle.std.proofs.Common.{subst, sym, ℕ}
use Rattle.std.proofs.lemmas.Option.{slice_get_read, slice_get_within}
use Rattle.law_trains.specs.Trains.{Hears}
use Rattle.rbc_railway.proofs.Moves.{centre_told, heard, led_heard, one_some}
use Rattle.rbc_railway.proofs.railway.Railway.hear.Goals as goal
use Rattle.rbc_railway.proofs.Safe.{is_safe}
use Rattle.rbc_railway.proofs.Trains.{named_at, none_named, own_names_set}
use Rattle.rbc_railway.proofs.Verdicts.{arrives, has_no_train}
use Rattle.rbc_railway.specs.History.{Leads, name_of, obeys, told_at}
use Rattle.rbc_spec.specs.Outcome.{Saying}
use Rattle.rbc_world.specs.rbc_train.Sayings.{saying_of}
use Rattle.rbc_world.specs.World.{state_of}

pub returns-in_default-clause-safe : goal.returns-in_default-clause-safe
returns-in_default-clause-safe c = is_safe _ c.known.ensures.theorem c.known.ensures.line

pub returns-in_default-index_of-clause-safe : goal.returns-in_default-index_of-clause-safe
returns-in_default-index_of-clause-safe c = is_safe _ c.known.ensures.theorem c.known.ensures.line

pub returns-clause-safe : goal.returns-clause-safe
returns-clause-safe c = is_safe _ c.known.ensures.theorem c.known.ensures.line

pub index_mut-requires : goal.index_mut-requires
index_mut-requires c =
    let found = c.in-Some-index_of.ensures.found in
    let at : slice_get c.args.self.now.trains.items c.in-Some-index_of.train ≡ Some (found.0) =
    ap (λ xs. slice_get xs c.in-Some-index_of.train) (sym c.deref.ensures.value) ∙ found.1 in
    let within : c.in-Some-index_of.train < length c.args.self.now.trains.items = slice_get_within _ _ _ at in
    search (rules, within)

pub hears-requires : goal.hears-requires
hears-requires c =
    let r = c.args.self.now in
    centre_told r.line r.told.items c.args.answer c.args.which c.in-Some.centre (saying_of c.in-Some.saying)
    r.of_centres (sym c.on_the_way.ensures ∙ ap (option_map (λ p. (p.0, saying_of (p.1)))) c.in-Some.is)

pub invariant_of-self-2 : goal.invariant_of-self-2
invariant_of-self-2 c =
    let r = c.args.self.now in
    let i = c.in-Some-index_of.train in
    let x = c.index_mut.result.now in
    let y = c.hears.new.self in
    let p = saying_of c.in-Some.saying in
    let found = c.in-Some-index_of.ensures.found in
    let first : slice_get r.trains.items i ≡ Some (found.0) =
    ap (λ xs. slice_get xs i) (sym c.deref.ensures.value) ∙ found.1 in
    let within : i < length r.trains.items = slice_get_within _ _ _ first in
    let at : slice_get r.trains.items i ≡ Some x = slice_get_read _ _ _ _ refl within c.index_mut.ensures.value in
    let there : told_at r.told.items c.args.answer c.args.which ≡ Some (c.in-Some.centre, p) =
    sym c.on_the_way.ensures ∙ ap (option_map (λ q. (q.0, saying_of (q.1)))) c.in-Some.is in
    record {
      one_line = r.one_line;
      own_names = own_names_set r.trains.items i x y at c.hears.ensures.name r.own_names within;
      of_centres = r.of_centres;
      led =
          led_heard r.line (state_of r.world) r.trains.items r.sent.items r.told.items r.own_names i x y at within
          c.hears.ensures.name c.args.answer c.args.which c.in-Some.centre p there
          (sym (found.2) ∙ ap name_of (one_some (sym first ∙ at))) c.hears.ensures.exact r.led;
    }

pub returns-clause-moment : goal.returns-clause-moment
returns-clause-moment c d q told first_train moments h =
    let r = c.args.self.now in
    let i = c.in-Some-index_of.train in
    let x = c.index_mut.result.now in
    let y = c.hears.new.self in
    let p = saying_of c.in-Some.saying in
    let found = c.in-Some-index_of.ensures.found in
    let first : slice_get r.trains.items i ≡ Some (found.0) =
    ap (λ xs. slice_get xs i) (sym c.deref.ensures.value) ∙ found.1 in
    let within : i < length r.trains.items = slice_get_within _ _ _ first in
    let at : slice_get r.trains.items i ≡ Some x = slice_get_read _ _ _ _ refl within c.index_mut.ensures.value in
    let there : told_at r.told.items c.args.answer c.args.which ≡ Some (c.in-Some.centre, p) =
    sym c.on_the_way.ensures ∙ ap (option_map (λ q. (q.0, saying_of (q.1)))) c.in-Some.is in
    subst (λ (z : ℕ × Saying). Leads r.line (state_of r.world) (set r.trains.items i y) r.sent.items r.told.items
    first_train
    (moments ++ Hears (z.1).nid_engine (z.0) (z.1).message ∷ [])) (one_some (sym there ∙ told))
    (heard r.line (state_of r.world) r.trains.items r.sent.items r.told.items r.own_names i x y at within
    c.hears.ensures.name c.args.answer c.args.which c.in-Some.centre p there
    (sym (found.2) ∙ ap name_of (one_some (sym first ∙ at))) c.hears.ensures.exact first_train moments h)

pub returns-in_default-index_of-clause-exact : goal.returns-in_default-index_of-clause-exact
returns-in_default-index_of-clause-exact c =
    let r = c.args.self.now in
    let p = saying_of c.in-Some.saying in
    let there : told_at r.told.items c.args.answer c.args.which ≡ Some (c.in-Some.centre, p) =
    sym c.on_the_way.ensures ∙ ap (option_map (λ q. (q.0, saying_of (q.1)))) c.in-Some.is in
    sym (has_no_train (obeys r.trains.items) (told_at r.told.items c.args.answer c.args.which)
    (c.in-Some.centre, p) there
    (none_named r.trains.items p.nid_engine
    (λ i x at. c.in_default-index_of.ensures.none i x (ap (λ xs. slice_get xs i) c.deref.ensures.value ∙ at))))

pub returns-clause-exact : goal.returns-clause-exact
returns-clause-exact c =
    let r = c.args.self.now in
    let p = saying_of c.in-Some.saying in
    let found = c.in-Some-index_of.ensures.found in
    let first : slice_get r.trains.items c.in-Some-index_of.train ≡ Some (found.0) =
    ap (λ xs. slice_get xs c.in-Some-index_of.train) (sym c.deref.ensures.value) ∙ found.1 in
    let there : told_at r.told.items c.args.answer c.args.which ≡ Some (c.in-Some.centre, p) =
    sym c.on_the_way.ensures ∙ ap (option_map (λ q. (q.0, saying_of (q.1)))) c.in-Some.is in
    sym (arrives (obeys r.trains.items) (told_at r.told.items c.args.answer c.args.which) (c.in-Some.centre, p) there
    (ap (obeys r.trains.items) (sym (found.2))
    ∙ named_at r.trains.items c.in-Some-index_of.train (found.0) first))
