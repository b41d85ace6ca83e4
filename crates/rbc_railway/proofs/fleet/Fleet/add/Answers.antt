use Rattle.std.proofs.Common.{[], ◌++◌, ◌∙◌, ◌∷◌, ◌≡◌, ap, int_lt, List, pos, rules, slice_get, Some, subst, sym}
use Rattle.std.proofs.Common.{true, ℕ}
use Rattle.std.proofs.lemmas.Int.{to_z-of_z}
use Rattle.law_trains.specs.Trains.{IsNew}
use Rattle.rbc_railway.proofs.fleet.Fleet.add.Goals as goal
use Rattle.rbc_railway.proofs.Trains.{at_end, none_found, own_names_more}
use Rattle.rbc_railway.specs.declared.train.RunningTrain.{RunningTrain}
use Rattle.rbc_railway.specs.History.{AreNew, HaveOwnNames, name_of, train_at}

pub invariant_of-self : goal.invariant_of-self
invariant_of-self c = record {
  own_names = subst HaveOwnNames (sym c.reserve.ensures.items) c.args.self.now.own_names;
  are_new = subst AreNew (sym c.reserve.ensures.items) c.args.self.now.are_new;
}

pub invariant_of-self-2 : goal.invariant_of-self-2
invariant_of-self-2 c =
    let old = c.args.self.now in
    let y : RunningTrain = record { unit = c.new.result; ends = c.args.ends } in
    let more : c.push_reserved.new.self.items ≡ old.trains.items ++ y ∷ [] =
    c.push_reserved.ensures.items ∙ ap (λ (xs : List RunningTrain). xs ++ y ∷ []) c.reserve.ensures.items in
    let long : int_lt c.args.ends.rear (pos c.args.ends.front) ≡ true = search (rules, to_z-of_z) in
    let none = subst (λ (xs : List RunningTrain). (i : ℕ) (x : RunningTrain) → slice_get xs i ≡ Some x
    → name_of x ≡ c.args.nid_engine → ⊥) c.deref.ensures.value
    (none_found c.index_of.result (sym c.is_some.ensures ∙ c.if-is_some.false) c.index_of.ensures.none) in
    record {
      own_names =
          subst HaveOwnNames (sym more) (own_names_more old.trains.items y old.own_names
          (λ i x at named. none i x at (named ∙ c.new.ensures.name)));
      are_new =
          subst AreNew (sym more) (at_end (λ x. IsNew (train_at x)) old.trains.items y
          (c.new.ensures.new c.args.ends long) old.are_new);
    }
