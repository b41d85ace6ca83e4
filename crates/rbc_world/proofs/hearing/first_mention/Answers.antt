use Rattle.std.proofs.Common.{◌==◌, ◌∙◌, ◌≡◌, ◌≤◌, ap, false, length, rules, Some, subst, sym, true, ℕ}
use Rattle.std.specs.List.{list_any}
use Rattle.rbc_spec.specs.Line.{train_number}
use Rattle.rbc_world.proofs.hearing.first_mention.Goals as goal
use Rattle.rbc_world.proofs.Mentions.{all_named, first_names, listed_mention}

pub returns-then-len-train_count-clause-exact : goal.returns-then-len-train_count-clause-exact
returns-then-len-train_count-clause-exact c =
    let all : length c.args.line.now.trains ≤ length c.args.trains.now.keys = search rules in
    all_named c.args.line.now c.args.event.now c.args.trains.now.keys c.len.ensures.unique c.requires all

pub returns-then-contains-clause-exact : goal.returns-then-contains-clause-exact
returns-then-contains-clause-exact c =
    let keys = c.args.trains.now.keys in
    let listed : list_any (λ u. c.nid_engine-nid_engine.result == u) keys ≡ true =
    sym c.contains.ensures ∙ c.if-contains.true in
    rw c.in-Train.is (sym (listed_mention c.args.line.now c.in-Train.message.nid_engine keys
    (subst (λ (n : ℕ). list_any (λ u. n == u) keys ≡ true) c.nid_engine-nid_engine.ensures.value listed)))

pub returns-clause-some : goal.returns-clause-some
returns-clause-some c =
    let keys = c.args.trains.now.keys in
    let new : list_any (λ u. c.nid_engine-nid_engine.result == u) keys ≡ false =
    sym c.contains.ensures ∙ c.if-contains.false in
    let at : train_number c.args.line.now c.in-Train.message.nid_engine ≡ Some c.in_ok-train_number.field-0 =
    sym (c.train_number.ensures.value ∙ ap (train_number c.args.line.now) c.nid_engine-nid_engine.ensures.value)
    ∙ c.in_ok-train_number.was in
    rw c.in-Train.is (first_names c.args.line.now c.in-Train.message.nid_engine c.in_ok-train_number.field-0 keys at
    (subst (λ (n : ℕ). list_any (λ u. n == u) keys ≡ false) c.nid_engine-nid_engine.ensures.value new))
