use Rattle.std.proofs.Common.{[], ◌+◌, ◌∙◌, ◌∷◌, ap, arith, inr, None, refl, rules}
use Rattle.rbc_centre.proofs.centre.Centre.withdraw.Goals as goal
use Rattle.rbc_centre.proofs.Kept.{trains_still}
use Rattle.rbc_centre.proofs.Turns.{stays, turns, unset_early, unset_stamp}
use Rattle.rbc_centre.proofs.Withdrawn.{may_withdraw, withdraws}
use Rattle.rbc_centre.specs.Posts.{to_others}
use Rattle.rbc_centre.specs.Sent.{frames_to}
use Rattle.rbc_centre.specs.State.{stands_for}
use Rattle.rbc_spec.specs.Frame.{RouteWithdraw}
use Rattle.rbc_spec.specs.Outcome.{Asked, Outcome}
use Rattle.rbc_spec.specs.Step.{Unset}

pub overflow_add-self : goal.overflow_add-self
overflow_add-self c = let early = unset_early c.args.self.now c.args.s c.requires.allowed in search (rules, early)

pub post-requires : goal.post-requires
post-requires c =
    let early = unset_early c.args.self.now c.args.s c.requires.allowed in
    record {
      timely = (omega arith, omega (arith, early));
      linked = c.args.self.now.rules.all_links.linked;
      may =
          may_withdraw c.args.self.now c.args.s c.args.nid_engine c.unset-asked.new.self c.requires.out
          c.unset-asked.ensures.entry c.unset-asked.ensures.wish c.requires.allowed c.requires.room.links;
      room = λ d. inr c.requires.room.frames;
    }

pub invariant_of-self : goal.invariant_of-self
invariant_of-self c =
    let k = c.args.self.now in
    record {
      rules =
          stays k (Unset c.args.s) (k.clock + 1) k.links c.post.new.links c.unset-asked.new.self k.desk k.trains.items
          (to_others k.line k.number (RouteWithdraw c.args.nid_engine c.args.s)) [] (Asked c.args.s ∷ []) None None
          (unset_stamp k c.args.s) (λ d. refl) c.post.ensures.links
          (withdraws k c.args.s c.args.nid_engine c.unset-asked.new.self c.requires.out c.unset-asked.ensures.entry
          c.unset-asked.ensures.wish)
          (frames_to c.post.new.frames) c.post.ensures.each
          k.sessions (omega arith) c.requires.allowed tt
          (may_withdraw k c.args.s c.args.nid_engine c.unset-asked.new.self c.requires.out c.unset-asked.ensures.entry
          c.unset-asked.ensures.wish c.requires.allowed c.requires.room.links) c.unset-asked.ensures.homes refl
          k.rules.all_links
          (trains_still k.line k.number k.clock (k.clock + 1) k.sessions k.trains.items (omega arith)
          k.rules.all_trains);
    }

pub returns-clause-exact : goal.returns-clause-exact
returns-clause-exact c =
    let k = c.args.self.now in
    let left = stands_for k.line k.number (k.clock + 1) c.unset-asked.new.self k.desk c.post.new.links k.trains.items in
    ap (λ (o : Outcome). (o, left)) c.write_sent.ensures
    ∙ turns k (Unset c.args.s) (k.clock + 1) k.links c.post.new.links c.unset-asked.new.self k.desk k.trains.items
    (to_others k.line k.number (RouteWithdraw c.args.nid_engine c.args.s)) [] (Asked c.args.s ∷ []) None None
    (unset_stamp k c.args.s) (λ d. refl) c.post.ensures.links
    (withdraws k c.args.s c.args.nid_engine c.unset-asked.new.self c.requires.out c.unset-asked.ensures.entry
    c.unset-asked.ensures.wish)
    (frames_to c.post.new.frames) c.post.ensures.each
