use Rattle.std.proofs.Common.{◌+◌, ◌∙◌, ◌≡◌, arith, false, nat_lt, refl, sym, true}
use Rattle.std.proofs.lemmas.Bool.Decides.{nat_tests}
use Rattle.rbc_centre.proofs.centre.Centre.may_take.Goals as goal
use Rattle.rbc_centre.proofs.centre.Centre.may_take.Goals.{After-is_full}
use Rattle.rbc_centre.specs.State.{stands_for}
use Rattle.rbc_centre.specs.States.{state_of}
use Rattle.rbc_link.proofs.Posted.{is_full_link}
use Rattle.rbc_linkmsg.specs.Bodies.{body_of}
use Rattle.rbc_spec.specs.Frame.{last_stamp}
use Rattle.rbc_spec.specs.Step.{has_full_link}

full : (c : After-is_full)
    → c.is_full.result ≡ has_full_link c.args.self.now.line c.args.self.now.number (state_of c.args.self.now)
unfolding stands_for
full c =
    let k = c.args.self.now in
    c.is_full.ensures ∙ is_full_link body_of k.line k.number (state_of k) k.links k.rules.all_links.count
    k.rules.all_links.linked (λ d. refl)

pub returns-then-stamp-ge-LAST_STAMP-clause-err : goal.returns-then-stamp-ge-LAST_STAMP-clause-err
returns-then-stamp-ge-LAST_STAMP-clause-err c event is =
    let late : nat_lt last_stamp (c.args.stamp + 1) ≡ true = grind (arith, nat_tests) in
    rw (is, late) refl

pub returns-then-is_full-clause-err : goal.returns-then-is_full-clause-err
returns-then-is_full-clause-err c event is =
    let k = c.args.self.now in
    let in_time : nat_lt last_stamp (c.args.stamp + 1) ≡ false = grind (arith, nat_tests) in
    let none_left : has_full_link k.line k.number (state_of k) ≡ true =
    sym (full (goal.at.returns-then-is_full-clause-err c).After-is_full) ∙ c.if-is_full.true in
    rw (is, in_time, none_left) refl

pub returns-clause-ok : goal.returns-clause-ok
returns-clause-ok c event is =
    let k = c.args.self.now in
    let in_time : nat_lt last_stamp (c.args.stamp + 1) ≡ false = grind (arith, nat_tests) in
    let some_left : has_full_link k.line k.number (state_of k) ≡ false =
    sym (full (goal.at.returns-clause-ok c).After-is_full) ∙ c.if-is_full.false in
    rw (is, in_time, some_left) refl
