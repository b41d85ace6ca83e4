use Rattle.std.proofs.Common.{[], ◌<◌, ◌∙◌, ◌≡◌, ◌≤◌, ap, arith, false, inl, inr, length, min, nat_lt, refl, ℕ, ⊎_elim}
use Rattle.std.proofs.lemmas.Bool.{cases_lt}
use Rattle.std.proofs.lemmas.Bool.Decides.{nat_tests}
use Rattle.rbc_centre.proofs.posted.Dispatch.post_all.Goals as goal
use Rattle.rbc_centre.proofs.posted.Dispatch.post_all.Goals.{After-min-end}
use Rattle.rbc_centre.proofs.Posts.{all_below, below, mail_few, may_after, none_below, none_past, one_more}
use Rattle.rbc_centre.proofs.Rows.{lesser_of}
use Rattle.rbc_centre.proofs.SentFrames.{sent_as}
use Rattle.rbc_centre.specs.Dispatches.{bodies_to}
use Rattle.rbc_centre.specs.Sent.{frames_to}
use Rattle.rbc_handover.specs.Expectations.{expected_from}
use Rattle.rbc_link.proofs.Posted.{length_numbered}
use Rattle.rbc_link.specs.Links.{sent_to}
use Rattle.rbc_spec.specs.Step.{numbered}

-- ## Those that are not reached

-- a centre below the first that is reached is sent nothing
none_first : (c : After-min-end) (d : ℕ) → d < c.of-reach.result.first → bodies_to c.args.self.now d ≡ []
none_first c d low =
    let mail = bodies_to c.args.self.now in
    ⊎_elim
    (λ (of_line : d < length c.args.self.now.line.now.centres). let few =
    c.centre_count.ensures.line.limits.centres.1 in c.of-reach.ensures d (omega (arith, of_line, few)) (inl low))
    (λ (past : length c.args.self.now.line.now.centres ≤ d).
    none_past c.args.self.now.line.now c.args.self.now.centre mail c.args.links.now c.requires.linked
    c.requires.may d past)
    (cases_lt d (length c.args.self.now.line.now.centres))

end_of : (c : After-min-end) → c.min-end.result ≡ min c.saturating_add.result c.centre_count.result
end_of c = c.min-end.ensures ∙ lesser_of c.saturating_add.result c.centre_count.result

-- nor is one from the end on
none_last : (c : After-min-end) (d : ℕ) → c.min-end.result ≤ d → bodies_to c.args.self.now d ≡ []
none_last c d high =
    let mail = bodies_to c.args.self.now in
    ⊎_elim
    (λ (of_line : d < length c.args.self.now.line.now.centres). let few =
    c.centre_count.ensures.line.limits.centres.1 in let centres = c.centre_count.ensures.value in
    c.of-reach.ensures d (omega (arith, of_line, few))
    (inr (omega (arith, high, of_line, few, centres, end_of c, c.saturating_add.ensures))))
    (λ (past : length c.args.self.now.line.now.centres ≤ d).
    none_past c.args.self.now.line.now c.args.self.now.centre mail c.args.links.now c.requires.linked
    c.requires.may d past)
    (cases_lt d (length c.args.self.now.line.now.centres))

-- ## One centre after another

pub loop-to-init : goal.loop-to-init
loop-to-init c =
    let w = (goal.at.loop-to-init c).After-min-end in
    record {
      sent =
          rw c.swap-list.ensures.items
          (none_below c.args.self.now.stamp (bodies_to c.args.self.now) c.of-reach.result.first c.args.links.now []
          (none_first w));
      count = let none = ap length c.swap-list.ensures.items in omega (arith, none);
      most = let none = ap length c.swap-list.ensures.items in omega (arith, none);
      room = λ has. c.swap-list.ensures.room has;
    }

pub post_to-requires-clause-may : goal.post_to-requires-clause-may
post_to-requires-clause-may c =
    let mail = bodies_to c.args.self.now in
    let to = c.loop-to.to in
    let none : nat_lt to to ≡ false = grind (arith, nat_tests) in
    may_after c.args.self.now.stamp (below mail to) c.args.links.now c.loop-to.links to [] (mail to)
    c.loop-to.invariant.sent.posted (rw none refl) (c.requires.may to)

pub post_to-requires-clause-room : goal.post_to-requires-clause-room
post_to-requires-clause-room c =
    let end = end_of (goal.at.post_to-requires-clause-room c).After-min-end in
    let few = c.centre_count.ensures.line.limits.centres.1 in
    let centres = c.centre_count.ensures.value in
    ⊎_elim (λ none. inl none)
    (λ has. let most = c.loop-to.invariant.room has in let count = c.loop-to.invariant.count in
    inr (omega (arith, most, count, few, centres, c.loop-to-test.true, end)))
    (c.requires.room c.loop-to.to)

pub loop-to-preserved : goal.loop-to-preserved
loop-to-preserved c =
    let mail = bodies_to c.args.self.now in
    let to = c.loop-to.to in
    let end = end_of (goal.at.loop-to-preserved c).After-min-end in
    let few = c.centre_count.ensures.line.limits.centres.1 in
    let centres = c.centre_count.ensures.value in
    record {
      sent =
          one_more c.args.self.now.stamp mail to c.args.links.now c.loop-to.links c.post_to.new.links _ _ _
          c.loop-to.invariant.sent c.post_to.ensures.sent;
      count = let was = c.loop-to.invariant.count in omega (arith, was, c.post_to.ensures.count);
      most = let was = c.loop-to.invariant.count in
          omega (arith, was, c.post_to.ensures.count, few, centres, c.loop-to-test.true, end);
      room = λ has. let was = c.loop-to.invariant.room has in omega (arith, was, c.post_to.ensures.capacity);
    }

-- ## All centres

pub invariant_of-frames-2 : goal.invariant_of-frames-2
invariant_of-frames-2 c =
    let w = (goal.at.invariant_of-frames-2 c).After-min-end in
    let mail = bodies_to c.args.self.now in
    let past = c.loop-to-test.false in
    let few = c.centre_count.ensures.line.limits.centres.1 in
    let all = all_below mail c.loop-to.to (λ d high. none_last w d (omega (arith, past, high))) in
    record {
      count = c.loop-to.invariant.most;
      few = λ d.
          let frames = ap length (c.loop-to.invariant.sent.frames d) in
          let numbers =
          length_numbered c.args.self.now.stamp (length (sent_to c.args.links.now d)) (below mail c.loop-to.to d) in
          let bodies = ap length (all d) in
          let most = mail_few c.args.self.now.line.now c.args.self.now.centre c.args.self.now.nid_engine
          (expected_from c.args.self.now.expectations.now) c.args.self.now.mail.now d in
          omega (arith, frames, numbers, bodies, most);
      near =
          λ d far. c.loop-to.invariant.sent.frames d
          ∙ ap (numbered c.args.self.now.stamp (length (sent_to c.args.links.now d)))
          (all d ∙ none_past c.args.self.now.line.now c.args.self.now.centre mail c.args.links.now c.requires.linked
          c.requires.may d (omega (arith, far, few)));
    }

pub returns : goal.returns
unfolding frames_to
returns c =
    let w = (goal.at.returns c).After-min-end in
    let p = c.args.self.now in
    let past = c.loop-to-test.false in
    let all = all_below (bodies_to p) c.loop-to.to (λ d high. none_last w d (omega (arith, past, high))) in
    record {
      links =
          (sent_as p.stamp (below (bodies_to p) c.loop-to.to) (bodies_to p) c.args.links.now c.loop-to.links _ _ all
          c.loop-to.invariant.sent).posted;
      each =
          λ d. c.loop-to.invariant.sent.frames d ∙ ap (numbered p.stamp (length (sent_to c.args.links.now d))) (all d);
    }
