use Rattle.std.proofs.Common.{[], ◌∙◌, ◌≡◌, ap, arith, false, length, List, nat_lt, Option, refl, subst, sym, ⊎_elim}
use Rattle.std.proofs.lemmas.Bool.Decides.{nat_tests}
use Rattle.rbc_centre.proofs.posted.Broadcast.post.Goals as goal
use Rattle.rbc_centre.proofs.Posts.{all_below, below, may_after, none_below, none_past, one_more}
use Rattle.rbc_centre.proofs.SentFrames.{sent_as}
use Rattle.rbc_centre.proofs.Withdrawn.{told_once}
use Rattle.rbc_centre.specs.Dispatches.{told_by}
use Rattle.rbc_centre.specs.Posts.{HasSent, MayPost, only}
use Rattle.rbc_centre.specs.Sent.{frames_to}
use Rattle.rbc_link.proofs.Posted.{length_numbered}
use Rattle.rbc_link.specs.Links.{sent_to}
use Rattle.rbc_linkmsg.specs.Bodies.{body_of}
use Rattle.rbc_linkmsg.specs.declared.body.Body.{Body as BodyCode}
use Rattle.rbc_spec.specs.Frame.{Body}
use Rattle.rbc_spec.specs.Line.{is_linked}
use Rattle.rbc_spec.specs.Step.{numbered}
use Rattle.rbc_train.specs.Letters.{bodies_in}

-- ## One centre after another

pub loop-to-init : goal.loop-to-init
loop-to-init c = record {
  sent =
      rw c.swap-list.ensures.items
      (none_below c.args.self.now.stamp (told_by c.args.self.now) 0 c.args.links.now []
      (λ d low. absurd (omega (arith, low))));
  count = let none = ap length c.swap-list.ensures.items in omega (arith, none);
  room = λ has. c.swap-list.ensures.room has;
}

pub post_one-requires-clause-may : goal.post_one-requires-clause-may
post_one-requires-clause-may c =
    let told = told_by c.args.self.now in
    let to = c.loop-to.to in
    let none : nat_lt to to ≡ false = grind (arith, nat_tests) in
    subst (MayPost c.loop-to.links to) (sym c.body_to.ensures)
    (may_after c.args.self.now.stamp (below told to) c.args.links.now c.loop-to.links to [] (told to)
    c.loop-to.invariant.sent.posted (rw none refl) (c.requires.may to))

pub post_one-requires-clause-room : goal.post_one-requires-clause-room
post_one-requires-clause-room c = λ b is. ⊎_elim
    (λ none. let some = ap (λ (o : Option BodyCode). length (bodies_in o)) is in let told =
    ap length (c.body_to.ensures ∙ none) in absurd (omega (arith, some, told)))
    (λ has. let most = c.loop-to.invariant.room has in let count = c.loop-to.invariant.count in
    omega (arith, most, count))
    (c.requires.room c.loop-to.to)

pub loop-to-preserved : goal.loop-to-preserved
loop-to-preserved c =
    let p = c.args.self.now in
    record {
      sent =
          one_more p.stamp (told_by p) c.loop-to.to c.args.links.now c.loop-to.links c.post_one.new.links _ _ _
          c.loop-to.invariant.sent
          (subst (λ (xs : List Body). HasSent p.stamp (only c.loop-to.to xs) c.loop-to.links c.post_one.new.links
          c.loop-to.list.items c.post_one.new.list.items) c.body_to.ensures c.post_one.ensures.sent);
      count = let was = c.loop-to.invariant.count in omega (arith, was, c.post_one.ensures.count);
      room = λ has. let was = c.loop-to.invariant.room has in omega (arith, was, c.post_one.ensures.capacity);
    }

-- ## All centres

pub invariant_of-frames-2 : goal.invariant_of-frames-2
invariant_of-frames-2 c =
    let p = c.args.self.now in
    let past = c.loop-to-test.false in
    let centres = c.centre_count-to-end.ensures.value in
    let all = all_below (told_by p) c.loop-to.to
    (λ d high. none_past p.line.now p.centre (told_by p) c.args.links.now c.requires.linked c.requires.may d
    (omega (arith, past, centres, high))) in
    record {
      count = let was = c.loop-to.invariant.count in omega (arith, was);
      few = λ d.
          let frames = ap length (c.loop-to.invariant.sent.frames d) in
          let numbers =
          length_numbered p.stamp (length (sent_to c.args.links.now d)) (below (told_by p) c.loop-to.to d) in
          let bodies = ap length (all d) in
          let most = told_once (is_linked p.line.now p.centre d) (body_of p.body) in
          omega (arith, frames, numbers, bodies, most);
      near = λ d far.
          let end = c.loop-to.auto in
          let none : nat_lt d c.loop-to.to ≡ false = grind (arith, nat_tests, far, end) in
          c.loop-to.invariant.sent.frames d ∙ rw none refl;
    }

pub returns : goal.returns
unfolding frames_to
returns c =
    let p = c.args.self.now in
    let past = c.loop-to-test.false in
    let centres = c.centre_count-to-end.ensures.value in
    let all = all_below (told_by p) c.loop-to.to
    (λ d high. none_past p.line.now p.centre (told_by p) c.args.links.now c.requires.linked c.requires.may d
    (omega (arith, past, centres, high))) in
    record {
      links =
          (sent_as p.stamp (below (told_by p) c.loop-to.to) (told_by p) c.args.links.now c.loop-to.links _ _ all
          c.loop-to.invariant.sent).posted;
      each =
          λ d. c.loop-to.invariant.sent.frames d ∙ ap (numbered p.stamp (length (sent_to c.args.links.now d))) (all d);
    }
