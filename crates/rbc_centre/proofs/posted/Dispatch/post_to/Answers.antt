use Rattle.std.proofs.Common.{◌++◌, ◌∙◌, ap, arith, length, List, Option, subst, sym, ℕ}
use Rattle.rbc_centre.proofs.posted.Dispatch.post_to.Goals as goal
use Rattle.rbc_centre.proofs.Posts.{may_after, may_first, only_here, some_of}
use Rattle.rbc_centre.proofs.SentFrames.{sent_more}
use Rattle.rbc_centre.specs.declared.posted.Dispatch.{Dispatch}
use Rattle.rbc_centre.specs.Posts.{HasSent, MayPost, only}
use Rattle.rbc_handover.specs.Expectations.{expected_from}
use Rattle.rbc_line.specs.SectionRuns.{run_of}
use Rattle.rbc_linkmsg.specs.declared.body.Body.{Body as BodyCode}
use Rattle.rbc_spec.specs.Frame.{Body}
use Rattle.rbc_train.specs.Letters.{bodies_in, going_home, letters, notices}

-- ## The four parts of the mail to a centre, in order

abbrev first : Dispatch → ℕ → List Body
first p to = going_home p.line.now p.centre p.nid_engine p.mail.now.track (run_of p.mail.now.first) to

abbrev second : Dispatch → ℕ → List Body
second p to = going_home p.line.now p.centre p.nid_engine p.mail.now.track (run_of p.mail.now.second) to

abbrev third : Dispatch → ℕ → List Body
third p to = notices p.nid_engine (expected_from p.expectations.now) p.mail.now.notice to

abbrev last : Dispatch → ℕ → List Body
last p to = letters p.mail.now.letter to

-- ## Each may be posted

pub post_one-requires-clause-may : goal.post_one-requires-clause-may
post_one-requires-clause-may c =
    let p = c.args.self.now in
    let to = c.args.to in
    subst (MayPost c.args.links.now to) (sym c.home.ensures)
    (may_first c.args.links.now to (first p to) (second p to ++ (third p to ++ last p to)) c.requires.may)

pub post_one-requires-2-clause-may : goal.post_one-requires-2-clause-may
post_one-requires-2-clause-may c =
    let p = c.args.self.now in
    let to = c.args.to in
    let xs = bodies_in c.home.result in
    let may = may_after p.stamp (only to xs) c.args.links.now c.post_one.new.links to (first p to)
    (second p to ++ (third p to ++ last p to)) c.post_one.ensures.sent.posted
    (only_here to xs ∙ c.home.ensures) c.requires.may in
    subst (MayPost c.post_one.new.links to) (sym c.home-2.ensures)
    (may_first c.post_one.new.links to (second p to) (third p to ++ last p to) may)

pub post_one-requires-3-clause-may : goal.post_one-requires-3-clause-may
post_one-requires-3-clause-may c =
    let p = c.args.self.now in
    let to = c.args.to in
    let xs = bodies_in c.home.result in
    let ys = bodies_in c.home-2.result in
    let may = may_after p.stamp (only to xs) c.args.links.now c.post_one.new.links to (first p to)
    (second p to ++ (third p to ++ last p to)) c.post_one.ensures.sent.posted
    (only_here to xs ∙ c.home.ensures) c.requires.may in
    let then = may_after p.stamp (only to ys) c.post_one.new.links c.post_one-2.new.links to (second p to)
    (third p to ++ last p to) c.post_one-2.ensures.sent.posted
    (only_here to ys ∙ c.home-2.ensures) may in
    subst (MayPost c.post_one-2.new.links to) (sym c.to_centre-notice.ensures)
    (may_first c.post_one-2.new.links to (third p to) (last p to) then)

pub post_one-requires-4-clause-may : goal.post_one-requires-4-clause-may
post_one-requires-4-clause-may c =
    let p = c.args.self.now in
    let to = c.args.to in
    let xs = bodies_in c.home.result in
    let ys = bodies_in c.home-2.result in
    let zs = bodies_in c.to_centre-notice.result in
    let may = may_after p.stamp (only to xs) c.args.links.now c.post_one.new.links to (first p to)
    (second p to ++ (third p to ++ last p to)) c.post_one.ensures.sent.posted
    (only_here to xs ∙ c.home.ensures) c.requires.may in
    let then = may_after p.stamp (only to ys) c.post_one.new.links c.post_one-2.new.links to (second p to)
    (third p to ++ last p to) c.post_one-2.ensures.sent.posted
    (only_here to ys ∙ c.home-2.ensures) may in
    subst (MayPost c.post_one-3.new.links to) (sym c.letter_to.ensures)
    (may_after p.stamp (only to zs) c.post_one-2.new.links c.post_one-3.new.links to (third p to) (last p to)
    c.post_one-3.ensures.sent.posted (only_here to zs ∙ c.to_centre-notice.ensures) then)

-- ## And there is room for each

pub post_one-requires-clause-room : goal.post_one-requires-clause-room
post_one-requires-clause-room c b is =
    let p = c.args.self.now in
    let to = c.args.to in
    let here = ap (λ (o : Option BodyCode). length (bodies_in o)) is in
    let part = ap length c.home.ensures in
    let room =
    some_of (first p to) (second p to) (third p to) (last p to) (omega (arith, here, part)) c.requires.room in
    omega (arith, room)

pub post_one-requires-2-clause-room : goal.post_one-requires-2-clause-room
post_one-requires-2-clause-room c b is =
    let p = c.args.self.now in
    let to = c.args.to in
    let here = ap (λ (o : Option BodyCode). length (bodies_in o)) is in
    let part = ap length c.home-2.ensures in
    let room =
    some_of (first p to) (second p to) (third p to) (last p to) (omega (arith, here, part)) c.requires.room in
    omega (arith, room, c.post_one.ensures.count, c.post_one.ensures.capacity)

pub post_one-requires-3-clause-room : goal.post_one-requires-3-clause-room
post_one-requires-3-clause-room c b is =
    let p = c.args.self.now in
    let to = c.args.to in
    let here = ap (λ (o : Option BodyCode). length (bodies_in o)) is in
    let part = ap length c.to_centre-notice.ensures in
    let room =
    some_of (first p to) (second p to) (third p to) (last p to) (omega (arith, here, part)) c.requires.room in
    omega (
      arith,
      room,
      c.post_one.ensures.count,
      c.post_one.ensures.capacity,
      c.post_one-2.ensures.count,
      c.post_one-2.ensures.capacity,
    )

pub post_one-requires-4-clause-room : goal.post_one-requires-4-clause-room
post_one-requires-4-clause-room c b is =
    let p = c.args.self.now in
    let to = c.args.to in
    let here = ap (λ (o : Option BodyCode). length (bodies_in o)) is in
    let part = ap length c.letter_to.ensures in
    let room =
    some_of (first p to) (second p to) (third p to) (last p to) (omega (arith, here, part)) c.requires.room in
    omega (
      arith,
      room,
      c.post_one.ensures.count,
      c.post_one.ensures.capacity,
      c.post_one-2.ensures.count,
      c.post_one-2.ensures.capacity,
      c.post_one-3.ensures.count,
      c.post_one-3.ensures.capacity,
    )

-- ## The frames that were sent

pub returns-clause-sent : goal.returns-clause-sent
returns-clause-sent c =
    let p = c.args.self.now in
    let to = c.args.to in
    let xs = bodies_in c.home.result in
    let ys = bodies_in c.home-2.result in
    let zs = bodies_in c.to_centre-notice.result in
    let us = bodies_in c.letter_to.result in
    subst (λ (bodies : List Body). HasSent p.stamp (only to bodies) c.args.links.now c.post_one-4.new.links
    c.args.list.now.items c.post_one-4.new.list.items)
    (λ i. c.home.ensures i ++ (c.home-2.ensures i ++ (c.to_centre-notice.ensures i ++ c.letter_to.ensures i)))
    (sent_more p.stamp to xs (ys ++ (zs ++ us)) c.args.links.now c.post_one.new.links c.post_one-4.new.links _ _ _
    c.post_one.ensures.sent
    (sent_more p.stamp to ys (zs ++ us) c.post_one.new.links c.post_one-2.new.links c.post_one-4.new.links _ _ _
    c.post_one-2.ensures.sent
    (sent_more p.stamp to zs us c.post_one-2.new.links c.post_one-3.new.links c.post_one-4.new.links _ _ _
    c.post_one-3.ensures.sent c.post_one-4.ensures.sent)))
