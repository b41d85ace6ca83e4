use Rattle.std.proofs.Common.{[], ◌∙◌, ap, arith, refl, ℕ}
use Rattle.std.proofs.lemmas.List.Elements.{All-head}
use Rattle.rbc_centre.proofs.posted.post_one.Goals as goal
use Rattle.rbc_centre.proofs.SentFrames.{none_sent_to, sent_one}
use Rattle.rbc_centre.specs.Posts.{IsFit}
use Rattle.rbc_link.proofs.Posted.{posted_one}
use Rattle.rbc_linkmsg.specs.Bodies.{body_of}

pub returns-in_default-clause-sent : goal.returns-in_default-clause-sent
returns-in_default-clause-sent c =
    rw c.in_default.is (none_sent_to c.args.stamp c.args.to c.args.links.now c.args.list.now.items)

pub post-number-requires-clause-linked : goal.post-number-requires-clause-linked
post-number-requires-clause-linked c =
    let may = rw c.in-Some.is at c.requires.may in
    (All-head (IsFit c.args.links.now c.args.to) (body_of c.in-Some.body) [] may.each).linked

pub post-number-requires-clause-room : goal.post-number-requires-clause-room
post-number-requires-clause-room c =
    let may = rw c.in-Some.is at c.requires.may in
    let room = may.room (All-head (IsFit c.args.links.now c.args.to) (body_of c.in-Some.body) [] may.each).linked in
    omega (arith, room)

pub post-number-requires-clause-numbers : goal.post-number-requires-clause-numbers
post-number-requires-clause-numbers c =
    let may = rw c.in-Some.is at c.requires.may in
    let numbers =
    may.numbers (All-head (IsFit c.args.links.now c.args.to) (body_of c.in-Some.body) [] may.each).linked in
    omega (arith, numbers)

pub new-requires-clause-number : goal.new-requires-clause-number
new-requires-clause-number c =
    let may = rw c.in-Some.is at c.requires.may in
    let numbers =
    may.numbers (All-head (IsFit c.args.links.now c.args.to) (body_of c.in-Some.body) [] may.each).linked in
    let is = c.post-number.ensures.number in
    (omega (arith, is), omega (arith, is, numbers))

pub new-requires-clause-body : goal.new-requires-clause-body
new-requires-clause-body c =
    let may = rw c.in-Some.is at c.requires.may in
    (All-head (IsFit c.args.links.now c.args.to) (body_of c.in-Some.body) [] may.each).range

pub returns-clause-sent : goal.returns-clause-sent
returns-clause-sent c =
    let post = c.post-number.ensures in
    let posted = posted_one body_of c.args.stamp c.args.to c.in-Some.body c.args.links.now c.post-number.new.self
    post.count post.linked post.taken (post.sent body_of) post.room in
    rw c.in-Some.is (sent_one c.args.stamp c.args.to c.in-Some.body c.args.links.now c.post-number.new.self
    c.args.list.now.items c.push_reserved.new.self.items _ posted
    c.push_reserved.ensures.items refl
    (c.new.ensures ∙ ap (λ (n : ℕ). record { number = n; stamp = c.args.stamp; body = body_of c.in-Some.body })
    post.number))
