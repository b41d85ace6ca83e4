use Rattle.std.proofs.Common.{◌<◌, ◌∙◌, ◌≡◌, ap, arith, length, refl, slice_get, Some, sym, true}
use Rattle.std.proofs.lemmas.Option.{slice_get_read}
use Rattle.rbc_link.proofs.Changes.{linked_same, linked_within, ready_same, room_same, sent_same, taken_is, taken_put}
use Rattle.rbc_link.proofs.links.Links.offer.Goals as goal
use Rattle.rbc_link.specs.declared.link.Link.{Link}
use Rattle.rbc_link.specs.Inbox.{taken_after}
use Rattle.rbc_link.specs.Links.{has_link, taken_from}
use Rattle.rbc_spec.specs.Step.{offered}

pub index_mut-requires : goal.index_mut-requires
index_mut-requires g c =
    let linked : has_link c.args.self.now c.args.from ≡ true = sym c.has.ensures ∙ c.if-not-has.false in
    let within : c.args.from < length c.self.inside.links.items =
    linked_within c.self.inside.links.items c.args.from (rw c.self.view_is linked) in
    omega (arith, within, c.self.inside.links.ok.0)

pub returns-clause-answer : goal.returns-clause-answer
returns-clause-answer g c =
    let within : c.args.from < length c.self.inside.links.items =
    linked_within c.self.inside.links.items c.args.from
    (rw c.self.view_is (sym c.has.ensures ∙ c.if-not-has.false)) in
    let at : slice_get c.self.inside.links.items c.args.from ≡ Some c.index_mut.result.now =
    slice_get_read _ _ _ _ refl within c.index_mut.ensures.value in
    let linked : has_link c.args.self.now c.args.from ≡ true = sym c.has.ensures ∙ c.if-not-has.false in
    let taken : taken_from c.args.self.now c.args.from ≡ c.index_mut.result.now.inbox
    = rw (← c.self.view_is) (taken_is c.self.inside.links.items c.args.from c.index_mut.result.now
    c.index_mut.result.now within at) in
    rw (linked, taken) c.offer.ensures.answer

pub returns-clause-linked : goal.returns-clause-linked
returns-clause-linked g c =
    let within : c.args.from < length c.self.inside.links.items =
    linked_within c.self.inside.links.items c.args.from
    (rw c.self.view_is (sym c.has.ensures ∙ c.if-not-has.false)) in
    let at : slice_get c.self.inside.links.items c.args.from ≡ Some c.index_mut.result.now =
    slice_get_read _ _ _ _ refl within c.index_mut.ensures.value in
    rw (← c.self.view_is) (linked_same c.self.inside.links.items c.args.from c.index_mut.result.now c.offer.new.self
    within at (ap (λ (l : Link g.row.B.Denot). l.is_linked) c.offer.ensures.link))

pub returns-clause-taken : goal.returns-clause-taken
returns-clause-taken g c =
    let within : c.args.from < length c.self.inside.links.items =
    linked_within c.self.inside.links.items c.args.from
    (rw c.self.view_is (sym c.has.ensures ∙ c.if-not-has.false)) in
    let at : slice_get c.self.inside.links.items c.args.from ≡ Some c.index_mut.result.now =
    slice_get_read _ _ _ _ refl within c.index_mut.ensures.value in
    let taken : taken_from c.args.self.now c.args.from ≡ c.index_mut.result.now.inbox
    = rw (← c.self.view_is) (taken_is c.self.inside.links.items c.args.from c.index_mut.result.now
    c.index_mut.result.now within at) in
    rw (taken, c.offer.ensures.answer, ← c.self.view_is)
    (taken_put c.self.inside.links.items c.args.from c.index_mut.result.now c.offer.new.self within at
    (taken_after (offered c.index_mut.result.now.inbox c.args.number) c.index_mut.result.now.inbox c.args.number)
    (ap (λ (l : Link g.row.B.Denot). l.inbox) c.offer.ensures.link))

pub returns-clause-sent : goal.returns-clause-sent
returns-clause-sent g c =
    let within : c.args.from < length c.self.inside.links.items =
    linked_within c.self.inside.links.items c.args.from
    (rw c.self.view_is (sym c.has.ensures ∙ c.if-not-has.false)) in
    let at : slice_get c.self.inside.links.items c.args.from ≡ Some c.index_mut.result.now =
    slice_get_read _ _ _ _ refl within c.index_mut.ensures.value in
    rw (← c.self.view_is) (sent_same c.self.inside.links.items c.args.from c.index_mut.result.now c.offer.new.self
    within at (ap (λ (l : Link g.row.B.Denot). l.outbox.frames) c.offer.ensures.link))

pub returns-clause-room : goal.returns-clause-room
returns-clause-room g c =
    let within : c.args.from < length c.self.inside.links.items =
    linked_within c.self.inside.links.items c.args.from
    (rw c.self.view_is (sym c.has.ensures ∙ c.if-not-has.false)) in
    let at : slice_get c.self.inside.links.items c.args.from ≡ Some c.index_mut.result.now =
    slice_get_read _ _ _ _ refl within c.index_mut.ensures.value in
    rw (← c.self.view_is) (room_same c.self.inside.links.items c.args.from c.index_mut.result.now c.offer.new.self
    within at (ap (λ (l : Link g.row.B.Denot). l.outbox.room) c.offer.ensures.link))

pub invariant_of-self : goal.invariant_of-self
invariant_of-self g c is =
    let within : c.args.from < length c.self.inside.links.items =
    linked_within c.self.inside.links.items c.args.from
    (rw c.self.view_is (sym c.has.ensures ∙ c.if-not-has.false)) in
    let at : slice_get c.self.inside.links.items c.args.from ≡ Some c.index_mut.result.now =
    slice_get_read _ _ _ _ refl within c.index_mut.ensures.value in
    ready_same c.self.inside.links.items c.args.from c.index_mut.result.now c.offer.new.self within at
    (ap (λ (l : Link g.row.B.Denot). l.is_linked) c.offer.ensures.link)
    (ap (λ (l : Link g.row.B.Denot). l.outbox) c.offer.ensures.link) (c.self.invariant is)
