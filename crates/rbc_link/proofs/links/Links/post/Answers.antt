use Rattle.std.proofs.Common.{◌<◌, ◌∙◌, ◌≡◌, arith, length, refl, set, slice_get, Some, sym}
use Rattle.std.proofs.lemmas.Bool.{false≢true}
use Rattle.std.proofs.lemmas.Option.{slice_get_read}
use Rattle.std.proofs.Math.ListN.{length-set}
use Rattle.rbc_link.proofs.Changes.{is_new, linked_same, linked_within, ready_still, room_is, room_less, sent_is}
use Rattle.rbc_link.proofs.Changes.{sent_more, taken_same}
use Rattle.rbc_link.proofs.links.Links.post.Given.{Over}
use Rattle.rbc_link.proofs.links.Links.post.Goals as goal
use Rattle.rbc_link.proofs.links.Links.post.Goals.{After-index_mut, else-self, then-self}
use Rattle.rbc_link.specs.Links.{room_to, sent_to}

pub index_mut-requires : goal.index_mut-requires
index_mut-requires g c =
    let within : c.args.to < length c.self.inside.links.items =
    linked_within c.self.inside.links.items c.args.to (rw c.self.view_is c.requires.linked) in
    omega (arith, within, c.self.inside.links.ok.0)

within : (g : Over) (c : After-index_mut g) → c.args.to < length c.self.inside.links.items
within g c = linked_within c.self.inside.links.items c.args.to (rw c.self.view_is c.requires.linked)

at : (g : Over) (c : After-index_mut g) → slice_get c.self.inside.links.items c.args.to ≡ Some c.index_mut.result.now
at g c = slice_get_read _ _ _ _ refl (within g c) c.index_mut.ensures.value

sent_now : (g : Over) (c : After-index_mut g) → sent_to c.args.self.now c.args.to ≡ c.index_mut.result.now.outbox.frames
sent_now g c =
    rw (← c.self.view_is) (sent_is c.self.inside.links.items c.args.to c.index_mut.result.now
    c.index_mut.result.now (within g c) (at g c))

room_now : (g : Over) (c : After-index_mut g) → room_to c.args.self.now c.args.to ≡ c.index_mut.result.now.outbox.room
room_now g c =
    rw (← c.self.view_is) (room_is c.self.inside.links.items c.args.to c.index_mut.result.now
    c.index_mut.result.now (within g c) (at g c))

pub send-number-requires-clause-room : goal.send-number-requires-clause-room
send-number-requires-clause-room g c = rw (← room_now g c) c.requires.room

pub send-number-requires-clause-numbers : goal.send-number-requires-clause-numbers
send-number-requires-clause-numbers g c = rw (← sent_now g c) c.requires.numbers

pub returns-clause-number : goal.returns-clause-number
returns-clause-number g c = rw (
  ← c.self.view_is,
  sent_is c.self.inside.links.items c.args.to c.index_mut.result.now c.index_mut.result.now
      (linked_within c.self.inside.links.items c.args.to (rw c.self.view_is c.requires.linked))
      (slice_get_read _ _ _ _ refl (linked_within c.self.inside.links.items c.args.to
      (rw c.self.view_is c.requires.linked)) c.index_mut.ensures.value),
) c.send-number.ensures.number

pub returns-clause-linked : goal.returns-clause-linked
returns-clause-linked g c =
    let within : c.args.to < length c.self.inside.links.items =
    linked_within c.self.inside.links.items c.args.to (rw c.self.view_is c.requires.linked) in
    let at : slice_get c.self.inside.links.items c.args.to ≡ Some c.index_mut.result.now =
    slice_get_read _ _ _ _ refl within c.index_mut.ensures.value in
    rw (← c.self.view_is) (linked_same c.self.inside.links.items c.args.to c.index_mut.result.now c.send-number.new.self
    within at c.send-number.ensures.linked)

pub returns-clause-taken : goal.returns-clause-taken
returns-clause-taken g c =
    let within : c.args.to < length c.self.inside.links.items =
    linked_within c.self.inside.links.items c.args.to (rw c.self.view_is c.requires.linked) in
    let at : slice_get c.self.inside.links.items c.args.to ≡ Some c.index_mut.result.now =
    slice_get_read _ _ _ _ refl within c.index_mut.ensures.value in
    rw (← c.self.view_is) (taken_same c.self.inside.links.items c.args.to c.index_mut.result.now c.send-number.new.self
    within at c.send-number.ensures.inbox)

pub returns-clause-sent : goal.returns-clause-sent
returns-clause-sent g c meaning =
    let within : c.args.to < length c.self.inside.links.items =
    linked_within c.self.inside.links.items c.args.to (rw c.self.view_is c.requires.linked) in
    let at : slice_get c.self.inside.links.items c.args.to ≡ Some c.index_mut.result.now =
    slice_get_read _ _ _ _ refl within c.index_mut.ensures.value in
    rw (← c.self.view_is) (sent_more c.self.inside.links.items c.args.to c.index_mut.result.now c.send-number.new.self
    within at meaning c.args.stamp c.args.body (c.send-number.ensures.numbered meaning))

pub returns-clause-room : goal.returns-clause-room
returns-clause-room g c =
    let within : c.args.to < length c.self.inside.links.items =
    linked_within c.self.inside.links.items c.args.to (rw c.self.view_is c.requires.linked) in
    let at : slice_get c.self.inside.links.items c.args.to ≡ Some c.index_mut.result.now =
    slice_get_read _ _ _ _ refl within c.index_mut.ensures.value in
    rw (← c.self.view_is) (room_less c.self.inside.links.items c.args.to c.index_mut.result.now c.send-number.new.self
    within at c.send-number.ensures.room)

pub index-requires : goal.index-requires
index-requires g c =
    let within : c.args.to < length c.self.inside.links.items =
    linked_within c.self.inside.links.items c.args.to (rw c.self.view_is c.requires.linked) in
    omega (arith, within, c.self.inside.links.ok.0)

pub invariant_of-self : goal.invariant_of-self
invariant_of-self g c is =
    let within : c.args.to < length c.self.inside.links.items =
    linked_within c.self.inside.links.items c.args.to (rw c.self.view_is c.requires.linked) in
    let at : slice_get c.self.inside.links.items c.args.to ≡ Some c.index_mut.result.now =
    slice_get_read _ _ _ _ refl within c.index_mut.ensures.value in
    let in-new : c.args.to < length (set c.self.inside.links.items c.args.to c.send-number.new.self)
    = rw (length-set c.self.inside.links.items c.args.to c.send-number.new.self) within in
    elim c.if-self.branch [
      | then-self w ↦
          let new : w.index.result.now ≡ c.send-number.new.self
          = is_new c.self.inside.links.items c.args.to c.index_mut.result.now c.send-number.new.self within at
          c.send-number.ensures.linked w.index.result.now
          (slice_get_read _ _ _ _ refl in-new w.index.ensures) in
          ready_still c.self.inside.links.items c.args.to c.index_mut.result.now c.send-number.new.self within at
          c.send-number.ensures.linked
          (rw (← new) (w.is_ready-self-inside.ensures.room (sym w.self-is ∙ is)))
          (rw (← new) (w.is_ready-self-inside.ensures.numbers (sym w.self-is ∙ is)))
          (c.self.invariant w.if-self.true)
      | else-self w ↦ absurd (false≢true (sym w.if-self.false ∙ (sym w.self-is ∙ is)))
    ]
