-- A frame of another centre, and the links that it leaves.
use Rattle.std.proofs.Common.{[], ◌+◌, ◌∙◌, ◌≡◌, ap, arith, Bool, false, if◌then◌else◌, inl, inr, is_none, is_some}
use Rattle.std.proofs.Common.{length, List, map, max, nat_le, None, Option, refl, set, slice_get, Some, subst, sym}
use Rattle.std.proofs.Common.{true, ℕ}
use Rattle.std.proofs.lemmas.Bool.Decides.{eqb_tells}
use Rattle.std.proofs.Math.Nat.{le-max_left}
use Rattle.rbc_book.specs.Book.{Pages}
use Rattle.rbc_centre.proofs.Kept.{left_by, links_still, trains_still}
use Rattle.rbc_centre.proofs.Posts.{linked_centre, mail_few}
use Rattle.rbc_centre.proofs.Steps as Steps
use Rattle.rbc_centre.proofs.Steps.{effect_of, outcome_with, replied, stands_kept, ticked_is}
use Rattle.rbc_centre.proofs.Trains.{same_count}
use Rattle.rbc_centre.proofs.Turns.{is_known, left, mail_left, may_be_sent, parts}
use Rattle.rbc_centre.specs.declared.centre.Centre.{Centre as CentreCode}
use Rattle.rbc_centre.specs.Kept.{IsCentre}
use Rattle.rbc_centre.specs.Posts.{MayPost}
use Rattle.rbc_centre.specs.State.{stands_for}
use Rattle.rbc_centre.specs.States.{state_of}
use Rattle.rbc_handover.specs.Expectations.{expected_from}
use Rattle.rbc_link.specs.declared.link.Link.{Link}
use Rattle.rbc_link.specs.declared.link_answer.LinkAnswer.{LinkAnswer}
use Rattle.rbc_link.specs.declared.link_answer.LinkAnswer.TheVariants as code
use Rattle.rbc_link.specs.Inbox.{answer_of, taken_after}
use Rattle.rbc_link.specs.Links.{has_link, HasRoom, KeepsLinks, room_to, sent_to, taken_from}
use Rattle.rbc_link.specs.Outgoing.{frames_by}
use Rattle.rbc_linkmsg.specs.Bodies.{body_of, engine_in}
use Rattle.rbc_linkmsg.specs.declared.body.Body.{Body as BodyCode}
use Rattle.rbc_right.specs.Rights.{Rights}
use Rattle.rbc_spec.proofs.Lists.{put_same}
use Rattle.rbc_spec.specs.Acts.{◌>>◌, Act, become, Reply, rest}
use Rattle.rbc_spec.specs.Centre as centre
use Rattle.rbc_spec.specs.Frame.{Announce, AskRight, Body, Cancel, Frame, GiveRight, HasBodyRange, RefuseRight}
use Rattle.rbc_spec.specs.Frame.{ReturnRight, RouteAsk, RouteInfo, RouteReturn, RouteWithdraw, TakingOver, Yield}
use Rattle.rbc_spec.specs.Line.{is_centre, Line, train_number}
use Rattle.rbc_spec.specs.Links.{received}
use Rattle.rbc_spec.specs.Maps.{put}
use Rattle.rbc_spec.specs.Outcome.{Early, Next, NoLink, Old, Taken, Told}
use Rattle.rbc_spec.specs.Step as step
use Rattle.rbc_spec.specs.Step.{Deliver, offered}
use Rattle.rbc_train.specs.declared.heard.Heard.{Heard}
use Rattle.rbc_train.specs.declared.train.TrainState.{TrainState}
use Rattle.rbc_train.specs.Desk.{HasParts, KeepsDesk, KeepsTrain, reply_left, with_parts}
use Rattle.rbc_train.specs.Letters.{mail_to}
use Rattle.rbc_train.specs.Sayings.{told_train}

-- ## A frame

-- a body of a train that is not of the line has no effect
pub foreign_body : (line : Line) (c d : ℕ) (body : Body) (k : centre.Centre)
    → is_some (train_number line (engine_in body)) ≡ false → received line c d body k ≡ rest k
foreign_body line c d (AskRight t) k foreign = rw foreign refl
foreign_body line c d (GiveRight t) k foreign = rw foreign refl
foreign_body line c d (RefuseRight t) k foreign = rw foreign refl
foreign_body line c d (ReturnRight t) k foreign = rw foreign refl
foreign_body line c d (RouteAsk t first most) k foreign = rw foreign refl
foreign_body line c d (RouteInfo t run) k foreign = rw foreign refl
foreign_body line c d (RouteWithdraw t s) k foreign = rw foreign refl
foreign_body line c d (RouteReturn t run) k foreign = rw foreign refl
foreign_body line c d (Announce number t track) k foreign = rw foreign refl
foreign_body line c d (Cancel number t) k foreign = rw foreign refl
foreign_body line c d (TakingOver number t) k foreign = rw foreign refl
foreign_body line c d (Yield number t heard has_data is_ended place hand) k foreign = rw foreign refl

-- a change, and then an act
changed_then : (change : centre.Centre → centre.Centre) (act : Act) (k : centre.Centre)
    → (become change >> act) k ≡ act (change k)
unfolding ◌>>◌
changed_then change act k = refl

-- ## The answer of the link

abbrev pub is_next : Taken → Bool
is_next Next = true
is_next other = false

pub not_next : (a : LinkAnswer) → (a ≡ code.Next → ⊥) → is_next (answer_of a) ≡ false
not_next code.Next apart = absurd (apart refl)
not_next code.Old apart = refl
not_next code.Early apart = refl
not_next code.NoLink apart = refl

taken_still : (answer : Taken) (count n : ℕ) → is_next answer ≡ false → taken_after answer count n ≡ count
taken_still Next count n apart = cc
taken_still Old count n apart = refl
taken_still Early count n apart = refl
taken_still NoLink count n apart = refl

pub deliver_stamp : (k : CentreCode) (d : ℕ) (f : Frame)
    → step.stamp_of (state_of k) (Deliver d f) ≡ max k.clock f.stamp + 1
unfolding stands_for
deliver_stamp k d f = refl

-- the facts after the link of centre d was offered a frame
pub record IsOffered (k : CentreCode) (d : ℕ) (f : Frame) (mid : List (Link BodyCode)) (answer : Taken) : Type 0 where
  pub offer : answer ≡ (if has_link k.links d then offered (taken_from k.links d) f.number else NoLink)
  pub count : length mid ≡ length k.links
  pub linked : (e : ℕ) → has_link mid e ≡ has_link k.links e
  pub taken : (e : ℕ)
      → taken_from mid e ≡ put (taken_from k.links) d (taken_after answer (taken_from k.links d) f.number) e
  pub sent : (e : ℕ) → sent_to mid e ≡ sent_to k.links e
  pub room : (e : ℕ) → room_to mid e ≡ room_to k.links e

-- by the contract of the links
pub offered_as : (k : CentreCode) (d : ℕ) (f : Frame) (mid : List (Link BodyCode)) (a : LinkAnswer) (n : ℕ)
    → n ≡ f.number
    → answer_of a ≡ (if has_link k.links d then offered (taken_from k.links d) n else NoLink)
    → length mid ≡ length k.links → ((e : ℕ) → has_link mid e ≡ has_link k.links e)
    → ((e : ℕ) → taken_from mid e ≡ put (taken_from k.links) d (taken_after (answer_of a) (taken_from k.links d) n) e)
    → ((e : ℕ) → sent_to mid e ≡ sent_to k.links e)
    → ((e : ℕ) → room_to mid e ≡ room_to k.links e) → IsOffered k d f mid (answer_of a)
offered_as k d f mid a n number offer count linked taken sent room = record {
  offer = offer ∙ ap (λ m. if has_link k.links d then offered (taken_from k.links d) m else NoLink) number;
  count = count;
  linked = linked;
  taken =
      λ e. taken e ∙ ap (λ m. put (taken_from k.links) d (taken_after (answer_of a) (taken_from k.links d) m) e) number;
  sent = sent;
  room = room;
}

module _ (k : CentreCode) (clock d : ℕ) (f : Frame) (mid : List (Link BodyCode)) (answer : Taken)
    (is : IsOffered k d f mid answer) where
  abbrev old : centre.Centre
  old = stands_for k.line k.number clock k.book k.desk k.links k.trains.items

  abbrev at : centre.Centre
  at = stands_for k.line k.number clock k.book k.desk mid k.trains.items

  says : step.link_answer k.line k.number old d f ≡ answer
  unfolding stands_for
  says =
      ap (λ b. if b then offered (taken_from k.links d) f.number else NoLink) (sym (k.rules.all_links.linked d))
      ∙ sym is.offer

  -- a frame that is not the next leaves the links as they are
  pub keeps : is_next answer ≡ false → KeepsLinks k.links mid
  keeps apart = record {
    count = is.count;
    linked = is.linked;
    taken =
        λ e. is.taken e ∙ put_same d (taken_after answer (taken_from k.links d) f.number) (taken_from k.links)
        (sym (taken_still answer (taken_from k.links d) f.number apart)) e;
    sent = is.sent;
    room = λ e. let same = is.room e in omega (arith, same);
  }

  by_answer : (a : Taken) → step.link_answer k.line k.number old d f ≡ a → is_next a ≡ false
      → step.effect k.line k.number old (Deliver d f) ≡ effect_of (replied old (λ e. []) [] []) (Some a) None
  by_answer Next said apart = cc
  by_answer Old said apart = rw said refl
  by_answer Early said apart = rw said refl
  by_answer NoLink said apart = rw said refl

  pub untaken : is_next answer ≡ false
      → step.effect k.line k.number (step.ticked clock (state_of k)) (Deliver d f)
      ≡ effect_of (replied at (λ e. []) [] []) (Some answer) None
  untaken apart =
      ap (λ (x : centre.Centre). step.effect k.line k.number x (Deliver d f))
      (ticked_is k.line k.number k.clock clock k.book k.desk k.links k.trains.items)
      ∙ by_answer answer says apart
      ∙ ap (λ (x : centre.Centre). effect_of (replied x (λ e. []) [] []) (Some answer) None)
      (sym (stands_kept k.line k.number clock k.book k.desk k.links mid k.trains.items (keeps apart)))

  -- the next frame is counted, and has the effect of its body
  counted_is : answer ≡ Next → record old { taken = put (taken_from k.links) d f.number } ≡ at
  unfolding stands_for
  counted_is next = λ i. record old {
    sent = λ e. ap (frames_by body_of) (sym (is.sent e)) i;
    taken =
        λ e. (ap (λ (a : Taken). put (taken_from k.links) d (taken_after a (taken_from k.links d) f.number) e)
        (sym next) ∙ sym (is.taken e)) i;
  }

  pub taken : answer ≡ Next → step.effect k.line k.number (step.ticked clock (state_of k)) (Deliver d f)
      ≡ record { reply = received k.line k.number d f.body at; link = Some Next; silence = None }
  unfolding stands_for
  taken next =
      ap (λ (x : centre.Centre). step.effect k.line k.number x (Deliver d f))
      (ticked_is k.line k.number k.clock clock k.book k.desk k.links k.trains.items)
      ∙ rw (says ∙ next) (ap (λ (r : Reply). record { reply = r; link = Some Next; silence = None })
      (changed_then (λ j. record j { taken = put j.taken d f.number }) (received k.line k.number d f.body) old
      ∙ ap (received k.line k.number d f.body) (counted_is next)))

  -- a train of the line takes the effect of the frame
  pub train_takes : answer ≡ Next
      → (t i : ℕ) (train : TrainState) (number : train_number k.line t ≡ Some i)
      (here : slice_get k.trains.items i ≡ Some train)
      → (new : TrainState) (book : Pages) (rights : Rights) (kept : KeepsTrain train new)
      (desk : KeepsDesk train.supervision.number k.book book k.desk.registrar rights) (heard : Heard)
      → ((x : centre.Centre) → HasParts k.line k.number x train k.book k.desk.registrar
      → is_none (train_number k.line train.supervision.engine) ≡ false
      → received k.line k.number d f.body x ≡ reply_left k.line k.number train.supervision.engine
      (with_parts new book rights x) heard)
      → step.effect k.line k.number (step.ticked clock (state_of k)) (Deliver d f)
      ≡ effect_of
      (replied (stands_for k.line k.number clock book (record { registrar = rights; handovers = k.desk.handovers }) mid
      (set k.trains.items i new))
      (mail_to k.line k.number train.supervision.engine (expected_from new.expectations) heard.mail)
      (told_train heard.saying heard.order) (map (λ s. Told s) heard.told)) (Some answer) None
  train_takes next t i train number here new book rights kept desk heard exact =
      let now = stands_for k.line k.number clock book (record { registrar = rights; handovers = k.desk.handovers }) mid
      (set k.trains.items i new) in
      taken next
      ∙ ap (λ (r : Reply). record { reply = r; link = Some Next; silence = None })
      (exact at (parts k t i train number here clock mid) (is_known k t i train number here)
      ∙ ap (λ (x : centre.Centre). reply_left k.line k.number train.supervision.engine x heard)
      (same_count k.line k.number clock k.book k.desk mid k.trains.items new book rights
      ∙ left k t i train number here clock mid new book rights k.desk.handovers kept desk))
      ∙ (λ j.
      effect_of
      (replied now (λ e. mail_left k t i train number here clock mid new book rights k.desk.handovers kept desk
      heard.mail e j) (told_train heard.saying heard.order) (map (λ s. Told s) heard.told)) (Some (sym next j)) None)

  -- a body of no train of the line has no effect
  pub ignored : answer ≡ Next → is_some (train_number k.line (engine_in f.body)) ≡ false
      → step.effect k.line k.number (step.ticked clock (state_of k)) (Deliver d f)
      ≡ effect_of (replied at (λ e. []) [] []) (Some answer) None
  ignored next foreign =
      taken next
      ∙ ap (λ (r : Reply). record { reply = r; link = Some Next; silence = None })
      (foreign_body k.line k.number d f.body at foreign)
      ∙ ap (λ (a : Taken). effect_of (replied at (λ e. []) [] []) (Some a) None) (sym next)

  -- the invariants of a centre that sends nothing and keeps all trains as they are
  module _ (stamp : step.stamp_of (state_of k) (Deliver d f) ≡ clock) (range : HasBodyRange f.body)
      (effect : step.effect k.line k.number (step.ticked clock (state_of k)) (Deliver d f)
      ≡ effect_of (replied at (λ e. []) [] []) (Some answer) None) where
    pub silent : (outcome_with clock (λ e. []) [] [] (Some answer) None, at)
        ≡ step.taken k.line k.number (Deliver d f) (state_of k)
    silent =
        Steps.says k.line k.number k.clock clock k.book k.book k.desk k.desk k.links mid k.trains.items k.trains.items
        (Deliver d f) stamp is.sent [] [] (Some answer) None effect _ refl

    pub stays_silent : step.refusal k.line k.number (state_of k) (Deliver d f) ≡ None
        → IsCentre k.line k.number clock k.book k.desk k.sessions mid k.trains.items
    stays_silent allowed =
        let low = le-max_left k.clock f.stamp in
        let now = deliver_stamp k d f in
        left_by k (Deliver d f) clock k.book k.desk k.sessions mid k.trains.items _ silent allowed range
        (λ s. refl) refl
        (links_still k.line k.number k.links mid is.count is.linked is.sent k.rules.all_links)
        (trains_still k.line k.number k.clock clock k.sessions k.trains.items (omega (arith, low, now, stamp))
        k.rules.all_trains)

-- the frames in return for a frame may be sent
pub received_may : (k : CentreCode) (d : ℕ) (f : Frame) (clock : ℕ) (mid : List (Link BodyCode)) (x : centre.Centre)
    (old : TrainState) (e : ℕ → Option centre.Expectation) (heard : Heard) (answer : Taken)
    → step.stamp_of (state_of k) (Deliver d f) ≡ clock → ((e : ℕ) → sent_to mid e ≡ sent_to k.links e)
    → step.effect k.line k.number (step.ticked clock (state_of k)) (Deliver d f)
    ≡ effect_of (replied x (mail_to k.line k.number old.supervision.engine e heard.mail)
    (told_train heard.saying heard.order) (map (λ s. Told s) heard.told)) (Some answer) None
    → step.refusal k.line k.number (state_of k) (Deliver d f) ≡ None → HasBodyRange f.body
    → ((e : ℕ) → has_link mid e ≡ has_link k.links e) → ((e : ℕ) → room_to mid e ≡ room_to k.links e)
    → HasRoom k.links 4 → (u : ℕ) → MayPost mid u (mail_to k.line k.number old.supervision.engine e heard.mail u)
received_may k d f clock mid x old e heard answer stamp sent effect allowed range linked same room =
    let bodies = mail_to k.line k.number old.supervision.engine e heard.mail in
    let few = mail_few k.line k.number old.supervision.engine e heard.mail in
    may_be_sent k (Deliver d f) clock mid x bodies (told_train heard.saying heard.order) (map (λ s. Told s) heard.told)
    (Some answer) None stamp sent effect allowed range (λ u. linked u ∙ k.rules.all_links.linked u) few
    (λ u has. let most = room u (sym (linked u) ∙ has) in let count = few u in let left = same u in
    omega (arith, most, count, left))

-- the frame of a link is of a centre of the line
pub next_from : (k : CentreCode) (d : ℕ) (f : Frame) (mid : List (Link BodyCode)) (answer : Taken)
    → IsOffered k d f mid answer → answer ≡ Next → is_centre k.line d ≡ true
next_from k d f mid answer is next = by (has_link k.links d) refl
  where
    by : (b : Bool) → has_link k.links d ≡ b → is_centre k.line d ≡ true
    by true has = linked_centre k.line k.number d (sym (k.rules.all_links.linked d) ∙ has)
    by false has =
        let no : Next ≡ NoLink =
        sym next ∙ is.offer ∙ ap (λ b. if b then offered (taken_from k.links d) f.number else NoLink) has in cc

late : (b : Bool) → (if b then Old else Early) ≡ Next → ⊥
late true said = cc
late false said = cc

offered_next : (count n : ℕ) → offered count n ≡ Next → n ≡ count + 1
offered_next count n said = elim (eqb_tells n (count + 1)) [
  | inl e ↦ e.1
  | inr e ↦
      absurd
      (late (nat_le n count) (subst (λ b. (if b then Next else (if nat_le n count then Old else Early)) ≡ Next)
      (e.0) said))
]

-- the number of the next frame is one above that of the last that was taken
pub next_number : (k : CentreCode) (d : ℕ) (f : Frame) (mid : List (Link BodyCode)) (answer : Taken)
    → IsOffered k d f mid answer → answer ≡ Next → f.number ≡ (state_of k).taken d + 1
unfolding stands_for
next_number k d f mid answer is next = by (has_link k.links d) (sym is.offer ∙ next)
  where
    by : (b : Bool) → (if b then offered (taken_from k.links d) f.number else NoLink) ≡ Next
        → f.number ≡ taken_from k.links d + 1
    by true said = offered_next (taken_from k.links d) f.number said
    by false said = cc
