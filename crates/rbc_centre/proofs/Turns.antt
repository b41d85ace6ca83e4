-- A centre after the message or the frame of one train.
use Rattle.std.proofs.Common.{◌+◌, ◌<◌, ◌∙◌, ◌≡◌, ◌≤◌, All, ap, arith, Err, false, is_none, length, List, map, None, Ok}
use Rattle.std.proofs.Common.{Option, refl, Result, set, slice_get, Some, subst, sym, true, ℕ}
use Rattle.std.proofs.Math.Logic.{∥∥₁_elim}
use Rattle.std.specs.Result.{OnErr}
use Rattle.law_invariants.specs.Ranges.Ranges.{HasEventRanges, IsSentInRange}
use Rattle.rbc_book.specs.Book.{is_own, Pages}
use Rattle.rbc_centre.proofs.Kept.{left_by, links_posted, sent_in}
use Rattle.rbc_centre.proofs.Posts.{may_post}
use Rattle.rbc_centre.proofs.States.{number_within, part_of_train, slice_get-set_same}
use Rattle.rbc_centre.proofs.Steps as Steps
use Rattle.rbc_centre.proofs.Steps.{answers, effect_of, outcome_with, replied, stands_kept, ticked_is}
use Rattle.rbc_centre.proofs.Trains.{announced_of, has_train, kept_at, mission_of, train_left}
use Rattle.rbc_centre.specs.declared.centre.Centre.{Centre as CentreCode}
use Rattle.rbc_centre.specs.declared.desk.Desk.{Desk}
use Rattle.rbc_centre.specs.Kept.{AreLinks, AreTrains, IsCentre}
use Rattle.rbc_centre.specs.Posts.{IsSent, MayPost}
use Rattle.rbc_centre.specs.Ranges.{AreInRange-prop}
use Rattle.rbc_centre.specs.State.{IsOfTrain, stands_for}
use Rattle.rbc_centre.specs.States.{IsSame, state_of}
use Rattle.rbc_handover.specs.Expectations.{expected_from}
use Rattle.rbc_handover.specs.Giving.{with_count}
use Rattle.rbc_link.specs.declared.link.Link.{Link}
use Rattle.rbc_link.specs.Links.{has_link, room_to, sent_to}
use Rattle.rbc_link.specs.Outgoing.{frames_by}
use Rattle.rbc_link.specs.Posted.{HasPosted}
use Rattle.rbc_linkmsg.specs.Bodies.{body_of}
use Rattle.rbc_linkmsg.specs.declared.body.Body.{Body}
use Rattle.rbc_right.specs.Rights.{Rights}
use Rattle.rbc_session.specs.Sessions.{Records}
use Rattle.rbc_spec.specs.Centre as centre
use Rattle.rbc_spec.specs.Centre.{Expectation}
use Rattle.rbc_spec.specs.Frame.{Body as BodySent, Frame, HasFrameRanges, last_stamp}
use Rattle.rbc_spec.specs.Line.{is_linked, Line, train_number}
use Rattle.rbc_spec.specs.Message.{TrainMessage}
use Rattle.rbc_spec.specs.Outcome.{Reason, Saying, Taken, Told, Word}
use Rattle.rbc_spec.specs.SectionRuns.{within as within_run}
use Rattle.rbc_spec.specs.Sections.{is_on}
use Rattle.rbc_spec.specs.Step as step
use Rattle.rbc_spec.specs.Step.{Effect, Event, numbered, Set, Train, Unset}
use Rattle.rbc_train.specs.declared.heard.Heard.{Heard}
use Rattle.rbc_train.specs.declared.mail.Mail.{Mail}
use Rattle.rbc_train.specs.declared.reason.Reason.{Reason as ReasonCode}
use Rattle.rbc_train.specs.declared.train.TrainState.{TrainState}
use Rattle.rbc_train.specs.Desk.{effect_left, HasParts, IsKeptAt, KeepsDesk, KeepsTrain, with_parts}
use Rattle.rbc_train.specs.Letters.{mail_to}
use Rattle.rbc_train.specs.Sayings.{told_train}

-- the frames that were sent are in their ranges
pub sent_in_range : (k : CentreCode) (d : ℕ) → All HasFrameRanges (frames_by body_of (sent_to k.links d))
sent_in_range k =
    ∥∥₁_elim k.rules.all_links.frames (AreInRange-prop (λ d. frames_by body_of (sent_to k.links d))) (λ each. each)

-- a train of the line, with this number in the line file, and its state at the centre
module _ (k : CentreCode) (t i : ℕ) (old : TrainState) (number : train_number k.line t ≡ Some i)
    (at : slice_get k.trains.items i ≡ Some old) where
  pub within : i < length k.trains.items
  within = number_within k.line k.trains.items t i number k.rules.all_trains.count

  pub of_train : IsOfTrain k.line k.number k.sessions t i old
  of_train = k.rules.all_trains.each t i old number at

  pub is_known : is_none (train_number k.line old.supervision.engine) ≡ false
  is_known = ap (λ (n : ℕ). is_none (train_number k.line n)) of_train.engine ∙ ap is_none number

  pub has_number : old.supervision.number < length k.desk.registrar
  has_number = omega (arith, of_train.number, within, k.rules.all_trains.count, k.rules.each_right)

  pub has_count : k.clock < last_stamp → old.said < 4294967293
  has_count early = let few = k.rules.all_trains.said i old at in omega (arith, few, early)

  pub kept_train : IsKeptAt k.line k.number old
  kept_train =
      kept_at k.line k.number (state_of k) k.sessions t i old k.rules.line_rules k.rules.sound k.rules.ranged of_train
      (mission_of k.line k.number k.clock t i k.book k.desk k.links k.trains.items old number at)

  -- each section of its hand is on the track of its mission
  pub on_track : (m : centre.Mission) → old.supervision.mission ≡ Some m → (s : ℕ) → within_run m.hand s ≡ true
      → is_on k.line m.place.track s ≡ true
  on_track m stands s inside =
      let mission = mission_of k.line k.number k.clock t i k.book k.desk k.links k.trains.items old number at in
      (k.rules.sound.mission t m (mission ∙ stands)).hand.on_track s inside

  module _ (clock : ℕ) (mid : List (Link Body)) where
    -- the centre's parts for it, after the tick of the clock, with these links
    pub parts : HasParts k.line k.number (stands_for k.line k.number clock k.book k.desk mid k.trains.items) old k.book
        k.desk.registrar
    parts =
        has_train k.line k.number clock t i k.book k.desk mid k.trains.items old number at within of_train.engine
        of_train.number k.rules.line_rules
        kept_train k.rules.own_sections

    module _ (new : TrainState) (book : Pages) (rights : Rights) (n : ℕ) (kept : KeepsTrain old new)
        (desk : KeepsDesk old.supervision.number k.book book k.desk.registrar rights) where
      abbrev states : List TrainState
      states = set k.trains.items i new

      -- the centre that is left, but for a frame that is sent
      pub left : with_count n (with_parts new book rights
          (stands_for k.line k.number clock k.book k.desk mid k.trains.items))
          ≡ stands_for k.line k.number clock book (record { registrar = rights; handovers = n }) mid states
      left =
          train_left k.line k.number clock t i k.book k.desk mid k.trains.items old number at within of_train.engine
          of_train.number new book rights n kept desk

      -- the expected handovers of the train after it
      pub expects_left : (d : ℕ)
          → (stands_for k.line k.number clock book (record { registrar = rights; handovers = n }) mid states).expects d
          old.supervision.engine ≡ expected_from new.expectations d
      unfolding stands_for
      expects_left d =
          sym (part_of_train (λ p. expected_from p.expectations d) None k.line states old.supervision.engine i new
          (ap (train_number k.line) of_train.engine ∙ number) (slice_get-set_same k.trains.items i new within))

      pub mail_left : (mail : Mail) (e : ℕ)
          → mail_to k.line k.number old.supervision.engine
          (λ d. (stands_for k.line k.number clock book (record { registrar = rights; handovers = n }) mid
          states).expects d old.supervision.engine) mail e
          ≡ mail_to k.line k.number old.supervision.engine (expected_from new.expectations) mail e
      mail_left mail e = λ j. mail_to k.line k.number old.supervision.engine (λ d. expects_left d j) mail e

-- The frames of a step to each centre may be sent on links with the same state. There is room for them, or there are
-- none.
pub may_be_sent : (k : CentreCode) (event : Event) (clock : ℕ) (mid : List (Link Body)) (x : centre.Centre)
    (bodies : ℕ → List BodySent) (sayings : List Saying) (words : List Word) (link : Option Taken)
    (silence : Option Reason)
    → step.stamp_of (state_of k) event ≡ clock → ((d : ℕ) → sent_to mid d ≡ sent_to k.links d)
    → step.effect k.line k.number (step.ticked clock (state_of k)) event
    ≡ effect_of (replied x bodies sayings words) link silence
    → step.refusal k.line k.number (state_of k) event ≡ None → HasEventRanges k.line k.number event
    → ((d : ℕ) → has_link mid d ≡ is_linked k.line k.number d)
    → ((d : ℕ) → length (bodies d) ≤ 4) → ((d : ℕ) → has_link mid d ≡ true → length (bodies d) ≤ room_to mid d)
    → (d : ℕ) → MayPost mid d (bodies d)
may_be_sent k event clock mid x bodies sayings words link silence stamp same effect allowed ranges linked few room d =
    let sent : All (IsSentInRange k.line k.number d) (bodies d) =
    subst (λ (xs : List BodySent). All (IsSentInRange k.line k.number d) xs)
    ((λ i. (step.effect k.line k.number (step.ticked (stamp i) (state_of k)) event).reply.frames d)
    ∙ ap (λ (e : Effect). e.reply.frames d) effect)
    (sent_in k.line k.number (state_of k) event k.rules.line_rules allowed ranges k.rules.ranged d) in
    may_post k.line k.number k.clock k.book k.desk k.links mid k.trains.items d (bodies d)
    (Steps.allowed k.line k.number (state_of k) event allowed).1 (linked d) (same d) sent (few d) (room d)

module _ (k : CentreCode) (event : Event) (clock : ℕ) (mid new : List (Link Body)) (book : Pages) (desk : Desk)
    (states : List TrainState)
    (bodies : ℕ → List BodySent) (sayings : List Saying) (words : List Word) (link : Option Taken)
    (silence : Option Reason)
    (stamp : step.stamp_of (state_of k) event ≡ clock) (same : (d : ℕ) → sent_to mid d ≡ sent_to k.links d)
    (posted : HasPosted body_of clock bodies mid new)
    (effect : step.effect k.line k.number (step.ticked clock (state_of k)) event
    ≡ effect_of (replied (stands_for k.line k.number clock book desk mid states) bodies sayings words) link silence)
    (frames : ℕ → List Frame) (numbers : (d : ℕ) → frames d ≡ numbered clock (length (sent_to mid d)) (bodies d)) where
  -- the answer of the step, and the state that it leaves
  pub turns : (
    outcome_with clock frames sayings words link silence,
    stands_for k.line k.number clock book desk new states,
  )
      ≡ step.taken k.line k.number event (state_of k)
  turns =
      answers k.line k.number k.clock clock k.book book k.desk desk k.links mid new k.trains.items states bodies event
      stamp same posted sayings words link silence effect frames numbers _ refl

  pub stays : (sessions : Records) → 1 ≤ clock → step.refusal k.line k.number (state_of k) event ≡ None
      → HasEventRanges k.line k.number event → ((d : ℕ) → MayPost mid d (bodies d))
      → ((s : ℕ) → is_own book s ≡ is_own k.book s) → length desk.registrar ≡ length k.desk.registrar
      → AreLinks k.line k.number mid → AreTrains k.line k.number clock sessions states
      → IsCentre k.line k.number clock book desk sessions new states
  stays sessions low allowed ranges may homes count links trains =
      let early = (Steps.allowed k.line k.number (state_of k) event allowed).0 in
      left_by k event clock book desk sessions new states _ turns allowed ranges homes count
      (links_posted k.line k.number clock bodies mid new low (omega (arith, early, stamp)) may posted links) trains

-- the stamp of a message
pub heard_stamp : (k : CentreCode) (m : TrainMessage) → step.stamp_of (state_of k) (Train m) ≡ k.clock + 1
unfolding stands_for
heard_stamp k m = refl

-- the stamp of an event of the interlocking
pub set_stamp : (k : CentreCode) (s : ℕ) → step.stamp_of (state_of k) (Set s) ≡ k.clock + 1
unfolding stands_for
set_stamp k s = refl

pub unset_stamp : (k : CentreCode) (s : ℕ) → step.stamp_of (state_of k) (Unset s) ≡ k.clock + 1
unfolding stands_for
unset_stamp k s = refl

-- if an event is not refused, the stamp before its own is not the last one
pub in_time : (k : CentreCode) (event : Event) (stamp : ℕ) → step.stamp_of (state_of k) event ≡ stamp + 1
    → step.refusal k.line k.number (state_of k) event ≡ None → stamp < last_stamp
in_time k event stamp is allowed = let low = (Steps.allowed k.line k.number (state_of k) event allowed).0 in
    omega (arith, is, low)

pub heard_early : (k : CentreCode) (m : TrainMessage) → step.refusal k.line k.number (state_of k) (Train m) ≡ None
    → k.clock < last_stamp
heard_early k m = in_time k (Train m) k.clock (heard_stamp k m)

pub unset_early : (k : CentreCode) (s : ℕ) → step.refusal k.line k.number (state_of k) (Unset s) ≡ None
    → k.clock < last_stamp
unset_early k s = in_time k (Unset s) k.clock (unset_stamp k s)

-- the effect of a message that is taken, as the effect of the step
module _ (k : CentreCode) (event : Event) (t i : ℕ) (old : TrainState) (number : train_number k.line t ≡ Some i)
    (at : slice_get k.trains.items i ≡ Some old) (clock : ℕ)
    (new : TrainState) (book : Pages) (rights : Rights) (n : ℕ) (kept : KeepsTrain old new)
    (desk : KeepsDesk old.supervision.number k.book book k.desk.registrar rights) where
  pub takes : (r : Result Heard ReasonCode)
      → ((x : centre.Centre) → HasParts k.line k.number x old k.book k.desk.registrar
      → is_none (train_number k.line old.supervision.engine) ≡ false → x.announced ≡ k.desk.handovers
      → step.effect k.line k.number x event ≡ effect_left k.line k.number old.supervision.engine
      (with_count n (with_parts new book rights x)) r)
      → step.effect k.line k.number (step.ticked clock (state_of k)) event
      ≡ effect_left k.line k.number old.supervision.engine
      (stands_for k.line k.number clock book (record { registrar = rights; handovers = n }) k.links
      (set k.trains.items i new)) r
  takes r exact =
      ap (λ (x : centre.Centre). step.effect k.line k.number x event)
      (ticked_is k.line k.number k.clock clock k.book k.desk k.links k.trains.items)
      ∙ exact (stands_for k.line k.number clock k.book k.desk k.links k.trains.items)
      (parts k t i old number at clock k.links) (is_known k t i old number at)
      (announced_of k.line k.number clock k.book k.desk k.links k.trains.items)
      ∙ ap (λ (x : centre.Centre). effect_left k.line k.number old.supervision.engine x r)
      (left k t i old number at clock k.links new book rights n kept desk)

  -- and of one with an answer
  pub hears : (heard : Heard)
      → ((x : centre.Centre) → HasParts k.line k.number x old k.book k.desk.registrar
      → is_none (train_number k.line old.supervision.engine) ≡ false → x.announced ≡ k.desk.handovers
      → step.effect k.line k.number x event ≡ effect_left k.line k.number old.supervision.engine
      (with_count n (with_parts new book rights x)) (Ok heard))
      → step.effect k.line k.number (step.ticked clock (state_of k)) event
      ≡ effect_of
      (replied (stands_for k.line k.number clock book (record { registrar = rights; handovers = n }) k.links
      (set k.trains.items i new))
      (mail_to k.line k.number old.supervision.engine (expected_from new.expectations) heard.mail)
      (told_train heard.saying heard.order) (map (λ s. Told s) heard.told)) None None
  hears heard exact =
      takes (Ok heard) exact
      ∙ (λ j.
      effect_of
      (replied (stands_for k.line k.number clock book (record { registrar = rights; handovers = n }) k.links
      (set k.trains.items i new))
      (λ e. mail_left k t i old number at clock k.links new book rights n kept desk heard.mail e j)
      (told_train heard.saying heard.order) (map (λ s. Told s) heard.told)) None None)

-- ## Room

-- a centre that differs only in the room of its parts has the same state
pub state_same : (old new : CentreCode) → IsSame old new → state_of new ≡ state_of old
state_same old new same =
    (λ i. stands_for (same.line i) (same.number i) (same.clock i) (same.book i) (same.desk i) new.links
    ((same.trains i).items))
    ∙ stands_kept old.line old.number old.clock old.book old.desk old.links new.links old.trains.items same.links

-- a fact holds if a call fails too
pub on_err : {T E P : Type 0} (r : Result T E) → P → OnErr r P
on_err (Ok x) h = tt
on_err (Err e) h = h

-- ## The frames that were sent

-- the mail of a train went on the links, also by another name of the train
pub sent_by : (line : Line) (c t u stamp : ℕ) (e : ℕ → Option Expectation) (mail : Mail) (old new : List (Link Body))
    (frames : ℕ → List Frame) → t ≡ u → IsSent stamp (mail_to line c t e mail) old new frames
    → IsSent stamp (mail_to line c u e mail) old new frames
sent_by line c t u stamp e mail old new frames same sent =
    subst (λ (x : ℕ). IsSent stamp (mail_to line c x e mail) old new frames) same sent
