-- The frames of a train's message: one without an effect on another centre sends none, and needs no room.
use Rattle.std.proofs.Common.{[], ◌++◌, ◌+◌, ◌∙◌, ◌≡◌, ◌≤◌, ◌⊎◌, ap, arith, Bool, false, inl, inr, is_none, length}
use Rattle.std.proofs.Common.{List, map, None, Ok, Option, refl, slice_get, Some, sym, true, ℕ}
use Rattle.std.specs.Option.{option_map_or}
use Rattle.law_invariants.specs.Ranges.Ranges.{HasMessageRanges}
use Rattle.rbc_book.specs.Book.{Pages}
use Rattle.rbc_centre.proofs.Posts.{mail_few}
use Rattle.rbc_centre.proofs.Steps.{effect_of, replied}
use Rattle.rbc_centre.proofs.Turns.{heard_stamp, hears, may_be_sent}
use Rattle.rbc_centre.specs.declared.centre.Centre.{Centre as CentreCode}
use Rattle.rbc_centre.specs.Posts.{MayPost}
use Rattle.rbc_centre.specs.Rooms.{HasFrameRoom}
use Rattle.rbc_centre.specs.States.{state_of}
use Rattle.rbc_handover.specs.Expectations.{expected_from}
use Rattle.rbc_handover.specs.Giving.{with_count}
use Rattle.rbc_link.specs.Links.{has_link, HasRoom, room_to}
use Rattle.rbc_right.specs.Rights.{Rights}
use Rattle.rbc_spec.specs.Acts.{◌>>◌, Act, become, change_mission, freed, hear, Reply, rest, say}
use Rattle.rbc_spec.specs.Centre as centre
use Rattle.rbc_spec.specs.Centre.{Centre, Closed, is_taken_for, Opened}
use Rattle.rbc_spec.specs.Frame.{Body as BodySent}
use Rattle.rbc_spec.specs.Line.{Line, train_number}
use Rattle.rbc_spec.specs.Maps.{put}
use Rattle.rbc_spec.specs.Message.{EndOfMission, InitiationOfSession, Report, Request, SessionEstablished}
use Rattle.rbc_spec.specs.Message.{ShorteningGranted, ShorteningRejected, StartOfMission, SystemVersion}
use Rattle.rbc_spec.specs.Message.{TerminationAcknowledged, TerminationOfSession, TrainBody, TrainData, TrainMessage}
use Rattle.rbc_spec.specs.Message.{unknown_group}
use Rattle.rbc_spec.specs.Outcome.{Reason, Saying, Taken, Told, Word}
use Rattle.rbc_spec.specs.Place.{covered}
use Rattle.rbc_spec.specs.Rules.{answered, close_session, drop_wait, set_phase}
use Rattle.rbc_spec.specs.Step as step
use Rattle.rbc_spec.specs.Step.{Effect, effect, hear_and_answer, silence, Train}
use Rattle.rbc_train.specs.declared.heard.Heard.{Heard}
use Rattle.rbc_train.specs.declared.train.TrainState.{TrainState}
use Rattle.rbc_train.specs.Desk.{effect_left, HasParts, KeepsDesk, KeepsTrain, with_parts}
use Rattle.rbc_train.specs.Letters.{mail_to, tells_others}
use Rattle.rbc_train.specs.Sayings.{told_train}

-- ## A message without an effect on another centre sends no frame

module _ (d : ℕ) where
  by_reply : {X : Type 0} (o : Option X) (f : X → Reply) (r : Reply) → ((x : X) → (f x).frames d ≡ []) → r.frames d ≡ []
      → (option_map_or f o r).frames d ≡ []
  by_reply (Some x) f r each none = each x
  by_reply None f r each none = none

  by_effect : {X : Type 0} (o : Option X) (f : X → Effect) (e : Effect) → ((x : X) → (f x).reply.frames d ≡ [])
      → e.reply.frames d ≡ [] → (option_map_or f o e).reply.frames d ≡ []
  by_effect (Some x) f e each none = each x
  by_effect None f e each none = none

  both : (a b : Act) (k : Centre) → (a k).frames d ≡ [] → (b (a k).state).frames d ≡ [] → ((a >> b) k).frames d ≡ []
  unfolding ◌>>◌
  both a b k first second = ap (λ xs. xs ++ (b (a k).state).frames d) first ∙ second

  module _ (line : Line) (c : ℕ) where
    drops : (t : ℕ) (k : Centre) → (drop_wait line c t k).frames d ≡ []
    drops t k =
        by_reply (k.wait t) _ (rest k)
        (λ place. both (freed line c (is_taken_for t) (covered line place))
        (become (λ j. record j { wait = put j.wait t None })) k refl refl) refl

    closes : (t : ℕ) (k : Centre) → (close_session line c t k).frames d ≡ []
    closes t k =
        both (set_phase t Closed >> change_mission t (λ m. record m { proposal = None })) (drop_wait line c t) k
        (both (set_phase t Closed) (change_mission t (λ m. record m { proposal = None })) k refl refl)
        (drops t ((set_phase t Closed >> change_mission t (λ m. record m { proposal = None })) k).state)

    answers_nothing : (m : TrainMessage) (k : Centre) (body : TrainBody) → tells_others body ≡ false
        → (answered line c m body k).frames d ≡ []
    answers_nothing m k (TrainData position) tells =
        both (change_mission m.nid_engine (λ n. record n { has_data = true }))
        (say m.nid_engine unknown_group _) k refl refl
    answers_nothing m k (Request position) tells = cc
    answers_nothing m k (Report position) tells = cc
    answers_nothing m k (ShorteningGranted stamp position) tells = cc
    answers_nothing m k (ShorteningRejected stamp position) tells = refl
    answers_nothing m k (EndOfMission position) tells = cc
    answers_nothing m k InitiationOfSession tells =
        both (close_session line c m.nid_engine >> set_phase m.nid_engine Opened)
        (say m.nid_engine unknown_group SystemVersion) k
        (both (close_session line c m.nid_engine) (set_phase m.nid_engine Opened) k (closes m.nid_engine k) refl) refl
    answers_nothing m k TerminationOfSession tells =
        both (close_session line c m.nid_engine) (say m.nid_engine unknown_group TerminationAcknowledged) k
        (closes m.nid_engine k) refl
    answers_nothing m k (StartOfMission is_valid position) tells = cc
    answers_nothing m k SessionEstablished tells = refl

    pub sends_nothing : (m : TrainMessage) (k : Centre) → tells_others m.body ≡ false
        → (effect line c k (Train m)).reply.frames d ≡ []
    sends_nothing m k tells =
        by_effect (silence line c k m) (λ why. record { reply = rest k; link = None; silence = Some why })
        (record { reply = hear_and_answer line c m k; link = None; silence = None })
        (λ why. refl) (both (hear m) (answered line c m m.body) k refl
        (answers_nothing m (hear m k).state m.body tells))

-- ## Room for the frames of a message

-- a message without an effect on another centre needs none
pub heard_room : (k : CentreCode) (m : TrainMessage) (clock : ℕ) (x : centre.Centre) (bodies : ℕ → List BodySent)
    (sayings : List Saying) (words : List Word) (link : Option Taken) (silence : Option Reason)
    → step.effect k.line k.number (step.ticked clock (state_of k)) (Train m)
    ≡ effect_of (replied x bodies sayings words) link silence → ((d : ℕ) → length (bodies d) ≤ 4)
    → (tells_others m.body ≡ true → HasRoom k.links 4) → (d : ℕ) → has_link k.links d ≡ true
    → length (bodies d) ≤ room_to k.links d
heard_room k m clock x bodies sayings words link silence effect few room d linked = by (tells_others m.body) refl
  where
    by : (b : Bool) → tells_others m.body ≡ b → length (bodies d) ≤ room_to k.links d
    by true tells = let most = room tells d linked in let count = few d in omega (arith, most, count)
    by false silent =
        let none : bodies d ≡ [] = sym (ap (λ (e : Effect). e.reply.frames d) effect)
        ∙ sends_nothing d k.line k.number m (step.ticked clock (state_of k)) silent in
        let count = ap length none in omega (arith, count)

-- the frames of a message with an answer may be sent
pub heard_may : (k : CentreCode) (m : TrainMessage) (t i : ℕ) (old : TrainState)
    (number : train_number k.line t ≡ Some i) (at : slice_get k.trains.items i ≡ Some old)
    (new : TrainState) (book : Pages) (rights : Rights) (n : ℕ) (kept : KeepsTrain old new)
    (desk : KeepsDesk old.supervision.number k.book book k.desk.registrar rights) (heard : Heard)
    → ((x : centre.Centre) → HasParts k.line k.number x old k.book k.desk.registrar
    → is_none (train_number k.line old.supervision.engine) ≡ false → x.announced ≡ k.desk.handovers
    → step.effect k.line k.number x (Train m)
    ≡ effect_left k.line k.number old.supervision.engine (with_count n (with_parts new book rights x)) (Ok heard))
    → step.refusal k.line k.number (state_of k) (Train m) ≡ None → HasMessageRanges m
    → (tells_others m.body ≡ true → HasRoom k.links 4)
    → (d : ℕ)
    → MayPost k.links d (mail_to k.line k.number old.supervision.engine (expected_from new.expectations) heard.mail d)
heard_may k m t i old number at new book rights n kept desk heard exact allowed ranges room =
    let bodies = mail_to k.line k.number old.supervision.engine (expected_from new.expectations) heard.mail in
    let sayings = told_train heard.saying heard.order in
    let words : List Word = map (λ s. Told s) heard.told in
    let few = mail_few k.line k.number old.supervision.engine (expected_from new.expectations) heard.mail in
    let effect = hears k (Train m) t i old number at (k.clock + 1) new book rights n kept desk heard exact in
    may_be_sent k (Train m) (k.clock + 1) k.links _ bodies sayings words None None (heard_stamp k m) (λ d. refl) effect
    allowed (k.rules.of_line, ranges) k.rules.all_links.linked few
    (heard_room k m (k.clock + 1) _ bodies sayings words None None effect few room)

-- there is room for the frames of a message with an answer, if there are some
pub heard_frames : (k : CentreCode) (m : TrainMessage) (t i : ℕ) (old : TrainState)
    (number : train_number k.line t ≡ Some i) (at : slice_get k.trains.items i ≡ Some old)
    (new : TrainState) (book : Pages) (rights : Rights) (n : ℕ) (kept : KeepsTrain old new)
    (desk : KeepsDesk old.supervision.number k.book book k.desk.registrar rights) (heard : Heard)
    → ((x : centre.Centre) → HasParts k.line k.number x old k.book k.desk.registrar
    → is_none (train_number k.line old.supervision.engine) ≡ false → x.announced ≡ k.desk.handovers
    → step.effect k.line k.number x (Train m)
    ≡ effect_left k.line k.number old.supervision.engine (with_count n (with_parts new book rights x)) (Ok heard))
    → (tells_others m.body ≡ true → HasFrameRoom k.room) → (d : ℕ)
    → (mail_to k.line k.number old.supervision.engine (expected_from new.expectations) heard.mail d ≡ [])
    ⊎ HasFrameRoom k.room
heard_frames k m t i old number at new book rights n kept desk heard exact room d = by (tells_others m.body) refl
  where
    bodies : ℕ → List BodySent
    bodies = mail_to k.line k.number old.supervision.engine (expected_from new.expectations) heard.mail

    by : (b : Bool) → tells_others m.body ≡ b → (bodies d ≡ []) ⊎ HasFrameRoom k.room
    by true tells = inr (room tells)
    by false silent =
        let effect = hears k (Train m) t i old number at (k.clock + 1) new book rights n kept desk heard exact in
        inl (sym (ap (λ (e : Effect). e.reply.frames d) effect)
        ∙ sends_nothing d k.line k.number m (step.ticked (k.clock + 1) (state_of k)) silent)
