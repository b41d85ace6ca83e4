-- A law of each small move is a law of each step.
use Rattle.std.proofs.Common.{◌<◌, ◌∙◌, ◌≡◌, arith, Bool, false, if◌then◌else◌, is_none, is_some, None, not, Option}
use Rattle.std.proofs.Common.{refl, slice_get, Some, true, ℕ}
use Rattle.std.specs.Option.{option_map_or}
use Rattle.law_base.proofs.WalkLemmas.Acts.{close_session_walks, propose_if_walks}
use Rattle.law_base.proofs.WalkLemmas.Causes.{data_known, May, Message, no_proposal, said_now, setting}
use Rattle.law_base.proofs.WalkLemmas.FrameAnswers.{of_taking, received_taking}
use Rattle.law_base.proofs.WalkLemmas.Frames.{frame_may}
use Rattle.law_base.proofs.WalkLemmas.Messages.{answer_granted_walks, end_mission_walks, report_walks, request_walks}
use Rattle.law_base.proofs.WalkLemmas.Messages.{start_mission_walks}
use Rattle.law_base.proofs.WalkLemmas.Moves.{Answer, both, branch, by_bool, changes, Closed, hears, joined, makes, Move}
use Rattle.law_base.proofs.WalkLemmas.Moves.{nothing_waits, of_walk, phases, resting, rests, says, step, tells, Walk}
use Rattle.law_base.proofs.WalkLemmas.Moves.{Walks, wishes, withdraws}
use Rattle.rbc_spec.proofs.Lists.{none_passes}
use Rattle.rbc_spec.specs.Acts.{◌>>◌, Act, become, change_mission, hear, Reply, rest, say}
use Rattle.rbc_spec.specs.Centre.{Centre, Entry, is_out_for, is_unused, Open, Opened, Out, Shut, Taken, Up}
use Rattle.rbc_spec.specs.Frame.{Body, Frame}
use Rattle.rbc_spec.specs.Line.{is_home, Line, train_number}
use Rattle.rbc_spec.specs.Links.{is_train, received}
use Rattle.rbc_spec.specs.Maps.{put}
use Rattle.rbc_spec.specs.Message.{DataAcknowledged, EndOfMission, InitiationOfSession, Report, Request}
use Rattle.rbc_spec.specs.Message.{SessionEstablished, ShorteningGranted, ShorteningRejected, StartOfMission}
use Rattle.rbc_spec.specs.Message.{SystemVersion, TerminationAcknowledged, TerminationOfSession, TrainBody, TrainData}
use Rattle.rbc_spec.specs.Message.{TrainMessage, unknown_group}
use Rattle.rbc_spec.specs.Outcome.{Asked, Done, Early, ForeignEngine, Next, NoLink, NotHome, Old, Reason, reasons_of}
use Rattle.rbc_spec.specs.Outcome.{Taken as LinkAnswer}
use Rattle.rbc_spec.specs.Rules.{answered, close_session, set_phase, tell}
use Rattle.rbc_spec.specs.Step.{Deliver, Effect, effect, Event, hear_and_answer, holds, link_answer, make, Set, set}
use Rattle.rbc_spec.specs.Step.{silence, stamp_of, taken_by, Train, Unset, unset, wished}

-- ## A train's message

-- a handover is announced only after a request
abbrev pub may_announce : TrainBody → Bool
may_announce (Request position) = true
may_announce body = false

-- the interlocking may get replies if sections may leave a train
abbrev pub may_speak : TrainBody → Bool
may_speak (Report position) = true
may_speak (ShorteningGranted stamp position) = true
may_speak (EndOfMission position) = true
may_speak InitiationOfSession = true
may_speak TerminationOfSession = true
may_speak body = false

abbrev pub may_do : TrainMessage → TrainBody → May
may_do m body =
    record {
      announces = may_announce body;
      speaks = may_speak body;
      expects = false;
      train = Some m.nid_engine;
      yields = None;
      cause = Message (record m { body = body });
    }

module _ (line : Line) (c : ℕ) (was : Centre) where
  pub answered_walks : (m : TrainMessage) (body : TrainBody)
      → Walk line c (may_do m body) was was (answered line c m body was)
  answered_walks m (TrainData position) = joined (change_mission m.nid_engine (λ n. record n { has_data = true }))
      (say m.nid_engine unknown_group (DataAcknowledged m.t_train)) was
      (step line c (may_do m (TrainData position)) was
      (changes m.nid_engine (λ n. record n { has_data = true }) was data_known))
      (step line c (may_do m (TrainData position)) was
      (says m.nid_engine unknown_group (DataAcknowledged m.t_train) _))
  answered_walks m (Request position) = request_walks line c (may_do m (Request position)) was
      m.nid_engine refl refl position refl
  answered_walks m (Report position) = report_walks line c (may_do m (Report position)) was m.nid_engine
      refl refl position refl was
  answered_walks m (ShorteningGranted stamp position) =
      answer_granted_walks line c (may_do m (ShorteningGranted stamp position)) was m.nid_engine refl refl position was
  answered_walks m (ShorteningRejected stamp position) =
      step line c (may_do m (ShorteningRejected stamp position)) was
      (changes m.nid_engine (λ n. record n { proposal = None }) was no_proposal)
  answered_walks m (EndOfMission position) =
      end_mission_walks line c (may_do m (EndOfMission position)) was m.nid_engine refl refl position refl was
  answered_walks m InitiationOfSession =
      both line c (may_do m InitiationOfSession) was (close_session line c m.nid_engine
      >> set_phase m.nid_engine Opened) (say m.nid_engine unknown_group SystemVersion)
      (both line c (may_do m InitiationOfSession) was (close_session line c m.nid_engine)
      (set_phase m.nid_engine Opened) (close_session_walks line c (may_do m InitiationOfSession) was m.nid_engine
      refl) (λ k. step line c (may_do m InitiationOfSession) was (phases m.nid_engine Opened k)))
      (λ k. step line c (may_do m InitiationOfSession) was (says m.nid_engine unknown_group SystemVersion k)) was
  answered_walks m TerminationOfSession =
      both line c (may_do m TerminationOfSession) was (close_session line c m.nid_engine)
      (say m.nid_engine unknown_group TerminationAcknowledged)
      (close_session_walks line c (may_do m TerminationOfSession) was m.nid_engine refl)
      (λ k. step line c (may_do m TerminationOfSession) was (says m.nid_engine unknown_group TerminationAcknowledged k))
      was
  answered_walks m (StartOfMission is_valid position) =
      start_mission_walks line c (may_do m (StartOfMission is_valid position)) was m.nid_engine
      refl is_valid position refl
  answered_walks m SessionEstablished = step line c (may_do m SessionEstablished) was (phases m.nid_engine Up was)

-- # A property of each small move holds of each step.

-- a message that is answered is of a train of the line
pub heard_train : (line : Line) (c : ℕ) (k : Centre) (m : TrainMessage) → silence line c k m ≡ None
    → is_train line m.nid_engine ≡ true
heard_train line c k m heard = known (train_number line m.nid_engine)
    (none_passes (holds line c k m) (reasons_of m.body) 0 ForeignEngine heard (first m.body))
  where
    first : (body : TrainBody) → slice_get (reasons_of body) 0 ≡ Some ForeignEngine
    first (TrainData position) = refl
    first (Request position) = refl
    first (Report position) = refl
    first (ShorteningGranted stamp position) = refl
    first (ShorteningRejected stamp position) = refl
    first (EndOfMission position) = refl
    first InitiationOfSession = refl
    first TerminationOfSession = refl
    first (StartOfMission is_valid position) = refl
    first SessionEstablished = refl

    known : (o : Option ℕ) → is_none o ≡ false → is_some o ≡ true
    known None is = cc
    known (Some n) is = refl

-- from the state in which the message is recorded
pub heard_walks : (line : Line) (c : ℕ) (m : TrainMessage) (k : Centre)
    → Walk line c (may_do m m.body) (hear m k).state k (hear_and_answer line c m k)
heard_walks line c m k = joined (hear m) (answered line c m m.body) k
    (step line c (may_do m m.body) (hear m k).state (hears m.nid_engine (Some m.t_train) k (said_now m refl)))
    (answered_walks line c (hear m k).state m m.body)

module _ (line : Line) (c : ℕ) (may : May) (was : Centre) where
  abbrev Goes : Act → Type 0
  Goes act = Walks line c may was act

  made : (s : ℕ) (entry : Entry) (wish : Bool) → ((t : ℕ) → is_out_for t entry ≡ false) → Goes (make s entry wish)
  made s entry wish unused k = step line c may was (makes s entry wish k unused)

  done_walks : may.speaks ≡ true → (s : ℕ) → Goes (tell (Done s))
  done_walks speaks s k = step line c may was (tells (Done s) k speaks)

  wish_walks : (s : ℕ) (wish : Bool) → Goes (become (λ j. record j { wish = put j.wish s wish }))
  wish_walks s wish k = step line c may was (wishes s wish k)

  pub wished_walks : (s : ℕ) → is_home line c s ≡ true → (e : Entry) (k : Centre) → k.book s ≡ e
      → Walk line c may was k (wished line c s e k)
  wished_walks s home Shut k at = resting line c may was k
  wished_walks s home Open k at = resting line c may was k
  wished_walks s home (Taken t) k at = propose_if_walks line c may was t s k
  wished_walks s home (Out t) k at = step line c may was (withdraws t s k home at)

  pub set_walks : may.speaks ≡ true → (s : ℕ) → Goes (set line c s)
  set_walks speaks s k = by_bool line c may was (not (is_home line c s)) (tell (NotHome s) k) _ k
      (λ so. step line c may was (tells (NotHome s) k speaks))
      (λ so. both line c may was (become (λ j. record j { wish = put j.wish s false }))
      ((if is_unused (k.book s) then make s Open false else rest) >> tell (Done s)) (wish_walks s false)
      (both line c may was (if is_unused (k.book s) then make s Open false else rest) (tell (Done s))
      (branch line c may was (is_unused (k.book s)) (make s Open false) rest (made s Open false (λ t. refl))
      (resting line c may was)) (done_walks speaks s)) k)

  pub unset_walks : may.speaks ≡ true → (s : ℕ) → Goes (unset line c s)
  unfolding ◌>>◌
  unset_walks speaks s k = by_home (is_home line c s) refl
    where
      asks : Act
      asks = become (λ j. record j { wish = put j.wish s true }) >> tell (Asked s)

      by_use : is_home line c s ≡ true → (b : Bool)
          → Walk line c may was k
          ((if b then (make s Shut false >> tell (Done s)) else (asks >> wished line c s (k.book s))) k)
      by_use home true = both line c may was (make s Shut false) (tell (Done s)) (made s Shut false (λ t. refl))
          (done_walks speaks s) k
      by_use home false = joined asks (wished line c s (k.book s)) k
          (both line c may was (become (λ j. record j { wish = put j.wish s true })) (tell (Asked s))
          (wish_walks s true) (λ j. step line c may was (tells (Asked s) j speaks)) k)
          (wished_walks s home (k.book s) (asks k).state refl)

      by_home : (b : Bool) → is_home line c s ≡ b → Walk line c may was k (if not b then tell (NotHome s) k
          else (if is_unused (k.book s) then (make s Shut false >> tell (Done s)) else
          (asks >> wished line c s (k.book s))) k)
      by_home false away = step line c may was (tells (NotHome s) k speaks)
      by_home true home = by_use home (is_unused (k.book s))

-- ## Properties of each small move

module _ (line : Line) (c : ℕ) (P : Centre → Reply → Type 0)
    (closed : (may : May) (was : Centre) → Closed line c may was P) where
  pub of_message : (m : TrainMessage) (k : Centre) → P k (hear_and_answer line c m k)
  of_message m k = of_walk line c (may_do m m.body) (hear m k).state P (closed (may_do m m.body) (hear m k).state) k
      (hear_and_answer line c m k) (heard_walks line c m k)

  pub of_train : (m : TrainMessage) (k : Centre) → P k (effect line c k (Train m)).reply
  of_train m k = by_silence (silence line c k m)
    where
      by_silence : (o : Option Reason)
          → P k (option_map_or {U = Effect} (λ why. record { reply = rest k; link = None; silence = Some why }) o
          (record { reply = hear_and_answer line c m k; link = None; silence = None })).reply
      by_silence (Some why) = (closed setting k).moves k (rest k) (rests k)
      by_silence None = of_message m k

  pub of_set : (s : ℕ) (k : Centre) → P k (set line c s k)
  of_set s k = of_walk line c setting k P (closed setting k) k (set line c s k) (set_walks line c setting k refl s k)

  pub of_unset : (s : ℕ) (k : Centre) → P k (unset line c s k)
  of_unset s k = of_walk line c setting k P (closed setting k) k (unset line c s k)
      (unset_walks line c setting k refl s k)

  module _ (answered : (may : May) (was : Centre) (d : ℕ) (body : Body) (q : Reply)
      → Answer line c may was d body q → P was q) where
    pub of_frame : (d : ℕ) (body : Body) (k : Centre) → P k (received line c d body k)
    of_frame d body k = of_taking line c d k body P (closed (frame_may d body) k) (answered (frame_may d body) k d body)
        (received line c d body k) (received_taking line c d k body)

    -- the count of taken frames is not a small move
    module _ (counted : (d number : ℕ) (k : Centre)
        → P k (become (λ j. record j { taken = put j.taken d number }) k)) where
      of_taken : (d : ℕ) (f : Frame) (answer : LinkAnswer) (k : Centre) → P k (taken_by line c d f answer k)
      of_taken d f Next k = (closed setting k).joins (become (λ j. record j { taken = put j.taken d f.number }))
          (received line c d f.body) k (counted d f.number k) (of_frame d f.body _)
      of_taken d f Old k = (closed setting k).moves k (rest k) (rests k)
      of_taken d f Early k = (closed setting k).moves k (rest k) (rests k)
      of_taken d f NoLink k = (closed setting k).moves k (rest k) (rests k)

      pub of_effect : (event : Event) (k : Centre) → P k (effect line c k event).reply
      of_effect (Train m) k = of_train m k
      of_effect (Set s) k = of_set s k
      of_effect (Unset s) k = of_unset s k
      of_effect (Deliver d f) k = of_taken d f (link_answer line c k d f) k

-- # The stamp of a step is above its centre's clock, which no step touches beyond that.

pub stamp_above : (k : Centre) (event : Event) → k.clock < stamp_of k event
stamp_above k (Train m) = omega arith
stamp_above k (Set s) = omega arith
stamp_above k (Unset s) = omega arith
stamp_above k (Deliver d f) = omega arith

-- the act keeps the clock
abbrev KeepsClock : Centre → Reply → Type 0
KeepsClock k q = q.state.clock ≡ k.clock

joins : (a b : Act) (k : Centre) → KeepsClock k (a k) → KeepsClock (a k).state (b (a k).state)
    → KeepsClock k ((a >> b) k)
unfolding ◌>>◌
joins a b k one two = two ∙ one

module _ (line : Line) (c : ℕ) where
  moves : (may : May) (was k : Centre) (q : Reply) → Move line c may was k q → KeepsClock k q
  moves may was _ _ (rests k) = refl
  moves may was k q move = refl

  answers : (may : May) (was : Centre) (d : ℕ) (body : Body) (q : Reply)
      → Answer line c may was d body q → KeepsClock was q
  answers may was d _ _ (nothing_waits t asked none) = refl
  answers may was d body q answer = refl

  pub clock_kept : (event : Event) (k : Centre) → (effect line c k event).reply.state.clock ≡ k.clock
  clock_kept = of_effect line c KeepsClock (λ may was. record { moves = moves may was; joins = joins })
      answers (λ d number k. refl)
