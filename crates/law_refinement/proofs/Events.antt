-- Each event of a line is met by the one line centre.
use Rattle.std.proofs.Common.{◌∙◌, ◌≡◌, ap, Bool, Err, false, if◌then◌else◌, List, None, Ok, Option, refl, Result, Some}
use Rattle.std.proofs.Common.{subst, sym, true, ℕ}
use Rattle.std.proofs.lemmas.Option.{same_Some}
use Rattle.std.specs.Option.{option_map_or}
use Rattle.law_invariants.proofs.FlowLemmas.Steps.{next_sent}
use Rattle.law_invariants.proofs.HandoverLemmas.Worlds.{linked_next, sent_between, world_step_sound}
use Rattle.law_invariants.specs.Flow.Flow.{flow_of, in_world}
use Rattle.law_invariants.specs.Flow.Shows.{Shows}
use Rattle.law_refinement.proofs.Pieces.{frame_met, message_met, set_met, unset_met}
use Rattle.law_refinement.proofs.Silence.{silent_by_clock}
use Rattle.law_refinement.proofs.Still.{silent_met, stray_met}
use Rattle.law_refinement.specs.Announced.{IsAnnounced}
use Rattle.law_refinement.specs.Meets.{Meets, StaysWith}
use Rattle.rbc_spec.proofs.Worlds.{same_ok}
use Rattle.rbc_spec.specs.Acts.{rest}
use Rattle.rbc_spec.specs.Centre.{Centre}
use Rattle.rbc_spec.specs.Frame.{Frame}
use Rattle.rbc_spec.specs.Line.{is_centre, is_linked, IsLine, Line}
use Rattle.rbc_spec.specs.LineCentre.{LineState}
use Rattle.rbc_spec.specs.Message.{TrainMessage}
use Rattle.rbc_spec.specs.Outcome as outcome
use Rattle.rbc_spec.specs.Outcome.{Early, Next, NoLink, Old, Outcome, Reason}
use Rattle.rbc_spec.specs.Run.{Goes, Piece}
use Rattle.rbc_spec.specs.Step as step
use Rattle.rbc_spec.specs.Step.{Effect, link_answer, outcome_of, Refusal, stamp_of, state_after, taken_by}
use Rattle.rbc_spec.specs.World.{Answer, Answered, at_centre, Bytes, centre_of, Delivery, Event, Fault, frame_sent}
use Rattle.rbc_spec.specs.World.{mention, NoCentre, NotSent, Set, stepped, takes, Unset, World, world_step}

module _ (line : Line) (w : World) (v : LineState) (meets : Meets line w v)
    (G : Event → Answer → LineState → Type 0) where
  -- A property of an answer holds if nothing is done. That is so for bytes with a fault, a centre not of the line, and
  -- a frame never sent.
  pub record StandsStill : Type 0 where
    pub fault : (c number : ℕ) → is_centre line c ≡ true → G (Bytes c (Err number)) (Fault number) v
    pub bytes_nowhere : (c : ℕ) (read : Result TrainMessage ℕ) → is_centre line c ≡ false → G (Bytes c read) NoCentre v
    pub set_nowhere : (c s : ℕ) → is_centre line c ≡ false → G (Set c s) NoCentre v
    pub unset_nowhere : (c s : ℕ) → is_centre line c ≡ false → G (Unset c s) NoCentre v
    pub not_sent : (a b number : ℕ) → G (Delivery a b number) NotSent v

  -- the one line centre goes on so with this answer
  abbrev pub GoesOn : Event → Answer × World → Type 0
  GoesOn event x = (u : LineState) × G event x.0 u × Shows line (flow_of x.1) u

  abbrev pub Leaves : Event → Result (Answer × World) Refusal → Type 0
  Leaves event r = (answer : Answer) (new : World) → r ≡ Ok (answer, new) → GoesOn event (answer, new)

  stands_still : (event : Event) (answer : Answer) → G event answer v → Leaves event (Ok (answer, w))
  stands_still event answer goes other new is =
      subst (GoesOn event) (same_ok (answer, w) (other, new) is) (v, goes, meets.shows)

  stepped_goes : (event : Event) (c : ℕ) (trains : List ℕ) (o : Option Refusal) (x : Outcome × Centre)
      → GoesOn event (Answered x.0, in_world w c x.1 trains)
      → Leaves event (stepped w c trains (option_map_or (λ why. Err why) o (Ok x)))
  stepped_goes event c trains (Some why) x goes answer new is = cc
  stepped_goes event c trains None x goes answer new is =
      subst (GoesOn event) (same_ok (Answered x.0, in_world w c x.1 trains) (answer, new) is) goes

  -- the step of a centre goes on so
  abbrev pub MetBy : ℕ → List ℕ → Event → step.Event → Type 0
  MetBy c trains event own =
      GoesOn event (Answered (step.taken line c own (w.at c)).0, in_world w c (step.taken line c own (w.at c)).1 trains)

  takes_goes : (event : Event) (c : ℕ) (trains : List ℕ) (own : step.Event) → MetBy c trains event own
      → Leaves event (takes line w c trains own)
  unfolding step.step
  takes_goes event c trains own met = stepped_goes event c trains (step.refusal line c (w.at c) own)
      (step.taken line c own (w.at c)) met

  at_goes : (event : Event) (c : ℕ) (done : Result (Answer × World) Refusal)
      → (is_centre line c ≡ true → Leaves event done) → (is_centre line c ≡ false → G event NoCentre v)
      → Leaves event (at_centre line w c done)
  at_goes event c done here nowhere = chosen (is_centre line c) here nowhere
    where
      chosen : (b : Bool) → (b ≡ true → Leaves event done) → (b ≡ false → G event NoCentre v)
          → Leaves event (if b then done else Ok (NoCentre, w))
      chosen true h g = h refl
      chosen false h g = stands_still event NoCentre (g refl)

  pub message_goes : StandsStill → (c : ℕ) (m : TrainMessage)
      → (is_centre line c ≡ true → MetBy c (mention line m.nid_engine w.trains) (Bytes c (Ok m)) (step.Train m))
      → Leaves (Bytes c (Ok m)) (world_step line w (Bytes c (Ok m)))
  unfolding world_step
  message_goes still c m met =
      at_goes (Bytes c (Ok m)) c _ (λ to. takes_goes (Bytes c (Ok m)) c (mention line m.nid_engine w.trains)
      (step.Train m) (met to)) (still.bytes_nowhere c (Ok m))

  pub fault_goes : StandsStill → (c number : ℕ)
      → Leaves (Bytes c (Err number)) (world_step line w (Bytes c (Err number)))
  unfolding world_step
  fault_goes still c number =
      at_goes (Bytes c (Err number)) c _ (λ to. stands_still (Bytes c (Err number)) (Fault number)
      (still.fault c number to)) (still.bytes_nowhere c (Err number))

  pub set_goes : StandsStill → (c s : ℕ) → (is_centre line c ≡ true → MetBy c w.trains (Set c s) (step.Set s))
      → Leaves (Set c s) (world_step line w (Set c s))
  unfolding world_step
  set_goes still c s met = at_goes (Set c s) c _ (λ to. takes_goes (Set c s) c w.trains (step.Set s) (met to))
      (still.set_nowhere c s)

  pub unset_goes : StandsStill → (c s : ℕ) → (is_centre line c ≡ true → MetBy c w.trains (Unset c s) (step.Unset s))
      → Leaves (Unset c s) (world_step line w (Unset c s))
  unfolding world_step
  unset_goes still c s met = at_goes (Unset c s) c _ (λ to. takes_goes (Unset c s) c w.trains (step.Unset s) (met to))
      (still.unset_nowhere c s)

  pub delivery_goes : StandsStill → (a b number : ℕ)
      → ((f : Frame) → frame_sent w a b number ≡ Some f → is_centre line b ≡ true
      → MetBy b w.trains (Delivery a b number) (step.Deliver a f))
      → Leaves (Delivery a b number) (world_step line w (Delivery a b number))
  unfolding world_step
  delivery_goes still a b number met = by_frame (frame_sent w a b number) refl
    where
      by_frame : (o : Option Frame) → frame_sent w a b number ≡ o
          → Leaves (Delivery a b number)
          (option_map_or (λ f. takes line w b w.trains (step.Deliver a f)) o (Ok (NotSent, w)))
      by_frame None sent = stands_still (Delivery a b number) NotSent (still.not_sent a b number)
      by_frame (Some f) sent = let to = (sent_between line w meets.sound.flow a b number f sent).1 in
          takes_goes (Delivery a b number) b w.trains (step.Deliver a f) (met f sent to)

-- ## Events without an effect

module _ (line : Line) (ok : IsLine line) (w : World) (v : LineState) (meets : Meets line w v) where
  -- the one line centre stays as it is
  abbrev Still : Event → Answer → LineState → Type 0
  Still event answer u = (u ≡ v) × Goes line v event answer u

  standing : StandsStill line w v meets Still
  standing = record {
    fault = λ c number to. (refl, (to, refl, refl));
    bytes_nowhere = λ c read away. (refl, (away, refl));
    set_nowhere = λ c s away. (refl, (away, refl));
    unset_nowhere = λ c s away. (refl, (away, refl));
    not_sent = λ a b number. (refl, refl);
  }

  stays_with : (event : Event) → Leaves line w v meets Still event (world_step line w event) → StaysWith line w v event
  stays_with event leaves answer new is = let went = leaves answer new is in
      subst (λ (u : LineState). Goes line v event answer u × Meets line new u) went.1.0
      (went.1.1, record { sound = world_step_sound line ok w meets.sound event answer new is; shows = went.2 })

  abbrev Stood : ℕ → ℕ → List ℕ → Event → Effect → Type 0
  Stood c stamp trains event e = (u : LineState) × ((u ≡ v) × Piece line v event (outcome_of stamp (w.at c) e) u)
      × Shows line (flow_of (in_world w c (state_after stamp (w.at c) e) trains)) u

  pub silent_stays : (c : ℕ) (m : TrainMessage) (why : Reason) → step.silence line c (w.at c) m ≡ Some why
      → StaysWith line w v (Bytes c (Ok m))
  silent_stays c m why is = stays_with (Bytes c (Ok m)) (message_goes line w v meets Still standing c m met)
    where
      stamp : ℕ
      stamp = stamp_of (w.at c) (step.Train m)

      met : is_centre line c ≡ true → MetBy line w v meets Still c (mention line m.nid_engine w.trains)
          (Bytes c (Ok m)) (step.Train m)
      met to = subst
          (λ (o : Option Reason). Stood c stamp (mention line m.nid_engine w.trains) (Bytes c (Ok m))
          (option_map_or {U = Effect}
          (λ why. record { reply = rest (step.ticked stamp (w.at c)); link = None; silence = Some why }) o
          (record { reply = step.hear_and_answer line c m (step.ticked stamp (w.at c)); link = None; silence = None })))
          (sym (silent_by_clock line c stamp (w.at c) m ∙ is))
          (let stays = silent_met line w v meets c to stamp (mention line m.nid_engine w.trains) m why
          (silent_by_clock line c stamp (w.at c) m ∙ is) in (v, (refl, stays.0), stays.1))

  pub stray_stays : (a b number : ℕ) (f : Frame) → frame_sent w a b number ≡ Some f
      → (link_answer line b (w.at b) a f ≡ Next → ⊥) → StaysWith line w v (Delivery a b number)
  stray_stays a b number f sent stray =
      stays_with (Delivery a b number) (delivery_goes line w v meets Still standing a b number met)
    where
      met : (g : Frame) → frame_sent w a b number ≡ Some g → is_centre line b ≡ true
          → MetBy line w v meets Still b w.trains (Delivery a b number) (step.Deliver a g)
      met g there to = by_answer (link_answer line b (w.at b) a g) refl
        where
          stamp : ℕ
          stamp = stamp_of (w.at b) (step.Deliver a g)

          by_answer : (o : outcome.Taken) → link_answer line b (w.at b) a g ≡ o
              → Stood b stamp w.trains (Delivery a b number)
              (record { reply = taken_by line b a g o (step.ticked stamp (w.at b)); link = Some o; silence = None })
          by_answer Next is =
              absurd (stray (ap (link_answer line b (w.at b) a) (same_Some f g (sym sent ∙ there)) ∙ is))
          by_answer Old is = let stays = stray_met line w v meets b to stamp w.trains a number g Old refl in
              (v, (refl, stays.0), stays.1)
          by_answer Early is = let stays = stray_met line w v meets b to stamp w.trains a number g Early refl in
              (v, (refl, stays.0), stays.1)
          by_answer NoLink is = let stays = stray_met line w v meets b to stamp w.trains a number g NoLink refl in
              (v, (refl, stays.0), stays.1)

  pub fault_stays : (c number : ℕ) → StaysWith line w v (Bytes c (Err number))
  fault_stays c number = stays_with (Bytes c (Err number)) (fault_goes line w v meets Still standing c number)

  -- at a centre that is not of the line, and of a frame never sent
  pub nowhere_stays : (event : Event) → is_centre line (centre_of event) ≡ false → StaysWith line w v event
  nowhere_stays (Bytes c (Ok m)) away =
      stays_with (Bytes c (Ok m)) (message_goes line w v meets Still standing c m
      (λ to. let wrong : true ≡ false = sym to ∙ away in cc))
  nowhere_stays (Bytes c (Err number)) away = fault_stays c number
  nowhere_stays (Set c s) away =
      stays_with (Set c s) (set_goes line w v meets Still standing c s
      (λ to. let wrong : true ≡ false = sym to ∙ away in cc))
  nowhere_stays (Unset c s) away =
      stays_with (Unset c s) (unset_goes line w v meets Still standing c s
      (λ to. let wrong : true ≡ false = sym to ∙ away in cc))
  nowhere_stays (Delivery a b number) away =
      stays_with (Delivery a b number) (delivery_goes line w v meets Still standing a b number
      (λ f sent to. let wrong : true ≡ false = sym to ∙ away in cc))

  pub unsent_stays : (a b number : ℕ) → frame_sent w a b number ≡ None → StaysWith line w v (Delivery a b number)
  unsent_stays a b number none =
      stays_with (Delivery a b number) (delivery_goes line w v meets Still standing a b number
      (λ f sent to. let wrong : None ≡ Some f = sym none ∙ sent in cc))

-- ## Every event

module _ (line : Line) (ok : IsLine line) (w : World) (v : LineState) (meets : Meets line w v)
    (announced : IsAnnounced line w) where
  still : StandsStill line w v meets (Goes line v)
  still = record {
    fault = λ c number to. (to, refl, refl);
    bytes_nowhere = λ c read away. (away, refl);
    set_nowhere = λ c s away. (away, refl);
    unset_nowhere = λ c s away. (away, refl);
    not_sent = λ a b number. refl;
  }

  event_goes : (event : Event) → Leaves line w v meets (Goes line v) event (world_step line w event)
  event_goes (Bytes c (Ok m)) = message_goes line w v meets (Goes line v) still c m
      (λ to. message_met line ok w v meets c to (announced c to) (stamp_of (w.at c) (step.Train m))
      (mention line m.nid_engine w.trains) m)
  event_goes (Bytes c (Err number)) = fault_goes line w v meets (Goes line v) still c number
  event_goes (Set c s) = set_goes line w v meets (Goes line v) still c s
      (λ to. set_met line ok w v meets c to (announced c to) (stamp_of (w.at c) (step.Set s)) w.trains s)
  event_goes (Unset c s) = unset_goes line w v meets (Goes line v) still c s
      (λ to. unset_met line ok w v meets c to (announced c to) (stamp_of (w.at c) (step.Unset s)) w.trains s)
  event_goes (Delivery a b number) = delivery_goes line w v meets (Goes line v) still a b number
      (λ f sent to. frame_met line ok w v meets b to (announced b to) (stamp_of (w.at b) (step.Deliver a f)) w.trains a
      number f (sent_between line w meets.sound.flow a b number f sent).0
      (λ next. next_sent w meets.sound.numbered a b number f sent
      (linked_next (is_linked line b a) ((w.at b).taken a) f.number next).1))

  -- after each event, the one line centre goes on so, and shows the new world
  pub each_event_goes : (event : Event) (answer : Answer) (new : World) → world_step line w event ≡ Ok (answer, new)
      → (u : LineState) × Goes line v event answer u × Meets line new u
  each_event_goes event answer new is =
      let goes = event_goes event answer new is in
      (goes.0, goes.1, record { sound = world_step_sound line ok w meets.sound event answer new is; shows = goes.2 })
