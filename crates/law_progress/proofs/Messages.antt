-- The effect of the three messages that end a handover: the session begins, and the train reports that it has cleared
-- its hand.
use Rattle.std.proofs.Common.{⊎_elim, ◌&&◌, ◌++◌, ◌+◌, ◌∙◌, ◌≡◌, ap, arith, Bool, eq-eqb, Err, false, if◌then◌else◌}
use Rattle.std.proofs.Common.{is_none, is_some, leb-true, List, nat_le, None, not, Ok, Option, option_map, refl, Some}
use Rattle.std.proofs.Common.{subst, sym, true, ℕ}
use Rattle.std.proofs.lemmas.Bool.{cases_Bool}
use Rattle.std.specs.Option.{option_map_or}
use Rattle.law_base.proofs.CountingLemmas.Sums.{put_same}
use Rattle.law_base.proofs.LocalLemmas.Worlds.{world_of}
use Rattle.law_invariants.specs.Handover.Steps.{left_by}
use Rattle.law_invariants.specs.NoCopy.Steps.{done}
use Rattle.law_progress.specs.Ends.{is_handing}
use Rattle.rbc_spec.proofs.Lists.{put_there}
use Rattle.rbc_spec.specs.Acts.{◌>>◌, become, cancel, change_mission, close, freed, leave, rest, return_right, send}
use Rattle.rbc_spec.specs.Acts.{set_mission}
use Rattle.rbc_spec.specs.Centre.{Centre, Closed, Handing, is_closed, is_registrar_of, is_taken_for, is_up, Mission}
use Rattle.rbc_spec.specs.Centre.{Opened, Phase, Up}
use Rattle.rbc_spec.specs.Frame.{Cancel, Frame, ReturnRight}
use Rattle.rbc_spec.specs.Line.{is_centre, Line, registrar, train_number}
use Rattle.rbc_spec.specs.Maps.{put}
use Rattle.rbc_spec.specs.Message.{InitiationOfSession, is_stale, Report, SessionEstablished, TrainBody, TrainMessage}
use Rattle.rbc_spec.specs.Outcome.{ForeignEngine, NoPlace, NoSession, NotSupervised, Outcome, Reason, StaleStamp}
use Rattle.rbc_spec.specs.Outcome.{WrongPhase}
use Rattle.rbc_spec.specs.Place.{covered, is_cleared, Place, place_on, Position}
use Rattle.rbc_spec.specs.Rules.{clear, cleared, drop_wait, report, report_here, take_over}
use Rattle.rbc_spec.specs.SectionRuns.{joined, next_after, part_from, passing}
use Rattle.rbc_spec.specs.Step.{Effect, frames_of, hear_and_answer, is_awaited, mission_has, Refusal, refusal, silence}
use Rattle.rbc_spec.specs.Step.{step, taken, ticked, Train}
use Rattle.rbc_spec.specs.World.{Answer, Bytes, mention, NoCentre, stepped, takes, World, world_step}

-- the next message of train t after T_TRAIN x
abbrev pub next : ℕ → ℕ → TrainBody → TrainMessage
next t x body = record { t_train = x + 1; nid_engine = t; body = body }

-- ## It is not silent

not_next : (a : Bool) (why : Reason) (o : Option Reason) → a ≡ false → o ≡ None → (if a then Some why else o) ≡ None
not_next true why o is none = cc
not_next false why o is none = none

not_late : (x : ℕ) → nat_le (x + 1) x ≡ false
not_late x = ⊎_elim (λ (late : nat_le (x + 1) x ≡ true). absurd (omega (arith, leb-true (x + 1) x late)))
    (λ (no : nat_le (x + 1) x ≡ false). no) (cases_Bool (nat_le (x + 1) x))

not_foreign : (o : Option ℕ) → is_some o ≡ true → is_none o ≡ false
not_foreign (Some n) some = refl
not_foreign None some = cc

module _ (line : Line) (c t x : ℕ) (k : Centre) (known : is_some (train_number line t) ≡ true)
    (heard : k.heard t ≡ Some x) where
  fresh : is_stale (x + 1) (k.heard t) ≡ false
  fresh = ap (is_stale (x + 1)) heard ∙ not_late x

  initiation_heard : silence line c k (next t x InitiationOfSession) ≡ None
  initiation_heard = not_next (is_none (train_number line t)) ForeignEngine _ (not_foreign (train_number line t) known)
      (not_next (is_stale (x + 1) (k.heard t)) StaleStamp None fresh refl)

  established_heard : k.phase t ≡ Opened → silence line c k (next t x SessionEstablished) ≡ None
  established_heard opened = not_next (is_none (train_number line t)) ForeignEngine _
      (not_foreign (train_number line t) known) (not_next (is_stale (x + 1) (k.heard t)) StaleStamp _ fresh
      (not_next (is_closed (k.phase t)) NoSession _ (ap is_closed opened)
      (not_next (is_up (k.phase t)) WrongPhase None (ap is_up opened) refl)))

  report_heard : (m : Mission) (p : Position) (new : Place) → k.phase t ≡ Up → k.mission t ≡ Some m
      → place_on line m.place.track p ≡ Some new → silence line c k (next t x (Report p)) ≡ None
  report_heard m p new up has placed = not_next (is_none (train_number line t)) ForeignEngine _
      (not_foreign (train_number line t) known) (not_next (is_stale (x + 1) (k.heard t)) StaleStamp _ fresh
      (not_next (is_closed (k.phase t)) NoSession _ (ap is_closed up)
      (not_next (not (is_up (k.phase t))) WrongPhase _ (ap (λ q. not (is_up q)) up)
      (not_next (is_none (k.mission t) && not (is_awaited line c k t p)) NotSupervised _
      (ap (λ o. is_none o && not (is_awaited line c k t p)) has)
      (not_next (mission_has (λ n. is_none (place_on line n.place.track p)) (k.mission t)) NoPlace None
      (ap (λ o. mission_has (λ n. is_none (place_on line n.place.track p)) o) has ∙ ap is_none placed) refl)))))

-- ## The state after it

module _ (line : Line) (c t : ℕ) where
  -- a start that waited is dropped beside the mission
  drop_mission : (j : Centre) → (drop_wait line c t j).state.mission ≡ j.mission
  unfolding ◌>>◌
  drop_mission j = by_wait (j.wait t)
    where
      by_wait : (o : Option Place)
          → (option_map_or (λ place. (freed line c (is_taken_for t) (covered line place)
          >> become (λ i. record i { wait = put i.wait t None })) j) o (rest j)).state.mission ≡ j.mission
      by_wait None = refl
      by_wait (Some place) = refl

  drop_heard : (j : Centre) → (drop_wait line c t j).state.heard ≡ j.heard
  unfolding ◌>>◌
  drop_heard j = by_wait (j.wait t)
    where
      by_wait : (o : Option Place)
          → (option_map_or (λ place. (freed line c (is_taken_for t) (covered line place)
          >> become (λ i. record i { wait = put i.wait t None })) j) o (rest j)).state.heard ≡ j.heard
      by_wait None = refl
      by_wait (Some place) = refl

  back_mission : (j : Centre) → (return_right line c t j).state.mission ≡ j.mission
  back_mission j = by_registrar (is_registrar_of line c t)
    where
      by_other : (o : Option ℕ) → (option_map_or (λ r. send r (ReturnRight t)) o rest j).state.mission ≡ j.mission
      by_other None = refl
      by_other (Some r) = refl

      by_registrar : (b : Bool)
          → ((if b then become (λ i. record i { has_right = put i.has_right t true }) else option_map_or
          (λ r. send r (ReturnRight t)) (registrar line t) rest) j).state.mission ≡ j.mission
      by_registrar true = refl
      by_registrar false = by_other (registrar line t)

  cancel_none : (m : Mission) (j : Centre) → j.mission t ≡ None → (cancel t m j).state.mission t ≡ None
  unfolding ◌>>◌
  cancel_none m j none = by_handing m.handing
    where
      by_handing : (o : Option Handing)
          → (option_map_or (λ h. send h.to (Cancel h.number t) >> change_mission t (λ n. record n { handing = None })) o
          rest j).state.mission t ≡ None
      by_handing None = none
      by_handing (Some h) =
          put_there j.mission t (option_map (λ (n : Mission). record n { handing = None }) (j.mission t))
          ∙ ap (option_map (λ (n : Mission). record n { handing = None })) none

  close_none : (m : Mission) (j : Centre) → (close line c t m j).state.mission t ≡ None
  unfolding ◌>>◌
  close_none m j = ap (λ (g : ℕ → Option Mission). g t) (back_mission (cancel t m (set_mission t None j).state).state)
      ∙ cancel_none m (set_mission t None j).state (put_there j.mission t None)

  module _ (m : Mission) (p : Position) (new : Place) (placed : place_on line m.place.track p ≡ Some new)
      (all : passing (is_cleared line new) m.hand ≡ m.hand.count) (k : Centre) where
    clear_none : (clear line c t m new k).state.mission t ≡ None
    unfolding ◌>>◌
    clear_none = ap (λ b. ((if b then (leave line c t m.place.track (joined m.hand m.pool) >> close line c t m)
        else (leave line c t m.place.track (cleared line new m)
        >> set_mission t
        (Some (record m { place = new; hand = part_from (next_after (cleared line new m)) m.hand }))))
        k).state.mission t)
        (eq-eqb (passing (is_cleared line new) m.hand) m.hand.count all)
        ∙ close_none m (leave line c t m.place.track (joined m.hand m.pool) k).state

    here_none : (report_here line c t p m k).state.mission t ≡ None
    here_none = ap (λ (o : Option Place). (option_map_or (clear line c t m) o rest k).state.mission t) placed
        ∙ clear_none

    report_none : k.mission t ≡ Some m → (report line c t p k).state.mission t ≡ None
    unfolding ◌>>◌
    report_none has =
        ap (λ (o : Option Mission).
        (option_map_or (λ n. report_here line c t p n k) o (take_over line t k)).state.mission t) has ∙ here_none

-- ## A step

-- the mission is handed over, and the session has a phase and this last T_TRAIN
pub record IsHanded (t x : ℕ) (phase : Phase) (k : Centre) : Type 0 where
  pub handing : is_handing (k.mission t) ≡ true
  pub phase_is : k.phase t ≡ phase
  pub heard : k.heard t ≡ Some x

without_proposal : (o : Option Mission) → is_handing (option_map (λ (m : Mission). record m { proposal = None }) o)
    ≡ is_handing o
without_proposal None = refl
without_proposal (Some m) = refl

module _ (line : Line) (c t x : ℕ) (k : Centre) (known : is_some (train_number line t) ≡ true) where
  -- a value read from the state after a message that is not silent
  left_is : {X : Type 0} (read : Centre → X)
      → ((i : Centre) (s : ℕ → List Frame) → read (record i { sent = s }) ≡ read i) → (body : TrainBody)
      → silence line c (ticked (k.clock + 1) k) (next t x body) ≡ None
      → read (left_by line c k (Train (next t x body)))
      ≡ read (hear_and_answer line c (next t x body) (ticked (k.clock + 1) k)).state
  left_is read apart body heard = apart (done line c k (Train (next t x body))).reply.state
      (λ d. k.sent d ++ frames_of (k.clock + 1) k (done line c k (Train (next t x body))).reply d)
      ∙ ap (λ (o : Option Reason).
      read (option_map_or {U = Effect}
      (λ why. record { reply = rest (ticked (k.clock + 1) k); link = None; silence = Some why }) o
      (record {
        reply = hear_and_answer line c (next t x body) (ticked (k.clock + 1) k);
        link = None;
        silence = None;
      })).reply.state) heard

  -- with the session closed, before a start that waited is dropped
  abbrev closed : Centre
  closed = record k {
    clock = k.clock + 1;
    heard = put k.heard t (Some (x + 1));
    phase = put k.phase t Closed;
    mission = put k.mission t (option_map (λ (m : Mission). record m { proposal = None }) (k.mission t));
  }

  pub initiated : (p : Phase) → IsHanded t x p k
      → IsHanded t (x + 1) Opened (left_by line c k (Train (next t x InitiationOfSession)))
  unfolding ◌>>◌
  initiated p is = let heard = initiation_heard line c t x (ticked (k.clock + 1) k) known is.heard in record {
    handing = left_is (λ i. is_handing (i.mission t)) (λ i s. refl) InitiationOfSession heard
        ∙ ap (λ (g : ℕ → Option Mission). is_handing (g t)) (drop_mission line c t closed)
        ∙ ap is_handing
        (put_there k.mission t (option_map (λ (m : Mission). record m { proposal = None }) (k.mission t)))
        ∙ without_proposal (k.mission t) ∙ is.handing;
    phase_is = left_is (λ i. i.phase t) (λ i s. refl) InitiationOfSession heard
        ∙ put_there (drop_wait line c t closed).state.phase t Opened;
    heard = left_is (λ i. i.heard t) (λ i s. refl) InitiationOfSession heard
        ∙ ap (λ (g : ℕ → Option ℕ). g t) (drop_heard line c t closed) ∙ put_there k.heard t (Some (x + 1));
  }

  pub established : IsHanded t x Opened k
      → IsHanded t (x + 1) Up (left_by line c k (Train (next t x SessionEstablished)))
  unfolding ◌>>◌
  established is = let heard = established_heard line c t x (ticked (k.clock + 1) k) known is.heard is.phase_is in
      record {
        handing = left_is (λ i. is_handing (i.mission t)) (λ i s. refl) SessionEstablished heard ∙ is.handing;
        phase_is = left_is (λ i. i.phase t) (λ i s. refl) SessionEstablished heard ∙ put_there k.phase t Up;
        heard = left_is (λ i. i.heard t) (λ i s. refl) SessionEstablished heard ∙ put_there k.heard t (Some (x + 1));
      }

  pub reported : (m : Mission) (p : Position) (new : Place) → k.mission t ≡ Some m
      → place_on line m.place.track p ≡ Some new → passing (is_cleared line new) m.hand ≡ m.hand.count
      → IsHanded t x Up k
      → is_handing ((left_by line c k (Train (next t x (Report p)))).mission t) ≡ false
  unfolding ◌>>◌
  reported m p new has placed all is = left_is (λ i. is_handing (i.mission t)) (λ i s. refl) (Report p)
      (report_heard line c t x (ticked (k.clock + 1) k) known is.heard m p new is.phase_is has placed)
      ∙ ap is_handing (report_none line c t m p new placed all
      (record k { clock = k.clock + 1; heard = put k.heard t (Some (x + 1)) }) has)

-- ## In a world

module _ (line : Line) (w : World) (c : ℕ) (to : is_centre line c ≡ true) (m : TrainMessage) (answer : Answer)
    (new : World) (P : Centre → Type 0) (after : P (left_by line c (w.at c) (Train m))) where
  stepped_at : (o : Option Refusal) (x : Outcome × Centre) → P x.1
      → stepped w c (mention line m.nid_engine w.trains) (option_map_or (λ why. Err why) o (Ok x)) ≡ Ok (answer, new)
      → P (new.at c)
  stepped_at (Some why) x p is = cc
  stepped_at None x p is = subst (λ (y : World). P (y.at c)) (ap (λ r. world_of w r) is)
      (subst P (sym (put_same w.at c x.1)) p)

  takes_at : takes line w c (mention line m.nid_engine w.trains) (Train m) ≡ Ok (answer, new) → P (new.at c)
  unfolding step
  takes_at is = stepped_at (refusal line c (w.at c) (Train m)) (taken line c (Train m) (w.at c)) after is

  by_centre : (b : Bool) → b ≡ true
      → (if b then takes line w c (mention line m.nid_engine w.trains) (Train m) else Ok (NoCentre, w))
      ≡ Ok (answer, new) → P (new.at c)
  by_centre true is done = takes_at done
  by_centre false is done = cc

  -- the step of a message leaves its centre so
  pub left_at : world_step line w (Bytes c (Ok m)) ≡ Ok (answer, new) → P (new.at c)
  unfolding world_step
  left_at done = by_centre (is_centre line c) to done
