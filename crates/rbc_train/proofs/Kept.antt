-- Invariants of a train's mission and of its waiting start: the pool follows the hand, and held sections are held.
use Rattle.std.proofs.Common.{if◌then◌else◌, ◌&&◌, ◌+◌, ◌==◌, ◌∙◌, ◌≡◌, ◌≤◌, ap, arith, Bool, false, is_none, is_some}
use Rattle.std.proofs.Common.{length, None, Option, option_and_then, option_map, refl, Some, subst, sym, true, ℕ}
use Rattle.std.proofs.lemmas.Bool.{eqb-false}
use Rattle.std.proofs.lemmas.Option.{same_Some}
use Rattle.std.specs.Option.{option_map_or}
use Rattle.rbc_allocation.specs.Sections.{is_held_as, IsHeldAt, IsHeldBy, rest_of}
use Rattle.rbc_book.specs.Book.{is_own, Pages}
use Rattle.rbc_hand.specs.Hands.{Holding}
use Rattle.rbc_handover.specs.Handings.{handover_name}
use Rattle.rbc_mission.specs.declared.held.HeldRight.TheVariants.{Held, Nothing}
use Rattle.rbc_mission.specs.Supervisions.{hand_of, handing_in, handover_left, HasRouteForm, right_left}
use Rattle.rbc_mission.specs.Supervisions.{SupervisionState, without_front}
use Rattle.rbc_pending_start.specs.Waits.{IsCovered, WaitState}
use Rattle.rbc_right.specs.Rights.{right_of}
use Rattle.rbc_spec.specs.Centre.{Handing, Mission}
use Rattle.rbc_spec.specs.Line.{is_home, Line}
use Rattle.rbc_spec.specs.Place.{Place}
use Rattle.rbc_spec.specs.SectionRuns.{is_empty, next_after, no_run, SectionRun, within}
use Rattle.rbc_train.proofs.Desk.{with_mission}
use Rattle.rbc_train.specs.declared.train.TrainState.{TrainState}
use Rattle.rbc_train.specs.Desk.{IsHeld, IsKeptAt, KeepsState}

-- ## Missions

-- the mission, if only its facts were changed
mapped : (change : Mission → Mission) (o : Option Mission) (m : Mission) → option_map change o ≡ Some m
    → (n : Mission) × (o ≡ Some n) × (change n ≡ m)
mapped change None m is = cc
mapped change (Some n) m is = (n, refl, same_Some (change n) m is)

-- only facts of the mission have changed
pub kept_changed : (line : Line) (c : ℕ) (p : TrainState) (change : Mission → Mission)
    → ((m : Mission) → HasRouteForm m → HasRouteForm (change m)) → ((m : Mission) → m.hand ≡ (change m).hand)
    → ((m : Mission) → m.pool ≡ (change m).pool)
    → IsKeptAt line c p → IsKeptAt line c (with_mission p (option_map change p.supervision.mission))
kept_changed line c p change form hand pool kept = record {
  one_train = kept.one_train;
  form = λ m is. let n = mapped change p.supervision.mission m is in
      subst HasRouteForm n.2 (form n.0 (kept.form n.0 n.1));
  pool = record {
    follows = λ m is some. let n = mapped change p.supervision.mission m is in
        let runs = same_runs m n.0 n.2 in
        ap (λ (r : SectionRun). r.first) (sym runs.0) ∙ kept.pool.follows n.0 n.1 (ap is_empty runs.0 ∙ some)
        ∙ ap next_after runs.1;
    away = λ m is s here. let n = mapped change p.supervision.mission m is in
        kept.pool.away n.0 n.1 s (ap (λ r. within r s) (same_runs m n.0 n.2).0 ∙ here);
  };
  covers = kept.covers;
  expected = kept.expected;
}
  where
    same_runs : (m n : Mission) → change n ≡ m → (n.pool ≡ m.pool) × (n.hand ≡ m.hand)
    same_runs m n is = (pool n ∙ ap (λ (x : Mission). x.pool) is, hand n ∙ ap (λ (x : Mission). x.hand) is)

-- the rest of a mission after its first sections
left_of : (place : Place) (count : ℕ) (o : Option Mission) (m : Mission)
    → option_and_then (without_front place count) o ≡ Some m
    → (n : Mission) × (o ≡ Some n) × (count ≡ n.hand.count → ⊥)
    × (record n { place = place; hand = rest_of count n.hand } ≡ m)
left_of place count None m is = cc
left_of place count (Some n) m is = by (count == n.hand.count) refl is
  where
    by : (b : Bool) → (count == n.hand.count) ≡ b
        → (if b then None else Some (record n { place = place; hand = rest_of count n.hand })) ≡ Some m
        → (x : Mission) × (Some n ≡ Some x) × (count ≡ x.hand.count → ⊥)
        × (record x { place = place; hand = rest_of count x.hand } ≡ m)
    by true all e = cc
    by false some e = (
      n,
      refl,
      eqb-false count n.hand.count some,
      same_Some (record n { place = place; hand = rest_of count n.hand }) m e,
    )

rest_form : (place : Place) (count : ℕ) (n : Mission) → HasRouteForm n → count ≤ n.hand.count
    → (count ≡ n.hand.count → ⊥) → HasRouteForm (record n { place = place; hand = rest_of count n.hand })
rest_form place count n form few apart = record {
  some = omega (arith, few, apart);
  most = let most = form.most in omega (arith, most);
  numbers = let numbers = form.numbers in omega (arith, numbers, few);
  few = form.few;
}

-- its first sections have left it
pub kept_cleared : (line : Line) (c : ℕ) (p : TrainState) (left : SupervisionState) (hand : Holding) (place : Place)
    (count : ℕ) → count ≤ (hand_of p.supervision).count
    → left ≡ record p.supervision {
      mission = option_and_then (without_front place count) p.supervision.mission;
      hand = hand;
    } → IsKeptAt line c p → IsKeptAt line c (record p { supervision = left })
kept_cleared line c p left hand place count few is kept =
    subst (λ (x : SupervisionState). IsKeptAt line c (record p { supervision = x })) (sym is) (record {
      one_train = kept.one_train;
      form = λ m here. let n = left_of place count p.supervision.mission m here in
          subst HasRouteForm n.3 (rest_form place count n.0 (kept.form n.0 n.1) (within_hand n.0 n.1) n.2);
      pool = record {
        follows = λ m here some. let n = left_of place count p.supervision.mission m here in
            let ends : next_after n.0.hand ≡ next_after (rest_of count n.0.hand) = let room = within_hand n.0 n.1 in
            omega (arith, room) in
            ap (λ (x : Mission). x.pool.first) (sym n.3)
            ∙ kept.pool.follows n.0 n.1 (ap (λ (x : Mission). is_empty x.pool) n.3 ∙ some) ∙ ends
            ∙ ap (λ (x : Mission). next_after x.hand) n.3;
        away = λ m here s in_pool. let n = left_of place count p.supervision.mission m here in
            kept.pool.away n.0 n.1 s (ap (λ (x : Mission). within x.pool s) n.3 ∙ in_pool);
      };
      covers = kept.covers;
      expected = kept.expected;
    })
  where
    within_hand : (n : Mission) → p.supervision.mission ≡ Some n → count ≤ n.hand.count
    within_hand n there = subst (λ (o : Option Mission). count ≤ (option_map_or (λ m. m.hand) o no_run).count) there few

-- if they have left, it is at this place
pub cleared_place : (place : Place) (count : ℕ) (o : Option Mission) (m : Mission)
    → option_and_then (without_front place count) o ≡ Some m → m.place.track ≡ place.track
cleared_place place count o m is = let n = left_of place count o m is in ap (λ (x : Mission). x.place.track) (sym n.3)

-- a mission that is still here gives no right back
pub none_left : (old new : SupervisionState) → is_some new.mission ≡ true → right_left old new ≡ Nothing
none_left old new stands = by (is_some old.mission) new.mission stands
  where
    by : (b : Bool) (o : Option Mission) → is_some o ≡ true
        → (if b && is_none o then Held (right_of old.number) else Nothing) ≡ Nothing
    by true (Some m) is = refl
    by false (Some m) is = refl
    by b None is = cc

-- the handover stays of a mission whose handover stays
pub not_left : (old new : SupervisionState) → handing_in new ≡ handing_in old → handover_left old new ≡ None
not_left old new same = (λ i. if is_some (same i) then None else option_map handover_name (handing_in old))
    ∙ by (handing_in old)
  where
    by : (o : Option Handing) → (if is_some o then None else option_map handover_name o) ≡ None
    by None = refl
    by (Some h) = refl

-- the mission that is left of one after its first sections has its handover
pub cleared_handing : (place : Place) (count : ℕ) (o : Option Mission)
    → is_some (option_and_then (without_front place count) o) ≡ true
    → option_and_then (λ (m : Mission). m.handing) (option_and_then (without_front place count) o)
    ≡ option_and_then (λ (m : Mission). m.handing) o
cleared_handing place count None some = cc
cleared_handing place count (Some n) some = by (count == n.hand.count) some
  where
    by : (b : Bool) → is_some (if b then None else Some (record n { place = place; hand = rest_of count n.hand }))
        ≡ true
        → option_and_then (λ (m : Mission). m.handing)
        (if b then None else Some (record n { place = place; hand = rest_of count n.hand })) ≡ n.handing
    by true e = cc
    by false e = refl

-- ## Held sections

-- at the sections of the line as by the book of its home, and back
pub held_as : (t u : ℕ) (is_home is_home' : ℕ → Bool) (hand : Holding) → t ≡ u → ((s : ℕ) → is_home' s ≡ is_home s)
    → IsHeldAt t is_home hand → IsHeldAt u is_home' hand
held_as t u is_home is_home' hand train same so i held at =
    ap (λ b. is_held_as u b held) (same (hand.first + i))
    ∙ ap (λ (v : ℕ). is_held_as v (is_home (hand.first + i)) held) (sym train) ∙ so i held at

-- held sections stay held
pub still_held : (line : Line) (c : ℕ) (p q : TrainState) → q.supervision.engine ≡ p.supervision.engine
    → q.supervision.hand ≡ p.supervision.hand → IsHeld line c p → IsHeld line c q
still_held line c p q engine hand held =
    subst (λ (h : Holding). IsHeldAt q.supervision.engine (is_home line c) h) (sym hand)
    (subst (λ (t : ℕ). IsHeldAt t (is_home line c) p.supervision.hand) (sym engine) held)

-- by the book of its home, and of the same train
pub held_again : (line : Line) (c t : ℕ) (q : TrainState) (book : Pages) → t ≡ q.supervision.engine
    → ((s : ℕ) → is_own book s ≡ is_home line c s) → IsHeldBy t q.supervision.hand book → IsHeld line c q
held_again line c t q book engine homes held =
    held_as t q.supervision.engine (is_own book) (is_home line c) q.supervision.hand engine (λ s. sym (homes s)) held

-- the same train, with an unchanged waiting start
pub keeps_by : (line : Line) (c : ℕ) (p q : TrainState) → q.supervision.number ≡ p.supervision.number
    → q.supervision.engine ≡ p.supervision.engine → q.waiting ≡ p.waiting → q.said ≤ p.said + 2
    → length q.expectations ≡ length p.expectations → IsHeld line c q → KeepsState line c p q
keeps_by line c p q number engine waiting said expected held = record {
  train = record { number = number; engine = engine; waiting = ap (λ (w : WaitState). w.engine) waiting; said = said };
  held = held;
  covers = λ covers. subst (IsCovered line) (sym waiting) covers;
  expected = expected;
}

-- only its supervision and its last stamp have changed
pub keeps_state : (line : Line) (c : ℕ) (p : TrainState) (heard : Option ℕ) (left : SupervisionState)
    → left.number ≡ p.supervision.number → left.engine ≡ p.supervision.engine
    → IsHeld line c (record p { supervision = left })
    → KeepsState line c p (record p { heard = heard; supervision = left })
keeps_state line c p heard left number engine held =
    keeps_by line c p (record p { heard = heard; supervision = left }) number engine refl (omega arith) refl held
