use Rattle.std.proofs.Common.{[], ⊎_elim, ◌+◌, ◌<◌, ◌==◌, ◌||◌, ◌∙◌, ◌∷◌, ◌≡◌, ◌≤◌, ◌⊎◌, All, ap, arith, Bool, eqb-true}
use Rattle.std.proofs.Common.{Err, false, inl, inr, is_some, List, ltb-true, None, Ok, Option, refl, Result, Some}
use Rattle.std.proofs.Common.{subst, suc, sym, true, zero, ℕ}
use Rattle.std.proofs.lemmas.Bool.{both_ways, cases_Bool, cases_lt}
use Rattle.std.proofs.lemmas.List.Elements.{All-cons, All-head, All-nil, All-tail}
use Rattle.std.specs.List.{list_any}
use Rattle.law_base.proofs.PiecesLemmas.Loop.{run_of_none, whole_run}
use Rattle.law_invariants.proofs.NoStrayLemmas.Worlds.{IsReachedSo, step_reached}
use Rattle.law_invariants.proofs.RangesLemmas.Worlds.{step_in_range}
use Rattle.law_invariants.specs.Flow.Flow.{centre_count}
use Rattle.law_invariants.specs.Ranges.Stays.{IsWorldInRange}
use Rattle.law_progress.proofs.Kept.{none_new}
use Rattle.law_progress.proofs.Messages.{established, initiated, IsHanded, left_at, next, reported}
use Rattle.law_progress.proofs.Places.{at_end, clears, delivery_on, in_range, known_among, no_handover}
use Rattle.law_progress.proofs.RestLemmas.Rest.{comes_to_rest}
use Rattle.law_progress.specs.Ends.{GoesOn, HasNoHandover, is_handing, IsGoingOn, IsOutOfStamps, IsRefusedThere}
use Rattle.law_progress.specs.Ends.{messages_for_report}
use Rattle.law_progress.specs.Rest.Rest.{IsAtRest, IsDelivery, IsStopped}
use Rattle.rbc_spec.proofs.Worlds.{bind_ok, same_ok}
use Rattle.rbc_spec.specs.Centre.{Closed, Mission, Opened, Phase, Up}
use Rattle.rbc_spec.specs.Line.{is_centre, IsLine, Line, Train, train_number}
use Rattle.rbc_spec.specs.Message.{InitiationOfSession, Report, SessionEstablished, unknown_time}
use Rattle.rbc_spec.specs.Step.{Refusal}
use Rattle.rbc_spec.specs.World.{Answer, Bytes, Event, World, world_run, world_step}

module _ (line : Line) (ok : IsLine line) where
  -- the facts that are known of each world on the way
  record IsMid (w : World) : Type 0 where
    reached : IsReachedSo line w
    ranges : IsWorldInRange line w

  -- no mission has a handover in v that had none in w
  abbrev HasNoNew : World → World → Type 0
  HasNoNew w v = (c t : ℕ) → is_handing ((w.at c).mission t) ≡ false → is_handing ((v.at c).mission t) ≡ false

  ends_here : (w : World) → (IsAtRest line w × (HasNoHandover line w ⊎ IsOutOfStamps line w))
      ⊎ IsRefusedThere line w → GoesOn line w
  ends_here w ends =
      record {
        events = [];
        going_on = All-nil IsGoingOn;
        answers = [];
        last = w;
        ran = run_of_none line w;
        ends = ends;
      }

  goes_first : (w : World) (event : Event) → IsGoingOn event → (answer : Answer) (new : World)
      → world_step line w event ≡ Ok (answer, new) → GoesOn line new → GoesOn line w
  goes_first w event on answer new is later = record {
    events = event ∷ later.events;
    going_on = All-cons IsGoingOn event later.events on later.going_on;
    answers = answer ∷ later.answers;
    last = later.last;
    ran = whole_run line w event later.events (answer, new) (Ok (later.answers, later.last)) is later.ran;
    ends = later.ends;
  }

  mid_step : (w : World) → IsMid w → (event : Event) → IsGoingOn event → (answer : Answer) (new : World)
      → world_step line w event ≡ Ok (answer, new) → IsMid new
  mid_step w mid event on answer new is = record {
    reached = step_reached line ok w mid.reached event answer new is;
    ranges = step_in_range line ok w mid.ranges event (in_range event on) answer new is;
  }

  -- an event is refused, or goes on
  by_event : (w : World) → IsMid w → (event : Event) → IsGoingOn event
      → ((answer : Answer) (new : World) → world_step line w event ≡ Ok (answer, new) → IsMid new → HasNoNew w new
      → GoesOn line new) → GoesOn line w
  by_event w mid event on later = by_result (world_step line w event) refl
    where
      by_result : (r : Result (Answer × World) Refusal) → world_step line w event ≡ r → GoesOn line w
      by_result (Err why) is = ends_here w (inr (record { event = event; going_on = on; why = why; refused = is }))
      by_result (Ok (answer, new)) is = goes_first w event on answer new is
          (later answer new is (mid_step w mid event on answer new is)
          (none_new line ok w mid.reached.sound event on answer new is))

  delivers_all : (events : List Event) → All IsDelivery events → (w : World) → IsMid w
      → (answers : List Answer) (last : World) → world_run line w events ≡ Ok (answers, last)
      → (IsMid last → HasNoNew w last → GoesOn line last) → GoesOn line w
  unfolding world_run
  delivers_all [] all w mid answers last is later =
      subst (λ (x : World). (IsMid x → HasNoNew w x → GoesOn line x)
      → GoesOn line w) (ap (λ (q : List Answer × World). q.1) (same_ok ([], w) (answers, last) is))
      (λ goes. goes mid (λ c t none. none)) later
  delivers_all (event ∷ events) all w mid answers last is later =
      let first = bind_ok (world_step line w event) _ (answers, last) is in
      let others = bind_ok (world_run line first.0.1 events) _ (answers, last) first.2 in
      let same : others.0.1 ≡ last =
      ap (λ (q : List Answer × World). q.1)
      (same_ok (first.0.0 ∷ others.0.0, others.0.1) (answers, last) others.2) in
      let on = delivery_on event (All-head IsDelivery event events all) in
      goes_first w event on first.0.0 first.0.1 first.1
      (delivers_all events (All-tail IsDelivery event events all) first.0.1
      (mid_step w mid event on first.0.0 first.0.1 first.1) others.0.0 others.0.1 others.1
      (subst (λ (x : World). IsMid x → HasNoNew first.0.1 x → GoesOn line x) (sym same)
      (λ at none.
      later at (λ c t before.
      none c t (none_new line ok w mid.reached.sound event on first.0.0 first.0.1 first.1 c t before)))))

  to_rest : (w : World) → IsMid w → ((v : World) → IsMid v → IsAtRest line v → HasNoNew w v → GoesOn line v)
      → GoesOn line w
  to_rest w mid later = let it = comes_to_rest line ok w mid.reached mid.ranges in
      delivers_all it.events it.are_deliveries w mid it.answers it.last it.ran
      (λ at none. by_end it.last at none it.ends)
    where
      by_end : (v : World) → IsMid v → HasNoNew w v → IsAtRest line v ⊎ IsStopped line v → GoesOn line v
      by_end v at none (inl rest) = later v at rest none
      by_end v at none (inr stopped) =
          ends_here v
          (inr (record {
            event = stopped.event;
            going_on = delivery_on stopped.event stopped.is_delivery;
            why = stopped.why;
            refused = stopped.refused;
          }))

  -- ## One handover

  module _ (c t : ℕ) (to : is_centre line c ≡ true) (known : is_some (train_number line t) ≡ true) where
    -- after which the handover has ended, and no new one is pending
    abbrev After : World → Type 0
    After w = (v : World) → IsMid v → HasNoNew w v → is_handing ((v.at c).mission t) ≡ false → GoesOn line v

    some_mission : (o : Option Mission) → is_handing o ≡ true → (m : Mission) × (o ≡ Some m)
    some_mission None is = cc
    some_mission (Some m) is = (m, refl)

    by_report : (w : World) → IsMid w → (x : ℕ) → x + 1 < unknown_time → IsHanded t x Up (w.at c)
        → After w → GoesOn line w
    by_report w mid x few is later =
        let m = some_mission ((w.at c).mission t) is.handing in
        let clear = clears line ok m.0.place m.0.hand ((mid.reached.sound.flow.centres c to).mission t m.0 m.1).hand in
        by_event w mid (Bytes c (Ok (next t x (Report (at_end line clear.section))))) (
          record {},
          record {
            t_train = few;
            report = record {
              scale = omega arith;
              length = λ l same. let none : 0 ≡ l = cc in
                  omega (arith, none);
            };
          },
        )
        (λ answer new done at none. later new at none
        (left_at line w c to (next t x (Report (at_end line clear.section))) answer new
        (λ k. is_handing (k.mission t) ≡ false)
        (reported line c t x (w.at c) known m.0 (at_end line clear.section) clear.new m.1
        clear.is_placed clear.is_all is) done))

    by_established : (w : World) → IsMid w → (x : ℕ) → x + 2 < unknown_time → IsHanded t x Opened (w.at c)
        → After w → GoesOn line w
    by_established w mid x few is later = by_event w mid (Bytes c (Ok (next t x SessionEstablished)))
        (record {}, record { t_train = omega (arith, few); report = record {} })
        (λ answer new done at none. by_report new at (x + 1) (omega (arith, few))
        (left_at line w c to (next t x SessionEstablished) answer new (IsHanded t (x + 1) Up)
        (established line c t x (w.at c) known is) done)
        (λ v there after ended. later v there (λ d u before. after d u (none d u before)) ended))

    by_initiation : (w : World) → IsMid w → (x : ℕ) → x + 3 < unknown_time → (p : Phase) → IsHanded t x p (w.at c)
        → After w → GoesOn line w
    by_initiation w mid x few p is later =
        by_event w mid (Bytes c (Ok (next t x InitiationOfSession)))
        (record {}, record { t_train = omega (arith, few); report = record {} })
        (λ answer new done at none. by_established new at (x + 1) (omega (arith, few))
        (left_at line w c to (next t x InitiationOfSession) answer new (IsHanded t (x + 1) Opened)
        (initiated line c t x (w.at c) known p is) done)
        (λ v there after ended. later v there (λ d u before. after d u (none d u before)) ended))

    some_heard : (o : Option ℕ) → is_some o ≡ true → (x : ℕ) × (o ≡ Some x)
    some_heard None is = cc
    some_heard (Some x) is = (x, refl)

    ends_one : (w : World) → IsMid w → IsAtRest line w → is_handing ((w.at c).mission t) ≡ true → (x : ℕ)
        → (w.at c).heard t ≡ Some x → After w → GoesOn line w
    ends_one w mid rest handing x heard later = ⊎_elim
        (λ (those : x + messages_for_report ((w.at c).phase t) < unknown_time). by_phase ((w.at c).phase t) refl those)
        (λ (none : unknown_time ≤ x + messages_for_report ((w.at c).phase t)). ends_here w
        (inl (
          rest,
          inr (record { c = c; t = t; last = x; of_line = to; handing = handing; heard = heard; none_left = none }),
        )))
        (cases_lt (x + messages_for_report ((w.at c).phase t)) unknown_time)
      where
        by_phase : (p : Phase) → (w.at c).phase t ≡ p → x + messages_for_report p < unknown_time → GoesOn line w
        by_phase Closed is those =
            by_initiation w mid x those Closed (record { handing = handing; phase_is = is; heard = heard }) later
        by_phase Opened is those =
            by_established w mid x those (record { handing = handing; phase_is = is; heard = heard }) later
        by_phase Up is those =
            by_report w mid x those (record { handing = handing; phase_is = is; heard = heard }) later

  -- a mission is at a centre of the line, and is of a known train with a recorded stamp
  of_line : (w : World) → IsMid w → (c t : ℕ) → is_handing ((w.at c).mission t) ≡ true → is_centre line c ≡ true
  of_line w mid c t handing = ⊎_elim (λ (to : is_centre line c ≡ true). to)
      (λ (away : is_centre line c ≡ false).
      absurd (both_ways (is_handing ((w.at c).mission t))
      (ap is_handing (mid.reached.sound.flow.no_mission c t away)) handing))
      (cases_Bool (is_centre line c))

  abbrev IsKnown : World → ℕ → ℕ → Type 0
  IsKnown w c t = (is_some (train_number line t) ≡ true) × (is_some ((w.at c).heard t) ≡ true)

  known_of : (w : World) → IsMid w → (c t : ℕ) → is_handing ((w.at c).mission t) ≡ true → IsKnown w c t
  known_of w mid c t handing = by_mission ((w.at c).mission t) refl handing
    where
      by_mission : (o : Option Mission) → (w.at c).mission t ≡ o → is_handing o ≡ true → IsKnown w c t
      by_mission None at is = cc
      by_mission (Some m) at is = (mid.reached.sound.flow.centres c (of_line w mid c t handing)).mission_known t m at

  -- a pending handover ends, and the line reaches rest again
  ends_there : (w : World) → IsMid w → IsAtRest line w → (c t : ℕ) → is_handing ((w.at c).mission t) ≡ true
      → ((v : World) → IsMid v → IsAtRest line v → HasNoNew w v → is_handing ((v.at c).mission t) ≡ false
      → GoesOn line v) → GoesOn line w
  ends_there w mid rest c t handing later =
      let known = known_of w mid c t handing in
      let x = some_heard c t (of_line w mid c t handing) known.0 ((w.at c).heard t) known.1 in
      ends_one c t (of_line w mid c t handing) known.0 w mid rest handing x.0 x.1
      (λ v at none ended. to_rest v at (λ u there still after.
      later u there still (λ d s before. after d s (none d s before)) (after c t ended)))

  -- ## One after another

  -- the pending handovers are at centres below n
  abbrev AreBelow : World → ℕ → Type 0
  AreBelow w n = (c t : ℕ) → is_handing ((w.at c).mission t) ≡ true → c < n

  -- or at centre n, and of these trains
  abbrev AreLeft : World → ℕ → List Train → Type 0
  AreLeft w n ts = (c t : ℕ) → is_handing ((w.at c).mission t) ≡ true
      → (c < n) ⊎ ((c ≡ n) × (list_any (λ p. p.nid_engine == t) ts ≡ true))

  stood : (w v : World) → HasNoNew w v → (c t : ℕ) → is_handing ((v.at c).mission t) ≡ true
      → is_handing ((w.at c).mission t) ≡ true
  stood w v none c t handing = ⊎_elim (λ (so : is_handing ((w.at c).mission t) ≡ true). so)
      (λ (before : is_handing ((w.at c).mission t) ≡ false).
      absurd (both_ways (is_handing ((v.at c).mission t)) (none c t before) handing))
      (cases_Bool (is_handing ((w.at c).mission t)))

  one_less : (n : ℕ) (p : Train) (ts : List Train) (w v : World) → HasNoNew w v
      → is_handing ((v.at n).mission p.nid_engine) ≡ false → AreLeft w n (p ∷ ts) → AreLeft v n ts
  one_less n p ts w v none ended those c t handing = by_place (those c t (stood w v none c t handing))
    where
      by_train : (b : Bool) → (p.nid_engine == t) ≡ b → c ≡ n → (b || list_any (λ q. q.nid_engine == t) ts) ≡ true
          → list_any (λ q. q.nid_engine == t) ts ≡ true
      by_train true same here among = absurd (both_ways (is_handing ((v.at n).mission p.nid_engine)) ended
          (ap (λ u. is_handing ((v.at n).mission u)) (eqb-true p.nid_engine t same)
          ∙ ap (λ d. is_handing ((v.at d).mission t)) (sym here) ∙ handing))
      by_train false other here among = among

      by_place : (c < n) ⊎ ((c ≡ n) × (list_any (λ q. q.nid_engine == t) (p ∷ ts) ≡ true))
          → (c < n) ⊎ ((c ≡ n) × (list_any (λ q. q.nid_engine == t) ts ≡ true))
      by_place (inl below) = inl below
      by_place (inr here) = inr (here.0, by_train (p.nid_engine == t) refl here.0 here.1)

  ends_at : (n : ℕ) → ((v : World) → IsMid v → IsAtRest line v → AreBelow v n → GoesOn line v)
      → (ts : List Train) (w : World) → IsMid w → IsAtRest line w → AreLeft w n ts → GoesOn line w
  ends_at n later [] w mid rest those = later w mid rest (λ c t handing. below c t (those c t handing))
    where
      below : (c t : ℕ) → (c < n) ⊎ ((c ≡ n) × (list_any (λ (q : Train). q.nid_engine == t) [] ≡ true)) → c < n
      below c t (inl is) = is
      below c t (inr here) = absurd (let wrong : false ≡ true = here.1 in cc)
  ends_at n later (p ∷ ts) w mid rest those = ⊎_elim
      (λ (handing : is_handing ((w.at n).mission p.nid_engine) ≡ true). ends_there w mid rest n p.nid_engine handing
      (λ v at still none ended. ends_at n later ts v at still (one_less n p ts w v none ended those)))
      (λ (ended : is_handing ((w.at n).mission p.nid_engine) ≡ false).
      ends_at n later ts w mid rest (one_less n p ts w w (λ c t before. before) ended those))
      (cases_Bool (is_handing ((w.at n).mission p.nid_engine)))

  ends_below : (n : ℕ) (w : World) → IsMid w → IsAtRest line w → AreBelow w n → GoesOn line w
  ends_below zero w mid rest below = ends_here w (inl (rest, inl (no_handover line w mid.reached rest none)))
    where
      none : (c t : ℕ) → is_handing ((w.at c).mission t) ≡ false
      none c t =
          ⊎_elim (λ (handing : is_handing ((w.at c).mission t) ≡ true). absurd (omega (arith, below c t handing)))
          (λ (so : is_handing ((w.at c).mission t) ≡ false). so)
          (cases_Bool (is_handing ((w.at c).mission t)))
  ends_below (suc n) w mid rest below =
      ends_at n (ends_below n) line.trains w mid rest (λ c t handing. at_last c t handing (cases_lt c n))
    where
      at_last : (c t : ℕ) → is_handing ((w.at c).mission t) ≡ true → (c < n) ⊎ (n ≤ c)
          → (c < n) ⊎ ((c ≡ n) × (list_any (λ p. p.nid_engine == t) line.trains ≡ true))
      at_last c t handing (inl low) = inl low
      at_last c t handing (inr high) =
          inr (omega (arith, high, below c t handing), known_among line t (known_of w mid c t handing).0)

  pub goes_on : (w : World) → IsReachedSo line w → IsWorldInRange line w → GoesOn line w
  goes_on w reached ranges = to_rest w (record { reached = reached; ranges = ranges })
      (λ v mid rest none. ends_below (centre_count line) v mid rest
      (λ c t handing. ltb-true c (centre_count line) (of_line v mid c t handing)))
