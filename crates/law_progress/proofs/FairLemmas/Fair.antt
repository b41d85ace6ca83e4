use Rattle.std.proofs.Common.{◌+◌, ◌-◌, ◌<◌, ◌∙◌, ◌≡◌, ◌≤◌, ◌⊎◌, ap, arith, Err, inl, inr, Ok, refl, Result, subst, suc}
use Rattle.std.proofs.Common.{sym, zero, ℕ}
use Rattle.law_invariants.proofs.FlowLemmas.Steps.{is_next}
use Rattle.law_invariants.proofs.NoStrayLemmas.Worlds.{IsReachedSo}
use Rattle.law_invariants.proofs.RangesLemmas.Worlds.{new_in_range, step_in_range}
use Rattle.law_invariants.specs.Ranges.Stays.{IsReadInRange, IsWorldInRange}
use Rattle.law_progress.proofs.FairLemmas.Idle.{idle_or_next, IsIdle, IsNext, none_next, number_is, on_way, reached_at}
use Rattle.law_progress.proofs.FairLemmas.Idle.{same_itself, same_on, same_work, stays_next}
use Rattle.law_progress.proofs.FairLemmas.InTurn.{is_refused, IsRefused, refused_step, stays_refused}
use Rattle.law_progress.proofs.RestLemmas.Delivers.{IsHead, less_work, some_head}
use Rattle.law_progress.proofs.RestLemmas.Rest.{at_rest, work_is}
use Rattle.law_progress.specs.Fair.Schedule.{after, EndsInDeliveries, IsFair, IsSameButClocks, next_number, RestsFrom}
use Rattle.law_progress.specs.Fair.Schedule.{StopsFrom, world_after}
use Rattle.law_progress.specs.Rest.Rest.{IsDelivery, work}
use Rattle.rbc_spec.specs.Frame.{Frame}
use Rattle.rbc_spec.specs.Line.{IsLine, Line}
use Rattle.rbc_spec.specs.Step.{Refusal}
use Rattle.rbc_spec.specs.World.{Answer, Bytes, Delivery, Event, Set, Unset, World, world_step}

module _ (line : Line) (ok : IsLine line) (schedule : ℕ → Event) (ranges : (n : ℕ) → IsReadInRange (schedule n)) where
  abbrev At : ℕ → World
  At n = world_after line schedule n

  abbrev Step : ℕ → Result (Answer × World) Refusal
  Step n = world_step line (At n) (schedule n)

  known : (n : ℕ) → IsReachedSo line (At n)
  known = reached_at line ok schedule

  pub one_on : (n : ℕ) → At (suc n) ≡ after (At n) (Step n)
  unfolding world_after
  one_on n = refl

  pub in_range_at : (n : ℕ) → IsWorldInRange line (At n)
  unfolding world_after
  in_range_at zero = new_in_range line
  in_range_at (suc n) = by_step (in_range_at n) (Step n) refl
    where
      by_step : IsWorldInRange line (At n) → (r : Result (Answer × World) Refusal) → Step n ≡ r
          → IsWorldInRange line (after (At n) r)
      by_step old (Err why) is = old
      by_step old (Ok (answer, new)) is = step_in_range line ok (At n) old (schedule n) (ranges n) answer new is

  -- ## The effect of a delivery

  -- the next frame of a link is refused
  record IsStopped (n : ℕ) : Type 0 where
    a : ℕ
    b : ℕ
    number : ℕ
    is_next : IsNext line (At n) a b number
    refused : IsRefused line (At n) a b number is_next.frame

  -- a refusal, or less work
  abbrev Works : ℕ → Type 0
  Works n = IsStopped n ⊎ (work line (At (suc n)) + 1 ≤ work line (At n))

  data Meets (n : ℕ) : Type 0 where
    idle : IsIdle (At n) (Step n) → Meets n
    next : (a b number : ℕ) → IsNext line (At n) a b number → Works n → Meets n

  of_next : (n a b number : ℕ) → schedule n ≡ Delivery a b number → IsNext line (At n) a b number → Works n
  of_next n a b number at is_next = by_step (Step n) refl
    where
      by_step : (r : Result (Answer × World) Refusal) → Step n ≡ r → Works n
      by_step (Err why) is = inl (record {
        a = a;
        b = b;
        number = number;
        is_next = is_next;
        refused = is_refused line (At n) a b number is_next.frame why is_next.sent
            (sym (ap (world_step line (At n)) at) ∙ is);
      })
      by_step (Ok (answer, new)) is =
          inr (subst (λ (v : World). work line v + 1 ≤ work line (At n)) (sym (one_on n ∙ ap (after (At n)) is))
          (omega (
            arith,
            work_is line (At n),
            work_is line new,
            less_work line (At n) (known n).sound.flow (known n).sound.numbered a b number is_next.frame
                (record { sent = is_next.sent; next = is_next.next }) answer new
                (sym (ap (world_step line (At n)) at) ∙ is),
          )))

  of_delivery : (n : ℕ) (event : Event) → schedule n ≡ event → IsDelivery event → Meets n
  of_delivery n (Delivery a b number) at is = by_kind (idle_or_next line (At n) a b number)
    where
      by_kind : IsIdle (At n) (world_step line (At n) (Delivery a b number)) ⊎ IsNext line (At n) a b number → Meets n
      by_kind (inl still) = idle (subst (λ e. IsIdle (At n) (world_step line (At n) e)) (sym at) still)
      by_kind (inr is_next) = next a b number is_next (of_next n a b number at is_next)
  of_delivery n (Bytes c read) at is = absurd is
  of_delivery n (Set c s) at is = absurd is
  of_delivery n (Unset c s) at is = absurd is

  -- ## The next accepted delivery

  module _ (from : ℕ) (are_deliveries : (n : ℕ) → from ≤ n → IsDelivery (schedule n)) where
    meets : (n : ℕ) → from ≤ n → Meets n
    meets n late = of_delivery n (schedule n) refl (are_deliveries n late)

    -- the next from a to b is delivered at n
    abbrev IsDeliveredAt : ℕ → ℕ → ℕ → Type 0
    IsDeliveredAt a b n = schedule n ≡ Delivery a b (next_number (At n) a b)

    -- a position from n on at which a delivery is refused, or less work is left
    record Found (n : ℕ) : Type 0 where
      at : ℕ
      later : n ≤ at
      is : IsStopped at ⊎ (work line (At at) + 1 ≤ work line (At n))

    found_here : (n : ℕ) → Works n → Found n
    found_here n (inl stops) = record { at = n; later = omega arith; is = inl stops }
    found_here n (inr works) = record { at = suc n; later = omega arith; is = inr works }

    still : (n : ℕ) → IsIdle (At n) (Step n) → IsSameButClocks (At n) (At (suc n))
    still n is = subst (IsSameButClocks (At n)) (sym (one_on n)) is.same

    found_on : (n : ℕ) → IsSameButClocks (At n) (At (suc n)) → Found (suc n) → Found n
    found_on n same it = record { at = it.at; later = omega (arith, it.later); is = by_end it.is }
      where
        by_end : IsStopped it.at ⊎ (work line (At it.at) + 1 ≤ work line (At (suc n))) → IsStopped it.at
            ⊎ (work line (At it.at) + 1 ≤ work line (At n))
        by_end (inl is) = inl is
        by_end (inr works) = inr (omega (arith, works, same_work line (At n) (At (suc n)) same))

    found : (a b number d n : ℕ) → from ≤ n → IsNext line (At n) a b number → IsDeliveredAt a b (n + d) → Found n
    found a b number zero n late is_next at = let here : n + 0 ≡ n = omega arith in
        let delivery : schedule n ≡ Delivery a b number = subst (IsDeliveredAt a b) here at
        ∙ ap (Delivery a b) (sym (number_is line (At n) (known n) a b number is_next)) in
        found_here n (of_next n a b number delivery is_next)
    found a b number (suc d) n late is_next at = let there : n + suc d ≡ suc n + d = omega arith in
        by_event (λ next_on. found a b number d (suc n) (omega (arith, late)) next_on
        (subst (IsDeliveredAt a b) there at)) (meets n late)
      where
        by_event : (IsNext line (At (suc n)) a b number → Found (suc n)) → Meets n → Found n
        by_event on (idle is) = let same = still n is in
            found_on n same (on (stays_next line (At n) (At (suc n)) same a b number is_next))
        by_event on (next c d other is works) = found_here n works

    -- ## If nothing is on the way

    record IsDone (n m : ℕ) : Type 0 where
      no_work : work line (At m) ≡ 0
      same : IsSameButClocks (At n) (At m)

    idle_still : (n m : ℕ) → from ≤ m → IsDone n m → IsIdle (At m) (Step m)
    idle_still n m late done = by_event (meets m late)
      where
        by_event : Meets m → IsIdle (At m) (Step m)
        by_event (idle is) = is
        by_event (next a b number is works) = absurd (none_next line (At m) (known m) a b number is done.no_work)

    one_more : (n m : ℕ) → from ≤ m → IsDone n m → IsDone n (suc m)
    one_more n m late done = let same = still m (idle_still n m late done) in record {
      no_work = same_work line (At m) (At (suc m)) same ∙ done.no_work;
      same = same_on (At n) (At m) (At (suc m)) done.same same;
    }

    done_on : (n d : ℕ) → from ≤ n → work line (At n) ≡ 0 → IsDone n (d + n)
    done_on n zero late none = subst (IsDone n) (omega arith) (record { no_work = none; same = same_itself (At n) })
    done_on n (suc d) late none =
        subst (IsDone n) (omega arith) (one_more n (d + n) (omega (arith, late)) (done_on n d late none))

    done_at : (n m : ℕ) → from ≤ n → work line (At n) ≡ 0 → n ≤ m → IsDone n m
    done_at n m late none later = subst (IsDone n) (omega (arith, later)) (done_on n (m - n) late none)

    rests : (n : ℕ) → from ≤ n → work line (At n) ≡ 0 → RestsFrom line schedule n
    rests n late none = record {
      at_rest =
          λ m later. at_rest line (At m) (omega (arith, work_is line (At m), (done_at n m late none later).no_work))
          (known m);
      silent = λ m later. (idle_still n m (omega (arith, late, later)) (done_at n m late none later)).silent;
      same = λ m later. (done_at n m late none later).same;
    }

    -- ## A refusal is for good

    module _ (a b number : ℕ) (f : Frame) where
      refused_once_more : (m : ℕ) → from ≤ m → IsRefused line (At m) a b number f
          → IsRefused line (At (suc m)) a b number f
      refused_once_more m late it = subst (λ v. IsRefused line v a b number f) (sym (one_on m)) (by_step (Step m) refl)
        where
          by_step : (r : Result (Answer × World) Refusal) → Step m ≡ r → IsRefused line (after (At m) r) a b number f
          by_step (Err why) is = it
          by_step (Ok (answer, new)) is =
              stays_refused line (At m) a b number f it (schedule m) (are_deliveries m late) answer new is

      refused_on : (n d : ℕ) → from ≤ n → IsRefused line (At n) a b number f → IsRefused line (At (d + n)) a b number f
      refused_on n zero late it = let here : n ≡ 0 + n = omega arith in
          subst (λ m. IsRefused line (At m) a b number f) here it
      refused_on n (suc d) late it = let there : suc (d + n) ≡ suc d + n = omega arith in
          subst (λ m. IsRefused line (At m) a b number f) there
          (refused_once_more (d + n) (omega (arith, late)) (refused_on n d late it))

      refused_at : (n m : ℕ) → from ≤ n → n ≤ m → IsRefused line (At n) a b number f
          → IsRefused line (At m) a b number f
      refused_at n m late later it = let there : (m - n) + n ≡ m = omega (arith, later) in
          subst (λ m. IsRefused line (At m) a b number f) there (refused_on n (m - n) late it)

    stops : (n : ℕ) → from ≤ n → IsStopped n → StopsFrom line schedule n
    stops n late it = record {
      a = it.a;
      b = it.b;
      on_way = on_way line (At n) (known n) it.a it.b it.number it.is_next;
      refused = λ m later. let then = refused_at it.a it.b it.number it.is_next.frame n m late later it.refused in (
        then.why,
        ap (λ x. world_step line (At m) (Delivery it.a it.b x))
            (sym (number_is line (At n) (known n) it.a it.b it.number it.is_next))
            ∙ refused_step line (At m) it.a it.b it.number it.is_next.frame then,
      );
    }

    -- ## All together

    module _ (fair : IsFair line schedule) where
      abbrev Ends : Type 0
      Ends = (n : ℕ) × (RestsFrom line schedule n ⊎ StopsFrom line schedule n)

      none_or_some : (n : ℕ) → (n ≡ 0) ⊎ (0 < n)
      none_or_some zero = inl refl
      none_or_some (suc n) = inr (omega arith)

      next_found : (n a b number : ℕ) → from ≤ n → IsNext line (At n) a b number → (m : ℕ) × (n ≤ m)
          × IsDeliveredAt a b m → Found n
      next_found n a b number late is_next (m, later, at) = let there : m ≡ n + (m - n) = omega (arith, later) in
          found a b number (m - n) n late is_next (subst (IsDeliveredAt a b) there at)

      some_found : (n : ℕ) → from ≤ n → 0 < work line (At n) → Found n
      some_found n late some =
          by_head (some_head line (At n) (known n).sound.numbered (in_range_at n).sent
          (omega (arith, some, work_is line (At n))))
        where
          by_head : (a : ℕ) × (b : ℕ) × (f : Frame) × IsHead line (At n) a b (next_number (At n) a b) f → Found n
          by_head (a, b, f, is) = let is_next : IsNext line (At n) a b (next_number (At n) a b) =
              record { frame = f; sent = is.sent; next = is.next } in
              next_found n a b (next_number (At n) a b) late is_next
              (fair.delivers n a b (on_way line (At n) (known n) a b (next_number (At n) a b) is_next))

      ends_from : (most n : ℕ) → from ≤ n → work line (At n) ≤ most → Ends
      ends_from zero n late few = (n, inl (rests n late (omega (arith, few))))
      ends_from (suc most) n late few = by_work (λ m later less_left. ends_from most m later less_left)
          (none_or_some (work line (At n)))
        where
          by_found : ((m : ℕ) → from ≤ m → work line (At m) ≤ most → Ends) → (it : Found n) → IsStopped it.at
              ⊎ (work line (At it.at) + 1 ≤ work line (At n)) → Ends
          by_found on it (inl is) = (it.at, inr (stops it.at (omega (arith, late, it.later)) is))
          by_found on it (inr works) = on it.at (omega (arith, late, it.later)) (omega (arith, works, few))

          by_work : ((m : ℕ) → from ≤ m → work line (At m) ≤ most → Ends) → (work line (At n) ≡ 0)
              ⊎ (0 < work line (At n)) → Ends
          by_work on (inl none) = (n, inl (rests n late none))
          by_work on (inr some) = let it = some_found n late some in by_found on it it.is

  pub comes_to_rest : IsFair line schedule → EndsInDeliveries schedule
      → (n : ℕ) × (RestsFrom line schedule n ⊎ StopsFrom line schedule n)
  comes_to_rest fair ends = ends_from ends.from ends.are_deliveries fair (work line (At ends.from)) ends.from
      (omega arith) (omega arith)
