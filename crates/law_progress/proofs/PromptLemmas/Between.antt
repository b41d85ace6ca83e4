-- Any endless list of events has a prompt schedule: between two of them the next frames of all links are delivered.
use Rattle.std.proofs.Common.{⊎_elim, ◌%◌, ◌*◌, ◌+◌, ◌-◌, ◌/◌, ◌<◌, ◌==◌, ◌∙◌, ◌≡◌, ◌≤◌, ap, arith}
use Rattle.std.proofs.Common.{eq-eqb, if◌then◌else◌, mod-lt, ne_eqb, refl, suc, sym, zero, ℕ}
use Rattle.std.proofs.Math.Nat.{mul-le-mul_right, suc-mul}
use Rattle.std.proofs.lemmas.Bool.{cases_lt}
use Rattle.std.proofs.lemmas.Nat.{div-add-mod', div-mul-add, mod-mul-add}
use Rattle.law_invariants.specs.Flow.Flow.{centre_count}
use Rattle.law_progress.proofs.FairLemmas.Idle.{reached_at}
use Rattle.law_progress.proofs.FairLemmas.InTurn.{from_line, to_line}
use Rattle.law_progress.specs.Fair.Schedule.{after, next_number, world_after}
use Rattle.law_progress.specs.Prompt.Answering.{HasInOrder, IsPrompt}
use Rattle.rbc_spec.specs.Line.{IsLine, Line}
use Rattle.rbc_spec.specs.World.{Delivery, Event, new_world, World, world_step}

module _ (line : Line) (others : ℕ → Event) where
  abbrev Count : ℕ
  Count = centre_count line

  -- one event of the list, then one delivery for each link
  abbrev Round : ℕ
  Round = Count * Count + 1

  -- the delivery of the next of the link of this number
  abbrev turn : ℕ → World → Event
  turn j w = Delivery (j / Count) (j % Count) (next_number w (j / Count) (j % Count))

  abbrev event_at : ℕ → World → Event
  event_at n w = if (n % Round) == 0 then others (n / Round) else turn (n % Round - 1) w

  world_there : ℕ → World
  world_there zero = new_world line
  world_there (suc n) = after (world_there n) (world_step line (world_there n) (event_at n (world_there n)))

  abbrev schedule : ℕ → Event
  schedule n = event_at n (world_there n)

  same_world : (n : ℕ) → world_after line schedule n ≡ world_there n
  unfolding world_after world_there
  same_world zero = refl
  same_world (suc n) = ap (λ w. after w (world_step line w (schedule n))) (same_world n)

  round_some : 0 < Round
  round_some = omega arith

  has_each : (i : ℕ) → schedule (i * Round) ≡ others i
  has_each i = ap (λ b. if b then others (i * Round / Round)
      else turn (i * Round % Round - 1) (world_there (i * Round)))
      (eq-eqb (i * Round % Round) 0 rest)
      ∙ ap others quotient
    where
      here : i * Round ≡ i * Round + 0
      here = omega arith

      rest : i * Round % Round ≡ 0
      rest = ap (λ x. x % Round) here ∙ mod-mul-add i Round 0 round_some

      quotient : i * Round / Round ≡ i
      quotient = ap (λ x. x / Round) here ∙ div-mul-add i Round 0 round_some

  -- ## The turn of a link

  module _ (a b : ℕ) (from : a < Count) (to : b < Count) where
    abbrev place : ℕ
    place = a * Count + b

    small : place + 1 < Round
    small = omega (arith, to, suc-mul a Count, mul-le-mul_right {m = suc a} {n = Count} Count (omega (arith, from)))

    at_turn : (q : ℕ) → schedule (q * Round + (place + 1))
        ≡ Delivery a b (next_number (world_after line schedule (q * Round + (place + 1))) a b)
    at_turn q =
        ap (λ r. if r == 0 then others (m / Round) else turn (r - 1) (world_there m)) remainder
        ∙ ap (λ z. if z then others (m / Round) else turn ((place + 1) - 1) (world_there m))
        (ne_eqb (place + 1) 0 (λ same. omega (arith, same)))
        ∙ ap (λ j. turn j (world_there m)) one_less
        ∙ ap (λ x. Delivery x (place % Count) (next_number (world_there m) x (place % Count)))
        (div-mul-add a Count b to)
        ∙ ap (λ x. Delivery a x (next_number (world_there m) a x)) (mod-mul-add a Count b to)
        ∙ ap (λ w. Delivery a b (next_number w a b)) (sym (same_world m))
      where
        m : ℕ
        m = q * Round + (place + 1)

        remainder : (q * Round + (place + 1)) % Round ≡ place + 1
        remainder = mod-mul-add q Round (place + 1) small

        one_less : (place + 1) - 1 ≡ place
        one_less = omega arith

    -- the turn of the link comes within one round
    comes : (n : ℕ) → (m : ℕ) × (n ≤ m) × (m < n + Round)
        × (schedule m ≡ Delivery a b (next_number (world_after line schedule m) a b))
    comes n = ⊎_elim
        (λ (late : place + 1 < n % Round). (
          suc (n / Round) * Round + (place + 1),
          omega (arith, whole, rest, small, suc-mul (n / Round) Round),
          omega (arith, whole, late, suc-mul (n / Round) Round),
          at_turn (suc (n / Round)),
        ))
        (λ (early : n % Round ≤ place + 1). (
          n / Round * Round + (place + 1),
          omega (arith, whole, early),
          omega (arith, whole, small),
          at_turn (n / Round),
        ))
        (cases_lt (place + 1) (n % Round))
      where
        whole : n / Round * Round + n % Round ≡ n
        whole = div-add-mod' n Round

        rest : n % Round < Round
        rest = mod-lt n round_some

  pub has_prompt : IsLine line → (schedule : ℕ → Event) × (k : ℕ) × HasInOrder others k schedule
      × IsPrompt line schedule k
  has_prompt ok = (
    schedule,
    Round,
    record { each = has_each },
    record {
      delivers =
          λ n a b some. comes a b
          (from_line line (world_after line schedule n) (reached_at line ok schedule n) a b some)
          (to_line line (world_after line schedule n) (reached_at line ok schedule n) a b some) n;
    },
  )
