-- The frames on the way of a link in a prompt schedule: each is taken in time, or a delivery is refused.
use Rattle.std.proofs.Common.{[], ⊎_elim, ◌*◌, ◌+◌, ◌-◌, ◌<◌, ◌∙◌, ◌∷◌, ◌≡◌, ◌≢◌, ◌≤◌, ◌⊎◌, ap, arith, drop}
use Rattle.std.proofs.Common.{Err, inl, inr, length, length-append, List, Ok, refl}
use Rattle.std.proofs.Common.{Result, slice_get, Some, subst, suc, sym, zero, ℕ}
use Rattle.std.proofs.lemmas.Bool.{cases_lt}
use Rattle.std.proofs.lemmas.List.{append-nil, length-drop}
use Rattle.std.proofs.Math.Nat.{mul-suc, mul-zero}
use Rattle.law_invariants.proofs.NoStrayLemmas.Reached.{delivered_at}
use Rattle.law_invariants.proofs.NoStrayLemmas.Worlds.{IsReachedSo}
use Rattle.law_invariants.specs.Ranges.Stays.{IsReadInRange, IsWorldInRange}
use Rattle.law_progress.proofs.FairLemmas.Fair.{in_range_at, one_on}
use Rattle.law_progress.proofs.FairLemmas.Idle.{reached_at}
use Rattle.law_progress.proofs.FairLemmas.InTurn.{got_front}
use Rattle.law_progress.proofs.PromptLemmas.Links.{HasSent, Keeps, link_step, sent_step, Takes}
use Rattle.law_progress.proofs.PromptLemmas.Lists.{some_left}
use Rattle.law_progress.proofs.RestLemmas.Delivers.{head_of, IsHead, one_more}
use Rattle.law_progress.specs.Fair.Schedule.{after, next_number, world_after}
use Rattle.law_progress.specs.Prompt.Answering.{IsHeldUp, IsPrompt}
use Rattle.rbc_spec.proofs.Lists.{put_here}
use Rattle.rbc_spec.specs.Centre.{Centre}
use Rattle.rbc_spec.specs.Frame.{Frame}
use Rattle.rbc_spec.specs.Line.{IsLine, Line}
use Rattle.rbc_spec.specs.Step.{Refusal}
use Rattle.rbc_spec.specs.World.{Answer, Delivery, Event, way, World, world_step}

module _ (line : Line) (ok : IsLine line) (schedule : ℕ → Event) (ranges : (n : ℕ) → IsReadInRange (schedule n)) where
  abbrev pub At : ℕ → World
  At n = world_after line schedule n

  abbrev pub Step : ℕ → Result (Answer × World) Refusal
  Step n = world_step line (At n) (schedule n)

  pub known : (n : ℕ) → IsReachedSo line (At n)
  known = reached_at line ok schedule

  pub in_range : (n : ℕ) → IsWorldInRange line (At n)
  in_range = in_range_at line ok schedule ranges

  after_is : (n : ℕ) (r : Result (Answer × World) Refusal) → Step n ≡ r → At (suc n) ≡ after (At n) r
  after_is n r is = one_on line ok schedule ranges n ∙ ap (after (At n)) is

  -- a refused step changes nothing
  pub by_result : (P : World → Type 0) (n : ℕ) → P (At n)
      → ((answer : Answer) (new : World) → Step n ≡ Ok (answer, new) → P new) → P (At (suc n))
  by_result P n same step = of_result (Step n) refl
    where
      of_result : (r : Result (Answer × World) Refusal) → Step n ≡ r → P (At (suc n))
      of_result (Err why) is = subst P (sym (after_is n (Err why) is)) same
      of_result (Ok (answer, new)) is = subst P (sym (after_is n (Ok (answer, new)) is)) (step answer new is)

  -- the step at n takes the next frame from a to b
  pub record TakesAt (a b n : ℕ) : Type 0 where
    pub answer : Answer
    pub did : Step n ≡ Ok (answer, At (suc n))
    pub takes : Takes line (At n) a b (schedule n) answer (At (suc n))

  module _ (a b : ℕ) where
    -- how many frames b has taken of a, and those that a has sent to b
    abbrev pub Taken : ℕ → ℕ
    Taken n = ((At n).at b).taken a

    abbrev pub Sent : ℕ → List Frame
    Sent n = ((At n).at a).sent b

    abbrev Link : ℕ → World → Type 0
    Link n new = Keeps (At n) a b new ⊎ ((answer : Answer) × (Step n ≡ Ok (answer, new))
        × Takes line (At n) a b (schedule n) answer new)

    link_on : (n : ℕ) → Link n (At (suc n))
    link_on n = by_result (Link n) n (inl refl) (λ answer new is. by_link answer new is
        (link_step line (At n) (known n).sound.numbered a b (schedule n) answer new is))
      where
        by_link : (answer : Answer) (new : World) → Step n ≡ Ok (answer, new)
            → Keeps (At n) a b new ⊎ Takes line (At n) a b (schedule n) answer new → Link n new
        by_link answer new is (inl keeps) = inl keeps
        by_link answer new is (inr takes) = inr (answer, is, takes)

    pub link_at : (n : ℕ) → (Taken (suc n) ≡ Taken n) ⊎ TakesAt a b n
    link_at n = by_link (link_on n)
      where
        by_link : Link n (At (suc n)) → (Taken (suc n) ≡ Taken n) ⊎ TakesAt a b n
        by_link (inl keeps) = inl keeps
        by_link (inr (answer, is, takes)) = inr (record { answer = answer; did = is; takes = takes })

    pub sent_on : (n : ℕ) → HasSent b ((At n).at a) ((At (suc n)).at a)
    sent_on n = by_result (λ v. HasSent b ((At n).at a) (v.at a)) n (record {
      more = [];
      sent = sym (append-nil (Sent n));
      few = omega arith;
    }) (λ answer new is. sent_step line ok (At n) (in_range n) a b (schedule n) (ranges n) answer new is)

    -- ## The counts rise

    up : (n : ℕ) → Taken n ≤ Taken (suc n)
    up n = ⊎_elim (λ (same : Taken (suc n) ≡ Taken n). omega (arith, same))
        (λ (it : TakesAt a b n). omega (arith, it.takes.one_more)) (link_at n)

    up_by : (d n : ℕ) → Taken n ≤ Taken (d + n)
    up_by zero n = let here : n ≡ 0 + n = omega arith in let same : Taken n ≤ Taken n = omega arith in
        subst (λ m. Taken n ≤ Taken m) here same
    up_by (suc d) n = let there : suc (d + n) ≡ suc d + n = omega arith in
        let more : Taken n ≤ Taken (suc (d + n)) = omega (arith, up_by d n, up (d + n)) in
        subst (λ m. Taken n ≤ Taken m) there more

    pub up_to : (n m : ℕ) → n ≤ m → Taken n ≤ Taken m
    up_to n m le = let there : (m - n) + n ≡ m = omega (arith, le) in
        subst (λ x. Taken n ≤ Taken x) there (up_by (m - n) n)

    -- from n to m at most three frames an event
    abbrev More : ℕ → ℕ → ℕ → Type 0
    More n d m = (length (Sent n) ≤ length (Sent m)) × (length (Sent m) ≤ length (Sent n) + 3 * d)

    more_by : (d n : ℕ) → More n d (d + n)
    more_by zero n = let here : n ≡ 0 + n = omega arith in let same : More n 0 n = (omega arith, omega arith) in
        subst (More n 0) here same
    more_by (suc d) n = let there : suc (d + n) ≡ suc d + n = omega arith in
        subst (More n (suc d)) there (one_on_more (more_by d n) (sent_on (d + n)))
      where
        one_on_more : More n d (d + n) → HasSent b ((At (d + n)).at a) ((At (suc (d + n))).at a)
            → More n (suc d) (suc (d + n))
        one_on_more old it = let count : length (Sent (suc (d + n))) ≡ length (Sent (d + n)) + length it.more =
            ap length it.sent ∙ length-append (Sent (d + n)) it.more in
            (omega (arith, old.0, count), omega (arith, old.1, count, it.few))

    pub more_to : (n m : ℕ) → n ≤ m → More n (m - n) m
    more_to n m le = let there : (m - n) + n ≡ m = omega (arith, le) in
        subst (More n (m - n)) there (more_by (m - n) n)

    stays_by : (d n i : ℕ) (f : Frame) → slice_get (Sent n) i ≡ Some f → slice_get (Sent (d + n)) i ≡ Some f
    stays_by zero n i f is = let here : n ≡ 0 + n = omega arith in
        subst (λ m. slice_get (Sent m) i ≡ Some f) here is
    stays_by (suc d) n i f is = let there : suc (d + n) ≡ suc d + n = omega arith in
        subst (λ m. slice_get (Sent m) i ≡ Some f) there (still (sent_on (d + n)) (stays_by d n i f is))
      where
        still : HasSent b ((At (d + n)).at a) ((At (suc (d + n))).at a) → slice_get (Sent (d + n)) i ≡ Some f
            → slice_get (Sent (suc (d + n))) i ≡ Some f
        still it old = ap (λ fs. slice_get fs i) it.sent ∙ got_front (Sent (d + n)) it.more i f old

    -- a frame that was sent keeps its place
    pub stays_to : (n m i : ℕ) (f : Frame) → n ≤ m → slice_get (Sent n) i ≡ Some f → slice_get (Sent m) i ≡ Some f
    stays_to n m i f le is = let there : (m - n) + n ≡ m = omega (arith, le) in
        subst (λ x. slice_get (Sent x) i ≡ Some f) there (stays_by (m - n) n i f is)

    -- ## The next delivery

    abbrev Stops : ℕ → ℕ → Type 0
    Stops n m = IsHeldUp line schedule n m a b

    pub wider : (n m i j : ℕ) → i ≤ n → m ≤ j → Stops n m → Stops i j
    wider n m i j before past it = record {
      at = it.at;
      late = omega (arith, before, it.late);
      soon = omega (arith, past, it.soon);
      is_delivery = it.is_delivery;
      why = it.why;
      refused = it.refused;
    }

    -- the delivery of the next frame takes it, or is refused
    delivery : (n : ℕ) → schedule n ≡ Delivery a b (next_number (At n) a b) → Taken n < length (Sent n)
        → Stops n (suc n) ⊎ (Taken (suc n) ≡ Taken n + 1)
    delivery n at small = of_result (Step n) refl
      where
        left : (f : Frame) × (way (At n) a b ≡ f ∷ drop (suc (Taken n)) (Sent n))
        left = some_left (Sent n) (Taken n) small

        head : IsHead line (At n) a b (next_number (At n) a b) left.0
        head = head_of line (At n) (known n).sound.numbered (in_range n).sent a b left.0
            (drop (suc (Taken n)) (Sent n)) left.1

        of_result : (r : Result (Answer × World) Refusal) → Step n ≡ r → Stops n (suc n)
            ⊎ (Taken (suc n) ≡ Taken n + 1)
        of_result (Err why) is = inl (record {
          at = n;
          late = omega arith;
          soon = omega arith;
          is_delivery = at;
          why = why;
          refused = is;
        })
        of_result (Ok (answer, new)) is = inr (ap (λ (v : World). (v.at b).taken a) (after_is n (Ok (answer, new)) is)
            ∙ ap (λ (x : Centre). x.taken a) (delivered_at line (At n) a b (next_number (At n) a b) left.0 answer new
            head.sent (sym (ap (world_step line (At n)) at) ∙ is))
            ∙ one_more line (At n) (known n).sound.flow (known n).sound.numbered a b (next_number (At n) a b)
            left.0 head a
            ∙ put_here ((At n).at b).taken a a (Taken n + 1) refl)

    -- ## Each frame on the way

    -- after k events for each of d frames, d more are taken, or a delivery is refused
    abbrev Reaches : ℕ → ℕ → ℕ → Type 0
    Reaches n m goal = Stops n m ⊎ (goal ≤ Taken m)

    module _ (k : ℕ) (prompt : IsPrompt line schedule k) where
      module _ (d n goal : ℕ) (near : goal ≤ Taken n + suc d) (sent : goal ≤ length (Sent n))
          (rest : goal ≤ Taken (n + k) + d → goal ≤ length (Sent (n + k))
          → Reaches (n + k) ((n + k) + k * d) goal) where
        there : (n + k) + k * d ≡ n + k * suc d
        there = omega (arith, mul-suc k d)

        past : suc (n + k) ≤ suc (n + k * suc d)
        past = omega (arith, mul-suc k d)

        by_rest : Reaches (n + k) ((n + k) + k * d) goal → Reaches n (n + k * suc d) goal
        by_rest (inl it) =
            inl (wider (n + k) ((n + k) + k * d) n (n + k * suc d) (omega arith) (omega (arith, there)) it)
        by_rest (inr done) = inr (subst (λ m. goal ≤ Taken m) there done)

        on : goal ≤ Taken (n + k) + d → Reaches n (n + k * suc d) goal
        on nearer = by_rest (rest nearer (omega (arith, sent, (more_to n (n + k) (omega arith)).0)))

        by_event : (m : ℕ) → n ≤ m → m < n + k → Reaches m (suc m) (Taken m + 1) → Reaches n (n + k * suc d) goal
        by_event m later soon (inl it) = inl (wider m (suc m) n (n + k * suc d) later (omega (arith, soon, past)) it)
        by_event m later soon (inr more) = on (omega (
          arith,
          near,
          more,
          up_to n m later,
          up_to (suc m) (n + k) (omega (arith, soon)),
        ))

        reached_or : (m : ℕ) → Stops m (suc m) ⊎ (Taken (suc m) ≡ Taken m + 1) → Reaches m (suc m) (Taken m + 1)
        reached_or m (inl it) = inl it
        reached_or m (inr more) = inr (omega (arith, more))

        by_delivery : (m : ℕ) × (n ≤ m) × (m < n + k) × (schedule m ≡ Delivery a b (next_number (At m) a b))
            → Reaches n (n + k * suc d) goal
        by_delivery (m, later, soon, at) = ⊎_elim
            (λ (missing : Taken m < goal). by_event m later soon (reached_or m
            (delivery m at (omega (arith, missing, sent, (more_to n m later).0)))))
            (λ (got : goal ≤ Taken m). on (omega (arith, got, up_to m (n + k) (omega (arith, soon)))))
            (cases_lt (Taken m) goal)

        left : Taken n < goal → way (At n) a b ≢ []
        left some none = omega (arith, some, sent, length-drop (Taken n) (Sent n), ap length none)

        reach_one : Reaches n (n + k * suc d) goal
        reach_one = ⊎_elim
            (λ (some : Taken n < goal). by_delivery (prompt.delivers n a b (left some)))
            (λ (none : goal ≤ Taken n). inr (omega (arith, none, up_to n (n + k * suc d) (omega arith))))
            (cases_lt (Taken n) goal)

      pub reach : (d n goal : ℕ) → goal ≤ Taken n + d → goal ≤ length (Sent n) → Reaches n (n + k * d) goal
      reach zero n goal near sent = let here : n ≡ n + k * 0 = omega (arith, mul-zero k) in
          let done : goal ≤ Taken n = omega (arith, near) in inr (subst (λ m. goal ≤ Taken m) here done)
      reach (suc d) n goal near sent = reach_one d n goal near sent (reach d (n + k) goal)
