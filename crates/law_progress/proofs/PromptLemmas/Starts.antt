-- In a prompt schedule each start of mission that waits is answered in time.
use Rattle.std.proofs.Common.{⊎_elim, ◌+◌, ◌-◌, ◌∙◌, ◌≡◌, ◌≢◌, ◌⊎◌, ap, arith, false, inl, inr}
use Rattle.std.proofs.Common.{is_some, List, None, Ok, Option, refl, Result, Some, subst, suc, sym, true, zero, ℕ}
use Rattle.std.proofs.lemmas.Bool.{cases_eq}
use Rattle.law_base.specs.Walk.Trains.{train_of}
use Rattle.law_invariants.proofs.NoStrayLemmas.Worlds.{frame_due, IsReachedSo}
use Rattle.law_invariants.specs.NoStray.Due.{IsDue}
use Rattle.law_invariants.specs.NoUnasked.Asked.{OfRight}
use Rattle.law_invariants.specs.Ranges.Stays.{IsReadInRange}
use Rattle.law_progress.proofs.PromptLemmas.Prompt.{is_answered_soon}
use Rattle.law_progress.proofs.PromptLemmas.Queue.{by_result, known}
use Rattle.law_progress.proofs.PromptLemmas.WaitEnds.{given_other, given_tells, Keeps, of_still, refused_other}
use Rattle.law_progress.proofs.PromptLemmas.WaitEnds.{refused_tells, tells}
use Rattle.law_progress.proofs.PromptLemmas.WaitFrames.{frame_still, set_still, unset_still}
use Rattle.law_progress.proofs.PromptLemmas.WaitSteps.{message_keeps, OfSession}
use Rattle.law_progress.specs.Fair.Schedule.{world_after}
use Rattle.law_progress.specs.Prompt.Answering.{AnswersStart, IsAnsweredSoon, IsHeldUp, IsPrompt, IsSessionOf}
use Rattle.law_progress.specs.Prompt.Answering.{IsStartAnswered, IsStartEnded}
use Rattle.rbc_spec.proofs.Lists.{put_here, put_other}
use Rattle.rbc_spec.proofs.Worlds.{Brings, delivers, of_event, says, sets, unsets}
use Rattle.rbc_spec.specs.Acts.{◌>>◌, Reply}
use Rattle.rbc_spec.specs.Centre.{Centre, is_registrar_of}
use Rattle.rbc_spec.specs.Frame.{Body, Frame, GiveRight, RefuseRight}
use Rattle.rbc_spec.specs.Line.{is_centre, IsLine, Line}
use Rattle.rbc_spec.specs.Links.{is_train, received}
use Rattle.rbc_spec.specs.Maps.{put}
use Rattle.rbc_spec.specs.Outcome as outcome
use Rattle.rbc_spec.specs.Outcome.{Early, Next, NoLink, Old}
use Rattle.rbc_spec.specs.Place.{Place}
use Rattle.rbc_spec.specs.Step as centre
use Rattle.rbc_spec.specs.Step.{link_answer, Refusal, silence, stamp_of, taken, taken_by, ticked}
use Rattle.rbc_spec.specs.World.{Answer, Answered, Bytes, centre_of, Delivery, Event, World, world_step}

-- ## A frame

module _ (line : Line) (a c t : ℕ) (k : Centre) (place : Place) (waits : k.wait t ≡ Some place) where
  abbrev Waits : Reply → Type 0
  Waits q = Keeps line c t k q ⊎ (tells t q.sayings ≡ true)

  module _ (stamp : ℕ) (count : ℕ → ℕ) where
    abbrev i : Centre
    i = record k { clock = stamp; taken = count }

    abbrev After : Body → Type 0
    After body = Keeps line c t i (received line c a body i) ⊎ (tells t (received line c a body i).sayings ≡ true)

    given : (u : ℕ) → is_train line u ≡ true → k.has_asked u ≡ true → k.mission u ≡ None → After (GiveRight u)
    given u known asked none = ⊎_elim
        (λ (same : t ≡ u). subst (λ v. After (GiveRight v)) same (inr (given_tells line c t a place i
        (subst (λ v. is_train line v ≡ true) (sym same) known)
        (subst (λ v. k.has_asked v ≡ true) (sym same) asked) waits
        (subst (λ v. k.mission v ≡ None) (sym same) none))))
        (λ (apart : t ≢ u). inl (given_other line c t u apart a i))
        (cases_eq t u)

    refused : (u : ℕ) → is_train line u ≡ true → k.has_asked u ≡ true → After (RefuseRight u)
    refused u known asked = ⊎_elim
        (λ (same : t ≡ u). subst (λ v. After (RefuseRight v)) same (inr (refused_tells line c t a place i
        (subst (λ v. is_train line v ≡ true) (sym same) known)
        (subst (λ v. k.has_asked v ≡ true) (sym same) asked) waits)))
        (λ (apart : t ≢ u). inl (refused_other line c t u apart a i))
        (cases_eq t u)

    by_body : (body : Body) → is_train line (train_of body) ≡ true → IsDue line a c k body → After body
    by_body (GiveRight u) known due = given u known due.0 due.2
    by_body (RefuseRight u) known due = refused u known due
    by_body body known due = inl (of_still line c t (received line c a body) i (frame_still line c a body refl))

  frame_waits : (f : Frame) → is_train line (train_of f.body) ≡ true → IsDue line a c k f.body
      → (stamp : ℕ) (o : outcome.Taken) → Waits (taken_by line c a f o (ticked stamp k))
  unfolding ◌>>◌
  frame_waits f known due stamp Next =
      ⊎_elim (λ (keeps : Keeps line c t (i stamp (put k.taken a f.number))
      (received line c a f.body (i stamp (put k.taken a f.number)))). inl (record { law = keeps.law }))
      (λ (told : tells t (received line c a f.body (i stamp (put k.taken a f.number))).sayings ≡ true). inr told)
      (by_body stamp (put k.taken a f.number) f.body known due)
  frame_waits f known due stamp Old = inl (record { law = refl })
  frame_waits f known due stamp Early = inl (record { law = refl })
  frame_waits f known due stamp NoLink = inl (record { law = refl })

-- ## A step of a world

module _ (line : Line) (ok : IsLine line) (w : World) (reached : IsReachedSo line w) (c t : ℕ) (place : Place)
    (waits : (w.at c).wait t ≡ Some place) where
  abbrev Goes : Event → Answer → World → Type 0
  Goes event answer new = ((new.at c).wait t ≡ (w.at c).wait t)
      ⊎ ((centre_of event ≡ c) × (AnswersStart t (Ok (answer, new)) ⊎ IsSessionOf line w c t event))

  module _ (d : ℕ) (own : centre.Event) (trains : List ℕ) where
    abbrev y : Centre
    y = (taken line d own (w.at d)).1

    abbrev new : World
    new = record { at = put w.at d y; trains = trains }

    -- the step of another centre
    elsewhere : c ≢ d → (new.at c).wait t ≡ (w.at c).wait t
    elsewhere apart = ap (λ (k : Centre). k.wait t) (put_other w.at d c y apart)

    keeps : c ≡ d → y.wait t ≡ (w.at d).wait t → (new.at c).wait t ≡ (w.at c).wait t
    keeps same is = ap (λ (k : Centre). k.wait t) (put_here w.at d c y same) ∙ is
        ∙ ap (λ x. (w.at x).wait t) (sym same)

  waits_at : (d : ℕ) → c ≡ d → (w.at d).wait t ≡ Some place
  waits_at d same = ap (λ x. (w.at x).wait t) (sym same) ∙ waits

  by_step : (event : Event) (d : ℕ) (own : centre.Event) (trains : List ℕ) → Brings line w event d own trains
      → c ≡ d → Goes event (Answered (taken line d own (w.at d)).0) (new d own trains)
  by_step _ _ _ trains (says d m to) same =
      by_message (message_keeps line d t m (ticked (stamp_of (w.at d) (centre.Train m)) (w.at d)) place
      (waits_at d same))
    where
      by_message : Keeps line d t (ticked (stamp_of (w.at d) (centre.Train m)) (w.at d))
          (centre.effect line d (ticked (stamp_of (w.at d) (centre.Train m)) (w.at d)) (centre.Train m)).reply
          ⊎ ((silence line d (w.at d) m ≡ None) × OfSession t m m.body)
          → Goes (Bytes d (Ok m)) (Answered (taken line d (centre.Train m) (w.at d)).0) (new d (centre.Train m) trains)
      by_message (inl it) = inl (keeps d (centre.Train m) trains same it.law)
      by_message (inr it) = inr (sym same, inr (sym same, it.1.0, it.0, it.1.1))
  by_step _ _ _ trains (sets d s to) same = inl (keeps d (centre.Set s) trains same
      (of_still line d t (centre.set line d s) (ticked (stamp_of (w.at d) (centre.Set s)) (w.at d))
      (set_still line d s)).law)
  by_step _ _ _ trains (unsets d s to) same = inl (keeps d (centre.Unset s) trains same
      (of_still line d t (centre.unset line d s) (ticked (stamp_of (w.at d) (centre.Unset s)) (w.at d))
      (unset_still line d s)).law)
  by_step _ _ _ trains (delivers a d number f sent) same =
      by_frame (frame_waits line a d t (w.at d) place (waits_at d same) f) (link_answer line d (w.at d) a f) refl
    where
      here : Keeps line d t (w.at d) (taken_by line d a f (link_answer line d (w.at d) a f)
          (ticked (stamp_of (w.at d) (centre.Deliver a f)) (w.at d)))
          ⊎ (tells t (taken_by line d a f (link_answer line d (w.at d) a f)
          (ticked (stamp_of (w.at d) (centre.Deliver a f)) (w.at d))).sayings ≡ true)
          → Goes (Delivery a d number) (Answered (taken line d (centre.Deliver a f) (w.at d)).0)
          (new d (centre.Deliver a f) trains)
      here (inl it) = inl (keeps d (centre.Deliver a f) trains same it.law)
      here (inr told) = inr (sym same, inl told)

      still : (o : outcome.Taken) → o ≢ Next → Waits line a d t (w.at d) place (waits_at d same)
          (taken_by line d a f o (ticked (stamp_of (w.at d) (centre.Deliver a f)) (w.at d)))
      still Next apart = absurd (apart refl)
      still Old apart = inl (record { law = refl })
      still Early apart = inl (record { law = refl })
      still NoLink apart = inl (record { law = refl })

      by_frame : (is_train line (train_of f.body) ≡ true → IsDue line a d (w.at d) f.body
          → (n : ℕ) (o : outcome.Taken) → Waits line a d t (w.at d) place (waits_at d same)
          (taken_by line d a f o (ticked n (w.at d))))
          → (o : outcome.Taken) → link_answer line d (w.at d) a f ≡ o
          → Goes (Delivery a d number) (Answered (taken line d (centre.Deliver a f) (w.at d)).0)
          (new d (centre.Deliver a f) trains)
      by_frame waits_on Next is = let due =
          frame_due line ok w reached.sound reached.asked reached.answered a d number f
          sent is in
          here (waits_on due.known due.due (stamp_of (w.at d) (centre.Deliver a f)) (link_answer line d (w.at d) a f))
      by_frame waits_on Old is = here (still (link_answer line d (w.at d) a f)
          (λ next. let wrong : Old ≡ Next = sym is ∙ next in cc))
      by_frame waits_on Early is = here (still (link_answer line d (w.at d) a f)
          (λ next. let wrong : Early ≡ Next = sym is ∙ next in cc))
      by_frame waits_on NoLink is = here (still (link_answer line d (w.at d) a f)
          (λ next. let wrong : NoLink ≡ Next = sym is ∙ next in cc))

  pub start_step : (event : Event) (answer : Answer) (v : World) → world_step line w event ≡ Ok (answer, v)
      → Goes event answer v
  start_step = of_event line w Goes (λ e answer idle. inl refl)
      (λ e d own trains brings none. ⊎_elim
      (λ (same : c ≡ d). by_step e d own trains brings same)
      (λ (apart : c ≢ d). inl (elsewhere d own trains apart))
      (cases_eq c d))

-- ## In a schedule

module _ (line : Line) (ok : IsLine line) (schedule : ℕ → Event) (ranges : (n : ℕ) → IsReadInRange (schedule n)) where
  abbrev At : ℕ → World
  At n = world_after line schedule n

  abbrev Step : ℕ → Result (Answer × World) Refusal
  Step n = world_step line (At n) (schedule n)

  module _ (c t : ℕ) where
    abbrev Wait : ℕ → Option Place
    Wait n = ((At n).at c).wait t

    abbrev On : ℕ → World → Type 0
    On n v = ((v.at c).wait t ≡ Wait n)
        ⊎ ((centre_of (schedule n) ≡ c) × (AnswersStart t (Step n) ⊎ IsSessionOf line (At n) c t (schedule n)))

    wait_on : (n : ℕ) (place : Place) → Wait n ≡ Some place → On n (At (suc n))
    wait_on n place waits = by_result line ok schedule ranges (On n) n (inl refl) (λ answer v is.
        subst (λ r. ((v.at c).wait t ≡ Wait n) ⊎ ((centre_of (schedule n) ≡ c)
        × (AnswersStart t r ⊎ IsSessionOf line (At n) c t (schedule n)))) (sym is)
        (start_step line ok (At n) (known line ok schedule ranges n) c t place waits (schedule n) answer v is))

    ends_by : (d n : ℕ) (place : Place) → Wait n ≡ Some place → Wait (d + n) ≡ None
        → IsStartEnded line schedule n (d + n) c t
    ends_by zero n place waits none = let here : 0 + n ≡ n = omega arith in
        absurd (let wrong : None ≡ Some place = sym (subst (λ m. Wait m ≡ None) here none) ∙ waits in cc)
    ends_by (suc d) n place waits none = let there : suc d + n ≡ d + suc n = omega arith in
        by_event (λ same. ends_by d (suc n) place (same ∙ waits) (subst (λ m. Wait m ≡ None) there none))
        (wait_on n place waits)
      where
        by_event : (Wait (suc n) ≡ Wait n → IsStartEnded line schedule (suc n) (d + suc n) c t) → On n (At (suc n))
            → IsStartEnded line schedule n (suc d + n) c t
        by_event later (inl same) = let it = later same in record {
          at = it.at;
          late = omega (arith, it.late);
          soon = omega (arith, it.soon);
          here = it.here;
          ends = it.ends;
        }
        by_event later (inr (here, ends)) =
            record { at = n; late = omega arith; soon = omega arith; here = here; ends = ends }

    none_waits : (n : ℕ) → ((At n).at c).has_asked t ≡ false → Wait n ≡ None
    none_waits n ended = by_wait (Wait n) refl
      where
        by_wait : (o : Option Place) → Wait n ≡ o → o ≡ None
        by_wait None is = refl
        by_wait (Some place) is = absurd (let wrong : true ≡ false =
            sym (((known line ok schedule ranges n).answered.waits
            c).each t (ap is_some is)) ∙ ended in cc)

    module _ (k : ℕ) (prompt : IsPrompt line schedule k) (d : ℕ) (to : is_centre line c ≡ true)
        (registrar : is_registrar_of line d t ≡ true) (n : ℕ) (place : Place) (waits : Wait n ≡ Some place) where
      asked : ((At n).at c).has_asked t ≡ true
      asked = ((known line ok schedule ranges n).answered.waits c).each t (ap is_some waits)

      pub is_start_answered : IsStartAnswered line schedule k n c d t
      is_start_answered =
          by_answer (is_answered_soon line ok schedule ranges k prompt c d (OfRight t) to registrar n asked)
        where
          by_answer : IsAnsweredSoon line schedule k n c d (OfRight t) → IsStartAnswered line schedule k n c d t
          by_answer it = record { at = it.at; late = it.late; soon = it.soon; ends = by_end it.ends }
            where
              there : (it.at - n) + n ≡ it.at
              there = omega (arith, it.late)

              by_end : (((At it.at).at c).has_asked t ≡ false)
                  ⊎ (IsHeldUp line schedule n it.at c d ⊎ IsHeldUp line schedule n it.at d c)
                  → IsStartEnded line schedule n it.at c t
                  ⊎ (IsHeldUp line schedule n it.at c d ⊎ IsHeldUp line schedule n it.at d c)
              by_end (inr held) = inr held
              by_end (inl ended) = inl (subst (λ m. IsStartEnded line schedule n m c t) there
                  (ends_by (it.at - n) n place waits (subst (λ m. Wait m ≡ None) (sym there) (none_waits it.at ended))))
