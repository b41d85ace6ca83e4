-- A link in a schedule: each step keeps the count of its taken frames, or takes the next one.
use Rattle.std.proofs.Common.{[], ⊎_elim, ◌++◌, ◌+◌, ◌-◌, ◌∙◌, ◌∷◌, ◌≡◌, ◌≢◌, ◌≤◌, ◌⊎◌, ap, arith}
use Rattle.std.proofs.Common.{if◌then◌else◌, inl, inr, length, List, ne_eqb, None, Ok, refl}
use Rattle.std.proofs.Common.{slice_get, Some, subst, subst₂, sym, ℕ}
use Rattle.std.proofs.lemmas.Bool.{cases_eq}
use Rattle.std.proofs.lemmas.List.{append-nil}
use Rattle.std.proofs.lemmas.List.Elements.{All-cons, All-head, All-nil}
use Rattle.law_base.proofs.CountingLemmas.Sums.{cases_link}
use Rattle.law_base.proofs.PiecesLemmas.Loop.{run_of_none, whole_run}
use Rattle.law_invariants.proofs.FlowLemmas.Steps.{is_next, sent_number}
use Rattle.law_invariants.proofs.FlowLemmas.Takes.{deliver_taken, set_keeps, train_keeps, unset_keeps}
use Rattle.law_invariants.proofs.HandoverLemmas.Worlds.{linked_next}
use Rattle.law_invariants.proofs.RangesLemmas.Worlds.{run_fits}
use Rattle.law_invariants.specs.Flow.Numbers.{IsNumbered, taken_after}
use Rattle.law_invariants.specs.Ranges.Few.{IsFewAnswer}
use Rattle.law_invariants.specs.Ranges.Stays.{IsReadInRange, IsWorldInRange}
use Rattle.law_progress.proofs.RestLemmas.Delivers.{IsHead}
use Rattle.rbc_spec.proofs.Lists.{put_here, put_holds, put_other}
use Rattle.rbc_spec.proofs.Worlds.{Brings, delivers, of_event, says, sets, unsets}
use Rattle.rbc_spec.specs.Centre.{Centre}
use Rattle.rbc_spec.specs.Frame.{Frame}
use Rattle.rbc_spec.specs.Line.{is_linked, IsLine, Line}
use Rattle.rbc_spec.specs.Maps.{put}
use Rattle.rbc_spec.specs.Outcome as outcome
use Rattle.rbc_spec.specs.Outcome.{Early, Next, NoLink, Old}
use Rattle.rbc_spec.specs.Step as centre
use Rattle.rbc_spec.specs.Step.{link_answer, Refusal, refusal, stamp_of, taken, ticked}
use Rattle.rbc_spec.specs.World.{Answer, Answered, Delivery, Event, frame_sent, World, world_step}

-- the step takes the next frame from a to b
pub record Takes (line : Line) (w : World) (a b : ℕ) (event : Event) (answer : Answer) (new : World) : Type 0 where
  pub frame : Frame
  pub head : IsHead line w a b ((w.at b).taken a + 1) frame
  pub event_is : event ≡ Delivery a b ((w.at b).taken a + 1)
  pub answer_is : answer ≡ Answered (taken line b (centre.Deliver a frame) (w.at b)).0
  pub sent_is : (d : ℕ) → (new.at b).sent d
      ≡ (w.at b).sent d ++ (taken line b (centre.Deliver a frame) (w.at b)).0.frames d
  pub left : new.at b ≡ (taken line b (centre.Deliver a frame) (w.at b)).1
  pub one_more : (new.at b).taken a ≡ (w.at b).taken a + 1

-- the frame that is taken is the next of those that were sent
pub takes_got : (line : Line) (w : World) (a b : ℕ) (event : Event) (answer : Answer) (new : World)
    → (it : Takes line w a b event answer new) → slice_get ((w.at a).sent b) ((w.at b).taken a) ≡ Some it.frame
takes_got line w a b event answer new it =
    sym (ap (λ z. if z then None else slice_get ((w.at a).sent b) (((w.at b).taken a + 1) - 1))
    (ne_eqb ((w.at b).taken a + 1) 0 (λ same. omega (arith, same)))
    ∙ ap (slice_get ((w.at a).sent b)) (omega arith)) ∙ it.head.sent

abbrev pub Keeps : World → ℕ → ℕ → World → Type 0
Keeps w a b new = (new.at b).taken a ≡ (w.at b).taken a

-- a centre has sent at most three more frames to b
pub record HasSent (b : ℕ) (old new : Centre) : Type 0 where
  pub more : List Frame
  pub sent : new.sent b ≡ old.sent b ++ more
  pub few : length more ≤ 3

module _ (line : Line) (w : World) (numbered : IsNumbered w) where
  abbrev Link : ℕ → ℕ → Event → Answer → World → Type 0
  Link a b event answer new = Keeps w a b new ⊎ Takes line w a b event answer new

  -- ## A delivery on the link

  module _ (a b number : ℕ) (f : Frame) (is_sent : frame_sent w a b number ≡ Some f) (trains : List ℕ) where
    abbrev y : Centre
    y = (taken line b (centre.Deliver a f) (w.at b)).1

    abbrev new : World
    new = record { at = put w.at b y; trains = trains }

    here : new.at b ≡ y
    here = put_here w.at b b y refl

    count_is : (o : outcome.Taken) → link_answer line b (w.at b) a f ≡ o → y.taken ≡ taken_after a f o (w.at b)
    count_is o is = deliver_taken line b a (stamp_of (w.at b) (centre.Deliver a f)) f (w.at b)
        ∙ ap (λ x. taken_after a f x (w.at b)) is

    on_link : (o : outcome.Taken) → link_answer line b (w.at b) a f ≡ o
        → Link a b (Delivery a b number) (Answered (taken line b (centre.Deliver a f) (w.at b)).0) new
    on_link Next is = inr (record {
      frame = f;
      head = record { sent = subst (λ n. frame_sent w a b n ≡ Some f) number_is is_sent; next = is };
      event_is = ap (Delivery a b) number_is;
      answer_is = refl;
      sent_is = λ d. ap (λ (k : Centre). k.sent d) here;
      left = here;
      one_more = ap (λ (k : Centre). k.taken a) here ∙ ap (λ (g : ℕ → ℕ). g a) (count_is Next is)
          ∙ put_here (w.at b).taken a a f.number refl ∙ f_number;
    })
      where
        f_number : f.number ≡ (w.at b).taken a + 1
        f_number = is_next ((w.at b).taken a) f.number
            (linked_next (is_linked line b a) ((w.at b).taken a) f.number is).1

        number_is : number ≡ (w.at b).taken a + 1
        number_is = sym (sent_number w numbered a b number f is_sent) ∙ f_number
    on_link Old is = inl (ap (λ (k : Centre). k.taken a) here ∙ ap (λ (g : ℕ → ℕ). g a) (count_is Old is))
    on_link Early is = inl (ap (λ (k : Centre). k.taken a) here ∙ ap (λ (g : ℕ → ℕ). g a) (count_is Early is))
    on_link NoLink is = inl (ap (λ (k : Centre). k.taken a) here ∙ ap (λ (g : ℕ → ℕ). g a) (count_is NoLink is))

    -- ## A delivery on another link

    same_count : (o : outcome.Taken) → (e : ℕ) → e ≢ a → taken_after a f o (w.at b) e ≡ (w.at b).taken e
    same_count Next e apart = put_other (w.at b).taken a e f.number apart
    same_count Old e apart = refl
    same_count Early e apart = refl
    same_count NoLink e apart = refl

    off_link : (e d : ℕ) → (e ≡ a → d ≢ b) → Keeps w e d new
    off_link e d apart = ⊎_elim
        (λ (same : d ≡ b). subst (λ x. (put w.at b y x).taken e ≡ (w.at x).taken e) (sym same)
        (ap (λ (k : Centre). k.taken e) here ∙ ap (λ (g : ℕ → ℕ). g e) (count_is (link_answer line b (w.at b) a f) refl)
        ∙ same_count (link_answer line b (w.at b) a f) e (λ at. apart at same)))
        (λ (other : d ≢ b). ap (λ (k : Centre). k.taken e) (put_other w.at b d y other))
        (cases_eq d b)

  -- ## Any event

  -- the step of centre c keeps its counts
  kept : (a b c : ℕ) (own : centre.Event) (trains : List ℕ)
      → (taken line c own (w.at c)).1.taken ≡ (w.at c).taken
      → Keeps w a b (record { at = put w.at c (taken line c own (w.at c)).1; trains = trains })
  kept a b c own trains same = put_holds (λ u (x : Centre). x.taken a ≡ (w.at u).taken a) w.at c
      (taken line c own (w.at c)).1 (λ u. refl) (ap (λ (g : ℕ → ℕ). g a) same) b

  by_step : (a b : ℕ) (event : Event) (c : ℕ) (own : centre.Event) (trains : List ℕ)
      → Brings line w event c own trains
      → Link a b event (Answered (taken line c own (w.at c)).0)
      (record { at = put w.at c (taken line c own (w.at c)).1; trains = trains })
  by_step a b _ _ _ trains (says c m to) = inl (kept a b c (centre.Train m) trains
      (train_keeps line c m (ticked (stamp_of (w.at c) (centre.Train m)) (w.at c))))
  by_step a b _ _ _ trains (sets c s to) = inl (kept a b c (centre.Set s) trains
      ((set_keeps line c s).each (ticked (stamp_of (w.at c) (centre.Set s)) (w.at c))))
  by_step a b _ _ _ trains (unsets c s to) = inl (kept a b c (centre.Unset s) trains
      ((unset_keeps line c s).each (ticked (stamp_of (w.at c) (centre.Unset s)) (w.at c))))
  by_step a b _ _ _ trains (delivers e d number f is_sent) = ⊎_elim
      (λ (same : (a ≡ e) × (b ≡ d)). subst₂ (λ x z. Link x z (Delivery e d number)
      (Answered (taken line d (centre.Deliver e f) (w.at d)).0)
      (record { at = put w.at d (taken line d (centre.Deliver e f) (w.at d)).1; trains = trains }))
      (sym same.0) (sym same.1) (on_link e d number f is_sent trains (link_answer line d (w.at d) e f) refl))
      (λ (apart : a ≡ e → b ≢ d). inl (off_link e d number f is_sent trains a b apart))
      (cases_link a b e d)

  pub link_step : (a b : ℕ) (event : Event) (answer : Answer) (new : World)
      → world_step line w event ≡ Ok (answer, new) → Link a b event answer new
  link_step a b = of_event line w (λ e answer x. Link a b e answer x) (λ e answer idle. inl refl)
      (λ e c own trains brings none. by_step a b e c own trains brings)

-- ## Frames that are sent

module _ (line : Line) (ok : IsLine line) (w : World) (range : IsWorldInRange line w) where
  few_answer : (event : Event) → IsReadInRange event → (answer : Answer) (new : World)
      → world_step line w event ≡ Ok (answer, new) → IsFewAnswer answer
  few_answer event read answer new is = All-head IsFewAnswer answer []
      (run_fits line ok (event ∷ []) (All-cons IsReadInRange event [] read (All-nil IsReadInRange)) w range
      (answer ∷ []) new (whole_run line w event [] (answer, new) (Ok ([], new)) is (run_of_none line new))).1

  pub sent_step : (a b : ℕ) (event : Event) → IsReadInRange event → (answer : Answer) (new : World)
      → world_step line w event ≡ Ok (answer, new) → HasSent b (w.at a) (new.at a)
  sent_step a b event read answer new is = of_event line w (λ e x v. IsFewAnswer x → HasSent b (w.at a) (v.at a))
      (λ e x idle few. none (w.at a))
      (λ e c own trains brings free few. put_holds (λ u (k : Centre). HasSent b (w.at u) k) w.at c
      (taken line c own (w.at c)).1 (λ u. none (w.at u))
      (record { more = (taken line c own (w.at c)).0.frames b; sent = refl; few = few.frames b }) a)
      event answer new is (few_answer event read answer new is)
    where
      none : (k : Centre) → HasSent b k k
      none k = record { more = []; sent = sym (append-nil (k.sent b)); few = omega arith }
