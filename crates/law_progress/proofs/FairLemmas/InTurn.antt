-- Each list of events is the beginning of a fair schedule, and a refused delivery stays refused.
use Rattle.std.proofs.Common.{[], ⊎_elim, ◌%◌, ◌*◌, ◌++◌, ◌+◌, ◌-◌, ◌/◌, ◌<◌, ◌==◌, ◌∙◌, ◌∷◌, ◌≡◌, ◌≢◌, ◌≤◌, ◌⊎◌, ap}
use Rattle.std.proofs.Common.{arith, Bool, drop, Err, false, if◌then◌else◌, inl, inr, length, List, ltb-true, map, max}
use Rattle.std.proofs.Common.{nat_lt, None, Ok, Option, refl, Result, slice_get, Some, subst, suc, sym, true, zero, ℕ}
use Rattle.std.proofs.lemmas.Bool.{cases_eq, lt-ltb}
use Rattle.std.proofs.lemmas.List.{append-nil}
use Rattle.std.proofs.lemmas.Nat.{div-mul-add, mod-mul-add}
use Rattle.std.proofs.lemmas.Option.{slice_get_past}
use Rattle.std.proofs.Math.Nat.{le-mul_of_pos_right}
use Rattle.std.specs.Option.{option_map_or}
use Rattle.law_base.proofs.LocalLemmas.Worlds.{world_of}
use Rattle.law_invariants.proofs.NoStrayLemmas.Worlds.{IsReachedSo}
use Rattle.law_invariants.specs.Flow.Flow.{centre_count, flow_of}
use Rattle.law_logs.proofs.Sorted.{stamped}
use Rattle.law_logs.specs.Logs.{IsStamped}
use Rattle.law_progress.proofs.FairLemmas.Idle.{reached_at}
use Rattle.law_progress.specs.Fair.Schedule.{after, BeginsWith, EndsInDeliveries, IsFair, next_number, world_after}
use Rattle.law_progress.specs.Rest.Rest.{IsDelivery}
use Rattle.rbc_spec.proofs.Lists.{put_here, put_other}
use Rattle.rbc_spec.specs.Centre.{Centre}
use Rattle.rbc_spec.specs.Frame.{Frame, last_stamp}
use Rattle.rbc_spec.specs.Line.{is_centre, IsLine, Line}
use Rattle.rbc_spec.specs.Maps.{put}
use Rattle.rbc_spec.specs.Outcome.{Outcome}
use Rattle.rbc_spec.specs.Step as centre
use Rattle.rbc_spec.specs.Step.{ClockEnd, has_full_link, LinkFull, Refusal, refusal, step, taken}
use Rattle.rbc_spec.specs.World.{Answer, Bytes, Delivery, Event, frame_sent, new_world, NotSent, Set, stepped, takes}
use Rattle.rbc_spec.specs.World.{Unset, way, World, world_step}

-- # Each list of events is the beginning of a fair schedule: after it the next frames of all links are delivered in
-- turn.

-- ## A link with frames on the way is between two centres of the line

module _ (line : Line) (w : World) (reached : IsReachedSo line w) (a b : ℕ) (some : way w a b ≢ []) where
  none_sent : (fs : List Frame) (n : ℕ) → map (λ (f : Frame). f.body) fs ≡ [] → drop n fs ≡ []
  none_sent [] zero none = refl
  none_sent [] (suc n) none = refl
  none_sent (f ∷ fs) n none = cc

  of_line : (c : ℕ) → (is_centre line c ≡ false → (flow_of w).sent a b ≡ []) → c < centre_count line
  of_line c none = by_centre (is_centre line c) refl
    where
      by_centre : (is : Bool) → is_centre line c ≡ is → c < centre_count line
      by_centre true is = ltb-true c (centre_count line) is
      by_centre false is = absurd (some (none_sent ((w.at a).sent b) ((w.at b).taken a) (none is)))

  pub from_line : a < centre_count line
  from_line = of_line a (λ no. reached.sound.flow.no_sent a b (inl no))

  pub to_line : b < centre_count line
  to_line = of_line b (λ no. reached.sound.flow.no_sent a b (inr no))

-- ## The schedule

module _ (line : Line) (events : List Event) where
  abbrev Count : ℕ
  Count = centre_count line

  -- the delivery of the next of the link whose turn it is
  abbrev turn : ℕ → World → Event
  turn n w = Delivery (n / Count % Count) (n % Count) (next_number w (n / Count % Count) (n % Count))

  abbrev event_at : ℕ → World → Event
  event_at n w = option_map_or (λ e. e) (slice_get events n) (turn n w)

  world_there : ℕ → World
  world_there zero = new_world line
  world_there (suc n) = after (world_there n) (world_step line (world_there n) (event_at n (world_there n)))

  abbrev schedule : ℕ → Event
  schedule n = event_at n (world_there n)

  same_world : (n : ℕ) → world_after line schedule n ≡ world_there n
  unfolding world_after world_there
  same_world zero = refl
  same_world (suc n) = ap (λ w. after w (world_step line w (schedule n))) (same_world n)

  event_of : (n : ℕ) (o : Option Event) → slice_get events n ≡ o
      → schedule n ≡ option_map_or (λ e. e) o (turn n (world_there n))
  event_of n o is = ap (λ o. option_map_or (λ e. e) o (turn n (world_there n))) is

  late : (n : ℕ) → length events ≤ n → schedule n ≡ turn n (world_after line schedule n)
  late n past = event_of n None (slice_get_past events n past) ∙ ap (turn n) (sym (same_world n))

  -- the turn of a link recurs for ever
  module _ (n a b : ℕ) (from : a < Count) (to : b < Count) where
    abbrev m : ℕ
    m = ((length events + n) * Count + a) * Count + b

    row : m / Count % Count ≡ a
    row = ap (λ x. x % Count) (div-mul-add ((length events + n) * Count + a) Count b to)
        ∙ mod-mul-add (length events + n) Count a from

    column : m % Count ≡ b
    column = mod-mul-add ((length events + n) * Count + a) Count b to

    is_later : length events + n ≤ m
    is_later = omega (
      arith,
      le-mul_of_pos_right {m = Count} (length events + n) (omega (arith, from)),
      le-mul_of_pos_right {m = Count} ((length events + n) * Count + a) (omega (arith, from)),
    )

    comes : (m : ℕ) × (n ≤ m) × (schedule m ≡ Delivery a b (next_number (world_after line schedule m) a b))
    comes = (
      m,
      omega (arith, is_later),
      late m (omega (arith, is_later))
          ∙ ap (λ x. Delivery x (m % Count) (next_number (world_after line schedule m) x (m % Count))) row
          ∙ ap (λ x. Delivery a x (next_number (world_after line schedule m) a x)) column,
    )

  pub begins : (schedule : ℕ → Event) × BeginsWith events schedule × EndsInDeliveries schedule
      × (IsLine line → IsFair line schedule)
  begins = (
    schedule,
    record { each = λ i event is. event_of i (Some event) is },
    record { from = length events; are_deliveries = λ n past. subst IsDelivery (sym (late n past)) (record {}) },
    λ ok. record {
      delivers =
          λ n a b some. comes n a b (from_line line (world_after line schedule n)
          (reached_at line ok schedule n) a b some)
          (to_line line (world_after line schedule n) (reached_at line ok schedule n) a b some);
    },
  )

-- # A delivery that is refused stays refused, after all other deliveries.

-- ## The state after a delivery

-- centre d takes a step by the event, and no other centre changes
pub record IsLeft (line : Line) (w : World) (d : ℕ) (event : centre.Event) (new : World) : Type 0 where
  pub outcome : Outcome
  pub left : Centre
  pub did : step line d event (w.at d) ≡ Ok (outcome, left)
  pub is : record { at = put w.at d left; trains = w.trains } ≡ new

module _ (line : Line) (w : World) (c d number : ℕ) (answer : Answer) (new : World) where
  by_step : (g : Frame) (r : Result (Outcome × Centre) Refusal) → step line d (centre.Deliver c g) (w.at d) ≡ r
      → stepped w d w.trains r ≡ Ok (answer, new)
      → IsLeft line w d (centre.Deliver c g) new
  by_step g (Err why) is done = cc
  by_step g (Ok (outcome, left)) is done =
      record { outcome = outcome; left = left; did = is; is = ap (λ r. world_of w r) done }

  leaves : world_step line w (Delivery c d number) ≡ Ok (answer, new) → (w ≡ new)
      ⊎ ((g : Frame) × IsLeft line w d (centre.Deliver c g) new)
  unfolding world_step
  leaves = by_frame (frame_sent w c d number)
    where
      by_frame : (o : Option Frame) → option_map_or (λ g. takes line w d w.trains (centre.Deliver c g)) o
          (Ok (NotSent, w)) ≡ Ok (answer, new)
          → (w ≡ new) ⊎ ((g : Frame) × IsLeft line w d (centre.Deliver c g) new)
      by_frame None done = inl (ap (λ r. world_of w r) done)
      by_frame (Some g) done = inr (g, by_step g (step line d (centre.Deliver c g) (w.at d)) refl done)

-- ## A frame that is refused

-- centre a has sent the frame to centre b under this number, and b refuses to take a step by it
pub record IsRefused (line : Line) (w : World) (a b number : ℕ) (f : Frame) : Type 0 where
  pub sent : frame_sent w a b number ≡ Some f
  pub why : Refusal
  pub refused : refusal line b (w.at b) (centre.Deliver a f) ≡ Some why

module _ (line : Line) (w : World) (a b number : ℕ) (f : Frame) where
  pub refused_step : (it : IsRefused line w a b number f) → world_step line w (Delivery a b number) ≡ Err it.why
  unfolding world_step step
  refused_step it =
      ap (λ o. option_map_or (λ g. takes line w b w.trains (centre.Deliver a g)) o (Ok (NotSent, w))) it.sent
      ∙ ap (λ o. stepped w b w.trains
      (option_map_or (λ why. Err why) o (Ok (taken line b (centre.Deliver a f) (w.at b))))) it.refused

  by_refusal : frame_sent w a b number ≡ Some f → (why : Refusal) (o : Option Refusal)
      → refusal line b (w.at b) (centre.Deliver a f) ≡ o
      → stepped w b w.trains (option_map_or (λ why. Err why) o (Ok (taken line b (centre.Deliver a f) (w.at b))))
      ≡ Err why → IsRefused line w a b number f
  by_refusal sent why None is done = cc
  by_refusal sent why (Some reason) is done = record { sent = sent; why = reason; refused = is }

  pub is_refused : (why : Refusal) → frame_sent w a b number ≡ Some f
      → world_step line w (Delivery a b number) ≡ Err why → IsRefused line w a b number f
  unfolding world_step step
  is_refused why sent done = by_refusal sent why (refusal line b (w.at b) (centre.Deliver a f)) refl
      (ap (λ o. option_map_or (λ g. takes line w b w.trains (centre.Deliver a g)) o (Ok (NotSent, w))) (sym sent)
      ∙ done)

-- ## It stays refused

pub got_front : (xs ys : List Frame) (i : ℕ) (f : Frame) → slice_get xs i ≡ Some f → slice_get (xs ++ ys) i ≡ Some f
got_front [] ys i f is = cc
got_front (x ∷ xs) ys zero f is = is
got_front (x ∷ xs) ys (suc i) f is = got_front xs ys i f is

-- why one step is refused and another of the same centre is not
its_clock : (x y z : Bool) (why : Refusal)
    → (if x then Some ClockEnd else (if y then Some LinkFull else None)) ≡ Some why
    → (if z then Some ClockEnd else (if y then Some LinkFull else None)) ≡ None → x ≡ true
its_clock true y z why refused taken = refl
its_clock false true true why refused taken = cc
its_clock false true false why refused taken = cc
its_clock false false z why refused taken = cc

not_refused : (line : Line) (d : ℕ) (event : centre.Event) (k left : Centre) (outcome : Outcome)
    → step line d event k ≡ Ok (outcome, left) → refusal line d k event ≡ None
unfolding step
not_refused line d event k left outcome = by_refusal (refusal line d k event)
  where
    by_refusal : (o : Option Refusal) → option_map_or (λ why. Err why) o (Ok (taken line d event k))
        ≡ Ok (outcome, left) → o ≡ None
    by_refusal None is = refl
    by_refusal (Some why) is = cc

module _ (line : Line) (w : World) (a b number : ℕ) (f : Frame) (it : IsRefused line w a b number f) where
  -- after a step of centre d
  module _ (c d : ℕ) (g : Frame) (new : World) (left : IsLeft line w d (centre.Deliver c g) new) where
    marks : IsStamped (w.at d) (centre.Deliver c g) left.outcome left.left
    marks = stamped line d (centre.Deliver c g) (w.at d) left.left left.outcome left.did

    abbrev At : ℕ → Centre
    At = put w.at d left.left

    -- frames that were sent stay sent
    more_sent : (e : ℕ) → (fs : List Frame) × ((At e).sent b ≡ (w.at e).sent b ++ fs)
    more_sent e = ⊎_elim
        (λ (here : e ≡ d). (
          left.outcome.frames b,
          ap (λ (k : Centre). k.sent b) (put_here w.at d e left.left here) ∙ marks.sent b
              ∙ ap (λ x. (w.at x).sent b ++ left.outcome.frames b) (sym here),
        ))
        (λ (apart : e ≢ d). (
          [],
          ap (λ (k : Centre). k.sent b) (put_other w.at d e left.left apart)
              ∙ sym (append-nil ((w.at e).sent b)),
        ))
        (cases_eq e d)

    still_sent : (z : Bool) → (if z then None else slice_get ((w.at a).sent b) (number - 1)) ≡ Some f
        → (if z then None else slice_get ((At a).sent b) (number - 1)) ≡ Some f
    still_sent true is = cc
    still_sent false is = ap (λ fs. slice_get fs (number - 1)) (more_sent a).1
        ∙ got_front ((w.at a).sent b) (more_sent a).0 (number - 1) f is

    -- the clock of the centre that took the step is further on
    at_end : d ≡ b → refusal line b left.left (centre.Deliver a f) ≡ Some ClockEnd
    at_end here =
        ap (λ x. if x then Some ClockEnd else (if has_full_link line b left.left then Some LinkFull else None))
        (lt-ltb last_stamp (max left.left.clock f.stamp + 1)
        (omega (
          arith,
          ltb-true last_stamp (max (w.at b).clock f.stamp + 1) was,
          marks.clock,
          marks.above_clock,
          ap (λ x. (w.at x).clock) here,
        )))
      where
        was : nat_lt last_stamp (max (w.at b).clock f.stamp + 1) ≡ true
        was = its_clock (nat_lt last_stamp (max (w.at b).clock f.stamp + 1)) (has_full_link line b (w.at b))
            (nat_lt last_stamp (max (w.at b).clock g.stamp + 1)) it.why it.refused
            (subst (λ x. refusal line x (w.at x) (centre.Deliver c g) ≡ None) here
            (not_refused line d (centre.Deliver c g) (w.at d) left.left left.outcome left.did))

    refused_after : IsRefused line (record { at = At; trains = w.trains }) a b number f
    refused_after = ⊎_elim
        (λ (here : b ≡ d). record {
          sent = still_sent (number == 0) it.sent;
          why = ClockEnd;
          refused = subst (λ (k : Centre). refusal line b k (centre.Deliver a f) ≡ Some ClockEnd)
              (sym (put_here w.at d b left.left here)) (at_end (sym here));
        })
        (λ (apart : b ≢ d). record {
          sent = still_sent (number == 0) it.sent;
          why = it.why;
          refused = subst (λ (k : Centre). refusal line b k (centre.Deliver a f) ≡ Some it.why)
              (sym (put_other w.at d b left.left apart)) it.refused;
        })
        (cases_eq b d)

  pub stays_refused : (event : Event) → IsDelivery event → (answer : Answer) (new : World)
      → world_step line w event ≡ Ok (answer, new) → IsRefused line new a b number f
  stays_refused (Delivery c d n) is answer new done = by_kind (leaves line w c d n answer new done)
    where
      by_kind : (w ≡ new) ⊎ ((g : Frame) × IsLeft line w d (centre.Deliver c g) new) → IsRefused line new a b number f
      by_kind (inl same) = subst (λ v. IsRefused line v a b number f) same it
      by_kind (inr (g, left)) = subst (λ v. IsRefused line v a b number f) left.is (refused_after c d g new left)
  stays_refused (Bytes c read) is answer new done = absurd is
  stays_refused (Set c s) is answer new done = absurd is
  stays_refused (Unset c s) is answer new done = absurd is
