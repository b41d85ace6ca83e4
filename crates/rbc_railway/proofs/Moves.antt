-- Moves of a railway: each leads on from any list of moments that led to it.
use Rattle.std.proofs.Common.{[], ◌++◌, ◌<◌, ◌∙◌, ◌∷◌, ◌≡◌, ap, Err, length, List, None, Ok}
use Rattle.std.proofs.Common.{Option, option_and_then, option_map, refl, Result}
use Rattle.std.proofs.Math.Logic.{∥∥₁_map}
use Rattle.std.specs.Result.{OnErr, OnOk}
use Rattle.std.proofs.Common.{set, slice_get, Some, subst, suc, sym, true, zero, ℕ, ℤ}
use Rattle.std.specs.Prelude.{Contains}
use Rattle.law_trains.specs.Trains.{Happens, hears}
use Rattle.law_trains.specs.Trains.{Hears, Loop, may_run, may_say, Moment, Runs, says, Says, Train}
use Rattle.rbc_railway.proofs.Trains.{at_end}
use Rattle.rbc_railway.specs.declared.answer.CentreAnswer.{CentreAnswer}
use Rattle.rbc_railway.specs.declared.train.RunningTrain.{RunningTrain}
use Rattle.rbc_railway.specs.History.{AreOfCentres}
use Rattle.rbc_railway.specs.History.{HaveOwnNames, IsTaken, IsTold, by_centre, ran_to, saying_at, told_at}
use Rattle.rbc_railway.specs.History.{Leads, loop_after, name_of, obeys}
use Rattle.rbc_railway.specs.History.{sayings_in, train_at, WasLed, WasSent}
use Rattle.rbc_spec.specs.Line.{is_centre, Line}
use Rattle.rbc_spec.specs.Message.{TrainMessage}
use Rattle.rbc_spec.specs.Outcome.{Saying}
use Rattle.rbc_spec.specs.World.{Bytes, Event, World}
use Rattle.rbc_world.specs.declared.event.WorldEvent.{WorldEvent}
use Rattle.rbc_world.specs.Views.{answer_of, event_of}
use Rattle.rbc_railway.proofs.Leading.{contains_at, leads_happens, leads_hears, leads_runs, leads_says}

-- ## The railway that was led to

set_same : {X : Type 0} (xs : List X) (i : ℕ) (x : X) → slice_get xs i ≡ Some x → set xs i x ≡ xs
set_same [] i x at = refl
set_same (y ∷ ys) zero x at = let is : y ≡ x = cc in ap (λ z. z ∷ ys) (sym is)
set_same (y ∷ ys) (suc i) x at = ap (λ zs. y ∷ zs) (set_same ys i x at)

module _ (line : Line) (w : World) (trains : List RunningTrain) (sent : List WorldEvent) (told : List CentreAnswer)
    (i : ℕ) (x y : RunningTrain) (at : slice_get trains i ≡ Some x) where
  pub unchanged_trains : y ≡ x → set trains i y ≡ trains
  unchanged_trains is = ap (set trains i) is ∙ set_same trains i x at

  -- after a move that was refused, or that leads on
  pub led_changed : {X E : Type 0} (result : Result X E)
      → OnOk result (WasLed line w trains sent told → WasLed line w (set trains i y) sent told)
      → OnErr result (y ≡ x) → ∥ WasLed line w trains sent told ∥₁ → ∥ WasLed line w (set trains i y) sent told ∥₁
  led_changed (Ok v) on same led = ∥∥₁_map led on
  led_changed (Err fault) on same led =
      subst (λ ts. ∥ WasLed line w ts sent told ∥₁) (sym (unchanged_trains same)) led

-- ## Moves of one train

pub ok_map : {X E : Type 0} {P Q : Type 0} (result : Result X E) → (P → Q) → OnOk result P → OnOk result Q
ok_map (Ok v) f p = f p
ok_map (Err e) f p = tt

ok_both : {X E : Type 0} {P Q R : Type 0} (result : Result X E) → (P → Q → R) → OnOk result P → OnOk result Q
    → OnOk result R
ok_both (Ok v) f p q = f p q
ok_both (Err e) f p q = tt

pub one_some : {X : Type 0} {a b : X} → Some a ≡ Some b → a ≡ b
one_some e = cc

at_before : {X : Type 0} (xs : List X) (i : ℕ) (x y : X) → slice_get xs i ≡ Some y
    → slice_get (xs ++ x ∷ []) i ≡ Some y
at_before [] i x y at = let bad : ⊥ = cc in absurd bad
at_before (z ∷ zs) zero x y at = at
at_before (z ∷ zs) (suc i) x y at = at_before zs i x y at

-- fewer messages on the way
fewer : (line : Line) (w : World) (trains : List RunningTrain) (sent : List WorldEvent) (event : WorldEvent)
    (told : List CentreAnswer) (first : ℕ → Train) (moments : List Moment)
    → Leads line w trains (sent ++ event ∷ []) told first moments → Leads line w trains sent told first moments
fewer line w trains sent event told first moments old = record {
  new = old.new;
  may = old.may;
  run = old.run;
  train = old.train;
  by_trains = λ i e at. old.by_trains i e (at_before sent i event e at);
  by_centres = old.by_centres;
}

module _ (line : Line) (w : World) (trains : List RunningTrain) (sent : List WorldEvent) (told : List CentreAnswer)
    (own : HaveOwnNames trains) (i : ℕ) (x y : RunningTrain) (at : slice_get trains i ≡ Some x)
    (within : i < length trains) (same : name_of y ≡ name_of x) where
  pub ran : {X E : Type 0} (result : Result X E) (front : ℕ) (rear there : ℤ) → rear ≡ there
      → OnOk result (may_run front rear (train_at x) ≡ true) → OnOk result (y ≡ ran_to front rear x)
      → OnOk result ((z : RunningTrain) → slice_get trains i ≡ Some z → (first : ℕ → Train) (moments : List Moment)
      → Leads line w trains sent told first moments
      → Leads line w (set trains i y) sent told first (moments ++ Runs (name_of z) front there ∷ []))
  ran result front rear there is = ok_both result (λ may so z found first moments h.
      subst (λ (q : RunningTrain × ℤ). Leads line w (set trains i y) sent told first
      (moments ++ Runs (name_of (q.0)) front (q.1) ∷ [])) (λ n. (one_some (sym at ∙ found) n, is n))
      (leads_runs line w trains sent told first moments h own i x y at within same front rear may
      (ap train_at (sym so))))

  pub led_ran : {X E : Type 0} (result : Result X E) (front : ℕ) (rear : ℤ)
      → OnOk result (may_run front rear (train_at x) ≡ true) → OnOk result (y ≡ ran_to front rear x)
      → OnErr result (y ≡ x) → ∥ WasLed line w trains sent told ∥₁ → ∥ WasLed line w (set trains i y) sent told ∥₁
  led_ran result front rear may so = led_changed line w trains sent told i x y at result
      (ok_both result (λ may so was. record {
        first = was.first;
        moments = was.moments ++ Runs (name_of x) front rear ∷ [];
        leads = leads_runs line w trains sent told was.first was.moments was.leads own i x y at within same front rear
            may (ap train_at (sym so));
      }) may so)

  module _ (c : ℕ) (m : TrainMessage) (event : WorldEvent) (is : event_of event ≡ Bytes c (Ok m)) where
    abbrev MaySay : Type 0
    MaySay = (m.nid_engine ≡ name_of x) × (may_say line c m (train_at x) ≡ true)

    pub says_on : MaySay → train_at y ≡ says c m (train_at x) → (first : ℕ → Train) (moments : List Moment)
        → Leads line w trains sent told first moments
        → Leads line w (set trains i y) (sent ++ event ∷ []) told first (moments ++ Says c m ∷ [])
    says_on may so first moments h =
        leads_says line w trains sent told first moments h own i x y at within same c m event (may.0) (may.1) (sym
        so) is

    pub said : {X E : Type 0} (result : Result X E) → OnOk result MaySay
        → OnOk result (train_at y ≡ says c m (train_at x))
        → OnOk result ((first : ℕ → Train) (moments : List Moment) → Leads line w trains sent told first moments
        → Leads line w (set trains i y) (sent ++ event ∷ []) told first (moments ++ Says c m ∷ []))
    said result = ok_both result says_on

    -- before its bytes are kept
    pub led_said : {X E : Type 0} (result : Result X E) → OnOk result MaySay
        → OnOk result (train_at y ≡ says c m (train_at x)) → OnErr result (y ≡ x)
        → ∥ WasLed line w trains sent told ∥₁ → ∥ WasLed line w (set trains i y) sent told ∥₁
    led_said result may so = led_changed line w trains sent told i x y at result
        (ok_both result (λ may so was. record {
          first = was.first;
          moments = was.moments ++ Says c m ∷ [];
          leads = fewer line w (set trains i y) sent event told was.first (was.moments ++ Says c m ∷ [])
              (says_on may so was.first was.moments was.leads);
        }) may so)

    pub led_sent : MaySay → train_at y ≡ says c m (train_at x) → ∥ WasLed line w trains sent told ∥₁
        → ∥ WasLed line w (set trains i y) (sent ++ event ∷ []) told ∥₁
    led_sent may so led = ∥∥₁_map led (λ was. record {
      first = was.first;
      moments = was.moments ++ Says c m ∷ [];
      leads = says_on may so was.first was.moments was.leads;
    })

  -- message j of answer n arrives
  module _ (n j c : ℕ) (p : Saying) (there : told_at told n j ≡ Some (c, p)) (named : p.nid_engine ≡ name_of x)
      (so : train_at y ≡ hears line c p.message p.message.body (train_at x)) where
    was_told : (q : Loop) → ((l : ℕ) (a : CentreAnswer) → slice_get told l ≡ Some a → IsTold q a) → Contains q.told
        (c, p)
    was_told q each = by_answer (slice_get told n) refl there
      where
        by_answer : (o : Option CentreAnswer) → slice_get told n ≡ o
            → option_and_then (saying_at j) o ≡ Some (c, p) → Contains q.told (c, p)
        by_answer (Some a) found e = by_saying (slice_get (sayings_in (answer_of a.answer)) j) refl e
          where
            by_saying : (o : Option Saying) → slice_get (sayings_in (answer_of a.answer)) j ≡ o
                → option_map (by_centre a.centre) o ≡ Some (c, p) → Contains q.told (c, p)
            by_saying (Some r) at_j e =
                subst (Contains q.told) (one_some e)
                (each n a found r (contains_at (sayings_in (answer_of a.answer)) j r at_j))
            by_saying None at_j e = let bad : ⊥ = cc in absurd bad
        by_answer None found e = let bad : ⊥ = cc in absurd bad

    pub heard : (first : ℕ → Train) (moments : List Moment) → Leads line w trains sent told first moments
        → Leads line w (set trains i y) sent told first (moments ++ Hears p.nid_engine c p.message ∷ [])
    heard first moments h =
        subst (λ t. Leads line w (set trains i y) sent told first (moments ++ Hears t c p.message ∷ [])) (sym named)
        (leads_hears line w trains sent told first moments h own i x y at within same c p.message
        (subst (λ t. Contains (loop_after line first moments).told (c, record { nid_engine = t; message = p.message }))
        named (was_told (loop_after line first moments) h.by_centres)) (sym so))

    pub led_heard : ∥ WasLed line w trains sent told ∥₁ → ∥ WasLed line w (set trains i y) sent told ∥₁
    led_heard led = ∥∥₁_map led (λ was. record {
      first = was.first;
      moments = was.moments ++ Hears p.nid_engine c p.message ∷ [];
      leads = heard was.first was.moments was.leads;
    })

-- a message that is on the way is of a centre of the line
pub centre_told : (line : Line) (told : List CentreAnswer) (n j c : ℕ) (p : Saying) → AreOfCentres line told
    → told_at told n j ≡ Some (c, p) → is_centre line c ≡ true
centre_told line told n j c p each there = by_answer (slice_get told n) refl there
  where
    by_answer : (o : Option CentreAnswer) → slice_get told n ≡ o → option_and_then (saying_at j) o ≡ Some (c, p)
        → is_centre line c ≡ true
    by_answer (Some a) found e = by_saying (slice_get (sayings_in (answer_of a.answer)) j) e
      where
        by_saying : (o : Option Saying) → option_map (by_centre a.centre) o ≡ Some (c, p) → is_centre line c ≡ true
        by_saying (Some r) e =
            subst (λ d. is_centre line d ≡ true) (ap (λ (q : ℕ × Saying). q.0) (one_some e)) (each n a found)
        by_saying None e = let bad : ⊥ = cc in absurd bad
    by_answer None found e = let bad : ⊥ = cc in absurd bad

-- ## An event

pub happened : (line : Line) (w new : World) (trains : List RunningTrain) (sent : List WorldEvent)
    (told told_after : List CentreAnswer) (event : Event)
    → ((k : Loop) → ((i : ℕ) (e : WorldEvent) → slice_get sent i ≡ Some e → WasSent (obeys trains) k.said (event_of e))
    → WasSent (obeys trains) k.said event)
    → (t : IsTaken line w new told told_after event) (first : ℕ → Train) (moments : List Moment)
    → Leads line w trains sent told first moments
    → Leads line new trains sent told_after first (moments ++ Happens event (answer_of t.answer.answer) ∷ [])
happened line w new trains sent told after_it event was t first moments h =
    subst (λ as_told. Leads line new trains sent as_told first
    (moments ++ Happens event (answer_of t.answer.answer) ∷ [])) (sym t.kept)
    (leads_happens line w trains sent told first moments h new event t.answer
    (was (loop_after line first moments) h.by_trains) t.step t.of_centre)

pub led_happened : (line : Line) (w new : World) (trains : List RunningTrain) (sent : List WorldEvent)
    (told told_after : List CentreAnswer) (event : Event)
    → ((k : Loop) → ((i : ℕ) (e : WorldEvent) → slice_get sent i ≡ Some e → WasSent (obeys trains) k.said (event_of e))
    → WasSent (obeys trains) k.said event)
    → IsTaken line w new told told_after event → ∥ WasLed line w trains sent told ∥₁
    → ∥ WasLed line new trains sent told_after ∥₁
led_happened line w new trains sent told after_it event was t led = ∥∥₁_map led (λ old. record {
  first = old.first;
  moments = old.moments ++ Happens event (answer_of t.answer.answer) ∷ [];
  leads = happened line w new trains sent told after_it event was t old.first old.moments old.leads;
})

module _ {X E : Type 0} (result : Result X E) (line : Line) (w new : World) (told told_after : List CentreAnswer)
    (event : Event) where
  pub centres_after : OnOk result (IsTaken line w new told told_after event) → OnErr result (told_after ≡ told)
      → AreOfCentres line told → AreOfCentres line told_after
  centres_after = by_result result
    where
      by_result : (r : Result X E) → OnOk r (IsTaken line w new told told_after event) → OnErr r (told_after ≡ told)
          → AreOfCentres line told → AreOfCentres line told_after
      by_result (Ok x) t none each =
          subst (AreOfCentres line) (sym t.kept) (at_end (λ a. is_centre line a.centre ≡ true) told t.answer t.here
          each)
      by_result (Err e) t same each = subst (AreOfCentres line) (sym same) each

  pub led_after : (trains : List RunningTrain) (sent : List WorldEvent)
      → ((k : Loop) → ((i : ℕ) (e : WorldEvent) → slice_get sent i ≡ Some e
      → WasSent (obeys trains) k.said (event_of e)) → WasSent (obeys trains) k.said event)
      → OnOk result (IsTaken line w new told told_after event) → OnErr result (new ≡ w)
      → OnErr result (told_after ≡ told) → ∥ WasLed line w trains sent told ∥₁
      → ∥ WasLed line new trains sent told_after ∥₁
  led_after trains sent was = by_result result
    where
      by_result : (r : Result X E) → OnOk r (IsTaken line w new told told_after event) → OnErr r (new ≡ w)
          → OnErr r (told_after ≡ told) → ∥ WasLed line w trains sent told ∥₁
          → ∥ WasLed line new trains sent told_after ∥₁
      by_result (Ok x) t still same led = led_happened line w new trains sent told told_after event was t led
      by_result (Err e) t still same led =
          subst (λ v. ∥ WasLed line v trains sent told_after ∥₁) (sym still)
          (subst (λ answers. ∥ WasLed line w trains sent answers ∥₁) (sym same) led)
