-- A moment leads on from a railway to the next.
use Rattle.std.proofs.Common.{[], ◌++◌, ◌<◌, ◌∙◌, ◌∷◌, ◌≡◌, ap, arith, Bool, Err, false, length, List, None, Ok}
use Rattle.std.proofs.Common.{refl}
use Rattle.std.proofs.Common.{set, slice_get, Some, subst, suc, sym, true, zero, ℕ, ℤ}
use Rattle.std.proofs.lemmas.Option.{get_or_from_slice_get, slice_get_within}
use Rattle.std.proofs.lemmas.List.Elements.{Contains-append_left, Contains-append_right}
use Rattle.std.specs.Prelude.{Contains}
use Rattle.law_trains.specs.Trains.{after, AllMay, and_told, answers_of, at_first, events_of, Happens, hears}
use Rattle.law_trains.specs.Trains.{Hears, Loop, May, may_run, may_say, Moment, Runs, says, Says, told_after, Train}
use Rattle.rbc_railway.proofs.Moments.{after_one, answer_in, answers_one, event_in, events_one, may_one}
use Rattle.rbc_railway.proofs.Trains.{at_end, first_at, first_new, names_set, trains_put}
use Rattle.rbc_railway.specs.declared.answer.CentreAnswer.{CentreAnswer}
use Rattle.rbc_railway.specs.declared.train.RunningTrain.{RunningTrain}
use Rattle.rbc_railway.specs.History.{AreNew, first_of}
use Rattle.rbc_railway.specs.History.{HaveOwnNames, IsFree, IsTold}
use Rattle.rbc_railway.specs.History.{Leads, loop_after, name_of, names_of, obeys}
use Rattle.rbc_railway.specs.History.{is_named, sayings_in, train_at, WasSent}
use Rattle.rbc_spec.specs.Line.{Line}
use Rattle.rbc_spec.specs.Maps.{put}
use Rattle.rbc_spec.specs.Message.{TrackMessage, TrainMessage}
use Rattle.rbc_spec.specs.Outcome.{Saying}
use Rattle.rbc_spec.specs.World.{Answer, Answered, Bytes, centre_of, Delivery, Event, new_world, Set, Unset, World}
use Rattle.rbc_spec.specs.World.{world_run, world_step}
use Rattle.rbc_world.proofs.Reached.{run_on}
use Rattle.rbc_world.specs.declared.event.WorldEvent.{WorldEvent}
use Rattle.rbc_world.specs.Views.{answer_of, event_of}

-- ## A message stays sent

contains_later : {X : Type 0} (x y : X) (xs : List X) → Contains xs y → Contains (x ∷ xs) y
contains_later x y xs h = Contains-append_right (x ∷ []) xs y h

contains_here : {X : Type 0} (x : X) (xs : List X) → Contains (x ∷ xs) x
contains_here x xs = Contains-append_left (x ∷ []) xs x (0, (omega arith), refl)

sent_later : (obey : ℕ → Bool) (said : List (ℕ × TrainMessage)) (one : ℕ × TrainMessage) (event : Event)
    → WasSent obey said event → WasSent obey (one ∷ said) event
sent_later obey said one (Bytes c (Ok m)) was = λ its. contains_later one (c, m) said (was its)
sent_later obey said one (Bytes c (Err number)) was = tt
sent_later obey said one (Set c s) was = tt
sent_later obey said one (Unset c s) was = tt
sent_later obey said one (Delivery from to number) was = tt

pub contains_at : {X : Type 0} (xs : List X) (i : ℕ) (x : X) → slice_get xs i ≡ Some x → Contains xs x
contains_at xs i x at = (i, slice_get_within xs i x at, get_or_from_slice_get xs i x x at)

-- each message of a step is put to those before, which stay
told_later : (c : ℕ) (ps : List Saying) (told : List (ℕ × Saying)) (p : ℕ × Saying) → Contains told p
    → Contains (and_told c ps told) p
told_later c [] told p h = h
told_later c (q ∷ ps) told p h = told_later c ps ((c, q) ∷ told) p (contains_later (c, q) p told h)

told_now : (c : ℕ) (ps : List Saying) (told : List (ℕ × Saying)) (p : Saying) → Contains ps p
    → Contains (and_told c ps told) (c, p)
told_now c [] told p h = let low = h.1 in absurd (omega (arith, low))
told_now c (q ∷ ps) told p (zero, low, is) =
    told_later c ps ((c, q) ∷ told) (c, p) (subst (λ x. Contains ((c, q) ∷ told) (c, x)) is (contains_here (c, q) told))
told_now c (q ∷ ps) told p (suc n, low, is) = told_now c ps ((c, q) ∷ told) p (n, (omega (arith, low)), is)

told_kept : (event : Event) (answer : Answer) (told : List (ℕ × Saying)) (p : ℕ × Saying) → Contains told p
    → Contains (told_after event answer told) p
told_kept event (Answered o) told p h = told_later (centre_of event) o.sayings told p h
told_kept event answer told p h = h

told_new : (event : Event) (answer : Answer) (told : List (ℕ × Saying)) (p : Saying) → Contains (sayings_in answer) p
    → Contains (told_after event answer told) (centre_of event, p)
told_new event (Answered o) told p h = told_now (centre_of event) o.sayings told p h
told_new event answer told p h = let low = h.1 in absurd (omega (arith, low))

-- ## An event may happen

sent_may : (line : Line) (obey : ℕ → Bool) (k : Loop) (event : Event) (answer : Answer) → WasSent obey k.said event
    → May line obey k (Happens event answer)
sent_may line obey k (Bytes c (Ok m)) answer was = was
sent_may line obey k (Bytes c (Err number)) answer was = tt
sent_may line obey k (Set c s) answer was = tt
sent_may line obey k (Unset c s) answer was = tt
sent_may line obey k (Delivery from to number) answer was = tt

pub free_sent : (obey : ℕ → Bool) (said : List (ℕ × TrainMessage)) (event : Event) → IsFree obey event
    → WasSent obey said event
free_sent obey said (Bytes c (Ok m)) free = λ its. let no : false ≡ true = sym free ∙ its in absurd (let bad : ⊥ =
    cc in bad)
free_sent obey said (Bytes c (Err number)) free = tt
free_sent obey said (Set c s) free = tt
free_sent obey said (Unset c s) free = tt
free_sent obey said (Delivery from to number) free = tt

module _ (line : Line) (w : World) (trains : List RunningTrain) (sent : List WorldEvent) (told : List CentreAnswer)
    (first : ℕ → Train) (moments : List Moment) (old : Leads line w trains sent told first moments) where
  abbrev k : Loop
  k = loop_after line first moments

  next : (m : Moment) → loop_after line first (moments ++ m ∷ []) ≡ after line m k
  next m = after_one line moments m (at_first first)

  still_run : (m : Moment) → event_in m ≡ [] → answer_in m ≡ []
      → world_run line (new_world line) (events_of (moments ++ m ∷ [])) ≡ Ok (answers_of (moments ++ m ∷ []), w)
  still_run m no_event no_answer =
      ap (λ es. world_run line (new_world line) es) (events_one moments m ∙ ap (λ es. events_of moments ++ es)
      no_event ∙ append_nil (events_of moments)) ∙ old.run
      ∙ ap (λ answers. Ok (answers, w)) (sym (answers_one moments m ∙ ap (λ answers. answers_of moments ++ answers)
      no_answer ∙ append_nil (answers_of moments)))
    where
      append_nil : {X : Type 0} (xs : List X) → xs ++ [] ≡ xs
      append_nil [] = refl
      append_nil (x ∷ xs) = ap (λ ys. x ∷ ys) (append_nil xs)

  -- ## A train changes

  module _ (own : HaveOwnNames trains) (i : ℕ) (x y : RunningTrain) (at : slice_get trains i ≡ Some x)
      (within : i < length trains) (same : name_of y ≡ name_of x) where
    abbrev changed : List RunningTrain
    changed = set trains i y

    names : names_of changed ≡ names_of trains
    names = names_set trains i x y at same

    still_may : (m : Moment) → May line (obeys trains) k m
        → AllMay line (obeys changed) (at_first first) (moments ++ m ∷ [])
    still_may m may =
        subst (λ ns. AllMay line (is_named ns) (at_first first) (moments ++ m ∷ [])) (sym names)
        (may_one line (obeys trains) moments m (at_first first) old.may may)

    -- it receives a message
    pub leads_hears : (c : ℕ) (m : TrackMessage) → Contains k.told (c, record { nid_engine = name_of x; message = m })
        → hears line c m m.body (train_at x) ≡ train_at y
        → Leads line w changed sent told first (moments ++ Hears (name_of x) c m ∷ [])
    leads_hears c m was heard = record {
      new = old.new;
      may = still_may (Hears (name_of x) c m) was;
      run = still_run (Hears (name_of x) c m) refl refl;
      train =
          subst (λ (l : Loop). (j : ℕ) (z : RunningTrain) → slice_get changed j ≡ Some z
          → l.train (name_of z) ≡ train_at z) (sym (next (Hears (name_of x) c m)))
          (trains_put trains i x y at same own within k.train (hears line c m m.body (k.train (name_of x)))
          (ap (hears line c m m.body) (old.train i x at) ∙ heard) old.train);
      by_trains =
          subst (λ (l : Loop). (j : ℕ) (e : WorldEvent) → slice_get sent j ≡ Some e
          → WasSent (obeys changed) l.said (event_of e)) (sym (next (Hears (name_of x) c m)))
          (subst (λ ns. (j : ℕ) (e : WorldEvent) → slice_get sent j ≡ Some e
          → WasSent (is_named ns) k.said (event_of e)) (sym names) old.by_trains);
      by_centres =
          subst (λ (l : Loop). (j : ℕ) (a : CentreAnswer) → slice_get told j ≡ Some a → IsTold l a)
          (sym (next (Hears (name_of x) c m))) old.by_centres;
    }

    -- it runs
    pub leads_runs : (front : ℕ) (rear : ℤ) → may_run front rear (train_at x) ≡ true
        → record (train_at x) { front = front; rear = rear } ≡ train_at y
        → Leads line w changed sent told first (moments ++ Runs (name_of x) front rear ∷ [])
    leads_runs front rear may ran = record {
      new = old.new;
      may = still_may (Runs (name_of x) front rear)
          (λ its. ap (may_run front rear) (old.train i x at) ∙ may);
      run = still_run (Runs (name_of x) front rear) refl refl;
      train =
          subst (λ (l : Loop). (j : ℕ) (z : RunningTrain) → slice_get changed j ≡ Some z
          → l.train (name_of z) ≡ train_at z) (sym (next (Runs (name_of x) front rear)))
          (trains_put trains i x y at same own within k.train (record (k.train (name_of x)) {
            front = front;
            rear =
                rear;
          })
          (ap (λ (t : Train). record t { front = front; rear = rear }) (old.train i x at) ∙ ran) old.train);
      by_trains =
          subst (λ (l : Loop). (j : ℕ) (e : WorldEvent) → slice_get sent j ≡ Some e
          → WasSent (obeys changed) l.said (event_of e)) (sym (next (Runs (name_of x) front rear)))
          (subst (λ ns. (j : ℕ) (e : WorldEvent) → slice_get sent j ≡ Some e
          → WasSent (is_named ns) k.said (event_of e)) (sym names) old.by_trains);
      by_centres =
          subst (λ (l : Loop). (j : ℕ) (a : CentreAnswer) → slice_get told j ≡ Some a → IsTold l a)
          (sym (next (Runs (name_of x) front rear))) old.by_centres;
    }

    -- it sends a message
    pub leads_says : (c : ℕ) (m : TrainMessage) (event : WorldEvent) → m.nid_engine ≡ name_of x
        → may_say line c m (train_at x) ≡ true → says c m (train_at x) ≡ train_at y → event_of event ≡ Bytes c (Ok m)
        → Leads line w changed (sent ++ event ∷ []) told first (moments ++ Says c m ∷ [])
    leads_says c m event named may said is = record {
      new = old.new;
      may = still_may (Says c m)
          (λ its. ap (may_say line c m) (ap k.train named ∙ old.train i x at) ∙ may);
      run = still_run (Says c m) refl refl;
      train =
          subst (λ (l : Loop). (j : ℕ) (z : RunningTrain) → slice_get changed j ≡ Some z
          → l.train (name_of z) ≡ train_at z) (sym (next (Says c m)))
          (subst (λ n. (j : ℕ) (z : RunningTrain) → slice_get changed j ≡ Some z
          → put k.train n (says c m (k.train n)) (name_of z) ≡ train_at z) (sym named)
          (trains_put trains i x y at same own within k.train (says c m (k.train (name_of x)))
          (ap (says c m) (old.train i x at) ∙ said) old.train));
      by_trains =
          subst (λ (l : Loop). (j : ℕ) (e : WorldEvent) → slice_get (sent ++ event ∷ []) j ≡ Some e
          → WasSent (obeys changed) l.said (event_of e)) (sym (next (Says c m)))
          (subst (λ ns. (j : ℕ) (e : WorldEvent) → slice_get (sent ++ event ∷ []) j ≡ Some e
          → WasSent (is_named ns) ((c, m) ∷ k.said) (event_of e)) (sym names)
          (at_end (λ e. WasSent (obeys trains) ((c, m) ∷ k.said) (event_of e)) sent event
          (subst (WasSent (obeys trains) ((c, m) ∷ k.said)) (sym is) (λ its. contains_here (c, m) k.said))
          (λ j e found. sent_later (obeys trains) k.said (c, m) (event_of e) (old.by_trains j e found))));
      by_centres =
          subst (λ (l : Loop). (j : ℕ) (a : CentreAnswer) → slice_get told j ≡ Some a → IsTold l a)
          (sym (next (Says c m))) old.by_centres;
    }

  -- ## An event

  pub leads_happens : (new : World) (event : Event) (a : CentreAnswer) → WasSent (obeys trains) k.said event
      → world_step line w event ≡ Ok (answer_of a.answer, new) → a.centre ≡ centre_of event
      → Leads line new trains sent (told ++ a ∷ []) first (moments ++ Happens event (answer_of a.answer) ∷ [])
  leads_happens new event a was step of_centre = record {
    new = old.new;
    may = may_one line (obeys trains) moments m (at_first first) old.may (sent_may line (obeys trains) k event
        (answer_of a.answer) was);
    run =
        ap (λ es. world_run line (new_world line) es) (events_one moments m)
        ∙ run_on line (events_of moments) (new_world line) w new (answers_of moments) event (answer_of a.answer)
        old.run step
        ∙ ap (λ answers. Ok (answers, new)) (sym (answers_one moments m));
    train =
        subst (λ (l : Loop). (j : ℕ) (z : RunningTrain) → slice_get trains j ≡ Some z
        → l.train (name_of z) ≡ train_at z) (sym (next m)) old.train;
    by_trains =
        subst (λ (l : Loop). (j : ℕ) (e : WorldEvent) → slice_get sent j ≡ Some e
        → WasSent (obeys trains) l.said (event_of e)) (sym (next m)) old.by_trains;
    by_centres =
        subst (λ (l : Loop). (j : ℕ) (b : CentreAnswer) → slice_get (told ++ a ∷ []) j ≡ Some b → IsTold l b)
        (sym (next m))
        (at_end (IsTold (after line m k)) told a
        (λ p h. subst (λ c. Contains (told_after event (answer_of a.answer) k.told) (c, p)) (sym of_centre)
        (told_new event (answer_of a.answer) k.told p h))
        (λ j b found p h. told_kept event (answer_of a.answer) k.told (b.centre, p) (old.by_centres j b found p h)));
  }
    where
      m : Moment
      m = Happens event (answer_of a.answer)

-- ## The first moment

pub none_there : {X : Type 0} {P : Type 0} (xs : List X) (i : ℕ) (x : X) → xs ≡ [] → slice_get xs i ≡ Some x → P
none_there xs i x none at =
    let no : None ≡ Some x = sym (ap (λ ys. slice_get ys i) none) ∙ at in absurd (let bad : ⊥ = cc in bad)

-- no moment leads to the trains in their initial state and the initial state of the line
pub leads_first : (line own : Line) (w : World) (trains : List RunningTrain) (sent : List WorldEvent)
    (told : List CentreAnswer) → own ≡ line → w ≡ new_world line → sent ≡ [] → told ≡ [] → HaveOwnNames trains
    → AreNew trains → Leads own w trains sent told (first_of trains) []
unfolding world_run
leads_first line own w trains sent told same begins no_bytes no_answer named new = record {
  new = first_new trains new;
  may = tt;
  run = ap (λ v. Ok ([], v)) (ap new_world same ∙ sym begins);
  train = first_at trains named;
  by_trains = λ i e at. none_there sent i e no_bytes at;
  by_centres = λ i a at. none_there told i a no_answer at;
}
