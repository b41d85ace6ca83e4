-- A run of a world, event by event.
use Rattle.std.proofs.Common.{[], ◌++◌, ◌∙◌, ◌∷◌, ◌≡◌, ap, append-nil, append_assoc, Bool, Err, false, if◌then◌else◌}
use Rattle.std.proofs.Common.{List, None, Ok, Option, refl, Result, Some, sym, true, ℕ}
use Rattle.std.specs.Option.{option_map_or}
use Rattle.rbc_spec.specs.Centre as centre
use Rattle.rbc_spec.specs.Frame.{Frame}
use Rattle.rbc_spec.specs.Line.{is_centre, Line}
use Rattle.rbc_spec.specs.Maps.{put}
use Rattle.rbc_spec.specs.Message.{TrainMessage}
use Rattle.rbc_spec.specs.Outcome.{Outcome}
use Rattle.rbc_spec.specs.Step as step
use Rattle.rbc_spec.specs.Step.{Refusal}
use Rattle.rbc_spec.specs.World.{◌>>=◌, all_named, Answer, Answered, Bytes, Delivery, Event, Fault, frame_sent}
use Rattle.rbc_spec.specs.World.{IsRefused, mention, named, new_world, NoCentre, NotSent, reads, Set, stepped, takes}
use Rattle.rbc_spec.specs.World.{Unset, World, world_run, world_step}

-- # Runs of a world taken apart: the trains that were named, and refused steps.

module _ where
  abbrev pub with_first : Answer → List Answer × World → Result (List Answer × World) Refusal
  with_first answer others = Ok (answer ∷ others.0, others.1)

  abbrev pub after_first : Line → List Event → Answer × World → Result (List Answer × World) Refusal
  after_first line events first = world_run line first.1 events >>= with_first first.0

  pub run_of_cons : (line : Line) (w : World) (event : Event) (events : List Event)
      → world_run line w (event ∷ events) ≡ (world_step line w event >>= after_first line events)
  unfolding world_run
  run_of_cons line w event events = refl

  pub run_of_none : (line : Line) (w : World) → world_run line w [] ≡ Ok ([], w)
  unfolding world_run
  run_of_none line w = refl

  module _ (line : Line) (w : World) (event : Event) (events : List Event) where
    -- a run over one more event is its step, and the run of the others
    record Parts (answers : List Answer) (new : World) : Type 0 where
      first : Answer × World
      others : List Answer
      step : world_step line w event ≡ Ok first
      rest : world_run line first.1 events ≡ Ok (others, new)
      whole : answers ≡ first.0 ∷ others

    parts_of_rest : (answers : List Answer) (new : World) (first : Answer × World) → world_step line w event ≡ Ok first
        → (rest : Result (List Answer × World) Refusal) → world_run line first.1 events ≡ rest
        → (rest >>= with_first first.0) ≡ Ok (answers, new) → Parts answers new
    parts_of_rest answers new first s (Ok p) r h =
        let same : (first.0 ∷ p.0, p.1) ≡ (answers, new) = cc in
        record {
          first = first;
          others = p.0;
          step = s;
          rest = r
              ∙ ap (λ (k : World). Ok (p.0, k)) (ap (λ (q : List Answer × World). q.1) same);
          whole =
              sym (ap (λ (q : List Answer × World). q.0) same);
        }
    parts_of_rest answers new first s (Err why) r h = cc

    parts_of_step : (answers : List Answer) (new : World) (step : Result (Answer × World) Refusal)
        → world_step line w event ≡ step → (step >>= after_first line events) ≡ Ok (answers, new) → Parts answers new
    parts_of_step answers new (Ok first) s h = parts_of_rest answers new first s (world_run line first.1 events) refl h
    parts_of_step answers new (Err why) s h = cc

    parts : (answers : List Answer) (new : World) → world_run line w (event ∷ events) ≡ Ok (answers, new)
        → Parts answers new
    parts answers new e = parts_of_step answers new (world_step line w event) refl
        (sym (run_of_cons line w event events) ∙ e)

    -- a step, and the run of the other events after it, are one run
    pub whole_run : (first : Answer × World) (rest : Result (List Answer × World) Refusal)
        → world_step line w event ≡ Ok first → world_run line first.1 events ≡ rest
        → world_run line w (event ∷ events) ≡ (rest >>= with_first first.0)
    whole_run first rest s r = run_of_cons line w event events ∙ ap (λ step. step >>= after_first line events) s
        ∙ ap (λ r. r >>= with_first first.0) r

  -- ## The trains that were named

  stepped_names : (w : World) (c : ℕ) (trains : List ℕ) (done : Result (Outcome × centre.Centre) Refusal)
      (first : Answer × World) → stepped w c trains done ≡ Ok first → trains ≡ first.1.trains
  stepped_names w c trains (Ok p) first e =
      let same : (Answered p.0, record { at = put w.at c p.1; trains = trains }) ≡ first = cc in
      ap (λ (q : Answer × World). q.1.trains) same
  stepped_names w c trains (Err why) first e = cc

  stays : (w : World) (answer : Answer) (first : Answer × World)
      → ◌≡◌ {A = Result (Answer × World) Refusal} (Ok (answer, w)) (Ok first) → w.trains ≡ first.1.trains
  stays w answer first e = let same : (answer, w) ≡ first = cc in ap (λ (q : Answer × World). q.1.trains) same

  bytes_name : (line : Line) (w : World) (c : ℕ) (read : Result TrainMessage ℕ) (first : Answer × World) (b : Bool)
      → is_centre line c ≡ b
      → (if b then reads line w c read else Ok (NoCentre, w)) ≡ Ok first
      → named line (Bytes c read) w.trains ≡ first.1.trains
  bytes_name line w c (Ok m) first true at e =
      rw at (stepped_names w c (mention line m.nid_engine w.trains) (step.step line c (step.Train m) (w.at c)) first e)
  bytes_name line w c (Err n) first true at e = stays w (Fault n) first e
  bytes_name line w c (Ok m) first false at e = rw at (stays w NoCentre first e)
  bytes_name line w c (Err n) first false at e = stays w NoCentre first e

  told_names : (line : Line) (w : World) (c : ℕ) (event : step.Event) (first : Answer × World) (b : Bool)
      → (if b then takes line w c w.trains event else Ok (NoCentre, w)) ≡ Ok first → w.trains ≡ first.1.trains
  told_names line w c event first true e = stepped_names w c w.trains (step.step line c event (w.at c)) first e
  told_names line w c event first false e = stays w NoCentre first e

  delivery_names : (line : Line) (w : World) (a b : ℕ) (found : Option Frame) (first : Answer × World)
      → option_map_or (λ f. takes line w b w.trains (step.Deliver a f)) found (Ok (NotSent, w)) ≡ Ok first
      → w.trains ≡ first.1.trains
  delivery_names line w a b (Some f) first e =
      stepped_names w b w.trains (step.step line b (step.Deliver a f) (w.at b)) first e
  delivery_names line w a b None first e = stays w NotSent first e

  step_names : (line : Line) (w : World) (event : Event) (first : Answer × World) → world_step line w event ≡ Ok first
      → named line event w.trains ≡ first.1.trains
  unfolding world_step
  step_names line w (Bytes c read) first e = bytes_name line w c read first (is_centre line c) refl e
  step_names line w (Set c s) first e = told_names line w c (step.Set s) first (is_centre line c) e
  step_names line w (Unset c s) first e = told_names line w c (step.Unset s) first (is_centre line c) e
  step_names line w (Delivery a b number) first e = delivery_names line w a b (frame_sent w a b number) first e

  pub run_names : (line : Line) (w : World) (events : List Event) (answers : List Answer) (new : World)
      → world_run line w events ≡ Ok (answers, new) → new.trains ≡ all_named line events w.trains
  unfolding world_run
  run_names line w [] answers new e = let same : ([], w) ≡ (answers, new) = cc in
      sym (ap (λ (q : List Answer × World). q.1.trains) same)
  run_names line w (event ∷ events) answers new e =
      let p = parts line w event events answers new e in
      run_names line p.first.1 events p.others new p.rest
      ∙ ap (all_named line events) (sym (step_names line w event p.first p.step))

  -- ## Refused steps

  refusal_of_rest : (line : Line) (w : World) (event : Event) (events : List Event) (why : Refusal) (first : Answer
      × World) → world_step line w event ≡ Ok first → IsRefused line first.1 events why
      → IsRefused line w (event ∷ events) why
  refusal_of_rest line w event events why first s r = record {
    front = event ∷ r.front;
    event = r.event;
    rest = r.rest;
    answers = first.0 ∷ r.answers;
    reached = r.reached;
    cut = ap (λ es. event ∷ es) r.cut;
    answered = whole_run line w event r.front first (Ok (r.answers, r.reached)) s r.answered;
    refused = r.refused;
  }

  refusal_by_rest : (line : Line) (w : World) (event : Event) (events : List Event) (why : Refusal) (first : Answer
      × World) → world_step line w event ≡ Ok first
      → (world_run line first.1 events ≡ Err why → IsRefused line first.1 events why)
      → (rest : Result (List Answer × World) Refusal) → world_run line first.1 events ≡ rest
      → (rest >>= with_first first.0) ≡ Err why → IsRefused line w (event ∷ events) why
  refusal_by_rest line w event events why first s others (Ok p) r e = cc
  refusal_by_rest line w event events why first s others (Err f) r e =
      let same : f ≡ why = cc in
      refusal_of_rest line w event events why first s (others (r ∙ ap (λ (g : Refusal). Err g) same))

  refusal_by_step : (line : Line) (w : World) (event : Event) (events : List Event) (why : Refusal)
      → ((new : World) → world_run line new events ≡ Err why → IsRefused line new events why)
      → (step : Result (Answer × World) Refusal) → world_step line w event ≡ step
      → (step >>= after_first line events) ≡ Err why → IsRefused line w (event ∷ events) why
  refusal_by_step line w event events why others (Ok first) s e =
      refusal_by_rest line w event events why first s (others first.1) (world_run line first.1 events) refl e
  refusal_by_step line w event events why others (Err f) s e =
      let same : f ≡ why = cc in
      record {
        front = [];
        event = event;
        rest = events;
        answers = [];
        reached = w;
        cut = refl;
        answered = run_of_none line w;
        refused = s ∙ ap (λ (g : Refusal). Err g) same;
      }

  -- a run that is refused is refused at some event
  pub run_refused : (line : Line) (events : List Event) (why : Refusal) (w : World) → world_run line w events ≡ Err why
      → IsRefused line w events why
  unfolding world_run
  run_refused line [] why w e = cc
  run_refused line (event ∷ events) why w e =
      refusal_by_step line w event events why (λ new. run_refused line events why new) (world_step line w event) refl
      (sym (run_of_cons line w event events) ∙ e)

-- # A run of a world as it goes on, event by event.

-- the answers so far, before the others
abbrev pub with_front : List Answer → List Answer × World → Result (List Answer × World) Refusal
with_front answers others = Ok (answers ++ others.0, others.1)

-- after some of the events, with these answers to them, the world is w; the rest of the events are left
pub record Reaches (line : Line) (all rest : List Event) (answers : List Answer) (w : World) : Type 0 where
  pub same : world_run line (new_world line) all ≡ (world_run line w rest >>= with_front answers)

none_in_front : (r : Result (List Answer × World) Refusal) → r ≡ (r >>= with_front [])
none_in_front (Ok p) = refl
none_in_front (Err why) = refl

pub at_start : (line : Line) (all : List Event) → Reaches line all all [] (new_world line)
at_start line all = record { same = none_in_front (world_run line (new_world line) all) }

one_more : (answers : List Answer) (answer : Answer) (r : Result (List Answer × World) Refusal)
    → ((r >>= with_first answer) >>= with_front answers) ≡ (r >>= with_front (answers ++ answer ∷ []))
one_more answers answer (Ok p) = ap (λ (front : List Answer). Ok (front, p.1))
    (sym (append_assoc answers (answer ∷ []) p.0))
one_more answers answer (Err why) = refl

pub goes_on : (line : Line) (all rest : List Event) (answers : List Answer) (w : World) (event : Event)
    (answer : Answer) (new : World)
    → Reaches line all (event ∷ rest) answers w → world_step line w event ≡ Ok (answer, new)
    → Reaches line all rest (answers ++ answer ∷ []) new
goes_on line all rest answers w event answer new so_far s = record {
  same = so_far.same ∙ ap (λ r. r >>= with_front answers)
      (whole_run line w event rest (answer, new) (world_run line new rest) s refl)
      ∙ one_more answers answer (world_run line new rest);
}

pub at_end : (line : Line) (all : List Event) (answers : List Answer) (w : World) → Reaches line all [] answers w
    → world_run line (new_world line) all ≡ Ok (answers, w)
at_end line all answers w so_far =
    so_far.same ∙ ap (λ r. r >>= with_front answers) (run_of_none line w)
    ∙ ap (λ (front : List Answer). Ok (front, w)) (append-nil answers)

-- a step that is refused ends the run
pub stops_at : (line : Line) (all rest : List Event) (answers : List Answer) (w : World) (event : Event) (why : Refusal)
    → Reaches line all (event ∷ rest) answers w → world_step line w event ≡ Err why
    → world_run line (new_world line) all ≡ Err why
stops_at line all rest answers w event why so_far s =
    so_far.same ∙ ap (λ r. r >>= with_front answers) (run_of_cons line w event rest
    ∙ ap (λ step. step >>= after_first line rest) s)
