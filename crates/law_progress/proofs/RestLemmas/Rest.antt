-- Deliveries in order lead to rest.
use Rattle.std.proofs.Common.{[], ◌+◌, ◌<◌, ◌∙◌, ◌∷◌, ◌≡◌, ◌≤◌, ◌⊎◌, All, ap, arith, Err, inl, inr, length}
use Rattle.std.proofs.Common.{length-append, List, ltb-true, map, Ok, refl, Result, suc, sym, true, zero, ℕ}
use Rattle.std.proofs.lemmas.List.Elements.{All-cons, All-nil}
use Rattle.std.proofs.lemmas.List.Sums.{sum_by-append, sum_by-cons}
use Rattle.std.specs.List.{flat_map, range_with_len, sum_by}
use Rattle.law_base.proofs.CountingLemmas.Places.{placed_parts}
use Rattle.law_base.proofs.CountingLemmas.Resource.{carried_more}
use Rattle.law_base.proofs.CountingLemmas.Sums.{link_le_links, sum_same, sum_zero}
use Rattle.law_base.proofs.PiecesLemmas.Loop.{run_of_none, whole_run}
use Rattle.law_base.specs.Counting.Network.{way}
use Rattle.law_base.specs.Counting.Resource.{carried, placed}
use Rattle.law_base.specs.Counting.Sums.{sum_below, sum_links}
use Rattle.law_invariants.proofs.FlowLemmas.Lists.{flat_sum, IsAdded}
use Rattle.law_invariants.proofs.FlowLemmas.Seats.{way_is}
use Rattle.law_invariants.proofs.NoStrayLemmas.Counts.{is_answered, none_stands, none_waits}
use Rattle.law_invariants.proofs.NoStrayLemmas.Worlds.{IsReachedSo, step_reached}
use Rattle.law_invariants.proofs.RangesLemmas.Worlds.{step_in_range}
use Rattle.law_invariants.specs.Flow.Flow.{centre_count, flow_of}
use Rattle.law_invariants.specs.NoStray.Questions.{frames_from, frames_to}
use Rattle.law_invariants.specs.Ranges.Stays.{IsWorldInRange}
use Rattle.law_progress.proofs.RestLemmas.Delivers.{IsHead, less_work, some_head}
use Rattle.law_progress.proofs.RestLemmas.Load.{less_left, load}
use Rattle.law_progress.specs.Rest.Rest.{ComesToRest, IsAtRest, IsDelivery, IsStopped, work, work_of}
use Rattle.rbc_spec.specs.Frame.{Frame}
use Rattle.rbc_spec.specs.Line.{is_centre, IsLine, Line}
use Rattle.rbc_spec.specs.ReadOff.{centres_of}
use Rattle.rbc_spec.specs.Step.{Refusal}
use Rattle.rbc_spec.specs.World as world
use Rattle.rbc_spec.specs.World.{Answer, Delivery, Event, World, world_run, world_step}

-- ## Work, by links

module _ (line : Line) (w : World) where
  added : IsAdded (λ (fs : List Frame). sum_by (λ (f : Frame). work_of (centre_count line) f.body) fs)
  added = record { none = refl; both = sum_by-append (λ (f : Frame). work_of (centre_count line) f.body) }

  in_frames : (a b : ℕ) (fs : List Frame) → sum_by (λ (f : Frame). work_of (centre_count line) f.body) fs
      ≡ carried (load (centre_count line)) a b (map (λ (f : Frame). f.body) fs)
  unfolding carried
  in_frames a b [] = refl
  in_frames a b (f ∷ fs) =
      omega (arith, sum_by-cons (λ (g : Frame). work_of (centre_count line) g.body) f fs, in_frames a b fs)

  pub work_is : work line w ≡ placed (load (centre_count line)) (centre_count line) (flow_of w)
  unfolding sum_links
  work_is = omega (
    arith,
    flat_sum (λ (fs : List Frame). sum_by (λ (f : Frame). work_of (centre_count line) f.body) fs) added
        (λ a. flat_map (λ b. world.way w a b) (centres_of line)) (centre_count line),
    sum_same (centre_count line) (λ a. sum_by (λ (f : Frame). work_of (centre_count line) f.body)
        (flat_map (λ b. world.way w a b) (centres_of line)))
        (λ a. sum_below (centre_count line) (λ b. carried (load (centre_count line)) a b (way (flow_of w) a b)))
        (λ a at. flat_sum (λ (fs : List Frame). sum_by (λ (f : Frame). work_of (centre_count line) f.body) fs) added
        (λ b. world.way w a b) (centre_count line)
        ∙ sum_same (centre_count line) (λ b. sum_by (λ (f : Frame). work_of (centre_count line) f.body)
        (world.way w a b)) (λ b. carried (load (centre_count line)) a b (way (flow_of w) a b))
        (λ b to. in_frames a b (world.way w a b) ∙ ap (carried (load (centre_count line)) a b) (sym (way_is w a b)))),
    placed_parts (load (centre_count line)) (centre_count line) (flow_of w),
    sum_zero (centre_count line) (λ c. 0) (λ c at. refl),
  )

  -- ## Without work

  nothing : (fs : List Frame) → length fs ≡ 0 → fs ≡ []
  nothing [] is = refl
  nothing (f ∷ fs) is = absurd (omega (arith, is))

  none_in : (f : ℕ → List Frame) → ((i : ℕ) → i < centre_count line → f i ≡ [])
      → flat_map f (range_with_len 0 (centre_count line)) ≡ []
  none_in f each = nothing (flat_map f (range_with_len 0 (centre_count line)))
      (flat_sum (λ (fs : List Frame). length fs) (record { none = refl; both = length-append }) f (centre_count line)
      ∙ sum_zero (centre_count line) (λ i. length (f i)) (λ i at. ap length (each i at)))

  module _ (none : placed (load (centre_count line)) (centre_count line) (flow_of w) ≡ 0) where
    no_work : (a b : ℕ) (fs : List Frame) → carried (load (centre_count line)) a b (map (λ (f : Frame). f.body) fs) ≡ 0
        → fs ≡ []
    no_work a b [] is = refl
    no_work a b (f ∷ fs) is =
        absurd (omega (
          arith,
          is,
          carried_more (load (centre_count line)) a b f.body (map (λ (g : Frame). g.body) fs),
          less_left (centre_count line) f.body,
        ))

    pub no_way : (a b : ℕ) → a < centre_count line → b < centre_count line → world.way w a b ≡ []
    no_way a b from to =
        no_work a b (world.way w a b) (ap (carried (load (centre_count line)) a b) (sym (way_is w a b)) ∙ omega (
          arith,
          none,
          placed_parts (load (centre_count line)) (centre_count line) (flow_of w),
          link_le_links (centre_count line) (λ i j. carried (load (centre_count line)) i j (way (flow_of w) i j))
              a b from to,
        ))

    pub at_rest : IsReachedSo line w → IsAtRest line w
    at_rest reached = record {
      no_frames = none_in (λ a. flat_map (λ b. world.way w a b) (centres_of line))
          (λ a from. none_in (λ b. world.way w a b) (λ b to. no_way a b from to));
      answered = λ c x to. none_stands line w (is_answered line w reached.answered) c to
          (none_from c to) (none_to c to) x;
      no_wait = λ c t to. none_waits line w (is_answered line w reached.answered) c to
          (none_from c to) (none_to c to) t;
    }
      where
        none_from : (c : ℕ) → is_centre line c ≡ true → frames_from line w c ≡ []
        none_from c to = none_in (λ b. world.way w c b) (λ b at. no_way c b (ltb-true c (centre_count line) to) at)

        none_to : (c : ℕ) → is_centre line c ≡ true → frames_to line w c ≡ []
        none_to c to = none_in (λ a. world.way w a c) (λ a at. no_way a c at (ltb-true c (centre_count line) to))

-- ## One delivery after another

module _ (line : Line) (ok : IsLine line) where
  abbrev Work : World → ℕ
  Work w = placed (load (centre_count line)) (centre_count line) (flow_of w)

  -- finitely many deliveries lead to an end
  pub record Ends (w : World) : Type 0 where
    pub events : List Event
    pub are_deliveries : All IsDelivery events
    pub few : length events ≤ Work w
    pub answers : List Answer
    pub last : World
    pub ran : world_run line w events ≡ Ok (answers, last)
    pub ends : IsAtRest line last ⊎ IsStopped line last

  ends_here : (w : World) → IsAtRest line w ⊎ IsStopped line w → Ends w
  ends_here w ends =
      record {
        events = [];
        are_deliveries = All-nil IsDelivery;
        few = omega arith;
        answers = [];
        last = w;
        ran = run_of_none line w;
        ends = ends;
      }

  delivers : (w : World) (a b number : ℕ) (answer : Answer) (new : World)
      → world_step line w (Delivery a b number) ≡ Ok (answer, new) → Work new + 1 ≤ Work w → Ends new → Ends w
  delivers w a b number answer new is less later = record {
    events = Delivery a b number ∷ later.events;
    are_deliveries = All-cons IsDelivery (Delivery a b number) later.events (record {}) later.are_deliveries;
    few = omega (arith, less, later.few);
    answers = answer ∷ later.answers;
    last = later.last;
    ran = whole_run line w (Delivery a b number) later.events (answer, new)
        (Ok (later.answers, later.last)) is later.ran;
    ends = later.ends;
  }

  none_or_some : (n : ℕ) → (n ≡ 0) ⊎ (0 < n)
  none_or_some zero = inl refl
  none_or_some (suc n) = inr (omega arith)

  module _ (m : ℕ) (w : World) (reached : IsReachedSo line w) (ranges : IsWorldInRange line w) (few : Work w ≤ suc m)
      (later : (new : World) → IsReachedSo line new → IsWorldInRange line new → Work new ≤ m → Ends new) where
    by_step : (a b number : ℕ) (f : Frame) → IsHead line w a b number f → (r : Result (Answer × World) Refusal)
        → world_step line w (Delivery a b number) ≡ r → Ends w
    by_step a b number f head (Err why) is =
        ends_here w (inr (record { event = Delivery a b number; is_delivery = record {}; why = why; refused = is }))
    by_step a b number f head (Ok (answer, new)) is =
        let less = less_work line w reached.sound.flow reached.sound.numbered a b number f head answer new is in
        delivers w a b number answer new is less
        (later new (step_reached line ok w reached (Delivery a b number) answer new is)
        (step_in_range line ok w ranges (Delivery a b number) (record {}) answer new is) (omega (arith, less, few)))

    one_more : (Work w ≡ 0) ⊎ (0 < Work w) → Ends w
    one_more (inl none) = ends_here w (inl (at_rest line w none reached))
    one_more (inr some) = let head = some_head line w reached.sound.numbered ranges.sent some in
        by_step head.0 head.1 ((w.at head.1).taken head.0 + 1) head.2 head.3
        (world_step line w (Delivery head.0 head.1 ((w.at head.1).taken head.0 + 1))) refl

  leads_to_end : (most : ℕ) (w : World) → IsReachedSo line w → IsWorldInRange line w → Work w ≤ most → Ends w
  leads_to_end zero w reached ranges few = ends_here w (inl (at_rest line w (omega (arith, few)) reached))
  leads_to_end (suc m) w reached ranges few = one_more m w reached ranges few (leads_to_end m) (none_or_some (Work w))

  pub comes_to_rest : (w : World) → IsReachedSo line w → IsWorldInRange line w → ComesToRest line w
  comes_to_rest w reached ranges = let it = leads_to_end (Work w) w reached ranges (omega arith) in record {
    events = it.events;
    are_deliveries = it.are_deliveries;
    few = omega (arith, it.few, work_is line w);
    answers = it.answers;
    last = it.last;
    ran = it.ran;
    ends = it.ends;
  }
