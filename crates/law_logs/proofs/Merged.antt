-- The merged list of a legal family of logs is a run of the world.
use Rattle.std.proofs.Common.{[], ⊎_elim, ◌++◌, ◌-◌, ◌<◌, ◌==◌, ◌∙◌, ◌∷◌, ◌≡◌, ◌≤◌, All, ap, arith, false}
use Rattle.std.proofs.Common.{if◌then◌else◌, inl, inr, List, map, ne_eqb, None, Ok, Option, refl, Result, slice_get}
use Rattle.std.proofs.Common.{Some, subst, suc, sym, true, ℕ}
use Rattle.std.proofs.lemmas.Bool.{cases_Bool, cond-false, cond-true}
use Rattle.std.proofs.lemmas.Bool.Decides.{eqb_tells}
use Rattle.std.proofs.lemmas.List.Elements.{All-cons, All-filter, All-head, All-tail, All-weaker}
use Rattle.std.specs.Option.{option_map_or}
use Rattle.law_logs.proofs.Sorted.{frames_late, get_early, sent_replayed, sent_under, stamped}
use Rattle.law_logs.specs.Logs.{answered, AreLogs, entries_of, happened, happening, IsAboveItsFrame, IsFromLog}
use Rattle.law_logs.specs.Logs.{IsInOrder, IsLegal, IsMerge, IsWorldRun, LogEntry, Replays, sent_to}
use Rattle.rbc_spec.proofs.Lists.{itself, put_other, put_there}
use Rattle.rbc_spec.specs.Centre.{beginning, Centre}
use Rattle.rbc_spec.specs.Frame.{Frame}
use Rattle.rbc_spec.specs.Line.{is_centre, Line}
use Rattle.rbc_spec.specs.Maps.{put}
use Rattle.rbc_spec.specs.Outcome.{Outcome}
use Rattle.rbc_spec.specs.Step.{Deliver, Event, Refusal, Set, step, Train, Unset}
use Rattle.rbc_spec.specs.World as world
use Rattle.rbc_spec.specs.World.{◌>>=◌, Answer, Answered, at_centre, frame_sent, mention, new_world, NoCentre, NotSent}
use Rattle.rbc_spec.specs.World.{stepped, takes, World, world_run, world_step}

-- by the last states of the centres, the frame that the event brings to centre c was sent to it under its number
abbrev IsSent : (ℕ → Centre) → ℕ → Event → Type 0
IsSent v c (Deliver from f) = (1 ≤ f.number) × (slice_get ((v from).sent c) (f.number - 1) ≡ Some f)
IsSent v c event = Unit {0}

-- in this world the frame that the event brings is there under its number already
abbrev pub IsThere : World → ℕ → Event → Type 0
IsThere w c (Deliver from f) = frame_sent w from c f.number ≡ Some f
IsThere w c event = Unit {0}

not_empty : (e : LogEntry) (es : List LogEntry) → e ∷ es ≡ [] → ⊥
not_empty e es is = cc

module _ (line : Line) where
  at_own : (w : World) (c : ℕ) (done : Result (Answer × World) Refusal) → is_centre line c ≡ true
      → at_centre line w c done ≡ done
  at_own w c done own = cond-true (is_centre line c) done (Ok (NoCentre, w)) own

  -- the step of a centre is a step of the world
  pub answers : (w : World) (c : ℕ) (event : Event) (outcome : Outcome) (mid : Centre) → is_centre line c ≡ true
      → step line c event (w.at c) ≡ Ok (outcome, mid) → IsThere w c event
      → (trains : List ℕ)
      × (world_step line w (happening c event)
      ≡ Ok (Answered outcome, record { at = put w.at c mid; trains = trains }))
  unfolding world_step
  answers w c (Train m) outcome mid own is there = (
    mention line m.nid_engine w.trains,
    at_own w c _ own
        ∙ ap (λ r. stepped w c (mention line m.nid_engine w.trains) r) is,
  )
  answers w c (Set s) outcome mid own is there = (w.trains, at_own w c _ own ∙ ap (λ r. stepped w c w.trains r) is)
  answers w c (Unset s) outcome mid own is there = (w.trains, at_own w c _ own ∙ ap (λ r. stepped w c w.trains r) is)
  answers w c (Deliver from f) outcome mid own is there = (
    w.trains,
    ap (λ (o : Option Frame). option_map_or (λ g. takes line w c w.trains (Deliver from g)) o (Ok (NotSent, w))) there
        ∙ ap (λ r. stepped w c w.trains r) is,
  )

  -- a step, and the run after it
  pub run_on : (w mid last : World) (event : world.Event) (events : List world.Event) (answer : Answer)
      (others : List Answer) → world_step line w event ≡ Ok (answer, mid)
      → world_run line mid events ≡ Ok (others, last) → world_run line w (event ∷ events) ≡ Ok (answer ∷ others, last)
  unfolding world_run
  run_on w mid last event events answer others first rest =
      ap (λ s. s >>= (λ (x : Answer × World). world_run line x.1 events >>=
      (λ (y : List Answer × World). Ok (x.0 ∷ y.0, y.1)))) first
      ∙ ap (λ r. r >>= (λ (y : List Answer × World). Ok (answer ∷ y.0, y.1))) rest

  module _ (v : ℕ → Centre) where
    -- the rest of a log, from a world on
    record Left (w : World) (d : ℕ) (es : List LogEntry) : Type 0 where
      replays : Replays line d (w.at d) es (v d)
      sent : All (λ (e : LogEntry). IsSent v d e.event) es
      known : is_centre line d ≡ false → es ≡ []

    -- a log that goes on is that of a centre
    own : (w : World) (d : ℕ) (e : LogEntry) (es : List LogEntry) → Left w d (e ∷ es) → is_centre line d ≡ true
    own w d e es left = ⊎_elim (λ (t : is_centre line d ≡ true). t)
        (λ (f : is_centre line d ≡ false). absurd (not_empty e es (left.known f))) (cases_Bool (is_centre line d))

    -- its own log goes on after an entry
    gone : (w : World) (trains : List ℕ) (c : ℕ) (e : LogEntry) (es : List LogEntry) (left : Left w c (e ∷ es))
        → Left (record { at = put w.at c left.replays.0; trains = trains }) c es
    gone w trains c e es left = record {
      replays = subst (λ k. Replays line c k es (v c)) (sym (put_there w.at c left.replays.0)) left.replays.3;
      sent = All-tail (λ (f : LogEntry). IsSent v c f.event) e es left.sent;
      known = λ no. absurd (not_empty e es (left.known no));
    }

    -- the rests of the other logs stay
    next : (w : World) (trains : List ℕ) (e : LogEntry) (es : List LogEntry) (mid : Centre)
        → ((d : ℕ) → Left w d (entries_of d (e ∷ es)))
        → Left (record { at = put w.at e.centre mid; trains = trains }) e.centre (entries_of e.centre es)
        → (d : ℕ) → Left (record { at = put w.at e.centre mid; trains = trains }) d (entries_of d es)
    next w trains e es mid all mine d = elim (eqb_tells e.centre d) [
      | inl h ↦ subst (λ x. Left (record { at = put w.at e.centre mid; trains = trains }) x (entries_of x es)) h.1 mine
      | inr h ↦
          let theirs : Left w d (entries_of d es) =
          subst (λ b. Left w d (if b then (e ∷ entries_of d es) else entries_of d es)) h.0 (all d) in
          let same : put w.at e.centre mid d ≡ w.at d = put_other w.at e.centre d mid (λ is. h.1 (sym is)) in
          record {
            replays = subst (λ k. Replays line d k (entries_of d es) (v d)) (sym same) theirs.replays;
            sent = theirs.sent;
            known = theirs.known;
          }
    ]

    -- if all stamps from a world on are as high as a stamp, a frame that was sent before that stamp is in the world
    frame_there : (w : World) (c from : ℕ) (f : Frame) (stamp : ℕ) (es : List LogEntry) → Left w from es
        → All (λ (e : LogEntry). stamp ≤ e.outcome.stamp) es → f.stamp < stamp
        → IsSent v c (Deliver from f) → frame_sent w from c f.number ≡ Some f
    frame_there w c from f stamp es left late early sent =
        let grown : (v from).sent c ≡ (w.at from).sent c ++ sent_to c es =
        sent_replayed line from c (w.at from) es (v from) left.replays in
        let all_late : All (λ (g : Frame). stamp ≤ g.stamp) (sent_to c es) =
        frames_late line from stamp c (w.at from) es (v from) left.replays late in
        let here : slice_get ((w.at from).sent c) (f.number - 1) ≡ Some f =
        get_early (λ (g : Frame). stamp ≤ g.stamp) ((w.at from).sent c) (sent_to c es) (f.number - 1) f
        (subst (λ xs. slice_get xs (f.number - 1) ≡ Some f) grown sent.1) all_late
        (λ (h : stamp ≤ f.stamp). absurd (omega (arith, h, early))) in
        cond-false (f.number == 0) None (slice_get ((w.at from).sent c) (f.number - 1))
        (ne_eqb f.number 0 (λ (h : f.number ≡ 0). absurd (omega (arith, h, sent.0)))) ∙ here

    there : (w : World) (c : ℕ) (event : Event) (stamp : ℕ) (later : ℕ → List LogEntry) → ((d : ℕ) → Left w d (later d))
        → ((d : ℕ) → All (λ (e : LogEntry). stamp ≤ e.outcome.stamp) (later d))
        → IsAboveItsFrame event stamp → IsSent v c event → IsThere w c event
    there w c (Train m) stamp later left late above sent = tt
    there w c (Set s) stamp later left late above sent = tt
    there w c (Unset s) stamp later left late above sent = tt
    there w c (Deliver from f) stamp later left late above sent =
        frame_there w c from f stamp (later from) (left from) (late from) above sent

    record Ran (w : World) (es : List LogEntry) : Type 0 where
      last : World
      runs : world_run line w (map happened es) ≡ Ok (map answered es, last)
      ends_so : (d : ℕ) → last.at d ≡ v d

    -- entries in order that are left, from a world on
    ran : (w : World) (es : List LogEntry) → ((d : ℕ) → Left w d (entries_of d es)) → IsInOrder es → Ran w es
    unfolding world_run
    ran w [] left up = record { last = w; runs = refl; ends_so = λ d. sym (left d).replays }
    ran w (e ∷ es) left up =
        let c : ℕ = e.centre in
        let mine : Left w c (e ∷ entries_of c es) =
        subst (λ b. Left w c (if b then (e ∷ entries_of c es) else entries_of c es)) (itself c) (left c) in
        let mid : Centre = mine.replays.0 in
        let it = stamped line c e.event (w.at c) mid e.outcome mine.replays.2 in
        let following : All (λ (f : LogEntry). e.outcome.stamp ≤ f.outcome.stamp) es =
        λ k d within. (up 0 (suc k) d (omega arith) (omega (arith, within))).0 in
        let late : (d : ℕ) → All (λ (f : LogEntry). e.outcome.stamp ≤ f.outcome.stamp) (entries_of d (e ∷ es)) =
        λ d. All-filter (λ (f : LogEntry). f.centre == d) (λ (f : LogEntry). e.outcome.stamp ≤ f.outcome.stamp) (e ∷ es)
        (All-cons (λ (f : LogEntry). e.outcome.stamp ≤ f.outcome.stamp) e es (omega arith) following) in
        let here : IsThere w c e.event =
        there w c e.event e.outcome.stamp (λ d. entries_of d (e ∷ es)) left late it.above_frame
        (All-head (λ (f : LogEntry). IsSent v c f.event) e (entries_of c es) mine.sent) in
        let first = answers w c e.event e.outcome mid (own w c e (entries_of c es) mine) mine.replays.2 here in
        let after : World = record { at = put w.at c mid; trains = first.0 } in
        let rest : IsInOrder es = λ i j d under within. up (suc i) (suc j) d (omega (arith, under))
        (omega (arith, within)) in
        let others : Ran after es =
        ran after es (next w first.0 e es mid left (gone w first.0 c e (entries_of c es) mine)) rest in
        record {
          last = others.last;
          runs = run_on w after others.last (happened e) (map happened es) (answered e)
              (map answered es) first.1 others.runs;
          ends_so = others.ends_so;
        }

-- ## From the beginning

-- how a centre ends; a number of no centre is as at the beginning
abbrev pub ended : Line → (ℕ → Centre) → ℕ → Centre
ended line ends d = if is_centre line d then ends d else beginning line d

module _ (line : Line) (logs : ℕ → List LogEntry) (ends : ℕ → Centre) (are : AreLogs line logs ends) where
  pub replayed : (d : ℕ) → Replays line d (beginning line d) (logs d) (ended line ends d)
  replayed d = ⊎_elim
      (λ (t : is_centre line d ≡ true). subst (λ k. Replays line d (beginning line d) (logs d) k)
      (sym (cond-true (is_centre line d) (ends d) (beginning line d) t)) (are.replays d t))
      (λ (f : is_centre line d ≡ false). subst (λ es. Replays line d (beginning line d) es (ended line ends d))
      (sym (are.no_other d f))
      (cond-false (is_centre line d) (ends d) (beginning line d) f))
      (cases_Bool (is_centre line d))

  sent_of : (c : ℕ) (event : Event) → IsFromLog logs c event → IsSent (ended line ends) c event
  sent_of c (Train m) h = tt
  sent_of c (Set s) h = tt
  sent_of c (Unset s) h = tt
  sent_of c (Deliver from f) h = sent_under line from c (logs from) (ended line ends from) f (replayed from) h

  begins : IsLegal logs → (merged : List LogEntry) → IsMerge logs merged → (d : ℕ)
      → Left line (ended line ends) (new_world line) d (entries_of d merged)
  unfolding new_world
  begins legal merged is d = subst (λ es. Left line (ended line ends) (new_world line) d es) (sym (is.each d)) (record {
    replays = replayed d;
    sent = All-weaker (λ (e : LogEntry). IsFromLog logs d e.event)
        (λ (e : LogEntry). IsSent (ended line ends) d e.event) (λ e h. sent_of d e.event h) (logs d) (legal d);
    known = are.no_other d;
  })

  pub family : IsLegal logs → (merged : List LogEntry) → IsMerge logs merged → IsWorldRun line merged ends
  family legal merged is =
      let it : Ran line (ended line ends) (new_world line) merged =
      ran line (ended line ends) (new_world line) merged (begins legal merged is) is.in_order in
      record {
        last = it.last;
        runs = it.runs;
        ends_so = λ c t. it.ends_so c
            ∙ cond-true (is_centre line c) (ends c) (beginning line c) t;
      }
