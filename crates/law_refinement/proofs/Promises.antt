-- Lists of events are runs of the one line centre, and keep their promises.
use Rattle.std.proofs.Common.{[], ◌++◌, ◌∙◌, ◌∷◌, ◌≡◌, ap, arith, Bool, false, List, None, Ok, Option, refl, Some}
use Rattle.std.proofs.Common.{subst, sym, true, ℕ}
use Rattle.law_base.proofs.CountingLemmas.Sums.{one_if_some, one_if_true}
use Rattle.law_base.proofs.PiecesLemmas.Loop.{run_of_none, whole_run}
use Rattle.law_base.proofs.PiecesLemmas.Promised.{keeps_promises}
use Rattle.law_base.proofs.PiecesLemmas.Waits.{IsWaited, waiting_at, WaitsKeep}
use Rattle.law_invariants.proofs.FlowLemmas.Lists.{taken_is}
use Rattle.law_invariants.proofs.FlowLemmas.OnePlace.{has_one_place, line_shows}
use Rattle.law_invariants.proofs.FlowLemmas.Stands.{stands}
use Rattle.law_invariants.proofs.HandoverLemmas.Worlds.{sent_between, world_begins, world_step_sound}
use Rattle.law_invariants.proofs.NoLossLemmas.Worlds.{never_lost}
use Rattle.law_invariants.specs.Flow.Counts.{wait_has}
use Rattle.law_invariants.specs.Flow.Flow.{flow_of}
use Rattle.law_invariants.specs.Flow.Keeping.{nothing_came}
use Rattle.law_invariants.specs.Flow.Shows.{is_in_hand, Shows}
use Rattle.law_invariants.specs.Flow.Sound.{IsCentreSound, IsFlowSound}
use Rattle.law_invariants.specs.Handover.Worlds.{IsWorldSound}
use Rattle.law_refinement.proofs.AbstractionLemmas.Marks.{in_no_hand, is_read_off, kept_mark_of}
use Rattle.law_refinement.proofs.AbstractionLemmas.Shows.{by_itself}
use Rattle.law_refinement.proofs.BorderSteps.{announced_begins, announced_stays}
use Rattle.law_refinement.proofs.Events.{each_event_goes}
use Rattle.law_refinement.proofs.Silence.{heard_alike}
use Rattle.law_refinement.specs.Announced.{IsAnnounced}
use Rattle.law_refinement.specs.Meets.{Meets}
use Rattle.rbc_spec.proofs.Lists.{put_other}
use Rattle.rbc_spec.proofs.Safe.{safe}
use Rattle.rbc_spec.proofs.Worlds.{bind_ok, Brings, delivers, keeps_run, of_event, same_ok, says, sets, unsets}
use Rattle.rbc_spec.specs.Centre.{beginning, Centre, is_taken_for, is_used_for}
use Rattle.rbc_spec.specs.Line.{is_centre, is_home, IsLine, Line}
use Rattle.rbc_spec.specs.LineCentre.{line_beginning, LineState}
use Rattle.rbc_spec.specs.Maps.{put}
use Rattle.rbc_spec.specs.Place.{covered, Place}
use Rattle.rbc_spec.specs.Promises.{IsSound, KeepsPromises}
use Rattle.rbc_spec.specs.ReadOff.{IsLineRun, read_off, StandsFor}
use Rattle.rbc_spec.specs.Run.{Goes, Run}
use Rattle.rbc_spec.specs.SectionRuns.{within}
use Rattle.rbc_spec.specs.Step as step
use Rattle.rbc_spec.specs.Theorems.{EachEventTheorem, WholeLineTheorem}
use Rattle.rbc_spec.specs.World.{Answer, Event, new_world, World, world_run, world_step}

-- # Whole lists of events are runs of the one line centre.

-- the one line centre's beginning shows a new world
pub line_begins : (line : Line) → Meets line (new_world line) line_beginning
line_begins line = record { sound = world_begins line; shows = line_shows line }

-- a state that shows a world is the one read off it
pub is_read : (line : Line) (w : World) (v : LineState) → Meets line w v → v ≡ read_off line w
is_read line w v meets = is_read_off line w meets.sound.flow v meets.shows

pub stands_read : (line : Line) (w : World) (v : LineState) → Meets line w v → StandsFor line w (read_off line w)
stands_read line w v meets = subst (StandsFor line w) (is_read line w v meets)
    (stands line w meets.sound.flow v meets.shows)

module _ (line : Line) (ok : IsLine line) where
  -- From a state that shows a world the one line centre meets events with the same answers, and then shows the world
  -- after them.
  pub run_goes : (events : List Event) (w : World) (v : LineState) → Meets line w v → IsAnnounced line w
      → (answers : List Answer) (last : World) → world_run line w events ≡ Ok (answers, last)
      → (u : LineState) × Run line v events answers u × Meets line last u × IsAnnounced line last
  unfolding world_run
  run_goes [] w v meets announced answers last is =
      subst (λ (q : List Answer × World). (u : LineState) × Run line v [] q.0 u × Meets line q.1 u
      × IsAnnounced line q.1) (same_ok ([], w) (answers, last) is) (v, refl, meets, announced)
  run_goes (event ∷ events) w v meets announced answers last is =
      let first = bind_ok (world_step line w event) _ (answers, last) is in
      let others = bind_ok (world_run line first.0.1 events) _ (answers, last) first.2 in
      let one = each_event_goes line ok w v meets announced event first.0.0 first.0.1 first.1 in
      let rest = run_goes events first.0.1 one.0 one.2
      (announced_stays line ok w meets.sound announced event first.0.0 first.0.1 first.1)
      others.0.0 others.0.1 others.1 in
      subst (λ (q : List Answer × World). (u : LineState) × Run line v (event ∷ events) q.0 u
      × Meets line q.1 u × IsAnnounced line q.1)
      (same_ok (first.0.0 ∷ others.0.0, others.0.1) (answers, last) others.2)
      (rest.0, (one.0, one.1, rest.1), rest.2, rest.3)

  -- from the initial state to the state that is read off
  pub run_read : (events : List Event) (answers : List Answer) (w : World)
      → world_run line (new_world line) events ≡ Ok (answers, w)
      → Run line line_beginning events answers (read_off line w) × Meets line w (read_off line w) × IsAnnounced line w
  run_read events answers w is =
      let goes = run_goes events (new_world line) line_beginning (line_begins line)
      (announced_begins line) answers w is in
      let same = is_read line w goes.0 goes.2 in
      subst (λ (u : LineState). Run line line_beginning events answers u × Meets line w u × IsAnnounced line w)
      same (goes.1, goes.2, goes.3)

  -- the answers and states of the centres are a run of the one line centre
  pub the_run : (events : List Event) (answers : List Answer) (w : World)
      → world_run line (new_world line) events ≡ Ok (answers, w) → IsLineRun line events answers w
  the_run events answers w is =
      let read = run_read events answers w is in
      record { last = read_off line w; is_run = read.0; stands = stands_read line w (read_off line w) read.1 }

-- # A start that waits keeps its sections; nothing waits elsewhere than at centres of the line.

-- no start waits at a number that is not a centre of the line
pub record WaitsAtCentres (line : Line) (w : World) : Type 0 where
  pub none : (c t : ℕ) → is_centre line c ≡ false → (w.at c).wait t ≡ None

pub begins_so : (line : Line) → WaitsAtCentres line (new_world line)
unfolding new_world beginning
begins_so line = record { none = λ c t away. refl }

-- ## Whatever happens

module _ (line : Line) (w : World) (sound : IsFlowSound line (flow_of w)) (old : WaitsAtCentres line w) where
  stays_so : (c : ℕ) (k : Centre) (trains : List ℕ) → is_centre line c ≡ true
      → WaitsAtCentres line (record { at = put w.at c k; trains = trains })
  stays_so c k trains to = record {
    none = λ d t away. ap (λ (x : Centre). x.wait t)
        (put_other w.at c d k (λ (here : d ≡ c). let wrong : true ≡ false = sym to ∙ sym (ap (is_centre line) here)
        ∙ away in cc)) ∙ old.none d t away;
  }

  at_centre_of_line : (event : Event) (c : ℕ) (own : step.Event) (trains : List ℕ) → Brings line w event c own trains
      → is_centre line c ≡ true
  at_centre_of_line _ _ _ _ (says c m to) = to
  at_centre_of_line _ _ _ _ (sets c s to) = to
  at_centre_of_line _ _ _ _ (unsets c s to) = to
  at_centre_of_line _ _ _ _ (delivers a b number f sent) = (sent_between line w sound a b number f sent).1

  pub event_so : (event : Event) (answer : Answer) (new : World) → world_step line w event ≡ Ok (answer, new)
      → WaitsAtCentres line new
  event_so = of_event line w (λ e a x. WaitsAtCentres line x) (λ e a idle. old)
      (λ e c own trains brings none. stays_so c _ trains (at_centre_of_line e c own trains brings))

-- ## Sections of waiting starts are kept

module _ (line : Line) (w : World) (v : LineState) (sound : IsFlowSound line (flow_of w))
    (sees : Shows line (flow_of w) v) (so : WaitsAtCentres line w) where
  waited : (t c : ℕ) (place : Place) (s : ℕ) → v.wait t c ≡ Some place → within (covered line place) s ≡ true
      → is_centre line c ≡ true → IsWaited line v t c s
  waited t c place s waits in_place to = record {
    kept = kept_mark_of line (flow_of w) v t sound sees s c home used apart;
    home = home;
    centre = to;
    waits = waiting_at line v t c s place waits in_place;
  }
    where
      k : Centre
      k = w.at c

      local : IsCentreSound line c (w.at c)
      local = sound.centres c to

      has : wait_has line ((w.at c).wait t) s ≡ true
      has = ap (λ (o : Option Place). wait_has line o s) (sym (sees.wait t c) ∙ waits) ∙ in_place

      home : is_home line c s ≡ true
      home = local.wait_home t s has

      taken : is_taken_for t ((w.at c).book s) ≡ true
      taken = one_if_some (is_taken_for t ((w.at c).book s))
          (omega (arith, local.claims s t home, one_if_true (wait_has line ((w.at c).wait t) s) has))

      used : is_used_for t ((w.at c).book s) ≡ true
      used = ap (is_used_for t) (taken_is t ((w.at c).book s) taken)
          ∙ ap (is_taken_for t) (sym (taken_is t ((w.at c).book s) taken)) ∙ taken

      apart : is_in_hand line (flow_of w) s t ≡ false
      apart = in_no_hand line (flow_of w) c nothing_came (w.at c) (λ d. []) _ t s sound
          (by_itself line (flow_of w) c (w.at c) (λ d. []) sound.counted to)
          (omega (arith, one_if_true (wait_has line ((w.at c).wait t) s) has))

  pub waits_keep : WaitsKeep line v
  waits_keep =
      record { each = λ t c place s waits in_place. by_centre t c place s waits in_place (is_centre line c) refl }
    where
      by_centre : (t c : ℕ) (place : Place) (s : ℕ) → v.wait t c ≡ Some place → within (covered line place) s ≡ true
          → (b : Bool) → is_centre line c ≡ b → IsWaited line v t c s
      by_centre t c place s waits in_place true to = waited t c place s waits in_place to
      by_centre t c place s waits in_place false away =
          absurd (let wrong : None ≡ Some place = sym (so.none c t away) ∙ sym (sees.wait t c) ∙ waits in cc)

-- # Each event after any others is met, keeps its promises and leaves a sound world.

-- after each event, starts wait only at centres
pub run_so : (line : Line) → IsLine line → (events : List Event) (w : World) → IsWorldSound line w
    → WaitsAtCentres line w → (answers : List Answer) (last : World)
    → world_run line w events ≡ Ok (answers, last) → WaitsAtCentres line last
run_so line ok events w sound so answers last is = (keeps_run line (λ x. IsWorldSound line x × WaitsAtCentres line x)
    (λ x old event answer new went. (
      world_step_sound line ok x old.0 event answer new went,
      event_so line x old.0.flow old.1 event answer new went,
    )) events w (sound, so) answers last is).1

-- one more event after a run
pub run_further : (line : Line) (event : Event) (answer : Answer) (new : World) (events : List Event) (w : World)
    (answers : List Answer) (last : World)
    → world_run line w events ≡ Ok (answers, last) → world_step line last event ≡ Ok (answer, new)
    → world_run line w (events ++ event ∷ []) ≡ Ok (answers ++ answer ∷ [], new)
unfolding world_run
run_further line event answer new [] w answers last is further =
    subst (λ (q : List Answer × World). world_step line q.1 event ≡ Ok (answer, new)
    → world_run line w (event ∷ []) ≡ Ok (q.0 ++ answer ∷ [], new)) (same_ok ([], w) (answers, last) is)
    (λ e. whole_run line w event [] (answer, new) (Ok ([], new)) e (run_of_none line new)) further
run_further line event answer new (e ∷ events) w answers last is further =
    let first = bind_ok (world_step line w e) _ (answers, last) is in
    let others = bind_ok (world_run line first.0.1 events) _ (answers, last) first.2 in
    let same = same_ok (first.0.0 ∷ others.0.0, others.0.1) (answers, last) others.2 in
    let rest = run_further line event answer new events first.0.1 others.0.0 others.0.1 others.1
    (subst (λ (u : World). world_step line u event ≡ Ok (answer, new))
    (sym (ap (λ (q : List Answer × World). q.1) same)) further) in
    whole_run line w e (events ++ event ∷ []) first.0 (Ok (others.0.0 ++ answer ∷ [], new)) first.1 rest
    ∙ ap (λ (q : List Answer × World). Ok (q.0 ++ answer ∷ [], new)) same

module _ (line : Line) (ok : IsLine line) (w new : World) (events : List Event) (answers : List Answer)
    (event : Event) (answer : Answer)
    (before : world_run line (new_world line) events ≡ Ok (answers, w))
    (is : world_step line w event ≡ Ok (answer, new)) where
  meets : Meets line w (read_off line w)
  meets = (run_read line ok events answers w before).1

  next : (u : LineState) × Goes line (read_off line w) event answer u × Meets line new u
  next = each_event_goes line ok w (read_off line w) meets (run_read line ok events answers w before).2
      event answer new is

  same : next.0 ≡ read_off line new
  same = is_read line new next.0 next.2

  after : Meets line new (read_off line new)
  after = subst (λ (u : LineState). Meets line new u) same next.2

  -- between the states that are read off
  goes : Goes line (read_off line w) event answer (read_off line new)
  goes = subst (λ (u : LineState). Goes line (read_off line w) event answer u) same next.1

  ends : StandsFor line new (read_off line new)
  ends = stands_read line new (read_off line new) after

  pub promises : KeepsPromises line w event answer new
  promises = keeps_promises line w new event answer
      (waits_keep line w (read_off line w) meets.sound.flow meets.shows
      (run_so line ok events (new_world line) (world_begins line) (begins_so line) answers w before))
      (λ c m. heard_alike line w (read_off line w) meets.sound.flow meets.shows c m)
      (stands_read line w (read_off line w) meets) ends goes

  -- no right and no token is ever lost
  pub sound_after : IsSound line new
  sound_after = record {
    stands = ends;
    safe = safe line new (read_off line new) ends;
    one_place = has_one_place line ok new after.sound.flow
        (never_lost line ok (events ++ event ∷ []) (answers ++ answer ∷ []) new
        (run_further line event answer new events (new_world line) answers w before is));
  }

-- each world that events led to is sound
pub run_sound : (line : Line) → IsLine line → (events : List Event) (answers : List Answer) (w : World)
    → world_run line (new_world line) events ≡ Ok (answers, w) → IsSound line w
run_sound line ok events answers w is =
    let meets = (run_read line ok events answers w is).1 in
    let stands = stands_read line w (read_off line w) meets in
    record {
      stands = stands;
      safe = safe line w (read_off line w) stands;
      one_place = has_one_place line ok w meets.sound.flow (never_lost line ok events answers w is);
    }

-- ## The theorems

pub whole_line : WholeLineTheorem
whole_line line events answers w ok is = the_run line ok events answers w is

pub every_event : EachEventTheorem
every_event line w new events answers event answer ok before is = (
  goes line ok w new events answers event answer before is,
  promises line ok w new events answers event answer before is,
  sound_after line ok w new events answers event answer before is,
)
