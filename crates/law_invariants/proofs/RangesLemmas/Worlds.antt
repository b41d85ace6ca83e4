-- Each frame of a world is in range, and each of its answers has few messages, replies and frames.
use Rattle.std.proofs.Common.{◌≡◌, All, List, None, Ok, ℕ}
use Rattle.std.proofs.lemmas.List.Elements.{All-append, All-nil}
use Rattle.law_base.proofs.RulesLemmas.SentTaken.{few_frames, few_sayings, few_words, in_order}
use Rattle.law_invariants.proofs.RangesLemmas.Steps.{begins_in_range, holds_few, sends_in_range, stays_in_range}
use Rattle.law_invariants.proofs.RangesLemmas.Steps.{takes_few}
use Rattle.law_invariants.specs.Ranges.Few.{IsFewAnswer, SaysFew}
use Rattle.law_invariants.specs.Ranges.Ranges.{HasEventRanges, HasStateRanges}
use Rattle.law_invariants.specs.Ranges.Stays.{IsFrameInRange, IsReadInRange, IsWorldInRange}
use Rattle.rbc_spec.proofs.Lists.{put_holds}
use Rattle.rbc_spec.proofs.Worlds.{Brings, delivers, faulty, IsIdle, no_centre, not_sent, of_event, of_run, of_sent}
use Rattle.rbc_spec.proofs.Worlds.{says, sets, unsets}
use Rattle.rbc_spec.specs.Centre.{beginning, Centre}
use Rattle.rbc_spec.specs.Line.{IsLine, Line}
use Rattle.rbc_spec.specs.Maps.{put}
use Rattle.rbc_spec.specs.Step as centre
use Rattle.rbc_spec.specs.Step.{refusal, taken}
use Rattle.rbc_spec.specs.World.{Answer, Answered, Event, new_world, World, world_run, world_step}

pub new_in_range : (line : Line) → IsWorldInRange line (new_world line)
unfolding new_world beginning
new_in_range line = record { centres = λ c. begins_in_range line c; sent = λ a b. All-nil (IsFrameInRange line a b) }

says_few : (line : Line) (c : ℕ) (k : Centre) (event : centre.Event) → HasEventRanges line c event
    → HasStateRanges line c k → SaysFew (taken line c event k).0
says_few line c k event range old =
    let holds = holds_few line c k old in
    let few = takes_few line c event range in
    record {
      sayings = few_sayings 0 line c k event holds few;
      words = few_words 0 line c k event holds few;
      frames = λ d. few_frames d line c k event holds few;
      order = λ d. in_order d line c k event holds few;
    }

idle_few : (answer : Answer) → IsIdle answer → IsFewAnswer answer
idle_few _ no_centre = tt
idle_few _ not_sent = tt
idle_few _ (faulty number) = tt

module _ (line : Line) (ok : IsLine line) (w : World) (old : IsWorldInRange line w) where
  put_in_range : (c : ℕ) (k : Centre) (trains : List ℕ) → HasStateRanges line c k
      → ((b : ℕ) → All (IsFrameInRange line c b) (k.sent b))
      → IsWorldInRange line (record { at = put w.at c k; trains = trains })
  put_in_range c k trains range sent = record {
    centres = put_holds (HasStateRanges line) w.at c k old.centres range;
    sent = put_holds (λ a (x : Centre). (b : ℕ) → All (IsFrameInRange line a b) (x.sent b)) w.at c k old.sent sent;
  }

  -- the values of an event are in range
  brings_in_range : (event : Event) (c : ℕ) (own : centre.Event) (trains : List ℕ) → Brings line w event c own trains
      → IsReadInRange event → HasEventRanges line c own
  brings_in_range _ _ _ _ (says c m to) range = (to, range)
  brings_in_range _ _ _ _ (sets c s to) range = tt
  brings_in_range _ _ _ _ (unsets c s to) range = tt
  brings_in_range _ _ _ _ (delivers a b number f is) range =
      (of_sent (IsFrameInRange line a b) w a b number f (old.sent a b) is).ranges.body

  steps_in_range : (event : Event) (c : ℕ) (own : centre.Event) (trains : List ℕ) → Brings line w event c own trains
      → refusal line c (w.at c) own ≡ None → IsReadInRange event
      → IsWorldInRange line (record { at = put w.at c (taken line c own (w.at c)).1; trains = trains })
      × IsFewAnswer (Answered (taken line c own (w.at c)).0)
  steps_in_range event c own trains brings none read =
      let k : Centre = w.at c in
      let range = brings_in_range event c own trains brings read in (
        put_in_range c (taken line c own k).1 trains (stays_in_range line ok c k own range (old.centres c) none).centre
            (λ b. All-append (IsFrameInRange line c b) (k.sent b) ((taken line c own k).0.frames b) (old.sent c b)
            (sends_in_range line ok c k own range (old.centres c) none b)),
        says_few line c k own range (old.centres c),
      )

  step_fits : (event : Event) → IsReadInRange event → (answer : Answer) (new : World)
      → world_step line w event ≡ Ok (answer, new) → IsWorldInRange line new × IsFewAnswer answer
  step_fits event range answer new is = of_event line w (λ e a x. IsReadInRange e → IsWorldInRange line x
      × IsFewAnswer a) (λ e a idle read. (old, idle_few a idle)) steps_in_range event answer new is range

  pub step_in_range : (event : Event) → IsReadInRange event → (answer : Answer) (new : World)
      → world_step line w event ≡ Ok (answer, new) → IsWorldInRange line new
  step_in_range event range answer new is = (step_fits event range answer new is).0

-- a run from a world in range
pub run_fits : (line : Line) → IsLine line → (events : List Event) → All IsReadInRange events → (w : World)
    → IsWorldInRange line w → (answers : List Answer) (last : World)
    → world_run line w events ≡ Ok (answers, last) → IsWorldInRange line last × All IsFewAnswer answers
run_fits line ok = of_run line IsReadInRange (IsWorldInRange line) IsFewAnswer (step_fits line ok)

pub run_in_range : (line : Line) → IsLine line → (events : List Event) (w : World) → All IsReadInRange events
    → IsWorldInRange line w → (answers : List Answer) (last : World)
    → world_run line w events ≡ Ok (answers, last) → IsWorldInRange line last
run_in_range line ok events w range old answers last is = (run_fits line ok events range w old answers last is).0
