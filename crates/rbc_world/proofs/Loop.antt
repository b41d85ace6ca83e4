-- A run of a world while it goes on, and a whole run.
use Rattle.std.proofs.Common.{[], ◌++◌, ◌+◌, ◌<◌, ◌∷◌, ◌≡◌, ◌≤◌, ap, arith, drop, Err, get_or, length, List, map, Ok}
use Rattle.std.proofs.Common.{Option, refl, Result, subst, suc, sym, zero, ℕ}
use Rattle.std.specs.Result.{IfErr, IfOk}
use Rattle.law_outside.specs.Outside.{IsSafeOutside, nothing_seen, sees_all, Spoken, spoken_of}
use Rattle.law_promises.proofs.Pieces.{run_safe}
use Rattle.law_reached.proofs.Known.{at_start, Reaches, run_names, run_read, run_refused, run_sound, stops_at, the_run}
use Rattle.law_reached.proofs.Missions as forced
use Rattle.rbc_centre.specs.declared.fault.StepFault.{StepFault}
use Rattle.rbc_centre.specs.declared.fault.StepFault.TheVariants.{ClockEnd, LinkFull, Memory}
use Rattle.rbc_spec.specs.Line.{IsLine, Line}
use Rattle.rbc_spec.specs.LineCentre.{line_beginning}
use Rattle.rbc_spec.specs.Promises.{IsSound}
use Rattle.rbc_spec.specs.ReadOff.{IsLineRun, read_off}
use Rattle.rbc_spec.specs.Run.{Run}
use Rattle.rbc_spec.specs.Step.{ClockEnd as AtClockEnd, LinkFull as AtLinkFull}
use Rattle.rbc_spec.specs.Theorems.{ForcedRun, IsOneCentreLine, IsOneCentreRun}
use Rattle.rbc_spec.specs.World.{all_named, Answer, Event, new_world, World, world_run, world_step}
use Rattle.rbc_world.specs.Answers.{Gives, IsRefusal, IsRefusedRun}

-- at the first event
pub starts : (line : Line) (all : List Event) (answers : List Answer) (w : World) → answers ≡ [] → w ≡ new_world line
    → Reaches line all all answers w
starts line all answers w none new = rw (none, new) (at_start line all)

pub stops : (line : Line) (all rest : List Event) (answers : List Answer) (w : World) (event : Event)
    (fault : StepFault)
    → Reaches line all (event ∷ rest) answers w → IsRefusal fault (world_step line w event)
    → IsRefusal fault (world_run line (new_world line) all)
stops line all rest answers w event Memory so_far s = tt
stops line all rest answers w event LinkFull so_far s = stops_at line all rest answers w event AtLinkFull so_far s
stops line all rest answers w event ClockEnd so_far s = stops_at line all rest answers w event AtClockEnd so_far s

-- ## A whole run

module _ {X : Type 0} (line : Line) (events : List Event) (answers : X → List Answer) (world : X → World) where
  -- the result of the definition of a world's run
  abbrev Runs : Result X StepFault → Type 0
  Runs result = Gives (λ o. (answers o, world o)) result (world_run line (new_world line) events)

  pub names_trains : (result : Result X StepFault) → Runs result
      → IfOk result (λ o. (world o).trains ≡ all_named line events [])
  unfolding new_world
  names_trains (Ok o) e = run_names line (new_world line) events (answers o) (world o) e
  names_trains (Err fault) e = tt

  refused_by : (fault : StepFault) → IsRefusal fault (world_run line (new_world line) events)
      → IsRefusedRun line events fault
  refused_by Memory e = tt
  refused_by LinkFull e = run_refused line events AtLinkFull (new_world line) e
  refused_by ClockEnd e = run_refused line events AtClockEnd (new_world line) e

  pub is_refused : (result : Result X StepFault) → Runs result → IfErr result (IsRefusedRun line events)
  is_refused (Ok o) e = tt
  is_refused (Err fault) e = refused_by fault e

  module _ (ok : IsLine line) where
    pub is_line_run : (result : Result X StepFault) → Runs result
        → IfOk result (λ o. IsLineRun line events (answers o) (world o))
    is_line_run (Ok o) e = the_run line ok events (answers o) (world o) e
    is_line_run (Err fault) e = tt

    pub is_safe_outside : (spoken : X → List (Option Spoken)) → ((o : X) → map spoken_of (answers o) ≡ spoken o)
        → (result : Result X StepFault) → Runs result
        → IfOk result (λ o. IsSafeOutside line (sees_all line events (spoken o) nothing_seen))
    is_safe_outside spoken same (Ok o) e =
        let h = the_run line ok events (answers o) (world o) e in
        subst (λ (all : List (Option Spoken)). IsSafeOutside line (sees_all line events all nothing_seen)) (same o)
        (run_safe line ok events (answers o) h.last h.is_run)
    is_safe_outside spoken same (Err fault) e = tt

    pub is_sound : (result : Result X StepFault) → Runs result → IfOk result (λ o. IsSound line (world o))
    is_sound (Ok o) e = run_sound line ok events (answers o) (world o) e
    is_sound (Err fault) e = tt

    pub ends_read : (result : Result X StepFault) → Runs result
        → IfOk result (λ o. Run line line_beginning events (answers o) (read_off line (world o)))
    ends_read (Ok o) e = (run_read line ok events (answers o) (world o) e).0
    ends_read (Err fault) e = tt

    -- on a one-centre line
    module _ (c : ℕ) (one : IsOneCentreLine line c) where
      pub is_one_centre_run : (result : Result X StepFault) → Runs result
          → IfOk result (λ o. IsOneCentreRun line events (answers o) (world o))
      is_one_centre_run (Ok o) e = forced.run_is line ok c one events (answers o) (world o) e
      is_one_centre_run (Err fault) e = tt

      pub ends_forced : (result : Result X StepFault) → Runs result
          → IfOk result (λ o. ForcedRun line line_beginning events (answers o) (read_off line (world o)))
      ends_forced (Ok o) e = forced.run_read line ok c one events (answers o) (world o) e
      ends_forced (Err fault) e = tt

-- ## The events that are left

-- the rest of a list from position i begins with the item there
pub map_drop : {X Y : Type 0} (f : X → Y) (xs : List X) (i : ℕ) (x : X) → i < length xs → x ≡ get_or xs i x
    → map f (drop i xs) ≡ f x ∷ map f (drop (i + 1) xs)
map_drop f [] i x h e = absurd (let never : ⊥ = omega arith in never)
map_drop f (y ∷ ys) zero x h e = ap (λ z. f z ∷ map f ys) (sym e)
map_drop f (y ∷ ys) (suc i) x h e =
    let next : suc i + 1 ≡ suc (i + 1) = omega arith in
    rw next (map_drop f ys i x (omega arith) e)

pub map_drop_all : {X Y : Type 0} (f : X → Y) (xs : List X) (i : ℕ) → length xs ≤ i → map f (drop i xs) ≡ []
map_drop_all f [] zero h = refl
map_drop_all f [] (suc i) h = refl
map_drop_all f (y ∷ ys) zero h = absurd (let never : ⊥ = omega arith in never)
map_drop_all f (y ∷ ys) (suc i) h = map_drop_all f ys i (omega arith)

pub map_push : {X Y : Type 0} (f : X → Y) (xs : List X) (x : X) → map f (xs ++ x ∷ []) ≡ map f xs ++ f x ∷ []
map_push f [] x = refl
map_push f (y ∷ ys) x = ap (λ zs. f y ∷ zs) (map_push f ys x)
