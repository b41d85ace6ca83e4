-- Each world of a one-centre line is local.
use Rattle.std.proofs.Common.{◌-◌, ◌==◌, ◌∙◌, ◌≡◌, ap, Bool, Err, false, if◌then◌else◌, List, None, Ok, Option, refl}
use Rattle.std.proofs.Common.{Result, slice_get, Some, sym, true, ℕ}
use Rattle.std.proofs.Math.Bool.{and-true}
use Rattle.law_base.proofs.LocalLemmas.Steps.{set_step_stays, train_stays, unset_step_stays}
use Rattle.law_base.specs.Local.Local.{IsLocal, IsLocalAt, IsOrdered}
use Rattle.rbc_spec.proofs.Lists.{put_holds}
use Rattle.rbc_spec.proofs.Places as places
use Rattle.rbc_spec.proofs.Worlds.{Brings, delivers, keeps_run, of_event, says, sets, unsets}
use Rattle.rbc_spec.specs.Centre.{beginning, Centre, is_registrar_of}
use Rattle.rbc_spec.specs.Frame.{Frame}
use Rattle.rbc_spec.specs.Line.{IsLine, Line}
use Rattle.rbc_spec.specs.Maps.{put}
use Rattle.rbc_spec.specs.Step as centre
use Rattle.rbc_spec.specs.Step.{Refusal, refusal, taken}
use Rattle.rbc_spec.specs.Theorems.{IsOneCentreLine}
use Rattle.rbc_spec.specs.World.{Answer, Event, frame_sent, new_world, World, world_run, world_step}

-- # Each line is in order, and a centre begins local.

pub is_ordered : (line : Line) → IsLine line → IsOrdered line
is_ordered line ok = record {
  covers_run = λ place s. places.covers_run line place s ok;
  homes_run = λ d track s. places.homes_run line d track s ok;
  ends_rise = λ track s e le one two. places.ends_rise line track s e one two le;
}

-- at the beginning nothing is under way
pub begins_local : (line : Line) (c : ℕ) → IsLocalAt line c (beginning line c)
unfolding beginning
begins_local line c = record {
  taken = λ s t. refl;
  not_out = λ s t. refl;
  foreign = λ s away. refl;
  unwished = λ s unused. refl;
  right = λ t. sym (and-true (is_registrar_of line c t));
  at_registrar = λ t away. refl;
  mission = λ t m at. cc;
  no_wait = λ t. refl;
  not_asked = λ t. refl;
  no_route_ask = λ t. refl;
  not_expected = λ d t. refl;
  none_sent = λ d. refl;
}

-- # Each world of a one-centre line is local, from its beginning on.

pub new_local : (line : Line) → IsLocal line (new_world line)
unfolding new_world
new_local line = record { each = λ c. begins_local line c }

-- the world of an answer
abbrev pub world_of : World → Result (Answer × World) Refusal → World
world_of w (Ok x) = x.1
world_of w (Err why) = w

module _ (line : Line) (w : World) (local : IsLocal line w) where
  -- one centre has changed, and is local still
  pub put_local : (c : ℕ) (k : Centre) (trains : List ℕ) → IsLocalAt line c k
      → IsLocal line (record { at = put w.at c k; trains = trains })
  put_local c k trains h = record { each = put_holds (IsLocalAt line) w.at c k local.each h }

  -- no frame was sent, so none is delivered
  pub none_delivered : (a b number : ℕ) → frame_sent w a b number ≡ None
  none_delivered a b number = either (number == 0)
      ∙ ap (λ (frames : List Frame). slice_get frames (number - 1)) ((local.each a).none_sent b)
    where
      either : (z : Bool) → (if z then None else slice_get ((w.at a).sent b) (number - 1))
          ≡ slice_get ((w.at a).sent b) (number - 1)
      either true = sym (ap (λ (frames : List Frame). slice_get frames (number - 1)) ((local.each a).none_sent b))
      either false = refl

  -- each event of a one-centre line
  step_local : IsOrdered line → (d : ℕ) → IsOneCentreLine line d
      → (event : Event) (c : ℕ) (own : centre.Event) (trains : List ℕ) → Brings line w event c own trains
      → refusal line c (w.at c) own ≡ None
      → IsLocal line (record { at = put w.at c (taken line c own (w.at c)).1; trains = trains })
  step_local ordered d one _ _ _ trains (says c m to) none =
      put_local c _ trains (train_stays line c ordered d one (w.at c) m (local.each c)).state
  step_local ordered d one _ _ _ trains (sets c s to) none =
      put_local c _ trains (set_step_stays line c (w.at c) s (local.each c)).state
  step_local ordered d one _ _ _ trains (unsets c s to) none =
      put_local c _ trains (unset_step_stays line c (w.at c) s (local.each c)).state
  step_local ordered d one _ _ _ _ (delivers a b number f sent) none =
      absurd (let wrong : ◌≡◌ {A = Option Frame} None (Some f) = sym (none_delivered a b number) ∙ sent in cc)

  pub world_step_local : IsOrdered line → (d : ℕ) → IsOneCentreLine line d
      → (event : Event) (answer : Answer) (new : World) → world_step line w event ≡ Ok (answer, new) → IsLocal line new
  world_step_local ordered d one = of_event line w (λ e a x. IsLocal line x) (λ e a idle. local)
      (step_local ordered d one)

-- a run from a world that is local
pub run_local : (line : Line) → IsOrdered line → (d : ℕ) → IsOneCentreLine line d → (events : List Event) (w : World)
    → IsLocal line w → (answers : List Answer) (last : World)
    → world_run line w events ≡ Ok (answers, last) → IsLocal line last
run_local line ordered d one = keeps_run line (IsLocal line) (λ w local. world_step_local line w local ordered d one)
