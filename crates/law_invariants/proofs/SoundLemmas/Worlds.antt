-- Each centre of a world is sound, and each Yield has its sections.
use Rattle.std.proofs.Common.{[], ◌+◌, ◌∷◌, ◌≡◌, All, length, List, Ok, ℕ}
use Rattle.std.proofs.lemmas.List.Elements.{All-append, All-cons, All-head, All-nil, All-tail}
use Rattle.law_invariants.proofs.FlowLemmas.OnePlace.{centre_begins}
use Rattle.law_invariants.proofs.SoundLemmas.Events.{stays_sound}
use Rattle.law_invariants.specs.Flow.Sound.{IsBodySound, IsCentreSound}
use Rattle.law_invariants.specs.Sound.Stays.{HasHandRange, IsInRange}
use Rattle.law_invariants.specs.Sound.Worlds.{AreCentresSound}
use Rattle.rbc_spec.proofs.Lists.{put_holds}
use Rattle.rbc_spec.proofs.Worlds.{Brings, delivers, keeps_run, of_event, of_sent, says, sets, unsets}
use Rattle.rbc_spec.specs.Centre.{beginning, Centre}
use Rattle.rbc_spec.specs.Frame.{Announce, AskRight, Body, Cancel, Frame, GiveRight, HasBodyRange, RefuseRight}
use Rattle.rbc_spec.specs.Frame.{ReturnRight, RouteAsk, RouteInfo, RouteReturn, RouteWithdraw, TakingOver, Yield}
use Rattle.rbc_spec.specs.Line.{IsLine, Line}
use Rattle.rbc_spec.specs.Maps.{put}
use Rattle.rbc_spec.specs.Step as centre
use Rattle.rbc_spec.specs.Step.{numbered, stamp_of, taken}
use Rattle.rbc_spec.specs.World.{Answer, Event, new_world, World, world_run, world_step}

-- # The hands of Yields, in frames whose fields are in their ranges and in those that a sound centre sent.

pub range_hand : (body : Body) → HasBodyRange body → HasHandRange body
range_hand (AskRight t) range = record {}
range_hand (GiveRight t) range = record {}
range_hand (RefuseRight t) range = record {}
range_hand (ReturnRight t) range = record {}
range_hand (RouteAsk t first most) range = record {}
range_hand (RouteInfo t r) range = record {}
range_hand (RouteWithdraw t s) range = record {}
range_hand (RouteReturn t r) range = record {}
range_hand (Announce number t track) range = record {}
range_hand (Cancel number t) range = record {}
range_hand (TakingOver number t) range = record {}
range_hand (Yield number t heard has_data is_ended place hand) range = range.4.count

pub sound_hand : (line : Line) (a b : ℕ) (body : Body) → IsBodySound line a b body → HasHandRange body
sound_hand line a b (AskRight t) sound = record {}
sound_hand line a b (GiveRight t) sound = record {}
sound_hand line a b (RefuseRight t) sound = record {}
sound_hand line a b (ReturnRight t) sound = record {}
sound_hand line a b (RouteAsk t first most) sound = record {}
sound_hand line a b (RouteInfo t r) sound = record {}
sound_hand line a b (RouteWithdraw t s) sound = record {}
sound_hand line a b (RouteReturn t r) sound = record {}
sound_hand line a b (Announce number t track) sound = record {}
sound_hand line a b (Cancel number t) sound = record {}
sound_hand line a b (TakingOver number t) sound = record {}
sound_hand line a b (Yield number t heard has_data is_ended place hand) sound = (sound.is_hand.some, sound.is_hand.few)

-- # The centres of each world are sound.

abbrev Sent : Line → ℕ → ℕ → Frame → Type 0
Sent line a b f = IsBodySound line a b f.body

numbered_sound : (line : Line) (a b stamp n : ℕ) (bodies : List Body) → All (IsBodySound line a b) bodies
    → All (Sent line a b) (numbered stamp n bodies)
numbered_sound line a b stamp n [] all = All-nil (Sent line a b)
numbered_sound line a b stamp n (x ∷ xs) all =
    All-cons (Sent line a b) _ (numbered stamp (n + 1) xs) (All-head (IsBodySound line a b) x xs all)
    (numbered_sound line a b stamp (n + 1) xs (All-tail (IsBodySound line a b) x xs all))

pub new_sound : (line : Line) → AreCentresSound line (new_world line)
unfolding new_world beginning
new_sound line = record { centres = λ c. centre_begins line c; sent = λ a b. All-nil (Sent line a b) }

module _ (line : Line) (ok : IsLine line) (w : World) (old : AreCentresSound line w) where
  put_sound : (c : ℕ) (k : Centre) (trains : List ℕ) → IsCentreSound line c k
      → ((b : ℕ) → All (Sent line c b) (k.sent b))
      → AreCentresSound line (record { at = put w.at c k; trains = trains })
  put_sound c k trains sound sent = record {
    centres = put_holds (IsCentreSound line) w.at c k old.centres sound;
    sent = put_holds (λ a (x : Centre). (b : ℕ) → All (Sent line a b) (x.sent b)) w.at c k old.sent sent;
  }

  brings_sound : (event : Event) (c : ℕ) (own : centre.Event) (trains : List ℕ)
      → Brings line w event c own trains → IsInRange own
  brings_sound _ _ _ _ (says c m to) = record {}
  brings_sound _ _ _ _ (sets c s to) = record {}
  brings_sound _ _ _ _ (unsets c s to) = record {}
  brings_sound _ _ _ _ (delivers a b number f is) =
      sound_hand line a b f.body (of_sent (Sent line a b) w a b number f (old.sent a b) is)

  step_sound : (event : Event) (answer : Answer) (new : World) → world_step line w event ≡ Ok (answer, new)
      → AreCentresSound line new
  step_sound = of_event line w (λ e a x. AreCentresSound line x) (λ e a idle. old) (λ e c own trains brings none.
      let k : Centre = w.at c in
      let after = stays_sound line ok c k own (brings_sound e c own trains brings) (old.centres c) in
      put_sound c (taken line c own k).1 trains after.centre
      (λ b. All-append (Sent line c b) (k.sent b) _ (old.sent c b)
      (numbered_sound line c b (stamp_of k own) (length (k.sent b)) _ (after.bodies b))))

-- a run from a world whose centres are sound
pub run_sound : (line : Line) → IsLine line → (events : List Event) (w : World) → AreCentresSound line w
    → (answers : List Answer) (last : World)
    → world_run line w events ≡ Ok (answers, last) → AreCentresSound line last
run_sound line ok = keeps_run line (AreCentresSound line) (step_sound line ok)
