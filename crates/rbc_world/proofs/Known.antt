-- The facts that are known of a world after a list of events.
use Rattle.std.proofs.Common.{[], ◌&&◌, ◌-◌, ◌==◌, ◌∙◌, ◌≡◌, ap, Bool, false, if◌then◌else◌, List, None, Option, refl}
use Rattle.std.proofs.Common.{slice_get, Some, sym, true, ℕ}
use Rattle.std.proofs.Math.Logic.{∥∥₁_elim}
use Rattle.std.specs.Option.{IfSome}
use Rattle.law_base.specs.Local.Local.{IsLocal}
use Rattle.law_reached.proofs.Known as seen
use Rattle.law_reached.proofs.Known.{sections_seen}
use Rattle.law_reached.proofs.Missions as forced
use Rattle.law_reached.proofs.Missions.{missions_seen}
use Rattle.law_reached.specs.Known.{IsKnown}
use Rattle.law_reached.specs.Seen.{AreMissionsSeen, AreSectionsSeen}
use Rattle.rbc_centre.specs.Views.{frame_number}
use Rattle.rbc_spec.specs.Frame.{Frame}
use Rattle.rbc_spec.specs.Line.{is_centre, IsLine, Line}
use Rattle.rbc_spec.specs.Promises.{IsSound}
use Rattle.rbc_spec.specs.ReadOff.{read_off, StandsFor}
use Rattle.rbc_spec.specs.Theorems.{IsOneCentreLine}
use Rattle.rbc_spec.specs.World.{frame_sent, World}
use Rattle.rbc_world.specs.Reached.{WasReached}

-- ## After the events that led to it

module _ (line : Line) (w : World) (ok : IsLine line) (reached : ∥ WasReached line w ∥₁) where
  pub world_known : IsKnown line w
  world_known = ∥∥₁_elim reached (seen.one_proof line w) (λ r. seen.is_known line ok r.events r.answers w r.run)

  -- the state that is read off represents the world, and is seen at its centres
  pub world_stands : StandsFor line w (read_off line w)
  world_stands = seen.stands line w world_known

  pub world_missions : AreMissionsSeen line w
  world_missions = missions_seen line w (seen.flow line w world_known) world_known.shows

  pub world_sections : AreSectionsSeen line w
  world_sections = sections_seen line w (seen.flow line w world_known) world_known.shows

  pub world_sound : IsSound line w
  world_sound = seen.sound line w world_known ok

  -- on a one-centre line no other centre has a part in it
  pub world_local : (c : ℕ) → IsOneCentreLine line c → IsLocal line w
  world_local c one =
      ∥∥₁_elim reached (forced.one_proof line w) (λ r. forced.stays_local line ok c one r.events r.answers w r.run)

-- ## Frames that were sent

-- no frame has a number if none was sent
pub none_at : (number : ℕ) → None ≡ frame_number [] number
none_at number = by_number (number == 0)
  where
    by_number : (z : Bool) → None ≡ (if z then None else slice_get {X = Frame} [] (number - 1))
    by_number true = refl
    by_number false = refl

-- each was sent to a centre of the line
pub receiver : (line : Line) (w : World) (a b number : ℕ) → IsKnown line w → (o : Option Frame)
    → o ≡ frame_sent w a b number → IfSome o (λ f. is_centre line b ≡ true)
receiver line w a b number known None is = tt
receiver line w a b number known (Some f) is = by_centre (is_centre line b) refl
  where
    away : (x z : Bool) → z ≡ false → (x && z) ≡ false
    away true z e = e
    away false z e = refl

    by_centre : (z : Bool) → is_centre line b ≡ z → is_centre line b ≡ true
    by_centre true e = e
    by_centre false e =
        let none : None ≡ Some f = none_at number
        ∙ ap (λ (fs : List Frame). frame_number fs number)
        (sym (known.no_sent a b (away (is_centre line a) (is_centre line b) e))) ∙ sym is in
        cc
