-- The acts of the handing-over centre on the handover of a train.
use Rattle.std.specs.Prelude.{◌≡◌, ℕ, ◌-◌, ◌==◌, Bool, ◌&&◌, if◌then◌else◌, [], ◌∷◌, Option, Some, None, option_map}
use Rattle.rbc_spec.specs.Maps.{put}
use Rattle.rbc_spec.specs.Line.{Line, start}
use Rattle.rbc_spec.specs.Sections.{nid_rbc}
use Rattle.rbc_spec.specs.Place.{group_start}
use Rattle.rbc_spec.specs.Message.{Transition}
use Rattle.rbc_spec.specs.Frame.{Announce, Cancel}
use Rattle.rbc_spec.specs.Centre.{Centre, Mission, Handing}
use Rattle.rbc_spec.specs.Acts.{Reply, rest, say, part_at}
use Rattle.rbc_handover.specs.declared.handing.HandoverName.{HandoverName}

-- the handover to centre d that is announced under this number
abbrev pub begun : ℕ → ℕ → Handing
begun d number = record { number = number; to = d }

-- the handover is pending under this number to centre d, which claims it
abbrev pub is_due : ℕ → ℕ → Handing → Bool
is_due d number h = (h.number == number) && (h.to == d)

-- ## A centre that has it

-- the centre has this mission of the train, with this handover
pub record HasMission (t : ℕ) (k : Centre) (m : Mission) (h : Option Handing) : Type 0 where
  pub mission : k.mission t ≡ Some m
  pub handing : m.handing ≡ h

-- the centre with this handover of the train, if it has a mission of it
abbrev pub with_handover : ℕ → Option Handing → Centre → Centre
with_handover t h k =
    record k { mission = put k.mission t (option_map (λ (m : Mission). record m { handing = h }) (k.mission t)) }

-- the centre with this count of announced handovers
abbrev pub with_count : ℕ → Centre → Centre
with_count n k = record k { announced = n }

-- ## The replies

-- A handover of the mission to centre d is announced under this number, if there is one. A frame goes there, and the
-- train gets the distance to the border.
abbrev pub announcing : Line → ℕ → ℕ → Mission → Option ℕ → Centre → Reply
announcing line t d m None k = rest k
announcing line t d m (Some number) k =
    let border = (part_at line d m.place.track m.hand).first in
    record (say t m.place.group
    (Transition (start line border - group_start line m.place) line.nid_c (nid_rbc line d)) k) {
      frames = λ e. if e == d then Announce number t m.place.track ∷ [] else [];
    }

-- the handover of this name is cancelled, if there is one: a frame goes to the accepting centre
abbrev pub cancelling : ℕ → Option HandoverName → Centre → Reply
cancelling t None k = rest k
cancelling t (Some name) k = record {
  state = with_handover t None k;
  frames = λ e. if e == name.to then Cancel name.number t ∷ [] else [];
  sayings = [];
  words = [];
}
