-- The flow after an act of one centre, by itself or at the head of a link.
use Rattle.std.specs.Prelude.{◌≡◌, ◌⊎◌, ℕ, ◌+◌, ◌≤◌, ◌==◌, ◌&&◌, List, Contains, is_some}
use Rattle.law_base.specs.Counting.Sums.{one_if}
use Rattle.law_base.specs.Counting.Network.{way}
use Rattle.law_base.specs.Counting.Resource.{Resource, carried, sent_by, placed}
use Rattle.rbc_spec.specs.Maps.{put}
use Rattle.rbc_spec.specs.SectionRuns.{within}
use Rattle.rbc_spec.specs.Line.{Line}
use Rattle.rbc_spec.specs.Frame.{Body, GiveRight, ReturnRight, RouteInfo, RouteReturn}
use Rattle.rbc_spec.specs.Centre.{Centre}
use Rattle.law_base.specs.Local.Local.{hand_has}
use Rattle.law_invariants.specs.Flow.Flow.{Flow, centre_count}
use Rattle.law_invariants.specs.Flow.Counts.{wait_has, pool_has, hands, missions}

-- The flow becomes `new` by an act of centre c, which leaves state y and sends these frames. `came` is the amount of
-- each resource that arrived with the act.
pub record IsAct (line : Line) (w : Flow) (c : ℕ) (came : Resource Centre Body → ℕ) (y : Centre)
    (frames : ℕ → List Body) (new : Flow) : Type 0 where
  pub at : new.at ≡ put w.at c y
  pub changes : (r : Resource Centre Body)
      → placed r (centre_count line) new + (r.held c (w.at c) + came r)
      ≡ placed r (centre_count line) w + (r.held c y + sent_by r (centre_count line) c frames)
  pub had : (r : Resource Centre Body) → r.held c (w.at c) + came r ≤ placed r (centre_count line) w
  pub on_way : (i j : ℕ) (f : Body) → Contains (way new i j) f
      → Contains (way w i j) f ⊎ ((i ≡ c) × Contains (frames j) f)

-- the frames of an act of c have none of the resource inside
abbrev pub SendsNone : Resource Centre Body → ℕ → (ℕ → List Body) → Type 0
SendsNone r c frames = (d : ℕ) → carried r c d (frames d) ≡ 0

-- ## The amounts of the centre: before the act with the arrived part, and after it with the sent part

abbrev pub hand_before : ℕ → ℕ → Centre → (Resource Centre Body → ℕ) → ℕ
hand_before t s k came = one_if (hand_has (k.mission t) s) + came (hands t s)

abbrev pub hand_after : Line → ℕ → ℕ → ℕ → Centre → (ℕ → List Body) → ℕ
hand_after line c t s y frames = one_if (hand_has (y.mission t) s) + sent_by (hands t s) (centre_count line) c frames

-- no other centre has the train's mission, and no other frame on the way
abbrev pub IsMissionHere : Line → Flow → ℕ → (Resource Centre Body → ℕ) → ℕ → Type 0
IsMissionHere line w c came t =
    placed (missions t) (centre_count line) w ≡ one_if (is_some ((w.at c).mission t)) + came (missions t)

-- the right of a train outside a mission: at its registrar, or in a frame without a mission
abbrev pub right_alone_inside : ℕ → Body → ℕ
right_alone_inside t (GiveRight u) = one_if (u == t)
right_alone_inside t (ReturnRight u) = one_if (u == t)
right_alone_inside t body = 0

abbrev pub rights_alone : ℕ → Resource Centre Body
rights_alone t =
    record { held = λ c k. one_if (k.has_right t); inside = λ a b body. right_alone_inside t body; cap = λ c k. 0 }

-- The token of a section for a train that has it in no hand. It is in a waiting start, in a pool, or in a frame that
-- lends or returns the section.
abbrev pub token_aside_inside : ℕ → ℕ → Body → ℕ
token_aside_inside t s (RouteInfo u r) = one_if ((u == t) && within r s)
token_aside_inside t s (RouteReturn u r) = one_if ((u == t) && within r s)
token_aside_inside t s body = 0

abbrev pub tokens_aside : Line → ℕ → ℕ → Resource Centre Body
tokens_aside line t s = record {
  held = λ c k. one_if (wait_has line (k.wait t) s) + one_if (pool_has (k.mission t) s);
  inside = λ a b body. token_aside_inside t s body;
  cap = λ c k. 0;
}
