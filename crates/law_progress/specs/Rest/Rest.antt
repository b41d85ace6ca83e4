-- Frames on the way are finitely many and lead to few further ones, so a line reaches rest.
use Rattle.std.specs.Prelude.{◌≡◌, ◌⊎◌, ℕ, ◌+◌, ◌≤◌, List, [], length, true, false, All, None, Ok, Err}
use Rattle.std.specs.List.{sum_by}
use Rattle.rbc_spec.specs.Line.{Line, is_centre}
use Rattle.rbc_spec.specs.Frame.{Body, AskRight, GiveRight, RouteAsk, RouteInfo, RouteWithdraw, TakingOver}
use Rattle.rbc_spec.specs.Step.{Refusal}
use Rattle.rbc_spec.specs.World.{World, Event, Delivery, Answer, world_step, world_run}
use Rattle.rbc_spec.specs.ReadOff.{frames_on_way}
use Rattle.law_invariants.specs.NoUnasked.Asked.{Question, stands}

-- The greatest number of deliveries that a frame may cause among n centres: its own, and those of the frames that
-- follow from it. A question causes an answer. A right or sections that no start or hand can use are returned. A pool
-- is returned in one frame for each home.
abbrev pub work_of : ℕ → Body → ℕ
work_of n (AskRight t) = 3
work_of n (GiveRight t) = 2
work_of n (RouteAsk t first most) = 3
work_of n (RouteInfo t r) = 2
work_of n (RouteWithdraw t s) = n + 1
work_of n (TakingOver number t) = n + 2
work_of n body = 1

-- of all frames on the way
abbrev pub work : Line → World → ℕ
work line w = sum_by (λ f. work_of (length line.centres) f.body) (frames_on_way line w)

abbrev pub IsDelivery : Event → Type 0
IsDelivery (Delivery a b number) = Unit {0}
IsDelivery event = ⊥

-- nothing is on the way, each question of a centre has its answer, and no start of mission waits
pub record IsAtRest (line : Line) (w : World) : Type 0 where
  pub no_frames : frames_on_way line w ≡ []
  pub answered : (c : ℕ) (x : Question) → is_centre line c ≡ true → stands x (w.at c) ≡ false
  pub no_wait : (c t : ℕ) → is_centre line c ≡ true → (w.at c).wait t ≡ None

-- a delivery is refused: a step clock is at its end, or a link is full
pub record IsStopped (line : Line) (w : World) : Type 0 where
  pub event : Event
  pub is_delivery : IsDelivery event
  pub why : Refusal
  pub refused : world_step line w event ≡ Err why

-- at most this many deliveries lead from w to rest, or to a world in which a delivery is refused
pub record ComesToRest (line : Line) (w : World) : Type 0 where
  pub events : List Event
  pub are_deliveries : All IsDelivery events
  pub few : length events ≤ work line w
  pub answers : List Answer
  pub last : World
  pub ran : world_run line w events ≡ Ok (answers, last)
  pub ends : IsAtRest line last ⊎ IsStopped line last
