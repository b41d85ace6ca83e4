-- The handover of a train between two centres, as each of them and the frames on the way record it.
use Rattle.std.specs.Option.{option_map_or}
use Rattle.std.specs.Prelude.{[], ◌&&◌, ◌+◌, ◌<◌, ◌==◌, ◌∷◌, ◌≡◌, ◌≤◌, ◌⊎◌, Bool, false, if◌then◌else◌, is_none, List}
use Rattle.std.specs.Prelude.{None, not, Option, option_map, Some, ℕ}
use Rattle.law_base.specs.Counting.Chain.{Chain}
use Rattle.law_base.specs.Counting.Network.{way}
use Rattle.law_base.specs.Counting.Sums.{one_if}
use Rattle.law_invariants.specs.Flow.Flow.{Flow}
use Rattle.rbc_spec.specs.Centre.{Handing, Mission}
use Rattle.rbc_spec.specs.Frame.{Announce, Body, Cancel, TakingOver, Yield}
use Rattle.rbc_spec.specs.Maps.{has}

abbrev pub is_number : ℕ → Option ℕ → Bool
is_number h number = has (λ n. n == h) number

-- The number under which the receiver expects the train, after the next frame. The outer `None` is a frame that must
-- not arrive in that state.
abbrev pub follows : ℕ → Body → Option ℕ → Option (Option ℕ)
follows t (Announce h u track) number = if u == t then (if is_none number then Some (Some h) else None) else Some number
follows t (Cancel h u) number = if u == t then (if is_number h number then Some None else None) else Some number
follows t (Yield h u heard has_data is_ended place hand) number =
    if u == t then (if is_number h number then Some None else None) else Some number
follows t body number = Some number

-- the handover that a mission announced to centre b
abbrev pub handing_to : ℕ → Option Mission → Option Handing
handing_to b mission =
    option_map_or (λ m. option_map_or (λ h. if h.to == b then Some h else None) m.handing None) mission None

-- how many frames pass a test
abbrev pub count_if : (Body → Bool) → List Body → ℕ
count_if test [] = 0
count_if test (body ∷ bodies) = one_if (test body) + count_if test bodies

abbrev pub announces : ℕ → ℕ → Body → Bool
announces t h (Announce number u track) = (u == t) && (number == h)
announces t h body = false

abbrev pub takes_over : ℕ → ℕ → Body → Bool
takes_over t h (TakingOver number u) = (u == t) && (number == h)
takes_over t h body = false

abbrev pub yields : ℕ → ℕ → Body → Bool
yields t h (Yield number u heard has_data is_ended place hand) = (u == t) && (number == h)
yields t h body = false

-- before the receiver replies that it takes over: the announcement is on the way, or its handover is expected
abbrev pub before : Flow → ℕ → ℕ → ℕ → ℕ → ℕ
before w a b t h =
    count_if (announces t h) (way w a b) + one_if (has (λ e. (e.number == h) && not e.is_taking) ((w.at b).expects a t))

-- after the receiver has replied that it takes over: the reply is on the way, or the sender has yielded
abbrev pub after : Flow → ℕ → ℕ → ℕ → ℕ → ℕ
after w a b t h = count_if (takes_over t h) (way w b a) + count_if (yields t h) (way w a b)

-- the handover of train t from a to b
pub record IsPaired (w : Flow) (a b t : ℕ) : Type 0 where
  pub chain : Chain (follows t) (way w a b) (option_map (λ e. e.number) ((w.at b).expects a t))
      (option_map (λ h. h.number) (handing_to b ((w.at a).mission t)))
  pub fresh : (h : ℕ) → (w.at a).announced < h → before w a b t h + after w a b t h ≡ 0
  pub once : (h : ℕ) → before w a b t h ≤ 1
  pub apart : (h : ℕ) → (before w a b t h ≡ 0) ⊎ (after w a b t h ≡ 0)
