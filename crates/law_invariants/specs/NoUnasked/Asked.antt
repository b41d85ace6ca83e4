-- The requests of the centres of a line for rights and sections, with the questions and answers on the way.
use Rattle.std.specs.Prelude.{◌≡◌, ℕ, ◌+◌, ◌==◌, Bool, true, false, ◌&&◌}
use Rattle.law_base.specs.Counting.Sums.{one_if}
use Rattle.law_base.specs.Counting.Network.{EachOnTheWay}
use Rattle.law_base.specs.Counting.Resource.{Resource, IsWithinCap}
use Rattle.rbc_spec.specs.Maps.{has}
use Rattle.rbc_spec.specs.SectionRuns.{is_empty, all_of}
use Rattle.rbc_spec.specs.Line.{Line, is_home}
use Rattle.rbc_spec.specs.Frame.{Body, AskRight, GiveRight, RefuseRight, ReturnRight, RouteAsk, RouteInfo, RouteReturn}
use Rattle.rbc_spec.specs.Centre.{Centre, is_registrar_of}
use Rattle.rbc_spec.specs.Links.{is_of_line, is_train}
use Rattle.law_invariants.specs.Flow.Flow.{Flow, centre_count}

-- ## Questions

-- a centre asks for the right of a train, or for sections from a first one on
pub data Question : Type 0 where
  OfRight : (t : ℕ) → Question
  OfRoute : (t first : ℕ) → Question

-- the body asks it
abbrev pub asks : Question → Body → Bool
asks (OfRight t) (AskRight u) = u == t
asks (OfRight t) body = false
asks (OfRoute t first) (RouteAsk u n most) = (u == t) && (n == first)
asks (OfRoute t first) body = false

-- the body answers it
abbrev pub answers : Question → Body → Bool
answers (OfRight t) (GiveRight u) = u == t
answers (OfRight t) (RefuseRight u) = u == t
answers (OfRight t) body = false
answers (OfRoute t first) (RouteInfo u r) = (u == t) && (r.first == first)
answers (OfRoute t first) body = false

-- the centre has asked it and has no answer
abbrev pub stands : Question → Centre → Bool
stands (OfRight t) k = k.has_asked t
stands (OfRoute t first) k = has (λ n. n == first) (k.route_ask t)

-- questions of centre d and their answers on the way, under the count of those that are pending at d
abbrev pub questions : Question → ℕ → Resource Centre Body
questions x d = record {
  held = λ c k. 0;
  inside = λ a b body. one_if (asks x body && (a == d)) + one_if (answers x body && (b == d));
  cap = λ c k. one_if ((c == d) && stands x k);
}

-- ## Frames on the way

-- A body on the way from centre a to centre b. A right returns to its registrar. Sections are requested from the home
-- of the first. A home lends only its own sections, all of one track of the line. Sections of a train of the line are
-- returned to their home.
abbrev pub IsBodyAsked : Line → ℕ → ℕ → Body → Type 0
IsBodyAsked line a b (ReturnRight t) = is_registrar_of line b t ≡ true
IsBodyAsked line a b (RouteAsk t first most) = is_home line b first ≡ true
IsBodyAsked line a b (RouteInfo t r) =
    (is_train line t ≡ true) × (is_of_line line r ≡ true) × (is_home line a r.first ≡ true)
    × (all_of (is_home line a) r ≡ true)
IsBodyAsked line a b (RouteReturn t r) =
    (is_train line t ≡ true) × (is_empty r ≡ false) × (all_of (is_home line b) r ≡ true)
IsBodyAsked line a b body = Unit {0}

-- ## Of all

-- at most as many answers are on the way as questions are pending, and each body keeps the rule above
pub record IsAsked (line : Line) (w : Flow) : Type 0 where
  pub questions : (x : Question) (d : ℕ) → IsWithinCap (questions x d) (centre_count line) w
  pub bodies : EachOnTheWay (IsBodyAsked line) w
