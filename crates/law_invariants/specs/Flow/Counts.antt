-- Counts of things of which at most one may exist for a train or a section. They are taken over all centres and all
-- frames on the way.
use Rattle.std.specs.Prelude.{ℕ, ◌+◌, ◌==◌, Bool, ◌&&◌, Option, is_some}
use Rattle.law_base.specs.Counting.Sums.{one_if}
use Rattle.law_base.specs.Counting.Resource.{Resource}
use Rattle.rbc_spec.specs.Maps.{has}
use Rattle.rbc_spec.specs.SectionRuns.{within}
use Rattle.rbc_spec.specs.Line.{Line, is_home}
use Rattle.rbc_spec.specs.Place.{Place, covered}
use Rattle.rbc_spec.specs.Frame.{Body, RouteInfo, RouteReturn, Yield}
use Rattle.rbc_spec.specs.Centre.{Centre, Mission, is_used_for, is_registrar_of}
use Rattle.rbc_spec.specs.Promises.{carries_right}
use Rattle.law_base.specs.Local.Local.{hand_has}

-- ## Sections that a centre has for a train, beside those of its hand (`hand_has`)

-- the section is in the pool of the mission, if there is one
abbrev pub pool_has : Option Mission → ℕ → Bool
pool_has mission s = has (λ m. within m.pool s) mission

-- the section is one of the start that waits, if one does
abbrev pub wait_has : Line → Option Place → ℕ → Bool
wait_has line wait s = has (λ place. within (covered line place) s) wait

-- ## The right to supervise a train: at its registrar, in a mission, or in a frame

-- the train's right, as a frame has it inside
abbrev pub right_inside : ℕ → Body → ℕ
right_inside t body = one_if (carries_right t body)

abbrev pub rights : Line → ℕ → Resource Centre Body
rights line t = record {
  held = λ c k. one_if (k.has_right t) + one_if (is_some (k.mission t));
  inside = λ a b body. right_inside t body;
  cap = λ c k. one_if (is_registrar_of line c t);
}

-- ## The token of a section in use for a train: in a start that waits, a hand, a pool, or a frame

-- the section's token for the train, as a frame has it inside
abbrev pub token_inside : ℕ → ℕ → Body → ℕ
token_inside t s (RouteInfo u r) = one_if ((u == t) && within r s)
token_inside t s (RouteReturn u r) = one_if ((u == t) && within r s)
token_inside t s (Yield number u heard has_data is_ended place hand) = one_if ((u == t) && within hand s)
token_inside t s body = 0

abbrev pub tokens : Line → ℕ → ℕ → Resource Centre Body
tokens line t s = record {
  held = λ c k. (one_if (wait_has line (k.wait t) s) + one_if (hand_has (k.mission t) s))
      + one_if (pool_has (k.mission t) s);
  inside = λ a b body. token_inside t s body;
  cap = λ c k. one_if (is_home line c s && is_used_for t (k.book s));
}

-- ## The hands that have a section, at a centre or in a Yield on the way: by these it is given

abbrev pub hand_inside : ℕ → ℕ → Body → ℕ
hand_inside t s (Yield number u heard has_data is_ended place hand) = one_if ((u == t) && within hand s)
hand_inside t s body = 0

abbrev pub hands : ℕ → ℕ → Resource Centre Body
hands t s = record {
  held = λ c k. one_if (hand_has (k.mission t) s);
  inside = λ a b body. hand_inside t s body;
  cap = λ c k. 0;
}

-- ## The missions of a train, and Yields on the way

abbrev pub yield_inside : ℕ → Body → ℕ
yield_inside t (Yield number u heard has_data is_ended place hand) = one_if (u == t)
yield_inside t body = 0

abbrev pub missions : ℕ → Resource Centre Body
missions t =
    record { held = λ c k. one_if (is_some (k.mission t)); inside = λ a b body. yield_inside t body; cap = λ c k. 0 }
