-- The trains of a demo.
use Rattle.cli_demo.specs.declared.demo.Demo.{Demo}
use Rattle.rbc_line.specs.declared.parts.Section.{Section}
use Rattle.cli_demo.specs.Safe.{are_apart, are_on_released}
use Rattle.std.specs.Option.{option_map_or}
use Rattle.std.specs.Prelude.{[], ◌&&◌, ◌+◌, ◌++◌, ◌-◌, ◌==◌, ◌^◌, ◌||◌, ◌∷◌, Bool, false, if◌then◌else◌, length, List}
use Rattle.std.specs.Prelude.{min, None, not, Option, option_and_then, option_map, slice_get, Some, suc, true, zero, ℕ}
use Rattle.train_unit.specs.declared.ends.Ends.{Ends}
use Rattle.train_unit.specs.Standing.{stands_on}

-- the true ends of a train
abbrev pub ends_of : Demo → ℕ → Option Ends
ends_of demo train = option_map (λ running. running.ends) (slice_get demo.railway.trains.items train)

-- a centre has accepted the train
abbrev pub is_accepted : Demo → ℕ → Bool
is_accepted demo train = option_map_or (λ driver. driver.is_accepted) (slice_get demo.drivers.items train) false

-- a train is on the section, and no centre has accepted it
abbrev pub is_hidden_on : Demo → Section → ℕ → Bool
is_hidden_on demo section train =
    not (is_accepted demo train) && option_map_or (stands_on section) (ends_of demo train) false

-- one of the first trains, this many, is on the section, and no centre has accepted it
abbrev pub has_hidden : Demo → Section → ℕ → Bool
has_hidden demo section zero = false
has_hidden demo section (suc train) = has_hidden demo section train || is_hidden_on demo section train

-- a train that no centre has accepted is on the section of this number
abbrev pub is_hidden : Demo → ℕ → Bool
is_hidden demo s =
    option_map_or (λ section. has_hidden demo section (length demo.drivers.items))
    (slice_get demo.interlocking.sections.items s) false

-- the number after this one
abbrev pub after : ℕ → ℕ
after s = min (s + 1) (2 ^ 64 - 1)

-- The section after s on its track. None if a train that no centre has accepted is on it or on the next.
abbrev pub next_free : Demo → ℕ → Option ℕ
next_free demo s =
    option_and_then (λ section. if (section.start == 0 || is_hidden demo (after s)) || is_hidden demo (after (after s))
    then None else Some (after s)) (slice_get demo.interlocking.sections.items (after s))

-- ## The check over the true places

-- the true ends of a train, if all trains are asked for or a centre has accepted the train
abbrev pub asked_ends : Demo → Bool → ℕ → Option Ends
asked_ends demo is_for_all train =
    option_and_then (λ ends. if is_for_all || is_accepted demo train then Some ends else None) (ends_of demo train)

-- the true ends of the first trains, this many, if they are asked for
abbrev pub ends_among : Demo → Bool → ℕ → List Ends
ends_among demo is_for_all zero = []
ends_among demo is_for_all (suc train) =
    ends_among demo is_for_all train ++ option_map_or (λ ends. ends ∷ []) (asked_ends demo is_for_all train) []

-- no two trains are on one section, and each section under an accepted one is released
abbrev pub is_safe_now : Demo → Bool
is_safe_now demo =
    are_apart demo.interlocking.sections.items (ends_among demo true (length demo.drivers.items))
    && are_on_released demo.interlocking.sections.items demo.interlocking.released.items
    (ends_among demo false (length demo.drivers.items))
