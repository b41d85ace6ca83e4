-- Whether the promise holds after each event of a list.
use Rattle.std.specs.Prelude.{◌+◌, ◌<◌, ◌≡◌, ◌≤◌, Err, length, List, map, Ok, option_map, Result, take, ⊤, ℕ}
use Rattle.law_outside.specs.Outside.{IsSafeOutside, nothing_seen, sees_all, View}
use Rattle.rbc_spec.specs.Line.{Line}
use Rattle.rbc_watch.specs.Dangers.{Breaks}
use Rattle.rbc_watch.specs.declared.event.Exchange.{Exchange}
use Rattle.rbc_watch.specs.declared.fault.Breach.{Breach}
use Rattle.rbc_watch.specs.declared.fault.Breach.TheVariants as breach
use Rattle.rbc_watch.specs.declared.fault.WatchFault.{WatchFault}
use Rattle.rbc_watch.specs.declared.fault.WatchFault.TheVariants as fault
use Rattle.rbc_watch.specs.Events.{event_of, spoken_of}

-- the view after a list of events, from nothing
abbrev pub view_after : Line → List Exchange → View
view_after line exchanges =
    sees_all line (map (λ x. event_of x.event) exchanges) (map (λ x. option_map spoken_of x.spoken) exchanges)
    nothing_seen

-- the promise holds after the first n events, for each n up to the end
abbrev pub IsSafeUpTo : Line → List Exchange → ℕ → Type 0
IsSafeUpTo line exchanges end = (n : ℕ) → n ≤ end → IsSafeOutside line (view_after line (take n exchanges))

-- the fault is a danger in the view, unless memory ran out
abbrev pub IsBroken : Line → View → WatchFault → Type 0
IsBroken line v fault.Memory = ⊤
IsBroken line v (fault.Broken danger) = Breaks line v danger

-- the breach is a danger in the view after one event more than these, unless memory ran out
abbrev pub IsBreach : Line → ℕ → View → Breach → Type 0
IsBreach line before v breach.Memory = ⊤
IsBreach line before v (breach.Broken n danger) = (n ≡ before) × Breaks line v danger

-- Ok: the promise holds after each event. A breach with n events before it: the promise holds after each of these, and
-- the danger is there after one more.
abbrev pub IsVerdict : {X : Type 0} → Line → List Exchange → Result X Breach → Type 0
IsVerdict line exchanges (Ok done) = IsSafeUpTo line exchanges (length exchanges)
IsVerdict line exchanges (Err breach.Memory) = ⊤
IsVerdict line exchanges (Err (breach.Broken n danger)) =
    (n < length exchanges) × IsSafeUpTo line exchanges n
    × Breaks line (view_after line (take (n + 1) exchanges)) danger
