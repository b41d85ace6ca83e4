-- Steps that leave a sound centre sound.
use Rattle.std.specs.Prelude.{ℕ, ◌≤◌}
use Rattle.rbc_spec.specs.SectionRuns.{most_in_hand}
use Rattle.rbc_spec.specs.Line.{Line}
use Rattle.rbc_spec.specs.Frame.{Body, Yield}
use Rattle.rbc_spec.specs.Centre.{Centre}
use Rattle.rbc_spec.specs.Step.{Event, Deliver, effect, state_after, stamp_of, ticked}
use Rattle.law_invariants.specs.Flow.Keeping.{LeavesSound}

-- a Yield has a hand of 1 to 32 sections; each body in its ranges is so, and each sound one
abbrev pub HasHandRange : Body → Type 0
HasHandRange (Yield number t heard has_data is_ended place hand) = (1 ≤ hand.count) × (hand.count ≤ most_in_hand)
HasHandRange body = Unit {0}

-- a delivered frame has such a body; another event needs no range
abbrev pub IsInRange : Event → Type 0
IsInRange (Deliver d f) = HasHandRange f.body
IsInRange event = Unit {0}

-- The step of an event at centre c, from state k, leaves the centre sound. It sends only sound bodies, and only to
-- centres of the line.
abbrev pub StaysSound : Line → ℕ → Centre → Event → Type 0
StaysSound line c k event =
    let stamp = stamp_of k event in
    let e = effect line c (ticked stamp k) event in
    LeavesSound line c (state_after stamp k e) e.reply.frames
