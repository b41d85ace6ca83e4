use Rattle.std.proofs.Common.{◌+◌, arith, List, Option, subst, sym, take, ℕ}
use Rattle.std.proofs.lemmas.List.{take_all}
use Rattle.serve_line.proofs.RoomLemmas.Earliest.{Finds, finds_after, found_of, none_of}
use Rattle.serve_line.proofs.state.room.earliest.Goals as goal
use Rattle.serve_line.specs.declared.state.room.SlotState.{SlotState}

pub loop-place-preserved : goal.loop-place-preserved
loop-place-preserved c =
    let slots = c.args.slots.now in
    let i = c.loop-place.place in
    subst (λ (o : Option (ℕ × ℕ)). Finds slots (take (i + 1) slots) o) (sym c.found_after-found.ensures)
    (finds_after slots i _ c.loop-place.found c.loop-place-test.true c.loop-place.invariant)

pub returns-in-Some-clause-some : goal.returns-in-Some-clause-some
returns-in-Some-clause-some c =
    let slots = c.args.slots.now in
    found_of slots c.loop-place.found c.in-Some.place _ c.in-Some.is
    (subst (λ (xs : List SlotState). Finds slots xs c.loop-place.found)
    (take_all c.loop-place.place slots (omega arith)) c.loop-place.invariant)

pub returns-in-None-clause-none : goal.returns-in-None-clause-none
returns-in-None-clause-none c =
    let slots = c.args.slots.now in
    none_of slots c.loop-place.found c.in-None.is
    (subst (λ (xs : List SlotState). Finds slots xs c.loop-place.found)
    (take_all c.loop-place.place slots (omega arith)) c.loop-place.invariant)
