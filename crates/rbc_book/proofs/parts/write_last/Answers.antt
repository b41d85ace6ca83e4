use Rattle.std.proofs.Common.{◌+◌, ◌-◌, ◌<◌, ◌∙◌, ◌≡◌, ◌≤◌, ap, arith, length, refl, rules}
use Rattle.rbc_book.proofs.Alone.{last_apart}
use Rattle.rbc_book.proofs.Neighbours.{last_joined, last_of}
use Rattle.rbc_book.proofs.parts.write_last.Goals as goal
use Rattle.rbc_book.proofs.Rows.{at_from, at_within, changed_length, most_is, order_at, spare, there}
use Rattle.rbc_book.specs.Edits.{IsLast, resized}
use Rattle.rbc_book.specs.Runs.{At, GoesOn}

pub index-run-requires : goal.index-run-requires
index-run-requires c =
    let lt : c.args.i < length c.args.runs.now.items =
    at_within (IsLast c.args.s c.args.size c.args.page) c.args.runs.now.items c.args.i c.requires.here in
    search rules

pub overflow_sub-count : goal.overflow_sub-count
overflow_sub-count c =
    let it = there (IsLast c.args.s c.args.size c.args.page) c.args.runs.now.items c.args.i c.index-run.result.now
    c.requires.order c.requires.here c.index-run.ensures in
    omega (arith, it.is.0, it.is.1)

pub overflow_add-i : goal.overflow_add-i
overflow_add-i c =
    let it = there (IsLast c.args.s c.args.size c.args.page) c.args.runs.now.items c.args.i c.index-run.result.now
    c.requires.order c.requires.here c.index-run.ensures in
    let here = it.lt in
    search rules

pub resize-requires : goal.resize-requires
resize-requires c =
    let it = there (IsLast c.args.s c.args.size c.args.page) c.args.runs.now.items c.args.i c.index-run.result.now
    c.requires.order c.requires.here c.index-run.ensures in
    it.lt

pub overflow_add-i-in-Some : goal.overflow_add-i-in-Some
overflow_add-i-in-Some c =
    let it = there (IsLast c.args.s c.args.size c.args.page) c.args.runs.now.items c.args.i c.index-run.result.now
    c.requires.order c.requires.here c.index-run.ensures in
    let here = it.lt in
    search rules

pub overflow_add-size : goal.overflow_add-size
overflow_add-size c =
    let after : At (λ q. q ≡ c.in-Some.next) (c.args.i + 1) c.args.runs.now.items
    × GoesOn (last_of c.args.s c.args.size c.args.page c.index-run.result.now) c.in-Some.next =
    rw (← c.deref.ensures.value) c.in-Some.ensures.some in
    let ends = order_at 0 c.args.runs.now.items (c.args.i + 1) c.in-Some.next c.requires.order after.0 in
    let fits : c.args.size + c.in-Some.next.count ≤ 65535 = omega (arith, ends.bound, most_is, after.1.0) in
    search (rules, fits)

pub resize-requires-in-Some : goal.resize-requires-in-Some
resize-requires-in-Some c =
    let after : At (λ q. q ≡ c.in-Some.next) (c.args.i + 1) c.args.runs.now.items
    × GoesOn (last_of c.args.s c.args.size c.args.page c.index-run.result.now) c.in-Some.next =
    rw (← c.deref.ensures.value) c.in-Some.ensures.some in
    let next = at_within (λ q. q ≡ c.in-Some.next) c.args.runs.now.items (c.args.i + 1) after.0 in
    let same : length c.resize.new.runs.items ≡ length c.args.runs.now.items = ap length c.resize.ensures.items
    ∙ changed_length (resized c.index-run.result.now.first (c.args.s - c.index-run.result.now.first))
    c.args.i c.args.runs.now.items in
    omega (arith, same, next)

pub resize-requires-in_default : goal.resize-requires-in_default
resize-requires-in_default c =
    let it = there (IsLast c.args.s c.args.size c.args.page) c.args.runs.now.items c.args.i c.index-run.result.now
    c.requires.order c.requires.here c.index-run.ensures in
    it.lt

pub overflow_add-i-in_default : goal.overflow_add-i-in_default
overflow_add-i-in_default c =
    let it = there (IsLast c.args.s c.args.size c.args.page) c.args.runs.now.items c.args.i c.index-run.result.now
    c.requires.order c.requires.here c.index-run.ensures in
    let here = it.lt in
    search rules

pub put-requires-clause-within : goal.put-requires-clause-within
put-requires-clause-within c =
    let it = there (IsLast c.args.s c.args.size c.args.page) c.args.runs.now.items c.args.i c.index-run.result.now
    c.requires.order c.requires.here c.index-run.ensures in
    let same : length c.resize-in_default.new.runs.items ≡ length c.args.runs.now.items =
    ap length c.resize-in_default.ensures.items
    ∙ changed_length (resized c.index-run.result.now.first (c.args.s - c.index-run.result.now.first))
    c.args.i c.args.runs.now.items in
    omega (arith, same, it.lt)

pub put-requires-clause-room : goal.put-requires-clause-room
put-requires-clause-room c =
    let it = there (IsLast c.args.s c.args.size c.args.page) c.args.runs.now.items c.args.i c.index-run.result.now
    c.requires.order c.requires.here c.index-run.ensures in
    let same : length c.resize-in_default.new.runs.items ≡ length c.args.runs.now.items =
    ap length c.resize-in_default.ensures.items
    ∙ changed_length (resized c.index-run.result.now.first (c.args.s - c.index-run.result.now.first))
    c.args.i c.args.runs.now.items in
    let more = spare 1 0 c.args.runs.now.items c.args.i c.requires.order
    (at_from (λ q. 1 < q.count) c.args.runs.now.items c.args.i c.index-run.result.now
    (omega (arith, c.requires.some, it.is.1)) it.at) in
    omega (arith, same, more, c.requires.room, c.resize-in_default.ensures.capacity)

pub returns-in-Some-clause-written : goal.returns-in-Some-clause-written
returns-in-Some-clause-written c =
    let it = there (IsLast c.args.s c.args.size c.args.page) c.args.runs.now.items c.args.i c.index-run.result.now
    c.requires.order c.requires.here c.index-run.ensures in
    let after : At (λ q. q ≡ c.in-Some.next) (c.args.i + 1) c.args.runs.now.items
    × GoesOn (last_of c.args.s c.args.size c.args.page c.index-run.result.now) c.in-Some.next =
    rw (← c.deref.ensures.value) c.in-Some.ensures.some in
    last_joined c.args.i c.args.s c.args.size c.args.page c.args.runs.now.items c.resize.new.runs.items
    c.resize-in-Some.new.runs.items c.index-run.result.now c.in-Some.next it.at c.requires.some it.is
    after.0 after.1 c.requires.order c.requires.apart c.resize.ensures.items c.resize-in-Some.ensures.items

pub returns-in_default-clause-written : goal.returns-in_default-clause-written
returns-in_default-clause-written c =
    let it = there (IsLast c.args.s c.args.size c.args.page) c.args.runs.now.items c.args.i c.index-run.result.now
    c.requires.order c.requires.here c.index-run.ensures in
    last_apart c.args.i c.args.s c.args.size c.args.page c.args.runs.now.items c.index-run.result.now
    it.at c.requires.some it.is
    (rw (← c.deref.ensures.value) (c.in_default.ensures.none refl)) c.requires.order c.requires.apart
    c.resize-in_default.new.runs.items c.put.new.runs.items c.resize-in_default.ensures.items c.put.ensures.items
