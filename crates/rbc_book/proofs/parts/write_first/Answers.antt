use Rattle.std.proofs.Common.{◌+◌, ◌-◌, ◌<◌, ◌∙◌, ◌≡◌, ◌≤◌, ap, arith, length, refl, rules}
use Rattle.rbc_book.proofs.Alone.{first_apart}
use Rattle.rbc_book.proofs.Neighbours.{first_joined, first_of}
use Rattle.rbc_book.proofs.parts.write_first.Goals as goal
use Rattle.rbc_book.proofs.Rows.{at_from, at_within, changed_length, spare, there}
use Rattle.rbc_book.specs.Edits.{IsFirst, resized}
use Rattle.rbc_book.specs.Runs.{At, GoesOn}

pub index-run-requires : goal.index-run-requires
index-run-requires c =
    let lt : c.args.i < length c.args.runs.now.items =
    at_within (IsFirst c.args.s c.args.size c.args.page) c.args.runs.now.items c.args.i c.requires.here in
    search rules

pub overflow_sub-count : goal.overflow_sub-count
overflow_sub-count c =
    let it = there (IsFirst c.args.s c.args.size c.args.page) c.args.runs.now.items c.args.i c.index-run.result.now
    c.requires.order c.requires.here c.index-run.ensures in
    omega (arith, it.is.1)

pub overflow_add-ahead : goal.overflow_add-ahead
overflow_add-ahead c =
    let it = there (IsFirst c.args.s c.args.size c.args.page) c.args.runs.now.items c.args.i c.index-run.result.now
    c.requires.order c.requires.here c.index-run.ensures in
    let ahead : (0 < c.args.i) × At (λ q. q ≡ c.in-Some.ahead) (c.args.i - 1) c.args.runs.now.items
    × GoesOn c.in-Some.ahead (first_of c.args.size c.args.page c.index-run.result.now) =
    rw (← c.deref.ensures.value) c.in-Some.ensures.some in
    let fits : c.in-Some.ahead.count + c.args.size ≤ 65535 = omega (arith, it.some, it.bound, ahead.2.0) in
    search (rules, fits)

pub resize-requires : goal.resize-requires
resize-requires c =
    let it = there (IsFirst c.args.s c.args.size c.args.page) c.args.runs.now.items c.args.i c.index-run.result.now
    c.requires.order c.requires.here c.index-run.ensures in
    omega (arith, it.lt)

pub overflow_add-first : goal.overflow_add-first
overflow_add-first c =
    let it = there (IsFirst c.args.s c.args.size c.args.page) c.args.runs.now.items c.args.i c.index-run.result.now
    c.requires.order c.requires.here c.index-run.ensures in
    let fits : c.args.s + c.args.size ≤ 65535 = omega (arith, it.is.0, it.is.1, it.bound) in
    search (rules, fits)

pub resize-requires-in-Some : goal.resize-requires-in-Some
resize-requires-in-Some c =
    let it = there (IsFirst c.args.s c.args.size c.args.page) c.args.runs.now.items c.args.i c.index-run.result.now
    c.requires.order c.requires.here c.index-run.ensures in
    let same : length c.resize.new.runs.items ≡ length c.args.runs.now.items = ap length c.resize.ensures.items
    ∙ changed_length (resized c.in-Some.ahead.first (c.in-Some.ahead.count + c.args.size))
    (c.args.i - 1) c.args.runs.now.items in
    omega (arith, same, it.lt)

pub resize-requires-in_default : goal.resize-requires-in_default
resize-requires-in_default c =
    let it = there (IsFirst c.args.s c.args.size c.args.page) c.args.runs.now.items c.args.i c.index-run.result.now
    c.requires.order c.requires.here c.index-run.ensures in
    it.lt

pub put-requires-clause-within : goal.put-requires-clause-within
put-requires-clause-within c =
    let it = there (IsFirst c.args.s c.args.size c.args.page) c.args.runs.now.items c.args.i c.index-run.result.now
    c.requires.order c.requires.here c.index-run.ensures in
    let same : length c.resize-in_default.new.runs.items ≡ length c.args.runs.now.items =
    ap length c.resize-in_default.ensures.items
    ∙ changed_length (resized (c.args.s + c.args.size) (c.index-run.result.now.count - c.args.size))
    c.args.i c.args.runs.now.items in
    omega (arith, same, it.lt)

pub put-requires-clause-room : goal.put-requires-clause-room
put-requires-clause-room c =
    let it = there (IsFirst c.args.s c.args.size c.args.page) c.args.runs.now.items c.args.i c.index-run.result.now
    c.requires.order c.requires.here c.index-run.ensures in
    let same : length c.resize-in_default.new.runs.items ≡ length c.args.runs.now.items =
    ap length c.resize-in_default.ensures.items
    ∙ changed_length (resized (c.args.s + c.args.size) (c.index-run.result.now.count - c.args.size))
    c.args.i c.args.runs.now.items in
    let more = spare 1 0 c.args.runs.now.items c.args.i c.requires.order
    (at_from (λ q. 1 < q.count) c.args.runs.now.items c.args.i c.index-run.result.now
    (omega (arith, c.requires.some, it.is.1)) it.at) in
    omega (arith, same, more, c.requires.room, c.resize-in_default.ensures.capacity)

pub returns-in-Some-clause-written : goal.returns-in-Some-clause-written
returns-in-Some-clause-written c =
    let it = there (IsFirst c.args.s c.args.size c.args.page) c.args.runs.now.items c.args.i c.index-run.result.now
    c.requires.order c.requires.here c.index-run.ensures in
    let ahead : (0 < c.args.i) × At (λ q. q ≡ c.in-Some.ahead) (c.args.i - 1) c.args.runs.now.items
    × GoesOn c.in-Some.ahead (first_of c.args.size c.args.page c.index-run.result.now) =
    rw (← c.deref.ensures.value) c.in-Some.ensures.some in
    first_joined c.args.i c.args.s c.args.size c.args.page c.args.runs.now.items c.resize.new.runs.items
    c.resize-in-Some.new.runs.items c.in-Some.ahead c.index-run.result.now it.at c.requires.some it.is
    ahead.0 ahead.1 ahead.2 c.requires.order c.requires.apart c.resize.ensures.items c.resize-in-Some.ensures.items

pub returns-in_default-clause-written : goal.returns-in_default-clause-written
returns-in_default-clause-written c =
    let it = there (IsFirst c.args.s c.args.size c.args.page) c.args.runs.now.items c.args.i c.index-run.result.now
    c.requires.order c.requires.here c.index-run.ensures in
    first_apart c.args.i c.args.s c.args.size c.args.page c.args.runs.now.items c.index-run.result.now
    it.at c.requires.some it.is
    (rw (← c.deref.ensures.value) (c.in_default.ensures.none refl)) c.requires.order c.requires.apart
    c.resize-in_default.new.runs.items c.put.new.runs.items c.resize-in_default.ensures.items c.put.ensures.items
