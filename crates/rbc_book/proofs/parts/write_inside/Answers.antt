use Rattle.std.proofs.Common.{◌+◌, ◌-◌, ◌<◌, ◌∙◌, ◌≡◌, ◌≤◌, ap, arith, length, rules}
use Rattle.std.proofs.lemmas.List.Edits.{length-insert}
use Rattle.rbc_book.proofs.Alone.{inner_apart}
use Rattle.rbc_book.proofs.Neighbours.{last_of}
use Rattle.rbc_book.proofs.parts.write_inside.Goals as goal
use Rattle.rbc_book.proofs.Rows.{at_from, at_within, changed_length, spare, there}
use Rattle.rbc_book.specs.Edits.{IsInner, resized}

pub index-run-requires : goal.index-run-requires
index-run-requires c =
    let lt : c.args.i < length c.args.runs.now.items =
    at_within (IsInner c.args.s c.args.size c.args.page) c.args.runs.now.items c.args.i c.requires.here in
    search rules

pub overflow_sub-count : goal.overflow_sub-count
overflow_sub-count c =
    let it = there (IsInner c.args.s c.args.size c.args.page) c.args.runs.now.items c.args.i c.index-run.result.now
    c.requires.order c.requires.here c.index-run.ensures in
    omega (arith, it.is.0)

pub overflow_add-rest : goal.overflow_add-rest
overflow_add-rest c =
    let it = there (IsInner c.args.s c.args.size c.args.page) c.args.runs.now.items c.args.i c.index-run.result.now
    c.requires.order c.requires.here c.index-run.ensures in
    let fits : c.args.s + c.args.size ≤ 65535 = omega (arith, it.is.1, it.bound) in
    search (rules, fits)

pub overflow_sub-rest : goal.overflow_sub-rest
overflow_sub-rest c =
    let it = there (IsInner c.args.s c.args.size c.args.page) c.args.runs.now.items c.args.i c.index-run.result.now
    c.requires.order c.requires.here c.index-run.ensures in
    omega (arith, it.is.0, it.is.1)

pub overflow_sub-rest-2 : goal.overflow_sub-rest-2
overflow_sub-rest-2 c =
    let it = there (IsInner c.args.s c.args.size c.args.page) c.args.runs.now.items c.args.i c.index-run.result.now
    c.requires.order c.requires.here c.index-run.ensures in
    omega (arith, it.is.0, it.is.1)

pub resize-requires : goal.resize-requires
resize-requires c =
    let it = there (IsInner c.args.s c.args.size c.args.page) c.args.runs.now.items c.args.i c.index-run.result.now
    c.requires.order c.requires.here c.index-run.ensures in
    it.lt

pub overflow_add-i : goal.overflow_add-i
overflow_add-i c =
    let it = there (IsInner c.args.s c.args.size c.args.page) c.args.runs.now.items c.args.i c.index-run.result.now
    c.requires.order c.requires.here c.index-run.ensures in
    let here = it.lt in
    search rules

pub put-requires-clause-within : goal.put-requires-clause-within
put-requires-clause-within c =
    let it = there (IsInner c.args.s c.args.size c.args.page) c.args.runs.now.items c.args.i c.index-run.result.now
    c.requires.order c.requires.here c.index-run.ensures in
    let same : length c.resize.new.runs.items ≡ length c.args.runs.now.items = ap length c.resize.ensures.items
    ∙ changed_length (resized c.index-run.result.now.first (c.args.s - c.index-run.result.now.first))
    c.args.i c.args.runs.now.items in
    omega (arith, same, it.lt)

pub put-requires-clause-room : goal.put-requires-clause-room
put-requires-clause-room c =
    let it = there (IsInner c.args.s c.args.size c.args.page) c.args.runs.now.items c.args.i c.index-run.result.now
    c.requires.order c.requires.here c.index-run.ensures in
    let same : length c.resize.new.runs.items ≡ length c.args.runs.now.items = ap length c.resize.ensures.items
    ∙ changed_length (resized c.index-run.result.now.first (c.args.s - c.index-run.result.now.first))
    c.args.i c.args.runs.now.items in
    let more = spare 2 0 c.args.runs.now.items c.args.i c.requires.order
    (at_from (λ q. 2 < q.count) c.args.runs.now.items c.args.i c.index-run.result.now
    (omega (arith, c.requires.some, it.is.0, it.is.1)) it.at) in
    omega (arith, same, more, c.requires.room, c.resize.ensures.capacity)

pub overflow_add-i-2 : goal.overflow_add-i-2
overflow_add-i-2 c =
    let it = there (IsInner c.args.s c.args.size c.args.page) c.args.runs.now.items c.args.i c.index-run.result.now
    c.requires.order c.requires.here c.index-run.ensures in
    let here = it.lt in
    search rules

pub put-requires-2-clause-within : goal.put-requires-2-clause-within
put-requires-2-clause-within c =
    let it = there (IsInner c.args.s c.args.size c.args.page) c.args.runs.now.items c.args.i c.index-run.result.now
    c.requires.order c.requires.here c.index-run.ensures in
    let same : length c.resize.new.runs.items ≡ length c.args.runs.now.items = ap length c.resize.ensures.items
    ∙ changed_length (resized c.index-run.result.now.first (c.args.s - c.index-run.result.now.first))
    c.args.i c.args.runs.now.items in
    let grown = ap length c.put.ensures.items
    ∙ length-insert c.resize.new.runs.items (c.args.i + 1)
    (last_of c.args.s c.args.size c.args.page c.index-run.result.now) (omega (arith, same, it.lt)) in
    omega (arith, grown, same, it.lt)

pub put-requires-2-clause-room : goal.put-requires-2-clause-room
put-requires-2-clause-room c =
    let it = there (IsInner c.args.s c.args.size c.args.page) c.args.runs.now.items c.args.i c.index-run.result.now
    c.requires.order c.requires.here c.index-run.ensures in
    let same : length c.resize.new.runs.items ≡ length c.args.runs.now.items = ap length c.resize.ensures.items
    ∙ changed_length (resized c.index-run.result.now.first (c.args.s - c.index-run.result.now.first))
    c.args.i c.args.runs.now.items in
    let grown = ap length c.put.ensures.items
    ∙ length-insert c.resize.new.runs.items (c.args.i + 1)
    (last_of c.args.s c.args.size c.args.page c.index-run.result.now) (omega (arith, same, it.lt)) in
    let more = spare 2 0 c.args.runs.now.items c.args.i c.requires.order
    (at_from (λ q. 2 < q.count) c.args.runs.now.items c.args.i c.index-run.result.now
    (omega (arith, c.requires.some, it.is.0, it.is.1)) it.at) in
    omega (arith, grown, same, more, c.requires.room, c.resize.ensures.capacity, c.put.ensures.capacity)

pub returns-clause-written : goal.returns-clause-written
returns-clause-written c =
    let it = there (IsInner c.args.s c.args.size c.args.page) c.args.runs.now.items c.args.i c.index-run.result.now
    c.requires.order c.requires.here c.index-run.ensures in
    inner_apart c.args.i c.args.s c.args.size c.args.page c.args.runs.now.items c.index-run.result.now it.at
    c.requires.some it.is c.requires.order c.requires.apart
    c.resize.new.runs.items c.put.new.runs.items c.put-2.new.runs.items c.resize.ensures.items
    c.put.ensures.items c.put-2.ensures.items
