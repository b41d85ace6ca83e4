use Rattle.std.proofs.Common.{◌+◌, ◌<◌, ◌∙◌, ◌≡◌, ◌≤◌, ap, arith, length, refl, rules, set}
use Rattle.rbc_book.proofs.edits.join.Goals as goal
use Rattle.rbc_book.proofs.Joins.{join-not, join-nothing, join-removed, sum_fits_next}
use Rattle.rbc_book.proofs.Rows.{at_get, at_within, changed_is, changed_length}
use Rattle.rbc_book.specs.Edits.{joined, resized}

pub returns-in_default-clause-joined : goal.returns-in_default-clause-joined
returns-in_default-clause-joined c =
    let short : length c.args.runs.now.items ≤ c.args.i =
    rw (← c.deref.ensures.value) (c.in_default.ensures.none refl) in
    join-nothing c.args.i c.args.runs.now.items (omega (arith, short))

pub returns-in_default-run_at-clause-joined : goal.returns-in_default-run_at-clause-joined
returns-in_default-run_at-clause-joined c =
    join-nothing c.args.i c.args.runs.now.items (rw (← c.deref-2.ensures.value) (c.in_default-run_at.ensures.none refl))

pub returns-then-not-goes_on-clause-joined : goal.returns-then-not-goes_on-clause-joined
returns-then-not-goes_on-clause-joined c = join-not c.args.i c.args.runs.now.items c.in-Some.run' c.in-Some-run_at.next
    (at_get c.args.runs.now.items c.args.i c.in-Some.run' (rw (← c.deref.ensures.value) c.in-Some.ensures.value))
    (at_get c.args.runs.now.items (c.args.i + 1) c.in-Some-run_at.next
    (rw (← c.deref-2.ensures.value) c.in-Some-run_at.ensures.value))
    c.if-not-goes_on.ensures

pub overflow_add-run : goal.overflow_add-run
overflow_add-run c =
    let fits = sum_fits_next c.args.i c.args.runs.now.items c.in-Some.run' c.in-Some-run_at.next c.requires
    (at_get c.args.runs.now.items (c.args.i + 1) c.in-Some-run_at.next
    (rw (← c.deref-2.ensures.value) c.in-Some-run_at.ensures.value)) c.if-not-goes_on.ensures in
    search (rules, fits)

pub remove-requires : goal.remove-requires
remove-requires c =
    let next = at_within (λ q. q ≡ c.in-Some-run_at.next) c.args.runs.now.items (c.args.i + 1)
    (at_get c.args.runs.now.items (c.args.i + 1) c.in-Some-run_at.next
    (rw (← c.deref-2.ensures.value) c.in-Some-run_at.ensures.value)) in
    let same : length c.resize.new.runs.items ≡ length c.args.runs.now.items = ap length c.resize.ensures.items
    ∙ changed_length (resized c.in-Some.run'.first (c.in-Some.run'.count + c.in-Some-run_at.next.count))
    c.args.i c.args.runs.now.items in
    let lt : c.args.i + 1 < length c.resize.new.runs.items = omega (arith, next, same) in
    search (rules, lt)

pub returns-clause-joined : goal.returns-clause-joined
returns-clause-joined c =
    let at = at_get c.args.runs.now.items c.args.i c.in-Some.run'
    (rw (← c.deref.ensures.value) c.in-Some.ensures.value) in
    let is : c.resize.new.runs.items ≡ set c.args.runs.now.items c.args.i
    (joined c.in-Some.run' c.in-Some-run_at.next) =
    c.resize.ensures.items
    ∙ changed_is (resized c.in-Some.run'.first (c.in-Some.run'.count + c.in-Some-run_at.next.count)) c.args.i
    c.args.runs.now.items c.in-Some.run' at in
    rw (c.remove.ensures.items)
    (rw is (join-removed c.args.i c.args.runs.now.items c.in-Some.run' c.in-Some-run_at.next at
    (at_get c.args.runs.now.items (c.args.i + 1) c.in-Some-run_at.next
    (rw (← c.deref-2.ensures.value) c.in-Some-run_at.ensures.value))
    c.if-not-goes_on.ensures))
