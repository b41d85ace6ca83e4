use Rattle.std.proofs.Common.{◌+◌, ◌∙◌, ◌≡◌, ap, arith, ltb-true, sym}
use Rattle.rbc_book.specs.Book.{entry_at}
use Rattle.rbc_grant.proofs.follow.following.Goals as goal
use Rattle.rbc_grant.specs.Grants.{may_follow}
use Rattle.rbc_line.specs.SectionRuns.{run_of}
use Rattle.rbc_place.proofs.Longest.{all_passed, one_more, stops}
use Rattle.rbc_place.specs.Places.{place_of}
use Rattle.rbc_spec.specs.Centre.{is_open}
use Rattle.rbc_spec.specs.SectionRuns.{longest, next_after}

pub may_follow-requires-clause-known : goal.may_follow-requires-clause-known
may_follow-requires-clause-known c known =
    let at : next_after (run_of c.args.hand) + c.loop-k.k ≡ c.next_after.result + c.from.result =
    omega (arith, c.next_after.ensures, c.from.ensures) in
    ap (λ s. is_open (entry_at c.args.book.now s)) (sym at)
    ∙ c.open_ahead-open.ensures c.loop-k.k (ltb-true c.loop-k.k c.open_ahead-open.result known)

pub returns-then-not-may_follow-clause-value : goal.returns-then-not-may_follow-clause-value
returns-then-not-may_follow-clause-value c =
    stops (may_follow c.args.line.now c.args.book.now (run_of c.args.pool) (place_of c.args.place.now))
    (next_after (run_of c.args.hand)) c.saturating_sub-room.result c.loop-k.k (c.next_after.result + c.from.result)
    (omega (arith, c.next_after.ensures, c.from.ensures))
    (sym c.may_follow.ensures ∙ c.if-not-may_follow.true) c.loop-k.invariant
    ∙ ap (longest (may_follow c.args.line.now c.args.book.now (run_of c.args.pool) (place_of c.args.place.now))
    (next_after (run_of c.args.hand))) c.saturating_sub-room.ensures

pub loop-k-preserved : goal.loop-k-preserved
loop-k-preserved c =
    one_more (may_follow c.args.line.now c.args.book.now (run_of c.args.pool) (place_of c.args.place.now))
    (next_after (run_of c.args.hand)) c.saturating_sub-room.result c.loop-k.k (c.next_after.result + c.from.result)
    c.loop-k-test.true (omega (arith, c.next_after.ensures, c.from.ensures))
    (sym c.may_follow.ensures ∙ c.if-not-may_follow.false) c.loop-k.invariant

pub returns-clause-value : goal.returns-clause-value
returns-clause-value c =
    all_passed (may_follow c.args.line.now c.args.book.now (run_of c.args.pool) (place_of c.args.place.now))
    (next_after (run_of c.args.hand)) c.saturating_sub-room.result c.loop-k.k
    c.loop-k-test.false c.loop-k.invariant
    ∙ ap (longest (may_follow c.args.line.now c.args.book.now (run_of c.args.pool) (place_of c.args.place.now))
    (next_after (run_of c.args.hand))) c.saturating_sub-room.ensures
