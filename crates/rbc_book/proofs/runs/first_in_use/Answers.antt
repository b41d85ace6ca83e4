use Rattle.std.proofs.Common.{◌<◌, ◌∙◌, arith, length, rules, sym}
use Rattle.rbc_book.proofs.Pages.{first_used, none_used}
use Rattle.rbc_book.proofs.runs.first_in_use.Goals as goal

pub returns-then-is_used_for-clause-some : goal.returns-then-is_used_for-clause-some
returns-then-is_used_for-clause-some c =
    let lt : c.loop-i.i < length c.args.runs.now = search rules in
    first_used c.args.nid_engine c.loop-i.i c.args.runs.now _ c.requires lt (sym c.is_used_for.ensures
    ∙ c.if-is_used_for.true)

pub returns-clause-none : goal.returns-clause-none
returns-clause-none c _ =
    none_used c.args.nid_engine c.args.runs.now
    (λ j d low lt. c.loop-i.invariant j d (omega (arith, lt, c.loop-i-test.false)) lt)
