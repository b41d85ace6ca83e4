use Rattle.std.proofs.Common.{◌≡◌, arith, length, rules, subst}
use Rattle.rbc_book.proofs.Appends.{far_below, IsBegun, new_pages, new_tracks}
use Rattle.rbc_book.proofs.Rows.{few}
use Rattle.rbc_book.proofs.runs.Runs.new.Goals as goal

pub append-requires-clause-bound : goal.append-requires-clause-bound
append-requires-clause-bound c = far_below c.args.line.now c.loop-s.s c.section_count-s-end.ensures.line
    (omega (arith, c.loop-s-test.true, c.section_count-s-end.ensures.value))

pub overflow_sub-homes : goal.overflow_sub-homes
overflow_sub-homes c =
    let count : c.len.result ≡ length c.loop-s.runs.items = search rules in
    omega (arith, count, few 0 c.loop-s.runs.items c.loop-s.invariant.order, c.loop-s.invariant.count)

whole : (c : goal.In_ok-reserve) → IsBegun c.args.line.now c.args.centre (length c.args.line.now.sections)
    c.loop-s.homes c.args.page c.loop-s.runs.items
whole c =
    let all : c.loop-s.s ≡ length c.args.line.now.sections = omega arith in
    subst (λ n. IsBegun c.args.line.now c.args.centre n c.loop-s.homes c.args.page c.loop-s.runs.items)
    all c.loop-s.invariant

pub returns-clause-page : goal.returns-clause-page
returns-clause-page c = new_pages c.args.line.now c.args.centre c.loop-s.homes c.args.page c.loop-s.runs.items
    c.reserve.new.self.items c.in_ok-reserve.ensures.items (whole c)

pub returns-clause-track : goal.returns-clause-track
returns-clause-track c = new_tracks c.args.line.now c.args.centre c.loop-s.homes c.args.page c.loop-s.runs.items
    c.reserve.new.self.items c.in_ok-reserve.ensures.items (whole c)
