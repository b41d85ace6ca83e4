use Rattle.std.proofs.Common.{◌-◌, ◌≡◌, arith, length, rules}
use Rattle.rbc_book.proofs.Appends.{appended_after, appended_first, pushed_order}
use Rattle.rbc_book.proofs.edits.append.Goals as goal

pub join-requires : goal.join-requires
join-requires c = pushed_order c.args.s (record { page = c.args.page; track = c.args.track }) c.args.runs.now.items
    c.push.new.self.items c.in_ok-push.ensures.items
    c.requires.order c.requires.apart c.requires.before c.requires.bound

pub returns-then-count-gt0 : goal.returns-then-count-gt0
returns-then-count-gt0 c =
    let count : c.len-count.result ≡ length c.args.runs.now.items = search rules in
    appended_after c.args.s (record { page = c.args.page; track = c.args.track }) c.args.runs.now.items
    c.push.new.self.items c.in_ok-push.ensures.items
    c.requires.order c.requires.apart c.requires.before c.requires.bound c.join.new.runs.items (c.len-count.result - 1)
    (omega (arith, count, c.if-count-gt0.true)) c.join.ensures.joined

pub returns-else-count-gt0 : goal.returns-else-count-gt0
returns-else-count-gt0 c =
    let count : c.len-count.result ≡ length c.args.runs.now.items = search rules in
    appended_first c.args.s (record { page = c.args.page; track = c.args.track }) c.args.runs.now.items
    c.push.new.self.items c.in_ok-push.ensures.items
    c.requires.order c.requires.apart c.requires.before c.requires.bound (omega (arith, count, c.if-count-gt0.false))
