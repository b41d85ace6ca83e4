use Rattle.rbc_border.proofs.lending.lend_one.Goals as goal
use Rattle.rbc_border.proofs.Loans.{lends_no, lends_some}

pub returns-in-Some : goal.returns-in-Some
returns-in-Some c =
    lends_some c.args.nid_engine c.args.s c.take.result c.in-Some.claim c.args.book.now c.take.new.self c.lend.new.self
    c.take.ensures.claim c.in-Some.is
    (record { homes = c.take.ensures.homes; entry = c.take.ensures.entry; wish = c.take.ensures.wish })
    (record { homes = c.lend.ensures.homes; entry = c.lend.ensures.entry; wish = c.lend.ensures.wish })

pub returns-in_default : goal.returns-in_default
returns-in_default c =
    lends_no c.args.nid_engine c.args.s c.take.result c.args.book.now c.take.new.self c.take.ensures.claim
    c.in_default.is
    (record { homes = c.take.ensures.homes; entry = c.take.ensures.entry; wish = c.take.ensures.wish })
