use Rattle.rbc_border.proofs.returning.bring_one.Goals as goal
use Rattle.rbc_border.proofs.Returns.{brings_no, brings_some}

pub returns-in-Told-clause-book : goal.returns-in-Told-clause-book
returns-in-Told-clause-book c =
    brings_some c.args.nid_engine c.args.s c.reclaim.result c.in-Some.claim c.args.book.now c.reclaim.new.self
    c.give_back.new.self c.reclaim.ensures.claim c.in-Some.is
    (record { homes = c.reclaim.ensures.homes; entry = c.reclaim.ensures.entry; wish = c.reclaim.ensures.wish })
    (record { homes = c.give_back.ensures.homes; entry = c.give_back.ensures.entry; wish = c.give_back.ensures.wish })

pub returns-in_default-clause-book : goal.returns-in_default-clause-book
returns-in_default-clause-book c =
    brings_some c.args.nid_engine c.args.s c.reclaim.result c.in-Some.claim c.args.book.now c.reclaim.new.self
    c.give_back.new.self c.reclaim.ensures.claim c.in-Some.is
    (record { homes = c.reclaim.ensures.homes; entry = c.reclaim.ensures.entry; wish = c.reclaim.ensures.wish })
    (record { homes = c.give_back.ensures.homes; entry = c.give_back.ensures.entry; wish = c.give_back.ensures.wish })

pub returns-in-None-clause-book : goal.returns-in-None-clause-book
returns-in-None-clause-book c =
    brings_no c.args.nid_engine c.args.s c.reclaim.result c.args.book.now c.reclaim.new.self c.reclaim.ensures.claim
    c.in-None.is
    (record { homes = c.reclaim.ensures.homes; entry = c.reclaim.ensures.entry; wish = c.reclaim.ensures.wish })
