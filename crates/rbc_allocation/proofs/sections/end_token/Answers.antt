use Rattle.rbc_allocation.proofs.Freed.{claim_is, frees_one}
use Rattle.rbc_allocation.proofs.Held.{claim_held, name_held, name_untold}
use Rattle.rbc_allocation.proofs.sections.end_token.Goals as goal
use Rattle.rbc_book.specs.Claim.{claim_on}

pub returns-in-Told-clause-book : goal.returns-in-Told-clause-book
returns-in-Told-clause-book c s t held is so =
    frees_one t s c.in-Own.claim c.args.book.now c.give_back.new.self
    (claim_is c.in-Own.claim (claim_on s t) c.args.token c.in-Own.is
    (claim_held t s _ held c.args.token c.in-Own.claim c.in-Own.is is so))
    c.give_back.ensures.homes c.give_back.ensures.entry c.give_back.ensures.wish

pub returns-in_default-clause-book : goal.returns-in_default-clause-book
returns-in_default-clause-book c s t held is so =
    frees_one t s c.in-Own.claim c.args.book.now c.give_back.new.self
    (claim_is c.in-Own.claim (claim_on s t) c.args.token c.in-Own.is
    (claim_held t s _ held c.args.token c.in-Own.claim c.in-Own.is is so))
    c.give_back.ensures.homes c.give_back.ensures.entry c.give_back.ensures.wish

pub returns-in-Name-clause-told : goal.returns-in-Name-clause-told
returns-in-Name-clause-told c s t held is so =
    name_untold t s held c.args.token c.in-Name.lent c.args.book.now c.in-Name.is is so

pub returns-in-Name-clause-book : goal.returns-in-Name-clause-book
returns-in-Name-clause-book c s t held is so =
    name_held t s held c.args.token c.in-Name.lent c.args.book.now c.in-Name.is is so
