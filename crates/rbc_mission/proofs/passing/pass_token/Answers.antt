use Rattle.rbc_allocation.proofs.Freed.{claim_is}
use Rattle.rbc_allocation.proofs.Held.{claim_held}
use Rattle.rbc_book.specs.Claim.{claim_on}
use Rattle.rbc_mission.proofs.Passes.{passes_name, passes_one}
use Rattle.rbc_mission.proofs.passing.pass_token.Goals as goal

pub returns-in-Own : goal.returns-in-Own
returns-in-Own c s t held is so =
    passes_one t s c.in-Own.claim c.args.book.now c.lend.new.self
    (claim_is c.in-Own.claim (claim_on s t) c.args.token c.in-Own.is
    (claim_held t s _ held c.args.token c.in-Own.claim c.in-Own.is is so))
    c.lend.ensures.homes c.lend.ensures.entry c.lend.ensures.wish

pub returns-in-Name : goal.returns-in-Name
returns-in-Name c s t held is so = passes_name t s held c.args.token c.in-Name.lent c.args.book.now c.in-Name.is is so
