use Rattle.std.proofs.Common.{refl}
use Rattle.rbc_book.proofs.book.Book.new.Goals as goal
use Rattle.rbc_book.proofs.Pages.{new_entry, new_home, new_wish}
use Rattle.rbc_book.specs.declared.page.TheConstants as constants

pub returns-clause-homes : goal.returns-clause-homes
returns-clause-homes c = new_home c.args.line.now c.args.centre constants.Page.SHUT _ c.in_ok-runs.ensures.page

pub returns-clause-entry : goal.returns-clause-entry
returns-clause-entry c = new_entry c.args.line.now c.args.centre constants.Page.SHUT _ c.in_ok-runs.ensures.page refl

pub returns-clause-wish : goal.returns-clause-wish
returns-clause-wish c = new_wish c.args.line.now c.args.centre constants.Page.SHUT _ c.in_ok-runs.ensures.page refl
