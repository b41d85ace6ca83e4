use Rattle.rbc_book.proofs.book.Book.change.Goals as goal
use Rattle.rbc_book.proofs.Pages.{changes, IsChanged}
use Rattle.rbc_book.specs.Sheet.{pages_on}

changed : (c : goal.After-change) → IsChanged (pages_on c.self.inside.runs) (pages_on c.change.new.self) c.args.s
    c.args.change c.change.result
changed c = changes c.self.inside.runs c.change.new.self c.args.s c.args.change c.change.result c.change.ensures.page
    c.change.ensures.pages c.change.ensures.none

pub returns-clause-own : goal.returns-clause-own
returns-clause-own c = rw (← c.self.view_is) (changed c).own

pub returns-clause-page : goal.returns-clause-page
returns-clause-page c = rw (← c.self.view_is) (changed c).page

pub returns-clause-homes : goal.returns-clause-homes
returns-clause-homes c = rw (← c.self.view_is) (changed c).homes

pub returns-clause-entry : goal.returns-clause-entry
returns-clause-entry c = rw (← c.self.view_is) (changed c).entry

pub returns-clause-wish : goal.returns-clause-wish
returns-clause-wish c = rw (← c.self.view_is) (changed c).wish

pub returns-clause-shut : goal.returns-clause-shut
returns-clause-shut c = rw (← c.self.view_is) (changed c).shut
