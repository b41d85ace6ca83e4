use Rattle.std.proofs.Common.{◌∙◌, ap, refl, sym}
use Rattle.rbc_book.proofs.book.Book.page.Goals as goal
use Rattle.rbc_book.proofs.Pages.{IsRead, page_of_sheet, reads}
use Rattle.rbc_book.specs.Book.{page_of}
use Rattle.rbc_book.specs.declared.page.TheConstants as constants

read : (c : goal.After-unwrap_or) → IsRead c.args.self.now c.args.s c.unwrap_or.result constants.Page.SHUT
read c = reads c.args.self.now c.args.s c.unwrap_or.result constants.Page.SHUT c.page.result refl refl
    (c.page.ensures ∙ sym (page_of_sheet c.self.inside.runs c.args.s)
    ∙ ap (λ pages. page_of pages c.args.s) c.self.view_is) c.unwrap_or.ensures

pub returns-clause-entry : goal.returns-clause-entry
returns-clause-entry c = (read c).entry

pub returns-clause-wish : goal.returns-clause-wish
returns-clause-wish c = (read c).wish

pub returns-clause-foreign : goal.returns-clause-foreign
returns-clause-foreign c = (read c).foreign
