use Rattle.rbc_book.proofs.runs.Runs.change.Goals as goal
use Rattle.rbc_book.proofs.Sheets.{page_before, page_put}

pub returns-clause-page : goal.returns-clause-page
returns-clause-page c = page_before c.args.s c.in_ok-page.field-0-1 c.args.change c.in_ok-page.page c.args.self.now
    c.change_part.new.self c.in_ok-page.ensures.part

pub returns-clause-pages : goal.returns-clause-pages
returns-clause-pages c = page_put c.args.s c.in_ok-page.field-0-1 c.args.change c.in_ok-page.page c.args.self.now
    c.change_part.new.self c.in_ok-page.ensures.part
