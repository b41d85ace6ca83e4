use Rattle.std.proofs.Common.{◌∙◌, ap}
use Rattle.rbc_book.proofs.book.Book.open_run.Goals as goal
use Rattle.rbc_book.proofs.Pages.{longest_open}
use Rattle.rbc_book.specs.Book.{entry_at}
use Rattle.rbc_spec.specs.Centre.{is_open}
use Rattle.rbc_spec.specs.SectionRuns.{longest}

pub returns : goal.returns
returns c = c.open_run.ensures ∙ longest_open c.self.inside.runs c.args.first c.args.most
    ∙ ap (λ pages. longest (λ s. is_open (entry_at pages s)) c.args.first c.args.most) c.self.view_is
