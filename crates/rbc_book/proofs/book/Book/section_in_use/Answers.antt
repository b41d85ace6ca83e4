use Rattle.std.proofs.Common.{◌∙◌, ◌≡◌, ap, sym, ℕ}
use Rattle.rbc_book.proofs.book.Book.section_in_use.Goals as goal
use Rattle.rbc_book.proofs.Pages.{some_as, used_on}
use Rattle.rbc_book.specs.Book.{entry_at}
use Rattle.rbc_book.specs.Sheet.{is_used_on}
use Rattle.rbc_spec.specs.Centre.{is_used_for}

each : (c : goal.After-section_in_use) (s : ℕ) → is_used_on c.args.nid_engine c.self.inside.runs s
    ≡ is_used_for c.args.nid_engine (entry_at c.args.self.now s)
each c s = used_on c.args.nid_engine c.self.inside.runs s
    ∙ ap (λ pages. is_used_for c.args.nid_engine (entry_at pages s)) c.self.view_is

pub returns-clause-some : goal.returns-clause-some
returns-clause-some c = some_as c.section_in_use.result (λ s. is_used_on c.args.nid_engine c.self.inside.runs s)
    (λ s. is_used_for c.args.nid_engine (entry_at c.args.self.now s)) (each c) c.section_in_use.ensures.some

pub returns-clause-none : goal.returns-clause-none
returns-clause-none c is_none s = sym (each c s) ∙ c.section_in_use.ensures.none is_none s
