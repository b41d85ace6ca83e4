use Rattle.std.proofs.Common.{◌∙◌, ◌≡◌, ap, sym, ℕ}
use Rattle.rbc_book.proofs.Pages.{some_as, used_on_sheet}
use Rattle.rbc_book.proofs.runs.Runs.section_in_use.Goals as goal
use Rattle.rbc_book.specs.Runs.{spot_at}
use Rattle.rbc_book.specs.Sheet.{is_used_in, is_used_on}

each : (c : goal.After-first_in_use) (s : ℕ) → is_used_in c.args.nid_engine (spot_at c.self.inside.runs.items s)
    ≡ is_used_on c.args.nid_engine c.args.self.now s
each c s = sym (used_on_sheet c.args.nid_engine c.self.inside.runs.items c.self.invariant.order s)
    ∙ ap (λ sheet. is_used_on c.args.nid_engine sheet s) c.self.view_is

pub returns-clause-some : goal.returns-clause-some
returns-clause-some c =
    some_as c.first_in_use.result (λ s. is_used_in c.args.nid_engine (spot_at c.self.inside.runs.items s))
    (λ s. is_used_on c.args.nid_engine c.args.self.now s) (each c)
    (rw (← c.deref.ensures.value) c.first_in_use.ensures.some)

pub returns-clause-none : goal.returns-clause-none
returns-clause-none c is_none s = sym (each c s) ∙ rw (← c.deref.ensures.value) (c.first_in_use.ensures.none is_none s)
