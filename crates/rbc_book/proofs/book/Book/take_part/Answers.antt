use Rattle.std.proofs.Common.{◌≡◌, refl, subst, sym, true}
use Rattle.rbc_book.proofs.book.Book.take_part.Goals as goal
use Rattle.rbc_book.proofs.Sheets.{none_taken, part_taken}
use Rattle.rbc_book.specs.Book.{entry_at}
use Rattle.rbc_spec.specs.Centre.{is_open}

pub returns-in_default-clause-some : goal.returns-in_default-clause-some
returns-in_default-clause-some c =
    absurd (none_taken c.self.inside.runs c.args.s (c.in_default.ensures.none refl).0
    (subst (λ pages. is_open (entry_at pages c.args.s) ≡ true) (sym c.self.view_is) c.requires.open))

pub returns-in_default-clause-taken : goal.returns-in_default-clause-taken
returns-in_default-clause-taken c =
    absurd (none_taken c.self.inside.runs c.args.s (c.in_default.ensures.none refl).0
    (subst (λ pages. is_open (entry_at pages c.args.s) ≡ true) (sym c.self.view_is) c.requires.open))

pub returns-clause-some : goal.returns-clause-some
returns-clause-some c = c.in-Some.ensures.part.some

pub returns-clause-taken : goal.returns-clause-taken
returns-clause-taken c = rw (← c.self.view_is)
    (part_taken c.args.s c.args.most c.in-Some.size c.args.nid_engine c.in-Some.field-0-0 c.self.inside.runs
    c.change_part.new.self c.in-Some.ensures.part
    (subst (λ pages. is_open (entry_at pages c.args.s) ≡ true) (sym c.self.view_is) c.requires.open))
