use Rattle.std.proofs.Common.{◌<◌, ◌∙◌, ◌≡◌, ap, length, refl, rules, subst, sym, true}
use Rattle.rbc_book.proofs.Rows.{at_within, run_stands, sheet_says}
use Rattle.rbc_book.proofs.runs.Runs.run_of.Goals as goal
use Rattle.rbc_book.specs.Runs.{IsRunOf, sections_of}
use Rattle.rbc_book.specs.Sheet.{spot_on}
use Rattle.rbc_spec.specs.SectionRuns.{within}

pub returns-in_err-place-clause-none : goal.returns-in_err-place-clause-none
returns-in_err-place-clause-none c _ =
    ap (λ sheet. spot_on sheet c.args.s) (sym c.self.view_is)
    ∙ sheet_says c.self.inside.runs.items c.self.invariant.order c.args.s
    ∙ rw (← c.deref.ensures.value) (c.in_err-place.ensures.none refl)

pub index-requires : goal.index-requires
index-requires c =
    let lt : c.in_ok-place.place < length c.self.inside.runs.items =
    at_within (λ r. within (sections_of r) c.args.s ≡ true) c.self.inside.runs.items c.in_ok-place.place
    (rw (← c.deref.ensures.value) c.in_ok-place.ensures.some) in
    search rules

pub returns-clause-some : goal.returns-clause-some
returns-clause-some c = subst (λ sheet. IsRunOf sheet c.args.s c.index.result.now) c.self.view_is
    (run_stands c.self.inside.runs.items c.in_ok-place.place c.args.s c.index.result.now c.self.invariant.order
    (rw (← c.deref.ensures.value) c.in_ok-place.ensures.some) c.index.ensures)
