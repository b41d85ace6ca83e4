use Rattle.std.proofs.Common.{◌<◌, ◌∙◌, ◌≡◌, ◌≤◌, ap, arith, length, None, refl, rules, subst, sym, true}
use Rattle.rbc_book.proofs.Rows.{at_from, at_within, sheet_says, there}
use Rattle.rbc_book.proofs.runs.Runs.change_part.Goals as goal
use Rattle.rbc_book.proofs.Sheets.{part_changed, written_tracks}
use Rattle.rbc_book.specs.Changes.{IsAfter, IsPartChanged}
use Rattle.rbc_book.specs.Edits.{Has}
use Rattle.rbc_book.specs.Runs.{run_page, sections_of, sheet_of}
use Rattle.rbc_book.specs.Sheet.{page_in, spot_on}
use Rattle.rbc_spec.proofs.Runs.{within_true}
use Rattle.rbc_spec.specs.SectionRuns.{within}

pub returns-in_err-place-clause-none : goal.returns-in_err-place-clause-none
returns-in_err-place-clause-none c _ =
    let none : spot_on c.args.self.now c.args.s ≡ None = ap (λ sheet. spot_on sheet c.args.s) (sym c.self.view_is)
    ∙ sheet_says c.self.inside.runs.items c.self.invariant.order c.args.s
    ∙ rw (← c.deref.ensures.value) (c.in_err-place.ensures.none refl) in
    (ap page_in none, refl)

pub index-run-requires : goal.index-run-requires
index-run-requires c =
    let lt : c.in_ok-place.place < length c.self.inside.runs.items =
    at_within (λ r. within (sections_of r) c.args.s ≡ true) c.self.inside.runs.items c.in_ok-place.place
    (rw (← c.deref.ensures.value) c.in_ok-place.ensures.some) in
    search rules

pub overflow_sub-s : goal.overflow_sub-s
overflow_sub-s c =
    let it = there (λ r. within (sections_of r) c.args.s ≡ true) c.self.inside.runs.items c.in_ok-place.place
    c.index-run.result.now c.self.invariant.order (rw (← c.deref.ensures.value) c.in_ok-place.ensures.some)
    c.index-run.ensures in
    let ends = within_true (sections_of c.index-run.result.now) c.args.s it.is in
    ends.0

pub overflow_sub-run : goal.overflow_sub-run
overflow_sub-run c =
    let it = there (λ r. within (sections_of r) c.args.s ≡ true) c.self.inside.runs.items c.in_ok-place.place
    c.index-run.result.now c.self.invariant.order (rw (← c.deref.ensures.value) c.in_ok-place.ensures.some)
    c.index-run.ensures in
    let ends = within_true (sections_of c.index-run.result.now) c.args.s it.is in
    omega (arith, ends.0, ends.1)

pub write_at-requires-clause-some : goal.write_at-requires-clause-some
write_at-requires-clause-some c =
    let it = there (λ r. within (sections_of r) c.args.s ≡ true) c.self.inside.runs.items c.in_ok-place.place
    c.index-run.result.now c.self.invariant.order (rw (← c.deref.ensures.value) c.in_ok-place.ensures.some)
    c.index-run.ensures in
    let ends = within_true (sections_of c.index-run.result.now) c.args.s it.is in
    omega (arith, ends.0, ends.1, c.requires.some, c.min-size.ensures)

pub write_at-requires-clause-here : goal.write_at-requires-clause-here
write_at-requires-clause-here c =
    let it = there (λ r. within (sections_of r) c.args.s ≡ true) c.self.inside.runs.items c.in_ok-place.place
    c.index-run.result.now c.self.invariant.order (rw (← c.deref.ensures.value) c.in_ok-place.ensures.some)
    c.index-run.ensures in
    let ends = within_true (sections_of c.index-run.result.now) c.args.s it.is in
    at_from (Has c.args.s c.min-size.result) c.self.inside.runs.items c.in_ok-place.place c.index-run.result.now
    (ends.0, omega (arith, ends.0, ends.1, c.min-size.ensures)) it.at

pub returns-clause-part : goal.returns-clause-part
returns-clause-part c =
    let it = there (λ r. within (sections_of r) c.args.s ≡ true) c.self.inside.runs.items c.in_ok-place.place
    c.index-run.result.now c.self.invariant.order (rw (← c.deref.ensures.value) c.in_ok-place.ensures.some)
    c.index-run.ensures in
    let ends = within_true (sections_of c.index-run.result.now) c.args.s it.is in
    let some : 1 ≤ c.min-size.result = omega (arith, ends.0, ends.1, c.requires.some, c.min-size.ensures) in
    let fits : c.min-size.result ≤ c.args.most = omega (arith, c.min-size.ensures) in
    let after : IsAfter c.args.change (run_page c.index-run.result.now) c.of.result =
    subst (λ p. IsAfter c.args.change p c.of.result) c.page.ensures c.of.ensures in
    rw (← c.self.view_is)
    (subst (λ p. IsPartChanged c.args.s c.args.most c.args.change p c.min-size.result
    (sheet_of c.self.inside.runs.items) (sheet_of c.write_at.new.runs.items)) (sym c.page-2.ensures)
    (part_changed c.args.s c.args.most c.min-size.result c.in_ok-place.place c.args.change c.of.result
    c.self.inside.runs.items c.write_at.new.runs.items c.index-run.result.now c.self.invariant.order
    it.at (ends.0, omega (arith, ends.0, ends.1, c.min-size.ensures)) some fits after c.write_at.ensures.written))

pub returns-clause-tracks : goal.returns-clause-tracks
returns-clause-tracks c =
    rw (← c.self.view_is) (written_tracks c.args.s c.min-size.result c.of.result c.self.inside.runs.items
    c.write_at.new.runs.items c.self.invariant.order c.write_at.ensures.written)
