use Rattle.std.proofs.Common.{◌+◌, ◌∙◌, ◌≡◌, ap, arith, eqb, false, refl, subst, sym, true}
use Rattle.rbc_allocation.proofs.Marks.{mark_fits, marked-none}
use Rattle.rbc_allocation.specs.Marks.{marked}
use Rattle.rbc_border.proofs.returning.bring_back.Goals as goal
use Rattle.rbc_border.proofs.returning.bring_back.Goals.{else-bring_one, then-bring_one}
use Rattle.rbc_border.proofs.Returns.{brings_more, brings_none, freed_is, marks_more, next_as_before}
use Rattle.rbc_border.specs.Lending.{BringsBack, told_back}
use Rattle.rbc_line.specs.SectionRuns.{run_of}

pub loop-k-init : goal.loop-k-init
loop-k-init c = record {
  marks = marked-none c.args.run.first 0;
  fits = omega arith;
  book = brings_none c.args.nid_engine c.args.run.first c.args.book.now;
}

pub loop-k-preserved : goal.loop-k-preserved
loop-k-preserved c =
    let t = c.args.nid_engine in
    let first = c.args.run.first in
    let k = c.loop-k.k in
    let book =
    brings_more t first k (first + k) c.args.book.now c.loop-k.book refl c.loop-k.invariant.book c.bring_one.new.book
    c.bring_one.ensures.book in
    let before = sym (next_as_before t first k (first + k) c.args.book.now c.loop-k.book refl c.loop-k.invariant.book)
    ∙ sym c.bring_one.ensures.told in
    elim c.if-bring_one.branch [
      | then-bring_one w ↦ record {
        marks =
            marks_more t first k c.loop-k.marks c.if-bring_one.mark c.args.book.now true (omega (arith, w.mark-is))
            (ap (λ m. eqb m 1) w.mark-is) (before ∙ w.if-bring_one.true) c.loop-k.invariant.marks;
        fits = mark_fits k c.loop-k.marks c.if-bring_one.mark (omega (arith, w.mark-is)) c.loop-k.invariant.fits;
        book = book;
      }
      | else-bring_one w ↦ record {
        marks =
            marks_more t first k c.loop-k.marks c.if-bring_one.mark c.args.book.now false (omega (arith, w.mark-is))
            (ap (λ m. eqb m 1) w.mark-is) (before ∙ w.if-bring_one.false) c.loop-k.invariant.marks;
        fits = mark_fits k c.loop-k.marks c.if-bring_one.mark (omega (arith, w.mark-is)) c.loop-k.invariant.fits;
        book = book;
      }
    ]

pub returns-clause-exact : goal.returns-clause-exact
returns-clause-exact c line centre k has =
    let t = c.args.nid_engine in
    let first = c.args.run.first in
    let all : c.loop-k.k ≡ c.args.run.count = omega arith in
    freed_is line centre t (run_of c.args.run) k c.args.book.now has c.loop-k.book c.of.result
    (subst (λ n. BringsBack t (record { first = first; count = n }) c.args.book.now c.loop-k.book) all
    c.loop-k.invariant.book)
    (c.of.ensures ∙ ap (λ n. marked first n c.loop-k.marks) (sym all) ∙ c.loop-k.invariant.marks
    ∙ ap (λ n. told_back t (record { first = first; count = n }) c.args.book.now) all)
