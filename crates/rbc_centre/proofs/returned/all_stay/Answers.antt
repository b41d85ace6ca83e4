use Rattle.std.proofs.Common.{◌∙◌, ap, arith, inl, inr, sym}
use Rattle.std.proofs.lemmas.Bool.Decides.{eqb_tells}
use Rattle.rbc_centre.proofs.Homes.{none_goes}
use Rattle.rbc_centre.proofs.returned.all_stay.Goals as goal
use Rattle.rbc_line.specs.SectionRuns.{run_of}
use Rattle.rbc_spec.proofs.Runs.{within_true}
use Rattle.rbc_spec.specs.Line.{is_home}

pub loop-s-preserved : goal.loop-s-preserved
loop-s-preserved c s low high = elim (eqb_tells s c.loop-s.s) [
  | inl e ↦ ap (is_home c.args.line.now c.args.centre) e.1 ∙ (sym c.is_home.ensures ∙ c.if-not-is_home.false)
  | inr e ↦ let apart = e.1 in c.loop-s.invariant s low (omega (arith, apart, high))
]

pub returns : goal.returns
returns c = λ is t track d.
    none_goes c.args.line.now c.args.centre t track (run_of c.args.sections) d c.section_count.ensures.line
    (λ s in_run. let ends = within_true (run_of c.args.sections) s in_run in
    c.loop-s.invariant s (omega (arith, ends)) (omega (arith, ends, c.loop-s-test.false)))
