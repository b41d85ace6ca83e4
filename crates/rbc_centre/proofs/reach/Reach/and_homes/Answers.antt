use Rattle.std.proofs.Common.{◌+◌, ◌<◌, ◌∙◌, ◌≡◌, arith, inl, inr, subst, true, ℕ}
use Rattle.std.proofs.lemmas.Bool.Decides.{eqb_tells}
use Rattle.rbc_centre.proofs.Homes.{none_goes_to}
use Rattle.rbc_centre.proofs.reach.Reach.and_homes.Goals as goal
use Rattle.rbc_centre.proofs.Rows.{lesser_of}
use Rattle.rbc_line.specs.SectionRuns.{run_of}
use Rattle.rbc_spec.proofs.Runs.{within_true}
use Rattle.rbc_spec.specs.Line.{is_home}
use Rattle.rbc_train.proofs.rbc_border_lemmas.HomeParts.{home_on_line}

pub loop-s-preserved : goal.loop-s-preserved
loop-s-preserved c = record {
  keeps = λ d outside. c.loop-s.invariant.keeps d (c.and_home-reach.ensures.keeps d outside);
  homes = λ d s outside low high home. elim (eqb_tells s c.loop-s.s) [
    | inl e ↦ c.and_home-reach.ensures.home d outside (subst (λ (n : ℕ). is_home c.args.line.now d n ≡ true) (e.1) home)
    | inr e ↦ let apart = e.1 in
        c.loop-s.invariant.homes d s (c.and_home-reach.ensures.keeps d outside) low (omega (arith, apart, high)) home
  ];
}

pub returns-clause-homes : goal.returns-clause-homes
returns-clause-homes c d outside t track =
    let end = c.min-end.ensures ∙ lesser_of (c.from.result + c.from-2.result) c.from-3.result in
    none_goes_to c.args.line.now c.args.centre t track (run_of c.args.sections) d c.section_count.ensures.line
    (λ s in_run home.
    let ends = within_true (run_of c.args.sections) s in_run in
    let low : s < c.section_count.result = let on = home_on_line c.args.line.now d s home in
    omega (arith, on, c.section_count.ensures.value) in
    c.loop-s.invariant.homes d s outside (omega (arith, ends))
    (omega (arith, ends, low, end, c.from.ensures, c.from-2.ensures, c.from-3.ensures, c.loop-s-test.false)) home)
