use Rattle.std.proofs.Common.{◌∙◌, arith, sym}
use Rattle.rbc_line.specs.SectionRuns.{run_of}
use Rattle.rbc_place.proofs.cover.covered.Goals as goal
use Rattle.rbc_place.proofs.CoveredSections.{covers_no_more, covers_none, found_more}
use Rattle.rbc_place.specs.Places.{place_of}
use Rattle.rbc_spec.specs.Place as spec

pub loop-s-init : goal.loop-s-init
loop-s-init c =
    covers_none c.args.line.now (place_of c.args.place.now) c.first_ahead-s.result c.first_ahead-s.ensures.in_rear

pub returns-then-not-covers-clause-value : goal.returns-then-not-covers-clause-value
returns-then-not-covers-clause-value c =
    covers_no_more c.args.line.now c.first_ahead-s.ensures.line (place_of c.args.place.now) c.loop-s.s
    (run_of c.loop-s.run)
    (omega (arith, c.loop-s-test.true, c.section_count-s-end.ensures.value))
    (c.first_ahead-s.ensures.ahead c.loop-s.s c.loop-s.auto.s)
    (sym c.covers.ensures ∙ c.if-not-covers.true) c.loop-s.invariant

pub loop-s-preserved : goal.loop-s-preserved
loop-s-preserved c =
    found_more (spec.covers c.args.line.now (place_of c.args.place.now)) c.loop-s.s (run_of c.loop-s.run)
    (run_of c.longer-run.result)
    (sym c.covers.ensures ∙ c.if-not-covers.false) c.longer-run.ensures c.loop-s.invariant
