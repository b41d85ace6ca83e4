use Rattle.std.proofs.Common.{◌-◌, arith, inl, inr, sym}
use Rattle.std.proofs.lemmas.Option.{slice_get-get_or}
use Rattle.rbc_line.proofs.homes.has_split_home.Goals as goal
use Rattle.rbc_line.proofs.homes.has_split_home.Goals.{else-previous-section-via-else-previous-section}
use Rattle.rbc_line.proofs.homes.has_split_home.Goals.{
  else-previous-section-via-then-previous-section+else-previous-section-2,
}
use Rattle.rbc_line.proofs.homes.has_split_home.Goals.{
  else-previous-section-via-then-previous-section+then-previous-section-2+else-stands_before,
}
use Rattle.rbc_line.proofs.HomeSteps.{split_found, unsplit_all, unsplit_more, unsplit_one}
use Rattle.rbc_line.specs.declared.parts.Section.{Section}

abbrev past : Section
past = record { track = 0; start = 0; metres = 0; home = 0; balise = 0 }

pub loop-i-init : goal.loop-i-init
loop-i-init c = unsplit_one c.args.sections.now

pub returns-then-stands_before : goal.returns-then-stands_before
returns-then-stands_before c =
    let rows = c.args.sections.now in
    let i = c.loop-i.i in
    split_found rows i (i - 1) _ _ (omega arith) (slice_get-get_or rows (i - 1) past (omega arith))
    (slice_get-get_or rows i past c.loop-i-test.true) c.if-previous-section-2.true
    (sym c.if-stands_before.ensures)

pub loop-i-preserved : goal.loop-i-preserved
loop-i-preserved c =
    let rows = c.args.sections.now in
    let i = c.loop-i.i in
    unsplit_more rows i (i - 1) _ _ (omega arith) (slice_get-get_or rows (i - 1) past (omega arith))
    (slice_get-get_or rows i past c.loop-i-test.true) c.requires c.loop-i.invariant
    (elim c.else-previous-section.branch [
      | else-previous-section-via-then-previous-section+then-previous-section-2+else-stands_before w ↦
          inr (inr (sym w.if-stands_before.ensures))
      | else-previous-section-via-then-previous-section+else-previous-section-2 w ↦
          inr (inl w.if-previous-section-2.false)
      | else-previous-section-via-else-previous-section w ↦ inl w.if-previous-section.false
    ])

pub returns : goal.returns
returns c = unsplit_all c.args.sections.now c.loop-i.i c.loop-i-test.false c.loop-i.invariant
