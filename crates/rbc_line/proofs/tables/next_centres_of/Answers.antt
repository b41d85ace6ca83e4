use Rattle.std.proofs.Common.{◌%◌, ◌*◌, ◌+◌, ◌/◌, ◌<◌, ◌∙◌, ◌≡◌, ap, arith, length, None, Some}
use Rattle.std.proofs.lemmas.Option.{slice_get-get_or}
use Rattle.rbc_line.proofs.Lists.{table_more}
use Rattle.rbc_line.proofs.tables.next_centres_of.Goals as goal
use Rattle.rbc_line.specs.Views.{line_of_rows}
use Rattle.rbc_spec.specs.Line.{next_centre}

pub loop-k-preserved : goal.loop-k-preserved
loop-k-preserved c =
    table_more (λ j. next_centre (line_of_rows c.args.rows.now) (j / 4) (j % 4)) c.loop-k.next_centres 32 c.loop-k.k
    None c.next_centre.result
    c.loop-k.invariant.0 (omega arith) c.loop-k.invariant.1 c.next_centre.ensures

pub returns : goal.returns
returns c = λ a b in_a in_b.
    let within : a * 4 + b < length c.loop-k.next_centres = omega (arith, c.loop-k.invariant.0) in
    let first : (a * 4 + b) / 4 ≡ a = omega arith in
    let second : (a * 4 + b) % 4 ≡ b = omega arith in
    slice_get-get_or c.loop-k.next_centres (a * 4 + b) None within
    ∙ ap Some (c.loop-k.invariant.1 (a * 4 + b) (omega (arith, c.loop-k.invariant.0, c.loop-k-test.false))
    ∙ (λ i. next_centre (line_of_rows c.args.rows.now) (first i) (second i)))
