use Rattle.std.proofs.Common.{◌<◌, ◌∙◌, ap, arith, inl, inr, None}
use Rattle.std.proofs.lemmas.Option.{get_or_from_slice_get}
use Rattle.rbc_line.proofs.layout.Line.next_centre.Goals as goal
use Rattle.rbc_line.proofs.layout.Line.next_centre.Goals.{
  then-c-centre_count-via-else-c-centre_count+then-track-track_count,
}
use Rattle.rbc_line.proofs.layout.Line.next_centre.Goals.{then-c-centre_count-via-then-c-centre_count}
use Rattle.rbc_line.proofs.Rows.{next_centre-none}
use Rattle.rbc_spec.specs.Line.{next_centre}

pub returns-then-c-centre_count : goal.returns-then-c-centre_count
returns-then-c-centre_count c =
    next_centre-none c.args.self.now c.args.c c.args.track c.centre_count.ensures.line
    (elim c.then-c-centre_count.branch [
      | then-c-centre_count-via-then-c-centre_count w ↦ inl (omega arith)
      | then-c-centre_count-via-else-c-centre_count+then-track-track_count w ↦ inr (omega arith)
    ])

pub returns : goal.returns
returns c =
    let centre : c.args.c < 8 = omega arith in
    let track : c.args.track < 4 = omega arith in
    get_or_from_slice_get c.self.inside.next_centres _ _ None
    (c.self.invariant.nexts c.args.c c.args.track centre track)
    ∙ ap (λ line. next_centre line c.args.c c.args.track) c.self.view_is
