use Rattle.std.proofs.Common.{◌≡◌, rules}
use Rattle.std.specs.Bool.{Decides}
use Rattle.rbc_centre.proofs.event.Event.is_same.Goals as goal
use Rattle.rbc_centre.proofs.SameFrames.{same_frames}
use Rattle.rbc_centre.specs.declared.event.Event.TheVariants.{Deliver}

pub returns-then-from-another : goal.returns-then-from-another
returns-then-from-another c =
    let one : Decides c.eq.result (c.in-Deliver.frame ≡ c.in-Deliver-other.other_frame) = search (rules, same_frames) in
    rw (c.in-Deliver.is, c.in-Deliver-other.is) (
      λ t. λ i. Deliver (c.if-from-another.true i) (one.0 t i),
      λ e. one.1 (let same : c.in-Deliver.frame ≡ c.in-Deliver-other.other_frame = cc in same),
    )
