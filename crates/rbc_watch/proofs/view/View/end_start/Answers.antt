use Rattle.std.proofs.Common.{ap, None, Option, ℕ}
use Rattle.law_outside.specs.Outside as spec
use Rattle.rbc_watch.proofs.Maps.{mapped_put_pair}
use Rattle.rbc_watch.proofs.view.View.end_start.Goals as goal
use Rattle.rbc_watch.specs.Seen.{view_of}
use Rattle.rbc_watch.specs.Stretches.{stretch_of}

pub returns : goal.returns
returns c =
    ap (λ (f : ℕ → ℕ → Option spec.Stretch). record (view_of c.args.self.now) { start = f })
    (mapped_put_pair stretch_of c.args.self.now.starts c.swap_remove.new.self c.args.nid_engine c.args.c None
    c.swap_remove.ensures.updates)
