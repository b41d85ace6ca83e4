use Rattle.std.proofs.Common.{◌∙◌, ap}
use Rattle.law_invariants.specs.Flow.Shows.{shown}
use Rattle.law_reached.specs.Seen.{is_in_its_hand}
use Rattle.rbc_spec.specs.Centre.{Entry}
use Rattle.rbc_world.proofs.world.World.seen_at.Goals as goal
use Rattle.rbc_world.specs.World.{line_of, state_of}

pub returns-clause-mark : goal.returns-clause-mark
returns-clause-mark c =
    let w = c.args.self.now in
    c.mark_at.ensures ∙ ap (λ (e : Entry). shown e (is_in_its_hand (line_of w) (state_of w) c.args.s))
    c.page_at-page.ensures.entry
