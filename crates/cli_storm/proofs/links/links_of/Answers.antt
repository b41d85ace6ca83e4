use Rattle.std.proofs.Common.{arith, length, refl}
use Rattle.std.proofs.lemmas.List.FromFn.{map-range_with_len_more}
use Rattle.cli_storm.proofs.Counts.{begins}
use Rattle.cli_storm.proofs.links.links_of.Goals as goal
use Rattle.cli_storm.specs.Links.{link_at}
use Rattle.rbc_spec.specs.World.{new_world}

pub loop-place-preserved : goal.loop-place-preserved
loop-place-preserved c =
    rw (
      c.in_ok-push.ensures.items,
      c.loop-place.invariant,
      map-range_with_len_more (link_at (length c.args.line.now.centres) (new_world c.args.line.now)) 0
          c.loop-place.place c.loop-place.place (omega arith),
      begins c.args.line.now (length c.args.line.now.centres) c.loop-place.place,
      c.centre_count-count.ensures.value,
    ) refl
