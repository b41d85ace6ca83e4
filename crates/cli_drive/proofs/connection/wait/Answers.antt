use Rattle.std.proofs.Common.{[], ◌++◌, arith, refl}
use Rattle.cli_drive.proofs.MessagePrints.{adds_both, adds_none, one_more, takes_both, takes_none}
use Rattle.cli_drive.specs.Messages.{row_of}
use Rattle.cli_drive.proofs.connection.wait.Goals as goal

pub loop-init : goal.loop-init
loop-init g c = (refl, ([], [], (refl, refl), takes_none _, adds_none _))

pub loop-preserved : goal.loop-preserved
loop-preserved g c =
    let before = c.loop.invariant.1 in
    let one = c.in_ok-print_next.ensures in (
      omega arith,
      (
        before.0 ++ one.0,
        before.1 ++ row_of one.0,
        one_more c.loop.counter before.0 before.1 one.0 before.2 one.1,
        takes_both _ _ _ before.0 one.0 before.3 one.2,
        adds_both _ _ _ before.1 (row_of one.0) before.4 one.3,
      ),
    )
