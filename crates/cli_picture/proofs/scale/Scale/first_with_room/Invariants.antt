use Rattle.std.proofs.Common.{◌≡◌, drop}
use Rattle.std.specs.List.{find}
use Rattle.cli_picture.specs.Scale.{has_room}
use Rattle.cli_picture.proofs.scale.Scale.first_with_room.Given as goal

abbrev pub invariant-loop-stride : goal.invariant-loop-stride
invariant-loop-stride l =
    find (has_room l.self) (drop l.stride-index l.strides) ≡ find (has_room l.self) l.strides
