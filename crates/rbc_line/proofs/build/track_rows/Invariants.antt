use Rattle.std.proofs.Common.{◌≡◌, map, string_bytes, take}
use Rattle.rbc_line.proofs.build.track_rows.Given as goal

abbrev pub invariant-loop-name : goal.invariant-loop-name
invariant-loop-name l = map string_bytes l.rows.items ≡ map (λ name. name.now) (take l.name-index l.names)
