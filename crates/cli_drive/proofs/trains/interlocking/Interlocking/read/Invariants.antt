use Rattle.std.proofs.Common.{◌≡◌, map}
use Rattle.cli_drive.proofs.trains.interlocking.Interlocking.read.Given as goal

abbrev pub invariant-loop : goal.invariant-loop
invariant-loop l =
    (l.self.sections ≡ l.fn.self.sections)
    × (map (λ known. known.next) l.self.known.items ≡ map (λ known. known.next) l.fn.self.known.items)
