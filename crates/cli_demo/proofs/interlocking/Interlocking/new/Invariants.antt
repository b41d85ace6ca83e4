use Rattle.std.proofs.Common.{◌≡◌, false, map}
use Rattle.cli_demo.specs.Commands.{sections_among}
use Rattle.cli_demo.proofs.interlocking.Interlocking.new.Given as goal

abbrev pub invariant-loop-s : goal.invariant-loop-s
invariant-loop-s l =
    (l.sections.items ≡ sections_among l.line l.s) × (l.released.items ≡ map (λ _. false) l.sections.items)
