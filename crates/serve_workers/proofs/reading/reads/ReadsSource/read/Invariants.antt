use Rattle.std.proofs.Common.{◌≡◌, length}
use Rattle.std.specs.Io.KnownBytes.{Keeps}
use Rattle.serve_workers.proofs.reading.reads.ReadsSource.read.Given as goal

abbrev pub invariant-loop : goal.invariant-loop
invariant-loop g l =
    (length l.buffer ≡ length l.initial.buffer) × (l.self.failed ≡ l.initial.self.failed)
    × Keeps (g.R.Read.remaining l.initial.self.reader) (g.R.Read.remaining l.self.reader)
