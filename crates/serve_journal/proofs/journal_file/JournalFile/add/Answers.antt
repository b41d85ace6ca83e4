use Rattle.std.proofs.Common.{◌≡◌}
use Rattle.serve_journal.proofs.journal_file.JournalFile.add.Goals as goal
use Rattle.serve_journal.proofs.journal_file.JournalFile.add.Goals.{else-self, then-self+in_ok-cut}
use Rattle.serve_journal.proofs.Torn.{HasLength, mended, torn}

pub invariant_of-self-in_err-append : goal.invariant_of-self-in_err-append
invariant_of-self-in_err-append g c =
    let ready : (g.F.DurableFile.contents c.if-self.self-inside.file
    ≡ g.F.DurableFile.durable c.if-self.self-inside.file)
    × HasLength c.if-self.self-inside.durable_length (g.F.DurableFile.durable c.if-self.self-inside.file) =
    elim c.if-self.branch [
      | then-self+in_ok-cut w ↦ rw w.self-inside-is (
          mended c.self.inside.durable_length (g.F.DurableFile.contents c.self.inside.file)
          (g.F.DurableFile.contents w.cut.new.self) (g.F.DurableFile.durable c.self.inside.file)
          (g.F.DurableFile.durable w.cut.new.self) c.self.invariant.0 c.self.invariant.1
          w.in_ok-cut.ensures.ok w.cut.ensures.durable)
      | else-self w ↦ rw w.self-inside-is (c.self.invariant.2 w.if-self.false, c.self.invariant.0)
    ]
    in
    torn c.if-self.self-inside.durable_length (g.F.DurableFile.contents c.if-self.self-inside.file)
    (g.F.DurableFile.contents c.append.new.self) (g.F.DurableFile.durable c.if-self.self-inside.file)
    (g.F.DurableFile.durable c.append.new.self) _ ready.0 ready.1 c.in_err-append.ensures.err.1
    c.append.ensures.durable
