use Rattle.rbc_node.specs.Node.{centre_of}
use Rattle.serve_line.proofs.JournalingLemmas.Keeping.{KeptSoFar}
use Rattle.serve_line.proofs.journaling.keeping.keep_journal.Given as goal

abbrev pub invariant-loop : goal.invariant-loop
invariant-loop g l =
    KeptSoFar l.writer.line.now (centre_of l.writer.node.now) l.writer.journal.now.begins l.progress.written
    l.initial.file l.file
