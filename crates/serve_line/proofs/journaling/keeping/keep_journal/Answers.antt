use Rattle.std.proofs.Common.{[], arith, refl}
use Rattle.rbc_node.specs.Node.{centre_of}
use Rattle.serve_line.proofs.JournalingLemmas.Keeping.{ended, turned}
use Rattle.serve_line.proofs.journaling.keeping.keep_journal.Goals as goal

pub loop-init : goal.loop-init
loop-init g c = record { fits = omega arith; counts = []; writes = (c.begins.ensures, refl) }

pub loop-preserved : goal.loop-preserved
loop-preserved g c =
    turned c.args.writer.now.line.now (centre_of c.args.writer.now.node.now) c.args.writer.now.journal.now.begins
    c.loop.progress.written c.turn.new.self.written c.args.file.now c.loop.file c.turn.new.file
    c.loop.invariant c.in_default.ensures

pub returns-in-Some-turn : goal.returns-in-Some-turn
returns-in-Some-turn g c =
    ended c.args.writer.now.line.now (centre_of c.args.writer.now.node.now) c.in-Some-turn.is_whole
    c.args.writer.now.journal.now.begins c.loop.progress.written c.turn.new.self.written c.args.file.now c.loop.file
    c.turn.new.file c.loop.invariant c.in-Some-turn.ensures
