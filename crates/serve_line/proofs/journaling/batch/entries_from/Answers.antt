use Rattle.std.proofs.Common.{◌∙◌, ap, arith, drop, List, refl, subst, take}
use Rattle.std.proofs.lemmas.List.{take_all}
use Rattle.rbc_log.specs.declared.entry.Entry as log
use Rattle.serve_line.proofs.journaling.batch.entries_from.Goals as goal
use Rattle.serve_line.proofs.JournalingLemmas.Notes.{notes_next}
use Rattle.serve_line.specs.Journaling.Noting.{AreNotesOf}

pub loop-entry-preserved : goal.loop-entry-preserved
loop-entry-preserved c =
    notes_next c.next_of-entries.result.now c.loop-entry.entry-index c.loop-entry.next.items c.push.new.self.items
    c.entry-item.result _ c.loop-entry-test.true c.entry-item.is c.in_ok-push.ensures.items c.loop-entry.invariant
    (record { stamp = refl; event = c.in-Ok.ensures.whole })

pub returns : goal.returns
returns c =
    subst (λ (es : List log.Entry). AreNotesOf es c.loop-entry.next.items)
    (take_all c.loop-entry.entry-index c.next_of-entries.result.now (omega arith)
    ∙ c.next_of-entries.ensures
    ∙ ap (λ (es : List log.Entry). take 256 (drop c.args.written es)) c.entries.ensures.value)
    c.loop-entry.invariant
