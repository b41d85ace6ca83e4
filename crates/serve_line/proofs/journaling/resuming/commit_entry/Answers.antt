use Rattle.std.proofs.Common.{arith, get_or, IfSome, length, Option, refl, subst}
use Rattle.std.proofs.lemmas.Option.{slice_get-get_or, slice_get_read}
use Rattle.serve_control.specs.Events.{IsCommitted}
use Rattle.serve_line.proofs.journaling.resuming.commit_entry.Goals as goal
use Rattle.serve_line.proofs.JournalingLemmas.Resumed.{resumes}
use Rattle.text_journal.specs.Order.{taken_at}
use Rattle.text_script.specs.rbc_centre.declared.event.Event.{Event}

pub returns-in_default-commit_again-2 : goal.returns-in_default-commit_again-2
returns-in_default-commit_again-2 g c =
    let nodes = c.args.nodes.now in
    let shares = c.args.shares.now in
    let entry = c.args.entry.now in
    let at = c.centre-at.result in
    let share = c.index-shares-place.result in
    resumes nodes entry at shares c.in-Some.node.now (get_or shares at share) c.commit_again.new.share c.in-Some-2.event
    c.commit_again.result (search)
    (slice_get_read nodes (length nodes) at c.in-Some.node.now refl c.in-Some.ensures.lookup.3.0
    c.in-Some.ensures.lookup.1)
    (slice_get-get_or shares at share (omega arith))
    (subst (λ (o : Option Event). IfSome o (λ e. IsCommitted (taken_at entry) e entry.event)) c.in-Some-2.is
    c.in_ok-event.ensures)
    c.commit_again.ensures
