use Rattle.std.proofs.Common.{◌≡◌, drop, map}
use Rattle.law_outside.specs.Outside as spec
use Rattle.rbc_watch.proofs.view.View.reply_all.Given as goal
use Rattle.rbc_watch.specs.Events.{event_of, word_of}
use Rattle.rbc_watch.specs.Seen.{view_of}

abbrev pub invariant-loop-word : goal.invariant-loop-word
invariant-loop-word l =
    spec.all_heard (event_of l.event) (map word_of (drop l.word-index l.words)) (view_of l.self)
    ≡ spec.all_heard (event_of l.event) (map word_of l.words) (view_of l.initial.self)
