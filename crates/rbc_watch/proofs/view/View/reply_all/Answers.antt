use Rattle.std.proofs.Common.{◌+◌, ◌∙◌, ap, drop, List, map, sym}
use Rattle.law_outside.specs.Outside as spec
use Rattle.rbc_spec.specs.Outcome.{Word}
use Rattle.rbc_watch.proofs.Lists.{map_drop_all, map_drop_at}
use Rattle.rbc_watch.proofs.view.View.reply_all.Goals as goal
use Rattle.rbc_watch.specs.Events.{event_of, word_of}
use Rattle.rbc_watch.specs.Seen.{view_of}

pub loop-word-preserved : goal.loop-word-preserved
loop-word-preserved c =
    let event = event_of c.args.event.now in
    let words = c.args.words.now in
    let i = c.loop-word.word-index in
    ap (λ (v : spec.View). spec.all_heard event (map word_of (drop (i + 1) words)) v) c.in_ok-reply.ensures
    ∙ sym (ap (λ (all : List Word). spec.all_heard event all (view_of c.loop-word.self))
    (map_drop_at word_of words i _ c.loop-word-test.true))
    ∙ c.loop-word.invariant

pub returns : goal.returns
returns c =
    sym (ap (λ (all : List Word). spec.all_heard (event_of c.args.event.now) all (view_of c.loop-word.self))
    (map_drop_all word_of c.args.words.now c.loop-word.word-index c.loop-word-test.false))
    ∙ c.loop-word.invariant
