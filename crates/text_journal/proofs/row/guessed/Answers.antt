use Rattle.std.proofs.Common.{◌∙◌, ◌≡◌, ap, None, Some, sym}
use Rattle.text_journal.proofs.Entries.{guess_asks, guess_parts, no_show, not_none}
use Rattle.text_journal.proofs.Lines.{some_same}
use Rattle.text_journal.proofs.row.guessed.Goals as goal
use Rattle.text_script.specs.Entries.{asked_of, event_of}

pub returns-in_default : goal.returns-in_default
returns-in_default c = λ _ d e note h. guess_parts c.args.line.now d e c.args.row.now None c.in_default.ensures note h

pub returns-in-Ok-Event : goal.returns-in-Ok-Event
returns-in-Ok-Event c = λ d e note h.
    let parts =
    guess_parts c.args.line.now d e c.args.row.now (Some (c.in-Some.stamp, c.in-Some.time_ms, c.in-Some.words))
    c.in-Some.ensures note h in
    let asks = guess_asks c.args.line.now c.requires d e c.in-Some.words.now note parts.2 in
    let event : event_of c.in-Ok-Event.event ≡ event_of e.event =
    some_same _ _ (ap (λ x. Some (asked_of x)) (sym c.in-Ok-Event.field-0-is) ∙ sym c.in-Ok-Event.ensures ∙ asks) in
    λ i. record { stamp = parts.0 i; time = parts.1 i; event = event i }

pub returns-in-Ok-Show : goal.returns-in-Ok-Show
returns-in-Ok-Show c = λ _ d e note h.
    let parts =
    guess_parts c.args.line.now d e c.args.row.now (Some (c.in-Some.stamp, c.in-Some.time_ms, c.in-Some.words))
    c.in-Some.ensures note h in
    no_show c.args.line.now d e note
    (ap (λ x. Some (asked_of x)) (sym c.in-Ok-Show.field-0-is) ∙ sym c.in-Ok-Show.ensures
    ∙ guess_asks c.args.line.now c.requires d e c.in-Some.words.now note parts.2)

pub returns-in-Err : goal.returns-in-Err
returns-in-Err c = λ form d e note h.
    let parts =
    guess_parts c.args.line.now d e c.args.row.now (Some (c.in-Some.stamp, c.in-Some.time_ms, c.in-Some.words))
    c.in-Some.ensures note h in
    not_none _ (sym (c.in-Err.ensures form) ∙ guess_asks c.args.line.now c.requires d e c.in-Some.words.now
    note parts.2)
