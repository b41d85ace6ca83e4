use Rattle.std.proofs.Common.{◌∙◌, ap, sym}
use Rattle.std.proofs.lemmas.Result.{on_ok_weaker}
use Rattle.rbc_packets.specs.Layout.{joined}
use Rattle.text_fields.proofs.Same.{bits-shown}
use Rattle.text_fields.proofs.written.are_of_message.Goals as goal
use Rattle.text_fields.specs.Named.{all_named, fields_in}

pub returns-clause-bits : goal.returns-clause-bits
returns-clause-bits c =
    on_ok_weaker c.are_written.result (λ same.
    sym c.in_ok-seen.ensures.bits ∙ (bits-shown c.in_ok-seen.seen.shown.items
    ∙ ap (λ fields. joined (fields_in fields)) (ap all_named (sym c.deref.ensures.value) ∙ same)))
    c.are_written.ensures

pub returns-clause-train : goal.returns-clause-train
returns-clause-train c = λ m.
    on_ok_weaker c.are_written.result (λ same spells.
    sym (ap all_named (sym c.deref.ensures.value) ∙ same) ∙ c.in_ok-seen.ensures.train m spells) c.are_written.ensures

pub returns-clause-track : goal.returns-clause-track
returns-clause-track c = λ m.
    on_ok_weaker c.are_written.result (λ same spells.
    sym (ap all_named (sym c.deref.ensures.value) ∙ same) ∙ c.in_ok-seen.ensures.track m spells) c.are_written.ensures
