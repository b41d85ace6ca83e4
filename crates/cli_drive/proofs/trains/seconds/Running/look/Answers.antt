use Rattle.std.proofs.Common.{◌&&◌, ◌∙◌, ◌≡◌, ap}
use Rattle.cli_drive.proofs.trains.seconds.Running.look.Goals as goal
use Rattle.cli_drive.specs.Apart.{are_apart}
use Rattle.cli_drive.specs.Obedience.{ends_of}
use Rattle.cli_drive.specs.declared.trains.report.Tally.{Tally}

pub returns-clause-apart : goal.returns-clause-apart
returns-clause-apart g c =
    let sections = c.args.self.now.interlocking.sections.items in
    let ends : c.deref-3.result.now ≡ ends_of c.args.self.now.trains.items =
    c.deref-3.ensures.value ∙ (c.in_ok-ends.ensures ∙ ap ends_of c.deref.ensures.value) in
    let apart : c.are_apart-were_apart.result ≡ are_apart sections (ends_of c.args.self.now.trains.items) =
    c.are_apart-were_apart.ensures
    ∙ (ap (λ xs. are_apart xs c.deref-3.result.now) c.deref-2.ensures.value ∙ ap (λ xs. are_apart sections xs) ends) in
    ap (λ (t : Tally). t.are_apart) c.check.ensures ∙ ap (λ b. c.args.self.now.tally.are_apart && b) apart
