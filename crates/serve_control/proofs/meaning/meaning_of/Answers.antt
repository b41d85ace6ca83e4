use Rattle.std.proofs.Common.{◌≡◌, Err, false, IfErr, IfOk, List, Ok, Result, subst, sym, ℕ}
use Rattle.std.specs.Prelude.{IsUtf8}
use Rattle.rbc_spec.specs.Line.{Line}
use Rattle.serve_control.proofs.meaning.meaning_of.Goals as goal
use Rattle.serve_control.specs.Commands.{Bids, IsNoCommand}
use Rattle.serve_control.specs.Meanings.{IsMeaning, meaning_by}
use Rattle.serve_control.specs.Protocols.{is_of_another_protocol}
use Rattle.serve_control.specs.declared.command.Command.{Command}
use Rattle.serve_control.specs.declared.command.CommandFault.TheVariants.{Form, Memory}
use Rattle.serve_control.specs.declared.command.CommandFault.{CommandFault}
use Rattle.serve_control.specs.declared.meaning.Meaning.{Meaning}

-- the meaning of a text that is the line
means :
    (line : Line) (row text : List ℕ) (r : Result Command CommandFault)
    → (text ≡ row) × IsUtf8 row → IfOk r (Bids line text) → IfErr r (IsNoCommand line text)
    → IsMeaning line row (meaning_by r)
means line row text (Ok command) same ok err = (same.1, subst (λ (b : List ℕ). Bids line b command) same.0 ok)
means line row text (Err Form) same ok err = λ (utf8 : IsUtf8 row).
    subst (λ (b : List ℕ). IsNoCommand line b Form) same.0 err
means line row text (Err Memory) same ok err = tt

pub returns-in-Ok-clause-own : goal.returns-in-Ok-clause-own
returns-in-Ok-clause-own c =
    let line = c.args.line.now in
    let row = c.args.row.now in
    λ (own : is_of_another_protocol row ≡ false).
    subst (λ (m : Meaning). IsMeaning line row m) (sym c.meaning_by.ensures)
    (means line row c.in-Ok.text.now c.command_of.result c.in-Ok.ensures.cases c.command_of.ensures.ok
    c.command_of.ensures.err)
