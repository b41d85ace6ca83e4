use Rattle.std.proofs.Common.{[], ◌∙◌, ◌≡◌, rules, subst, sym}
use Rattle.std.specs.Io.KnownBytes.{append_known, Keeps}
use Rattle.cli_commands.proofs.running.buffered.print_buffered.Goals as goal
use Rattle.cli_commands.proofs.RunningLemmas.Named.{print_stands, when_ok}
use Rattle.cli_commands.specs.Running.Named.{named}
use Rattle.cli_commands.specs.Running.Printed.{LeavesPrint}

-- the writer under the empty buffer is the lent one, if its bytes are known
pub returns : goal.returns
returns g c =
    let bytes = g.O.Write.contents in
    let first = c.in-Ok.held in
    let print = c.print_played-done.new.out in
    let last = c.flush.new.self in
    let back = c.into_parts-underlying.result.0 in
    let begun = subst (λ b. LeavesPrint c.args.line.now c.args.entries.now c.print_played-done.result
    (append_known (named b.out.ghost_name (bytes b.out.now)) first.buf.items)
    (append_known (named print.inner.out.ghost_name (bytes print.inner.out.now)) print.buf.items))
    c.in-Ok.ensures.inner c.print_played-done.ensures.print in
    let ended = subst (λ b. Keeps
    (append_known (named print.inner.out.ghost_name (bytes print.inner.out.now)) print.buf.items)
    (append_known (named b.out.ghost_name (bytes b.out.now)) last.buf.items))
    (sym c.into_parts-underlying.ensures.inner) c.flush.ensures.bytes in
    let none : last.buf.items ≡ [] =
    when_ok c.flush.result _ c.flush.ensures.ok (sym c.is_err.ensures.value ∙ c.if-is_err.false) in
    print_stands c.args.line.now c.args.entries.now c.print_played-done.result _ print.inner.out.ghost_name
    back.out.ghost_name
    (bytes c.args.out.now) (bytes print.inner.out.now) (bytes back.out.now) _ first.buf.items print.buf.items
    last.buf.items c.in-Ok.ensures.empty none begun ended
    (λ name. search rules)
