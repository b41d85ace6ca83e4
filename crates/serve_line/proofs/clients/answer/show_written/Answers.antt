use Rattle.std.proofs.Common.{ap}
use Rattle.std.proofs.lemmas.Option.{IfSome_then}
use Rattle.serve_line.proofs.AnswerLemmas.{show_is}
use Rattle.serve_line.proofs.clients.answer.show_written.Goals as goal

pub returns : goal.returns
returns g c =
    show_is c.args.server.now c.open_kept.result (λ o. o.answer.items) c.in_ok-text.text.items _ c.in_ok-text.ensures
    (IfSome_then c.open_kept.result c.open_kept.ensures (λ o same. ap (λ t. t.items) same))
    c.in_ok-kept_or_fault.ensures
