use Rattle.std.proofs.Common.{ap, arith, get_or}
use Rattle.std.proofs.lemmas.Option.{IfSome_then, slice_get-get_or}
use Rattle.serve_line.proofs.AnswerLemmas.{answer_is, taken_before, taken_by}
use Rattle.serve_line.proofs.clients.answer.commit.Goals as goal

pub returns-clause-ok : goal.returns-clause-ok
returns-clause-ok g c =
    let old = c.args.shares.now in
    let nodes = c.args.served.server.now.nodes.now in
    answer_is c.args.served c.args.centre c.args.event c.args.printed.now old _ c.commit-answer.result
    c.opened_by.result (λ o. o.answer.items) c.in_ok-sealed.sealed.answer.items _
    (taken_by nodes c.args.centre c.args.event old c.in-Some.committer.node.now
    (get_or old c.args.centre c.index-shares-place.result) c.commit-answer.new.share c.commit-answer.result
    c.in-Some.ensures.node (slice_get-get_or old c.args.centre c.index-shares-place.result (omega arith))
    c.commit-answer.ensures.commits c.commit-answer.ensures.refused c.commit-answer.ensures.err)
    c.in_ok-sealed.ensures.print
    (IfSome_then c.opened_by.result c.opened_by.ensures (λ o same. ap (λ t. t.items) same))
    c.in_ok-kept_or_fault.ensures

pub returns-in_err-sealed-clause-err : goal.returns-in_err-sealed-clause-err
returns-in_err-sealed-clause-err g c =
    let old = c.args.shares.now in
    let nodes = c.args.served.server.now.nodes.now in
    taken_before c.from_residual-in_err-sealed.result nodes c.args.centre c.args.event old
    c.in-Some.committer.node.now (get_or old c.args.centre c.index-shares-place.result) c.commit-answer.new.share
    c.commit-answer.result c.in-Some.ensures.node
    (slice_get-get_or old c.args.centre c.index-shares-place.result (omega arith)) c.commit-answer.ensures.commits
    c.commit-answer.ensures.refused c.commit-answer.ensures.err

pub returns-in_err-kept_or_fault-clause-err : goal.returns-in_err-kept_or_fault-clause-err
returns-in_err-kept_or_fault-clause-err g c =
    let old = c.args.shares.now in
    let nodes = c.args.served.server.now.nodes.now in
    taken_before c.from_residual-in_err-kept_or_fault.result nodes c.args.centre c.args.event old
    c.in-Some.committer.node.now (get_or old c.args.centre c.index-shares-place.result) c.commit-answer.new.share
    c.commit-answer.result c.in-Some.ensures.node
    (slice_get-get_or old c.args.centre c.index-shares-place.result (omega arith)) c.commit-answer.ensures.commits
    c.commit-answer.ensures.refused c.commit-answer.ensures.err
