use Rattle.std.proofs.Common.{take, subst, sym}
use Rattle.std.proofs.lemmas.List.{take_more}
use Rattle.serve_page.specs.Requests.{named_in, AreHosts}
use Rattle.serve_page.proofs.request.hosts_in.Goals as goal

pub loop-field-preserved : goal.loop-field-preserved
loop-field-preserved c =
    subst (λ t. AreHosts (named_in c.args.bytes.now t) c.further-hosts.result)
    (sym (take_more c.args.fields.now c.loop-field.field-index _ c.loop-field-test.true))
    (c.further-hosts.ensures (take c.loop-field.field-index c.args.fields.now) c.loop-field.invariant)
