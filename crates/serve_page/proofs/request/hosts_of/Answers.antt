use Rattle.std.proofs.Common.{◌∙◌, arith, subst, sym}
use Rattle.std.proofs.lemmas.List.{take_all}
use Rattle.std.proofs.lemmas.Slice.{between_from_start}
use Rattle.serve_page.proofs.Hosts.{hosts_at}
use Rattle.serve_page.proofs.request.hosts_of.Goals as goal
use Rattle.serve_page.specs.Requests.{AreHosts, named_in}

pub returns-in-Some : goal.returns-in-Some
returns-in-Some c h at =
    hosts_at c.args.bytes.now c.args.fields.now c.args.head.now.headers h c.hosts_in.result at.fields
    (subst (λ t. AreHosts (named_in c.args.bytes.now t) c.hosts_in.result)
    (c.in-Some.ensures.lookup.0.2 ∙ between_from_start c.args.fields.now c.args.head.now.headers) c.hosts_in.ensures)

pub returns-in-None : goal.returns-in-None
returns-in-None c h at =
    hosts_at c.args.bytes.now c.args.fields.now c.args.head.now.headers h c.hosts_in-in-None.result at.fields
    (subst (λ t. AreHosts (named_in c.args.bytes.now t) c.hosts_in-in-None.result)
    (sym (take_all c.args.head.now.headers c.args.fields.now (omega (arith, c.in-None.ensures.lookup.0))))
    c.hosts_in-in-None.ensures)
