use Rattle.std.proofs.Common.{take}
use Rattle.serve_page.specs.Requests.{named_in, AreHosts}
use Rattle.serve_page.proofs.request.hosts_in.Given as goal

abbrev pub invariant-loop-field : goal.invariant-loop-field
invariant-loop-field l = AreHosts (named_in l.bytes (take l.field-index l.fields)) l.hosts
