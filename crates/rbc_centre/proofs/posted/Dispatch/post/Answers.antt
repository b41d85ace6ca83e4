use Rattle.std.proofs.Common.{[], ◌∙◌, ap, length, sym}
use Rattle.rbc_centre.proofs.posted.Dispatch.post.Goals as goal
use Rattle.rbc_centre.proofs.SentFrames.{none_sent, sent_as}
use Rattle.rbc_centre.specs.Dispatches.{bodies_to}
use Rattle.rbc_link.specs.Links.{sent_to}
use Rattle.rbc_spec.specs.Step.{numbered}

-- nothing is sent
pub returns-then-is_nothing : goal.returns-then-is_nothing
returns-then-is_nothing c =
    let p = c.args.self.now in
    let links = c.args.links.now in
    let none = c.is_nothing.ensures c.if-is_nothing.true in
    record {
      links =
          (sent_as p.stamp (λ d. []) (bodies_to p) links links [] [] (λ d. sym (none d))
          (none_sent p.stamp links [])).posted;
      each = λ d. ap (λ f. f d) c.clear.ensures ∙ ap (numbered p.stamp (length (sent_to links d))) (sym (none d));
    }
