use Rattle.std.proofs.Common.{◌++◌, length, ap, ◌∙◌}
use Rattle.std.specs.Fmt.{decimal}
use Rattle.serve_page.specs.declared.reply.TheConstants as constants
use Rattle.serve_page.proofs.reply.found.Goals as goal

pub returns-clause-exact : goal.returns-clause-exact
returns-clause-exact c =
    c.in_ok-push_str-2.ensures.bytes
    ∙ ap (λ t. t ++ c.args.body.now)
    (c.in_ok-push_str.ensures.bytes
    ∙ ap (λ t. t ++ constants.END.now)
    (c.in_ok-write.ensures.bytes ∙ ap (λ t. t ++ decimal (length c.args.body.now)) c.in_ok-text.ensures.ok))
