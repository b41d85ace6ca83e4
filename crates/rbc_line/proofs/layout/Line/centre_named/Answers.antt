use Rattle.std.proofs.Common.{◌∙◌, ap, rules, string_bytes, sym, tests}
use Rattle.std.proofs.lemmas.Iterator.{YieldsList-from_slice}
use Rattle.std.proofs.lemmas.Iterator.Search.{position_from_yields_List}
use Rattle.std.specs.List.{position}
use Rattle.std.specs.Str.{bytes_eq}
use Rattle.rbc_line.proofs.layout.Line.centre_named.Goals as goal
use Rattle.rbc_line.proofs.Lists.{position-map}
use Rattle.rbc_line.specs.Views.{centre_of}

pub returns : goal.returns
returns c =
    position_from_yields_List (λ centre. bytes_eq (string_bytes centre.name) c.args.name.now) _ _ _
    c.in_ok-c.ensures.ran (YieldsList-from_slice c.self.inside.rows.centres.items cc) (λ x b q k. search (rules, tests))
    ∙ sym (position-map (λ p. bytes_eq p.name c.args.name.now) centre_of c.self.inside.rows.centres.items)
    ∙ ap (λ line. position (λ p. bytes_eq p.name c.args.name.now) line.centres) c.self.view_is

pub returns-in_err-c : goal.returns-in_err-c
returns-in_err-c c =
    c.from_residual.ensures
    ∙ position_from_yields_List (λ centre. bytes_eq (string_bytes centre.name) c.args.name.now) _ _ _
    c.in_err-c.ensures.ran (YieldsList-from_slice c.self.inside.rows.centres.items cc)
    (λ x b q k. search (rules, tests))
    ∙ sym (position-map (λ p. bytes_eq p.name c.args.name.now) centre_of c.self.inside.rows.centres.items)
    ∙ ap (λ line. position (λ p. bytes_eq p.name c.args.name.now) line.centres) c.self.view_is
