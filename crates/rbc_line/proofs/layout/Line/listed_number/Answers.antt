use Rattle.std.proofs.Common.{◌==◌, ◌∙◌, ap, rules, sym, tests}
use Rattle.std.proofs.lemmas.Iterator.{YieldsList-from_slice}
use Rattle.std.proofs.lemmas.Iterator.Search.{position_from_yields_List}
use Rattle.std.specs.List.{position}
use Rattle.rbc_line.proofs.layout.Line.listed_number.Goals as goal
use Rattle.rbc_line.proofs.Lists.{position-map}
use Rattle.rbc_line.specs.Views.{train_of}

pub returns : goal.returns
returns c =
    position_from_yields_List (λ train. train.nid_engine == c.args.nid_engine) _ _ _ c.in_ok-i.ensures.ran
    (YieldsList-from_slice c.self.inside.rows.trains.items cc) (λ x b q k. search (rules, tests))
    ∙ sym (position-map (λ p. p.nid_engine == c.args.nid_engine) train_of c.self.inside.rows.trains.items)
    ∙ ap (λ line. position (λ p. p.nid_engine == c.args.nid_engine) line.trains) c.self.view_is

pub returns-in_err-i : goal.returns-in_err-i
returns-in_err-i c =
    c.from_residual.ensures
    ∙ position_from_yields_List (λ train. train.nid_engine == c.args.nid_engine) _ _ _ c.in_err-i.ensures.ran
    (YieldsList-from_slice c.self.inside.rows.trains.items cc) (λ x b q k. search (rules, tests))
    ∙ sym (position-map (λ p. p.nid_engine == c.args.nid_engine) train_of c.self.inside.rows.trains.items)
    ∙ ap (λ line. position (λ p. p.nid_engine == c.args.nid_engine) line.trains) c.self.view_is
