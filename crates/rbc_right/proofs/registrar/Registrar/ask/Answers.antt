use Rattle.std.proofs.Common.{◌<◌, ◌∙◌, ◌≡◌, false, length, rules, sym, true}
use Rattle.rbc_right.proofs.registrar.Registrar.ask.Goals as goal
use Rattle.rbc_right.proofs.Rights.{here-set, here_within}
use Rattle.rbc_right.specs.Rights.{is_here}

pub index_mut-requires : goal.index_mut-requires
index_mut-requires c =
    let here : is_here c.args.self.now c.args.train ≡ true = sym c.has.ensures ∙ c.if-not-has.false in
    let within : c.args.train < length c.self.inside.rights.items =
    here_within c.self.inside.rights.items c.args.train (rw c.self.view_is here) in
    search rules

pub returns-clause-here : goal.returns-clause-here
returns-clause-here c =
    let here : is_here c.args.self.now c.args.train ≡ true = sym c.has.ensures ∙ c.if-not-has.false in
    rw (← c.self.view_is)
    (here-set c.self.inside.rights.items c.args.train false
    (here_within c.self.inside.rights.items c.args.train (rw c.self.view_is here)))
