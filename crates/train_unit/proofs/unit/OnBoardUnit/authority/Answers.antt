use Rattle.std.proofs.Common.{if◌then◌else◌, ◌∙◌, ◌≡◌, ap, false, Some, sym, true}
use Rattle.std.specs.Option.{option_map_or}
use Rattle.law_trains.specs.Trains.{end_from, takes}
use Rattle.train_unit.specs.Units.{train_of}
use Rattle.train_unit.proofs.unit.OnBoardUnit.authority.Goals as goal

pub returns-then-not-takes-clause-exact : goal.returns-then-not-takes-clause-exact
returns-then-not-takes-clause-exact c ends =
    let x = train_of c.args.self.now ends in
    let no : takes c.args.centre c.args.message.now.t_train x ≡ false =
    ap (λ stamp. takes c.args.centre stamp x) (sym c.t_train.ensures.value) ∙ sym (c.takes.ensures ends)
    ∙ c.if-not-takes.true in
    sym (ap (λ taken. if taken
    then option_map_or (λ e. record x { end = Some e })
    (end_from c.args.line.now c.args.message.now.nid_lrbg c.args.metres) x else x) no)

pub returns-in-Some-clause-exact : goal.returns-in-Some-clause-exact
returns-in-Some-clause-exact c ends =
    let x = train_of c.args.self.now ends in
    let yes : takes c.args.centre c.args.message.now.t_train x ≡ true =
    ap (λ stamp. takes c.args.centre stamp x) (sym c.t_train.ensures.value) ∙ sym (c.takes.ensures ends)
    ∙ c.if-not-takes.false in
    let found = end_from c.args.line.now c.args.message.now.nid_lrbg c.args.metres in
    let is : found ≡ Some c.in-Some.end =
    ap (λ group. end_from c.args.line.now group c.args.metres) (sym c.nid_lrbg.ensures.value)
    ∙ sym c.end_from.ensures ∙ c.in-Some.is in
    sym (ap (λ taken. if taken then option_map_or (λ e. record x { end = Some e }) found x else x) yes
    ∙ ap (λ end. option_map_or (λ e. record x { end = Some e }) end x) is)
