use Rattle.std.proofs.Common.{◌++◌, ◌-◌, ◌∙◌, ◌≡◌, ap, arith, drop, length, replicate, sym, take}
use Rattle.std.proofs.lemmas.List.{drop-replicate, length-drop, take-replicate}
use Rattle.rbc_border.proofs.border.Border.feed.Goals as goal
use Rattle.rbc_hand.specs.Hands.{Holding}
use Rattle.rbc_hand.specs.Tokens.{Name}

pub invariant_of-self : goal.invariant_of-self
invariant_of-self c =
    let held = c.self.inside.names.holds in
    let name = Name c.self.inside.nid_engine c.self.inside.lender in
    let left : c.pass.new.names.holds ≡ drop c.min-fed.result held =
    ap (λ (h : Holding). h.holds) c.pass.ensures.left in
    let long : length c.pass.new.names.holds ≡ length held - c.min-fed.result =
    ap length left ∙ length-drop c.min-fed.result held in
    record {
      lent = left ∙ ap (drop c.min-fed.result) c.self.invariant.lent
          ∙ drop-replicate c.min-fed.result (length held) name ∙ ap (λ n. replicate n name) (sym long);
      begins = λ any.
          let from = c.self.invariant.begins (omega (arith, any, long)) in
          ap (λ (h : Holding). h.first) c.pass.ensures.left
          ∙ (omega (arith, any, long, from, c.min-fed.ensures, c.len.ensures));
      most = omega (arith, long, c.self.invariant.most);
      last = λ any. let end = c.self.invariant.last (omega (arith, any, long)) in
          omega (arith, any, long, end, c.min-fed.ensures, c.len.ensures);
    }

pub returns-clause-hand : goal.returns-clause-hand
returns-clause-hand c =
    let held = c.self.inside.names.holds in
    let name = Name c.self.inside.nid_engine c.self.inside.lender in
    let came =
    ap (take c.min-fed.result) c.self.invariant.lent
    ∙ take-replicate c.min-fed.result (length held) name (omega (arith, c.min-fed.ensures, c.len.ensures))
    ∙ (λ i. replicate c.min-fed.result (Name (c.self.view_is i).engine (c.self.view_is i).lender)) in
    c.pass.ensures.came ∙ (λ i. record c.args.hand.now { holds = c.args.hand.now.holds ++ came i })
