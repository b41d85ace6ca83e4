use Rattle.std.proofs.Common.{◌-◌, ◌∙◌, ◌≡◌, ap, arith, length, sym}
use Rattle.std.proofs.lemmas.List.{length-take-le}
use Rattle.rbc_border.proofs.border.Border.return_all.Goals as goal
use Rattle.rbc_border.proofs.Borders.{returns_pool}
use Rattle.rbc_border.specs.Border.{BorderState, with_border}
use Rattle.rbc_hand.specs.Hands.{Holding}
use Rattle.rbc_line.specs.SectionRuns.{run_of}
use Rattle.rbc_spec.specs.Acts.{returned}
use Rattle.rbc_spec.specs.SectionRuns.{SectionRun}

pub returns-clause-exact : goal.returns-clause-exact
returns-clause-exact c line centre k m border is =
    let back : c.args.self.now ≡ _ = sym c.self.view_is in
    let count : c.pool-pool.result.count ≡ length c.self.inside.names.holds =
    ap (λ (r : SectionRun). r.count) c.pool-pool.ensures.value ∙ ap (λ (b : BorderState). b.pool.count) back in
    let left : length c.spend_back.new.names.holds ≡ length c.self.inside.names.holds - c.pool-pool.result.count =
    ap (λ (h : Holding). length h.holds) c.spend_back.ensures
    ∙ length-take-le (length c.self.inside.names.holds - c.pool-pool.result.count) c.self.inside.names.holds
    (omega arith) in
    let none : 0 ≡ length c.spend_back.new.names.holds = omega (arith, count, left) in
    returns_pool line centre k c.args.self.now m border is (run_of c.pool-pool.result) c.pool-pool.ensures.value
    ∙ (λ i. returned line centre c.args.self.now.engine m.place.track (run_of c.pool-pool.result)
    (with_border (record {
      engine = (back i).engine;
      lender = (back i).lender;
      pool = record { first = 0; count = none i };
      asked = (back i).asked;
    }) k))
