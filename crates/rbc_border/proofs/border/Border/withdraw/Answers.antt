use Rattle.std.proofs.Common.{◌-◌, ◌∙◌, ◌≡◌, ap, arith, length, None, Some, sym, true}
use Rattle.std.proofs.lemmas.Bool.{cond-true}
use Rattle.std.proofs.lemmas.List.{length-take-le}
use Rattle.rbc_border.proofs.border.Border.withdraw.Goals as goal
use Rattle.rbc_border.proofs.border.Border.withdraw.Goals.{After-spend_back}
use Rattle.rbc_border.proofs.Borders.{cut_border, not_withdrawn, parts_at, withdrawn}
use Rattle.rbc_border.specs.Border.{BorderState, with_border}
use Rattle.rbc_hand.specs.Hands.{Holding}
use Rattle.rbc_line.specs.SectionRuns.{run_of}
use Rattle.rbc_spec.proofs.Runs.{within_true}
use Rattle.rbc_spec.specs.Acts.{returned}
use Rattle.rbc_spec.specs.SectionRuns.{part_before, part_from, SectionRun, within}

pub returns-then-not-contains-clause-exact : goal.returns-then-not-contains-clause-exact
returns-then-not-contains-clause-exact c line centre k m border is =
    not_withdrawn line centre k c.args.self.now m border is c.args.s
    (ap (λ r. within r c.args.s) (sym c.pool-pool.ensures.value) ∙ sym c.contains.ensures ∙ c.if-not-contains.true)

pub overflow_sub-count : goal.overflow_sub-count
overflow_sub-count c =
    (within_true (run_of c.pool-pool.result) c.args.s (sym c.contains.ensures ∙ c.if-not-contains.false)).0

pub overflow_sub-count-2 : goal.overflow_sub-count-2
overflow_sub-count-2 c = let ends =
    within_true (run_of c.pool-pool.result) c.args.s (sym c.contains.ensures ∙ c.if-not-contains.false) in
    omega (arith, ends)

pub invariant_of-self : goal.invariant_of-self
invariant_of-self c =
    cut_border c.self.inside.nid_engine c.self.inside.lender c.self.inside.first c.self.inside.names
    c.spend_back.new.names _ c.self.invariant c.spend_back.ensures

-- the section is of the pool
in_run : (c : After-spend_back) → within (run_of c.pool-pool.result) c.args.s ≡ true
in_run c = sym c.contains.ensures ∙ c.if-not-contains.false

in_pool : (c : After-spend_back) → within c.args.self.now.pool c.args.s ≡ true
in_pool c = ap (λ r. within r c.args.s) (sym c.pool-pool.ensures.value) ∙ in_run c

part : (c : After-spend_back)
    → record { first = c.args.s; count = c.pool-pool.result.count - (c.args.s - c.pool-pool.result.first) }
    ≡ part_from c.args.s c.args.self.now.pool
part c = sym (parts_at (run_of c.pool-pool.result) c.args.s (in_run c)).0
    ∙ ap (part_from c.args.s) c.pool-pool.ensures.value

pub returns-clause-run : goal.returns-clause-run
returns-clause-run c =
    ap (λ (r : SectionRun). Some r) (part c)
    ∙ sym (cond-true (within c.args.self.now.pool c.args.s) (Some (part_from c.args.s c.args.self.now.pool)) None
    (in_pool c))

-- the rest of it
left : (c : After-spend_back)
    → part_before c.args.s c.args.self.now.pool ≡ record {
      first = c.self.inside.first;
      count = length c.spend_back.new.names.holds;
    }
left c =
    let pool : run_of c.pool-pool.result ≡ record {
      first = c.self.inside.first;
      count = length c.self.inside.names.holds;
    } = c.pool-pool.ensures.value ∙ ap (λ (b : BorderState). b.pool) (sym c.self.view_is) in
    let begins : c.pool-pool.result.first ≡ c.self.inside.first = ap (λ (r : SectionRun). r.first) pool in
    let count : c.pool-pool.result.count ≡ length c.self.inside.names.holds = ap (λ (r : SectionRun). r.count) pool in
    let gone = c.pool-pool.result.count - (c.args.s - c.pool-pool.result.first) in
    let long : length c.spend_back.new.names.holds ≡ length c.self.inside.names.holds - gone =
    ap (λ (h : Holding). length h.holds) c.spend_back.ensures
    ∙ length-take-le (length c.self.inside.names.holds - gone) c.self.inside.names.holds (omega arith) in
    let same : c.pool-pool.result.count - gone ≡ length c.spend_back.new.names.holds = omega (arith, count, long) in
    ap (part_before c.args.s) (sym c.pool-pool.ensures.value)
    ∙ (parts_at (run_of c.pool-pool.result) c.args.s (in_run c)).1
    ∙ (λ i. record { first = begins i; count = same i })

pub returns-clause-exact : goal.returns-clause-exact
returns-clause-exact c line centre k m border is =
    let back : c.args.self.now ≡ _ = sym c.self.view_is in
    withdrawn line centre k c.args.self.now m border is c.args.s _ (in_pool c) (part c)
    ∙ (λ i. returned line centre c.args.self.now.engine m.place.track
    (record { first = c.args.s; count = c.pool-pool.result.count - (c.args.s - c.pool-pool.result.first) })
    (with_border (record {
      engine = (back i).engine;
      lender = (back i).lender;
      pool = left c i;
      asked = (back i).asked;
    }) k))
