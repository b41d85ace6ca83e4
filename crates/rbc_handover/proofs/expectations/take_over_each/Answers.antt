use Rattle.std.proofs.Common.{◌<◌, ◌∙◌, ◌≡◌, arith, length}
use Rattle.std.proofs.lemmas.List.{length-map, length-set}
use Rattle.rbc_handover.proofs.expectations.take_over_each.Goals as goal
use Rattle.rbc_handover.proofs.Expects.{by_states}
use Rattle.rbc_handover.proofs.TakesOver.{all_taken, all_told, one_told}
use Rattle.rbc_handover.specs.Acceptings.{expectation_of}

pub loop-i-preserved : goal.loop-i-preserved
loop-i-preserved c =
    let within : c.loop-i.i < length c.loop-i.states.items =
    omega (arith, c.loop-i-test.true, c.len-i-end.ensures, c.loop-i.invariant.count, c.args.states.now.ok.0) in
    let fits : c.loop-i.i < length c.loop-i.are_told =
    omega (arith, c.loop-i-test.true, c.len-i-end.ensures, c.loop-i.invariant.room, c.requires) in
    record {
      count = length-set c.loop-i.states.items c.loop-i.i c.take_over.new.self ∙ c.loop-i.invariant.count;
      room = length-set c.loop-i.are_told c.loop-i.i c.take_over.result ∙ c.loop-i.invariant.room;
      told =
          one_told (by_states c.args.states.now.items) c.loop-i.states.items c.loop-i.i c.index_mut.result.now
          c.take_over.new.self within c.index_mut.ensures.value
          c.loop-i.are_told c.take_over.result fits c.loop-i.invariant.told c.take_over.ensures.told
          c.take_over.ensures.state;
    }

all_of : (c : goal.After-loop-i) → c.loop-i.i ≡ length (by_states c.args.states.now.items)
all_of c = let long = length-map c.args.states.now.items expectation_of in
    omega (arith, c.loop-i-test.false, c.loop-i.auto.i-end, c.len-i-end.ensures, c.args.states.now.ok.0, long)

pub returns-clause-told : goal.returns-clause-told
returns-clause-told c =
    all_told (by_states c.args.states.now.items) (by_states c.loop-i.states.items) c.loop-i.i c.loop-i.are_told
    c.loop-i.invariant.told (let all = all_of c in omega (arith, all))

pub returns-clause-expected : goal.returns-clause-expected
returns-clause-expected c =
    all_taken (by_states c.args.states.now.items) (by_states c.loop-i.states.items) c.loop-i.i c.loop-i.are_told
    c.loop-i.invariant.told (let all = all_of c in omega (arith, all))
