use Rattle.std.proofs.lemmas.Bool.{ltb-true}
use Rattle.law_invariants.proofs.flow.laws.each_yield_is_taken.Goals as goal
use Rattle.law_invariants.proofs.FlowLemmas.Taken.{is_carried, is_taken, place}
use Rattle.law_invariants.specs.Flow.Flow.{centre_count}

pub returns : goal.returns
returns ctx line w a c number t heard has_data is_ended carried hand ok sound from to takes =
    let small = ltb-true a (centre_count line) from in
    let below = ltb-true c (centre_count line) to in (
      place line w sound a c number t heard has_data is_ended carried hand from to small below takes,
      is_carried line w sound a c number t heard has_data is_ended carried hand from to small below takes,
      is_taken line w sound a c number t heard has_data is_ended carried hand from to small below takes,
    )
