use Rattle.std.proofs.Common.{◌<◌, ◌≡◌, arith, length, refl, slice_get, Some}
use Rattle.std.proofs.lemmas.Bool.{false≢true}
use Rattle.std.proofs.lemmas.Option.{slice_get_read}
use Rattle.rbc_link.proofs.Changes.{all_rooms, had_room, keeps_more, rooms_more}
use Rattle.rbc_link.proofs.links.reserve_each.Goals as goal

pub returns-in_err-reserve-clause-keeps : goal.returns-in_err-reserve-clause-keeps
returns-in_err-reserve-clause-keeps g c =
    let within : c.loop-i.i < length c.loop-i.links.items =
    omega (arith, c.loop-i-test.true, c.len-i-end.ensures, c.loop-i.invariant.keeps.count) in
    let at : slice_get c.loop-i.links.items c.loop-i.i ≡ Some c.index_mut.result.now =
    slice_get_read _ _ _ _ refl within c.index_mut.ensures.value in
    keeps_more c.args.links.now.items c.loop-i.links.items c.loop-i.i c.index_mut.result.now
    c.reserve.new.self within at
    c.reserve.ensures.link c.reserve.ensures.grows c.loop-i.invariant.keeps

pub returns-in_err-reserve-clause-succeeds : goal.returns-in_err-reserve-clause-succeeds
returns-in_err-reserve-clause-succeeds g c has =
    let within : c.loop-i.i < length c.loop-i.links.items =
    omega (arith, c.loop-i-test.true, c.len-i-end.ensures, c.loop-i.invariant.keeps.count) in
    let at : slice_get c.loop-i.links.items c.loop-i.i ≡ Some c.index_mut.result.now =
    slice_get_read _ _ _ _ refl within c.index_mut.ensures.value in
    absurd (false≢true
    (c.in_err-reserve.ensures.succeeds (had_room c.args.links.now.items c.loop-i.links.items c.loop-i.i
    c.index_mut.result.now c.reserve.new.self within at
    c.reserve.ensures.link c.reserve.ensures.grows c.args.count c.loop-i.invariant.keeps has)))

pub loop-i-preserved : goal.loop-i-preserved
loop-i-preserved g c =
    let within : c.loop-i.i < length c.loop-i.links.items =
    omega (arith, c.loop-i-test.true, c.len-i-end.ensures, c.loop-i.invariant.keeps.count) in
    let at : slice_get c.loop-i.links.items c.loop-i.i ≡ Some c.index_mut.result.now =
    slice_get_read _ _ _ _ refl within c.index_mut.ensures.value in
    record {
      keeps = keeps_more c.args.links.now.items c.loop-i.links.items c.loop-i.i c.index_mut.result.now
          c.reserve.new.self within at
          c.reserve.ensures.link c.reserve.ensures.grows c.loop-i.invariant.keeps;
      room = rooms_more c.args.links.now.items c.loop-i.links.items c.loop-i.i c.index_mut.result.now
          c.reserve.new.self within at
          c.reserve.ensures.link c.reserve.ensures.grows c.args.count c.in_ok-reserve.ensures.room
          c.loop-i.invariant.room;
    }

pub returns-clause-room : goal.returns-clause-room
returns-clause-room g c =
    all_rooms c.loop-i.links.items c.args.count c.loop-i.i
    (omega (arith, c.loop-i-test.false, c.len-i-end.ensures, c.loop-i.invariant.keeps.count))
    c.loop-i.invariant.room
