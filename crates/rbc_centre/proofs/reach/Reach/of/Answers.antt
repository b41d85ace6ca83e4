use Rattle.std.proofs.Common.{◌++◌}
use Rattle.rbc_centre.proofs.reach.Reach.of.Goals as goal
use Rattle.rbc_handover.specs.Expectations.{expected_from}

pub returns : goal.returns
returns c d low outside =
    let p = c.args.dispatch.now in
    let notice = c.and_letter.ensures.keeps d outside in
    let second = c.and_notice.ensures.keeps d notice in
    let first = c.and_homes-2.ensures.keeps d second in
    λ i. c.and_homes.ensures.homes d first p.nid_engine p.mail.now.track i
    ++ (c.and_homes-2.ensures.homes d second p.nid_engine p.mail.now.track i
    ++ (c.and_notice.ensures.notice d low notice p.nid_engine (expected_from p.expectations.now) i
    ++ c.and_letter.ensures.letter d outside i))
