use Rattle.std.proofs.Common.{◌+◌, ◌-◌, ◌∙◌, ◌≡◌, ap, arith}
use Rattle.rbc_grant.proofs.grant.answer_request.Goals as goal
use Rattle.rbc_grant.proofs.Runs.{each_passes, has_room}
use Rattle.rbc_grant.specs.Grants.{may_follow}
use Rattle.rbc_line.specs.SectionRuns.{run_of}
use Rattle.rbc_place.specs.Places.{place_of}
use Rattle.rbc_spec.specs.Line.{end}
use Rattle.rbc_spec.specs.SectionRuns.{next_after}

pub returns-clause-each : goal.returns-clause-each
returns-clause-each c k lt =
    each_passes (may_follow c.args.line.now c.args.book.now (run_of c.args.pool) (place_of c.args.place.now))
    (next_after (run_of c.args.hand)) (32 - c.args.hand.count) k
    (omega (arith, c.following-sections.ensures.value))

pub returns-clause-fits : goal.returns-clause-fits
returns-clause-fits c asked =
    let room =
    has_room c.args.line.now c.args.book.now (run_of c.args.pool) (place_of c.args.place.now)
    (run_of c.args.hand) c.following-sections.result
    (λ k lt. each_passes (may_follow c.args.line.now c.args.book.now (run_of c.args.pool) (place_of c.args.place.now))
    (next_after (run_of c.args.hand)) (32 - c.args.hand.count) k
    (omega (arith, c.following-sections.ensures.value))) asked in
    let last : c.saturating_sub-last.result ≡ next_after (run_of c.args.hand) + c.following-sections.result - 1 =
    omega (arith, c.saturating_sub-last.ensures, c.next_after.ensures, c.from.ensures) in
    let ends : c.section_end.result
    ≡ end c.args.line.now (next_after (run_of c.args.hand) + c.following-sections.result - 1) =
    c.section_end.ensures.value ∙ ap (end c.args.line.now) last in
    omega (arith, room, ends, c.group_start-start.ensures.value, c.saturating_sub.ensures)
