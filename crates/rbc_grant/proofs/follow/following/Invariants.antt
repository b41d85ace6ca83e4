use Rattle.rbc_grant.proofs.follow.following.Given as goal
use Rattle.rbc_grant.specs.Grants.{may_follow}
use Rattle.rbc_line.specs.SectionRuns.{run_of}
use Rattle.rbc_place.proofs.Longest.{HasPassed}
use Rattle.rbc_place.specs.Places.{place_of}
use Rattle.rbc_spec.specs.SectionRuns.{next_after}

abbrev pub invariant-loop-k : goal.invariant-loop-k
invariant-loop-k l =
    HasPassed (may_follow l.line l.book (run_of l.pool) (place_of l.place)) (next_after (run_of l.hand)) l.room l.k
