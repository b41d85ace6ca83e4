use Rattle.std.proofs.Common.{◌<◌, ◌≡◌, HoldsAt, length, subst}
use Rattle.serve_workers.proofs.writing.lane.Lane.release.Goals as goal
use Rattle.serve_workers.proofs.WritingLemmas.Lane.{turn_of}

pub returns-clause-some : goal.returns-clause-some
returns-clause-some c =
    let place = c.in_ok-place.place in
    let next = c.args.self.now.next in
    let early = c.args.self.now.early.items in
    let at : (place < length early) × HoldsAt (λ reply. reply.message.t_train ≡ next) early place =
    subst (λ xs. (place < length xs) × HoldsAt (λ reply. reply.message.t_train ≡ next) xs place)
    c.as_slice.ensures.value c.in_ok-place.ensures.some in
    turn_of next early c.remove-reply.new.self.items place c.remove-reply.result at.0 c.remove-reply.ensures.value at.1
    c.remove-reply.ensures.items
