use Rattle.rbc_centre.proofs.centre.Centre.reserve_frames.Goals as goal
use Rattle.rbc_centre.proofs.Kept.{with_room}

pub invariant_of-self : goal.invariant_of-self
invariant_of-self c = record {
  rules =
      with_room c.args.self.now c.args.self.now.sessions c.reserve.new.self c.reserve.ensures.keeps (λ t i p is. is);
}

pub invariant_of-self-2 : goal.invariant_of-self-2
invariant_of-self-2 c = record {
  rules =
      with_room c.args.self.now c.args.self.now.sessions c.reserve.new.self c.reserve.ensures.keeps (λ t i p is. is);
}
