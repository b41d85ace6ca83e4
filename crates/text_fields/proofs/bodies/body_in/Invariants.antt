use Rattle.std.proofs.Common.{◌≡◌, drop}
use Rattle.text_fields.specs.Walks.{body_at}
use Rattle.text_fields.proofs.bodies.body_in.Given as goal

abbrev pub invariant-loop-body : goal.invariant-loop-body
invariant-loop-body l = body_at l.number (drop l.body-index l.bodies) ≡ body_at l.number l.bodies
