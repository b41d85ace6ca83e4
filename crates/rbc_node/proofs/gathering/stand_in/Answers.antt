use Rattle.rbc_node.proofs.gathering.stand_in.Goals as goal

pub returns-then-are_there : goal.returns-then-are_there
returns-then-are_there c = (
  λ is. record { there = c.are_there.ensures.0 c.if-are_there.true; in_order = c.rise.ensures.0 is },
  λ stands. c.rise.ensures.1 stands.in_order,
)
