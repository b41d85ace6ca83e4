use Rattle.std.proofs.Common.{◌+◌, ◌<◌, ◌≡◌, ◌≤◌, true, ℕ}
use Rattle.rbc_border.proofs.arriving.may_arrive.Given as goal
use Rattle.rbc_border.specs.Lending.{HasBook}
use Rattle.rbc_spec.specs.Centre.{Centre}
use Rattle.rbc_spec.specs.Links as links

abbrev pub invariant-loop-k : goal.invariant-loop-k
invariant-loop-k l = (k : Centre) → HasBook l.line l.centre k l.book → (s : ℕ) → l.hand.first ≤ s
    → s < l.hand.first + l.k → links.may_arrive l.line l.centre k l.train.nid_engine l.train.track s ≡ true
