use Rattle.std.proofs.Common.{◌&&◌, ◌<◌, ◌≡◌, false, ℕ}
use Rattle.rbc_place.specs.Places.{place_of}
use Rattle.rbc_spec.specs.Line.{is_home}
use Rattle.rbc_spec.specs.Place.{has_front}
use Rattle.rbc_train.proofs.front.has_front_home.Given as goal

abbrev pub invariant-loop-s : goal.invariant-loop-s
invariant-loop-s l = (s : ℕ) → s < l.s → (is_home l.line l.centre s && has_front l.line (place_of l.place) s) ≡ false
