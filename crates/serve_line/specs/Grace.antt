-- The connections of an endpoint after the stop.
use Rattle.std.specs.Prelude.{◌||◌, Bool, if◌then◌else◌, nat_le, ℕ}
use Rattle.serve_line.specs.declared.clients.grace.Grace.{Grace}
use Rattle.serve_line.specs.declared.clients.grace.Grace.TheVariants.{Cut, Over, Wait}

-- Without connections the endpoint is over. After a hasty stop they are ended at once, and else after most rests.
abbrev pub grace_of : ℕ → ℕ → Bool → Bool → Grace
grace_of rests most is_empty is_hasty =
    if is_empty then Over else if is_hasty || nat_le most rests then Cut else Wait
