-- The answers of a registrar.
use Rattle.std.specs.Prelude.{ℕ, Bool, if◌then◌else◌}
use Rattle.rbc_right.specs.Rights.{right_of}
use Rattle.rbc_right.specs.declared.registrar.Asked.{Asked}
use Rattle.rbc_right.specs.declared.registrar.Asked.TheVariants.{Given, NotHere}

-- to who asks for the right of a train that is here or not
abbrev pub answer : Bool → ℕ → Asked
answer has i = if has then Given (right_of i) else NotHere
