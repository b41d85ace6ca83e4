-- Whether a message of a train may pass.
use Rattle.std.specs.Prelude.{◌≡◌, Bool, Err, false, min, Ok, Result, true, ℕ}
use Rattle.serve_line.specs.declared.clients.admission.Admission.{Admission}
use Rattle.serve_line.specs.declared.clients.admission.Admission.TheVariants.{Leave, Pass, Wait}

-- A message passes if and only if its bucket passes it. Else it waits as long as the bucket requires, at most 100 ms at
-- once, unless its connection has to leave.
abbrev pub IsAdmission : Result (Unit {0}) ℕ → Bool → Admission → Type 0
IsAdmission (Ok done) is_leaving admission = admission ≡ Pass
IsAdmission (Err wait) true admission = admission ≡ Leave
IsAdmission (Err wait) false admission = admission ≡ Wait (min wait 100)
