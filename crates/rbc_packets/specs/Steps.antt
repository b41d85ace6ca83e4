-- Reading as a function that answers a value and the bits after it, or the first fault.
use Rattle.std.specs.Prelude.{◌≡◌, ◌≢◌, Bool, true, false, List, Result, Ok, Err}

-- a step, and then the next with its result
infixl 10 ◌>>=◌
abbrev pub ◌>>=◌ : {F A B : Type 0} → Result A F → (A → Result B F) → Result B F
(Ok x) >>= f = f x
(Err e) >>= f = Err e

-- the fault, if the test holds
abbrev pub refuse : {F : Type 0} → Bool → F → Result (Unit {0}) F
refuse true fault = Err fault
refuse false fault = Ok tt

-- the program's answer, seen by `view`, and the bits after it, are the result of reading
abbrev pub Takes : {F A B : Type 0} → (A → B) → Result A F → List Bool → Result (B × List Bool) F → Type 0
Takes view (Ok x) rest read = read ≡ Ok (view x, rest)
Takes view (Err e) rest read = read ≡ Err e

-- as `Takes`, unless the program answered that memory ran out
abbrev pub TakesUnless : {F A B : Type 0} → F → (A → B) → Result A F → List Bool → Result (B × List Bool) F → Type 0
TakesUnless memory view (Ok x) rest read = read ≡ Ok (view x, rest)
TakesUnless memory view (Err e) rest read = e ≢ memory → read ≡ Err e
