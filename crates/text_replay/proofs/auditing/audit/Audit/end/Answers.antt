-- Without a faulty line and a refused step the answer is that of the comparison.
use Rattle.std.proofs.Common.{◌∙◌, ◌≡◌, None, Ok, Option, refl, Some, sym, ℕ}
use Rattle.text_replay.proofs.auditing.audit.Audit.end.Goals as goal
use Rattle.text_replay.specs.Auditing.{audited}
use Rattle.text_replay.specs.declared.comparing.verdict.Verdict.TheVariants.{Differs, Equal}
use Rattle.text_script.specs.rbc_centre.declared.fault.StepFault.{StepFault}

none_of : {A : Type 0} (o : Option A) → ((x : A) → o ≡ Some x → ⊥) → o ≡ None
none_of None h = refl
none_of (Some x) h = absurd (h x refl)

differs_at : (faulty differs : Option ℕ) (refused : Option StepFault) (events line : ℕ) → faulty ≡ None
    → refused ≡ None → Some line ≡ differs → Ok (Differs line) ≡ audited faulty refused differs events
differs_at faulty differs refused events line sound played found = rw (sound, played, sym found) refl

are_equal : (faulty differs : Option ℕ) (refused : Option StepFault) (events : ℕ) → faulty ≡ None
    → refused ≡ None → None ≡ differs → Ok (Equal events) ≡ audited faulty refused differs events
are_equal faulty differs refused events sound played found = rw (sound, played, sym found) refl

pub returns-in-Some-verdict-clause-answer : goal.returns-in-Some-verdict-clause-answer
returns-in-Some-verdict-clause-answer c = λ ending.
    let sound = c.know_ending.ensures.faulty ∙ none_of _ c.in_default.not-Some in
    let played = none_of _ c.in_default-refused.not-Some in
    differs_at _ _ _ _ _ sound played (c.in-Some-verdict.ensures ending (c.know_ending.ensures.known played))

pub returns-in-None-clause-answer : goal.returns-in-None-clause-answer
returns-in-None-clause-answer c = λ ending.
    let sound = c.know_ending.ensures.faulty ∙ none_of _ c.in_default.not-Some in
    let played = none_of _ c.in_default-refused.not-Some in
    are_equal _ _ _ _ sound played (c.in-None.ensures ending (c.know_ending.ensures.known played))
