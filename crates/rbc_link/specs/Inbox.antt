-- The answer of a link to a frame, and the count of taken frames after it.
use Rattle.std.specs.Prelude.{ℕ}
use Rattle.rbc_spec.specs.Outcome.{Taken, Next, Old, Early, NoLink}
use Rattle.rbc_link.specs.declared.link_answer.LinkAnswer.{LinkAnswer}
use Rattle.rbc_link.specs.declared.link_answer.LinkAnswer.TheVariants as code

-- an answer in memory as one of the rules
abbrev pub answer_of : LinkAnswer → Taken
answer_of code.Next = Next
answer_of code.Old = Old
answer_of code.Early = Early
answer_of code.NoLink = NoLink

-- the count of taken frames after this answer to frame number n, with the count before
abbrev pub taken_after : Taken → ℕ → ℕ → ℕ
taken_after Next taken n = n
taken_after answer taken n = taken
