-- Consecutive lines.
use Rattle.std.proofs.Common.{[], ◌++◌, ◌+◌, ◌<◌, ◌∙◌, ◌∷◌, ◌≡◌, ap, append-nil, append_assoc, get_or, length, List}
use Rattle.std.proofs.Common.{map, refl, sym, take, ℕ}
use Rattle.std.proofs.lemmas.List.{map-append, take_more}
use Rattle.rbc_spec.specs.Outcome.{Saying}
use Rattle.rbc_world.specs.rbc_train.declared.saying.Saying.{Saying as SayingCode}
use Rattle.rbc_world.specs.rbc_train.Sayings.{saying_of}
use Rattle.text_script.specs.Print.Answers.{AreSayingRows, IsSayingRow}

-- the line of one more message follows the others
pub saying_more : (centre : List ℕ) (sayings : List Saying) (s : Saying) (text row : List ℕ) →
    AreSayingRows centre sayings text → IsSayingRow centre s row
    → AreSayingRows centre (sayings ++ s ∷ []) (text ++ row)
saying_more centre [] s text row none is = (row, [], ap (λ xs. xs ++ row) none ∙ sym (append-nil row), is, refl)
saying_more centre (q ∷ sayings) s text row (first, others, cut, its, rest) is = (
  first,
  others ++ row,
  ap (λ xs. xs ++ row) cut ∙ append_assoc first others row,
  its,
  saying_more centre sayings s others row rest is,
)

-- the messages before place i, and the message at i
pub one_taken : (sayings : List SayingCode) (i : ℕ) (s : SayingCode) → i < length sayings → s ≡ get_or sayings i s →
    map saying_of (take (i + 1) sayings) ≡ map saying_of (take i sayings) ++ saying_of s ∷ []
one_taken sayings i s low is =
    ap (map saying_of) (take_more sayings i s low ∙ ap (λ (x : SayingCode). take i sayings ++ x ∷ []) (sym is))
    ∙ map-append saying_of (take i sayings) (s ∷ [])
