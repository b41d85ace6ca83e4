-- Tests of the texts of a list, and the verdict on them.
use Rattle.std.proofs.Common.{[], ◌+◌, ◌||◌, ◌∙◌, ◌∷◌, ◌≡◌, ap, Bool, cond, List, map, nat_lt, refl, Some, sym, ℕ}
use Rattle.std.proofs.lemmas.List.Sums.{sum_by-cons}
use Rattle.std.specs.List.{count_by, list_any, position_from}
use Rattle.cli_drive.specs.Answers.{is_answer, is_answered, is_journal_fault, is_refusal, is_script_fault, judged}
use Rattle.cli_drive.specs.Answers.{judged_by, verdict_of}

any_of_map : {A B : Type 0} (p : B → Bool) (f : A → B) (xs : List A)
    → list_any p (map f xs) ≡ list_any (λ x. p (f x)) xs
any_of_map p f [] = refl
any_of_map p f (x ∷ xs) = ap (λ rest. p (f x) || rest) (any_of_map p f xs)

count_of_map : {A B : Type 0} (p : B → Bool) (f : A → B) (xs : List A)
    → count_by p (map f xs) ≡ count_by (λ x. p (f x)) xs
count_of_map p f [] = refl
count_of_map p f (x ∷ xs) =
    sum_by-cons (λ y. cond (p y) 1 0) (f x) (map f xs)
    ∙ ap (λ rest. cond (p (f x)) 1 0 + rest) (count_of_map p f xs)
    ∙ sym (sum_by-cons (λ y. cond (p (f y)) 1 0) x xs)

pub position_of_map : {A B : Type 0} (p : B → Bool) (f : A → B) (i : ℕ) (xs : List A)
    → position_from p i (map f xs) ≡ position_from (λ x. p (f x)) i xs
position_of_map p f i [] = refl
position_of_map p f i (x ∷ xs) = ap (λ rest. cond (p (f x)) (Some i) rest) (position_of_map p f (i + 1) xs)

-- the verdict is that on the texts
pub judged_of_map : {A : Type 0} (f : A → List ℕ) (lines rows : List A)
    → judged (map f lines) (map f rows) ≡ judged_by f lines rows
judged_of_map f lines rows =
    ap (λ n. verdict_of (nat_lt n (count_by is_answered (map f lines))) (list_any is_journal_fault (map f rows))
    (list_any is_refusal (map f rows)) (list_any is_script_fault (map f rows))) (count_of_map is_answer f rows)
    ∙ ap (λ n. verdict_of (nat_lt (count_by (λ row. is_answer (f row)) rows) n)
    (list_any is_journal_fault (map f rows)) (list_any is_refusal (map f rows))
    (list_any is_script_fault (map f rows))) (count_of_map is_answered f lines)
    ∙ ap (λ b. verdict_of (nat_lt (count_by (λ row. is_answer (f row)) rows)
    (count_by (λ line. is_answered (f line)) lines)) b (list_any is_refusal (map f rows))
    (list_any is_script_fault (map f rows))) (any_of_map is_journal_fault f rows)
    ∙ ap (λ b. verdict_of (nat_lt (count_by (λ row. is_answer (f row)) rows)
    (count_by (λ line. is_answered (f line)) lines)) (list_any (λ row. is_journal_fault (f row)) rows) b
    (list_any is_script_fault (map f rows))) (any_of_map is_refusal f rows)
    ∙ ap (λ b. verdict_of (nat_lt (count_by (λ row. is_answer (f row)) rows)
    (count_by (λ line. is_answered (f line)) lines)) (list_any (λ row. is_journal_fault (f row)) rows)
    (list_any (λ row. is_refusal (f row)) rows) b) (any_of_map is_script_fault f rows)
