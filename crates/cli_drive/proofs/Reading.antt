-- The steps of a train's file grow with the lines read. Numbers are read.
use Rattle.std.proofs.Common.{[], ◌&&◌, ◌++◌, ◌+◌, ◌<◌, ◌==◌, ◌^◌, ◌∙◌, ◌∷◌, ◌≡◌, ap, arith, below_more, Bool, Bor}
use Rattle.std.proofs.Common.{cond, Err, false, get_or, length, List, map, nat_lt, None, Ok, refl, rules, Some, suc}
use Rattle.std.proofs.Common.{sym, take, tests, true, ℕ}
use Rattle.std.proofs.lemmas.List.{map-append}
use Rattle.std.proofs.lemmas.List.Sums.{position_or_len_is}
use Rattle.std.proofs.lemmas.Str.Parse.{IsNumeralModel, numerals_by_value, parse_plain, tells_all_ascii_digits}
use Rattle.std.proofs.Math.Seq.{take-suc}
use Rattle.std.specs.Cmp.Derive.{both_true}
use Rattle.std.specs.List.{position_or_len}
use Rattle.std.specs.Str.{all_ascii_digits}
use Rattle.std.specs.Str.Parse.{digits_value, ParsesUnsigned}
use Rattle.cli_drive.specs.declared.steps.Step.{Step}
use Rattle.cli_drive.specs.declared.steps.StepsFault.TheVariants.{Form}
use Rattle.cli_drive.specs.Lines.{is_faulty, number_of, row_asks, whole_rows}
use Rattle.cli_drive.specs.Steps.{AreAsked, IsFirstFault, step_asks}

-- the steps are the requests of the first i lines, and none of these lines is faulty
pub record Reads (rows : List (List ℕ)) (i : ℕ) (steps : List Step) : Type 0 where
  pub asked : AreAsked (take i rows) steps
  pub sound : (k : ℕ) → k < i → is_faulty (get_or rows k []) ≡ false

by_length : (row : List ℕ) (front : List (List ℕ)) (last : List ℕ) (t : Bool) →
    row ∷ cond t front (front ++ last ∷ []) ≡ cond t (row ∷ front) ((row ∷ front) ++ last ∷ [])
by_length row front last true = refl
by_length row front last false = refl

-- the bytes after the last line feed are a line, if there are any
pub whole_rows-append : (front : List (List ℕ)) (last : List ℕ)
    → whole_rows (front ++ last ∷ []) ≡ cond (length last == 0) front (front ++ last ∷ [])
whole_rows-append [] last = refl
whole_rows-append (row ∷ []) last = by_length row [] last (length last == 0)
whole_rows-append (row ∷ next ∷ front) last =
    ap (λ rest. row ∷ rest) (whole_rows-append (next ∷ front) last)
    ∙ by_length row (next ∷ front) last (length last == 0)

pub whole_rows_split : (rows front : List (Bor (List ℕ))) (last : Bor (List ℕ)) → rows ≡ front ++ last ∷ [] →
    whole_rows (map (λ row. row.now) rows) ≡ cond (length last.now == 0) (map (λ row. row.now) front)
    (map (λ row. row.now) rows)
whole_rows_split rows front last is =
    let all : map (λ row. row.now) rows ≡ map (λ row. row.now) front ++ last.now ∷ [] =
    ap (map (λ row. row.now)) is ∙ map-append (λ row. row.now) front (last ∷ []) in
    ap whole_rows all ∙ whole_rows-append (map (λ row. row.now) front) last.now
    ∙ ap (λ rows. cond (length last.now == 0) (map (λ row. row.now) front) rows) (sym all)

-- one more line
take_more : (rows : List (List ℕ)) (i : ℕ) → i < length rows → take (i + 1) rows ≡ take i rows ++ get_or rows i [] ∷ []
take_more rows i h = let more : i + 1 ≡ suc i = omega arith in ap (λ n. take n rows) more ∙ take-suc rows i [] h

pub reads_step : (rows : List (List ℕ)) (i : ℕ) (steps : List Step) (s : Step) →
    i < length rows → row_asks (get_or rows i []) ≡ Some (step_asks s) → Reads rows i steps
    → Reads rows (i + 1) (steps ++ s ∷ [])
reads_step rows i steps s h found r = record {
  asked =
      map-append (λ s. Some (step_asks s)) steps (s ∷ [])
      ∙ ap (λ front. front ++ (Some (step_asks s) ∷ [])) r.asked
      ∙ ap (λ o. map row_asks (take i rows) ++ (o ∷ [])) (sym found)
      ∙ sym (map-append row_asks (take i rows) (get_or rows i [] ∷ []))
      ∙ ap (map row_asks) (sym (take_more rows i h));
  sound = below_more _ _ r.sound (simp found refl);
}

pub reads_fault : (rows : List (List ℕ)) (i : ℕ) (steps : List Step) →
    i < length rows → row_asks (get_or rows i []) ≡ None → Reads rows i steps → IsFirstFault rows (Form (i + 1))
reads_fault rows i steps h none r =
    let first : position_or_len is_faulty rows ≡ i =
    position_or_len_is is_faulty rows i [] (omega arith) r.sound (λ _. simp none refl) in
    let within : nat_lt i (length rows) ≡ true = search (rules, tests) in
    simp (first, within) refl

own : IsNumeralModel (λ ds. all_ascii_digits ds ≡ true) (digits_value 10)
own = numerals_by_value _ tells_all_ascii_digits

abbrev is_number : List ℕ → Bool
is_number bs = nat_lt 0 (length bs) && all_ascii_digits bs && nat_lt (digits_value 10 bs) (2 ^ 16)

is_number-true : (bs : List ℕ) → all_ascii_digits bs ≡ true → 0 < length bs → digits_value 10 bs < 2 ^ 16
    → is_number bs ≡ true
is_number-true bs digits some fits =
    let a : nat_lt 0 (length bs) ≡ true = search (rules, tests) in
    let b : nat_lt (digits_value 10 bs) (2 ^ 16) ≡ true = search (rules, tests) in
    both_true (both_true a digits) b

true_left : (a b : Bool) → (a && b) ≡ true → a ≡ true
true_left true b h = refl
true_left false b h = h

true_right : (a b : Bool) → (a && b) ≡ true → b ≡ true
true_right true b h = h
true_right false b h = cc

if_false : {A : Type 0} (b : Bool) (x : A) → (b ≡ true → ⊥) → cond b (Some x) None ≡ None
if_false true x h = absurd (h refl)
if_false false x h = refl

pub number_of-Ok : (E : Type 0) (bs : List ℕ) (n : ℕ) → ParsesUnsigned {E = E} 16 10 bs (Ok n)
    → (get_or bs 0 0 ≡ 43 → ⊥) → number_of bs ≡ Some n
number_of-Ok E bs n h plain =
    let p = parse_plain own {E = E} 16 bs (Ok n) h plain in
    let t : is_number bs ≡ true = is_number-true bs p.0.0 p.0.1 p.0.2 in
    ap (λ b. cond b (Some (digits_value 10 bs)) None) t ∙ ap Some (sym p.1)

pub number_of-Err : (E : Type 0) (bs : List ℕ) (e : E) → ParsesUnsigned {E = E} 16 10 bs (Err e)
    → (get_or bs 0 0 ≡ 43 → ⊥) → number_of bs ≡ None
number_of-Err E bs e h plain =
    let p = parse_plain own {E = E} 16 bs (Err e) h plain in
    if_false (is_number bs) (digits_value 10 bs) (λ t.
    let front = true_left (nat_lt 0 (length bs) && all_ascii_digits bs) (nat_lt (digits_value 10 bs) (2 ^ 16)) t in
    let some : nat_lt 0 (length bs) ≡ true = true_left _ (all_ascii_digits bs) front in
    let fits : nat_lt (digits_value 10 bs) (2 ^ 16) ≡ true =
    true_right (nat_lt 0 (length bs) && all_ascii_digits bs) _ t in
    p (true_right (nat_lt 0 (length bs)) _ front, search (rules, tests), search (rules, tests)))
