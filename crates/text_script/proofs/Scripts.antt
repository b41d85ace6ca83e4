-- The entries of a script grow with the lines read. Numbers are read.
use Rattle.std.proofs.Common.{[], ◌&&◌, ◌++◌, ◌+◌, ◌<◌, ◌^◌, ◌∙◌, ◌∷◌, ◌≡◌, ◌≢◌, ap, arith, below_more, Bool, Bor, cond}
use Rattle.std.proofs.Common.{Err, false, get_or, length, List, map, nat_lt, None, Ok, refl, rules, Some, sym, take}
use Rattle.std.proofs.Common.{tests, true, ℕ}
use Rattle.std.proofs.lemmas.List.{map-append}
use Rattle.std.proofs.lemmas.List.Elements.{filter_more}
use Rattle.std.proofs.lemmas.List.Sums.{position_or_len_is}
use Rattle.std.proofs.lemmas.Str.Parse.{IsNumeralModel, numerals_by_value, parse_plain, tells_all_ascii_digits}
use Rattle.std.specs.Cmp.Derive.{both_true}
use Rattle.std.specs.List.{filter, position_or_len}
use Rattle.std.specs.Str.{all_ascii_digits}
use Rattle.std.specs.Str.Parse.{digits_value, ParsesUnsigned}
use Rattle.rbc_spec.specs.Line.{Line}
use Rattle.text_script.specs.declared.script.Entry.{Entry}
use Rattle.text_script.specs.declared.script.ScriptFault.TheVariants.{Form}
use Rattle.text_script.specs.Entries.{AreAsked, asked_of, IsFirstFault}
use Rattle.text_script.specs.Script.{asked, is_faulty, is_kept, number_of, row_asks}

-- the entries are the requests of the first i lines, and none of these lines is faulty
pub record Reads (line : Line) (rows : List (List ℕ)) (i : ℕ) (entries : List Entry) : Type 0 where
  pub asked : AreAsked line (take i rows) entries
  pub sound : (k : ℕ) → k < i → is_faulty line (get_or rows k []) ≡ false

pub reads_skipped : (line : Line) (rows : List (List ℕ)) (i : ℕ) (entries : List Entry) →
    i < length rows → is_kept (get_or rows i []) ≡ false → Reads line rows i entries → Reads line rows (i + 1) entries
reads_skipped line rows i entries h skipped r = record {
  asked = r.asked ∙ ap (map (row_asks line)) (sym (filter_more is_kept rows i [] h ∙ simp skipped (search rules)));
  sound = below_more _ _ r.sound (simp skipped refl);
}

pub reads_entry : (line : Line) (rows : List (List ℕ)) (i : ℕ) (entries : List Entry) (e : Entry) →
    i < length rows → is_kept (get_or rows i []) ≡ true → row_asks line (get_or rows i []) ≡ Some (asked_of e) →
    Reads line rows i entries → Reads line rows (i + 1) (entries ++ e ∷ [])
reads_entry line rows i entries e h kept found r = record {
  asked =
      map-append (λ e. Some (asked_of e)) entries (e ∷ [])
      ∙ ap (λ front. front ++ (Some (asked_of e) ∷ [])) r.asked
      ∙ ap (λ o. map (row_asks line) (filter is_kept (take i rows)) ++ (o ∷ [])) (sym found)
      ∙ sym (map-append (row_asks line) (filter is_kept (take i rows)) (get_or rows i [] ∷ []))
      ∙ ap (map (row_asks line)) (sym (filter_more is_kept rows i [] h ∙ simp kept refl));
  sound = below_more _ _ r.sound (simp (kept, found) refl);
}

pub reads_fault : (line : Line) (rows : List (List ℕ)) (i : ℕ) (entries : List Entry) →
    i < length rows → is_kept (get_or rows i []) ≡ true → row_asks line (get_or rows i []) ≡ None →
    Reads line rows i entries → IsFirstFault line rows (Form (i + 1))
reads_fault line rows i entries h kept none r =
    let first : position_or_len (is_faulty line) rows ≡ i =
    position_or_len_is (is_faulty line) rows i [] (omega arith) r.sound (λ _. simp (kept, none) refl) in
    let within : nat_lt i (length rows) ≡ true = search (rules, tests) in
    simp (first, within) refl

-- a line of other than one, three or four words has no form
pub asked_none : (line : Line) (words : List (Bor (List ℕ))) →
    length words ≢ 1 → length words ≢ 3 → length words ≢ 4 → asked line (map (λ word. word.now) words) ≡ None
asked_none line [] one three four = refl
asked_none line (a ∷ []) one three four = absurd (one refl)
asked_none line (a ∷ b ∷ []) one three four = refl
asked_none line (a ∷ b ∷ c ∷ []) one three four = absurd (three refl)
asked_none line (a ∷ b ∷ c ∷ d ∷ []) one three four = absurd (four refl)
asked_none line (a ∷ b ∷ c ∷ d ∷ e ∷ words) one three four = refl

own : IsNumeralModel (λ ds. all_ascii_digits ds ≡ true) (digits_value 10)
own = numerals_by_value _ tells_all_ascii_digits

abbrev is_number : ℕ → List ℕ → Bool
is_number bits bs = nat_lt 0 (length bs) && all_ascii_digits bs && nat_lt (digits_value 10 bs) (2 ^ bits)

is_number-true : (bits : ℕ) (bs : List ℕ) → all_ascii_digits bs ≡ true → 0 < length bs → digits_value 10 bs < 2 ^ bits
    → is_number bits bs ≡ true
is_number-true bits bs digits some fits =
    let a : nat_lt 0 (length bs) ≡ true = search (rules, tests) in
    let b : nat_lt (digits_value 10 bs) (2 ^ bits) ≡ true = search (rules, tests) in
    both_true (both_true a digits) b

true_left : (a b : Bool) → (a && b) ≡ true → a ≡ true
true_left true b h = refl
true_left false b h = h

true_right : (a b : Bool) → (a && b) ≡ true → b ≡ true
true_right true b h = h
true_right false b h = cc

if_false : {A : Type 0} (b : Bool) (x : A) → (b ≡ true → ⊥) → cond b (Some x) None ≡ None
if_false true x h = absurd (h refl)
if_false false x h = refl

pub number_of-Ok : (bits : ℕ) (E : Type 0) (bs : List ℕ) (n : ℕ) → ParsesUnsigned {E = E} bits 10 bs (Ok n)
    → (get_or bs 0 0 ≡ 43 → ⊥) → number_of bits bs ≡ Some n
number_of-Ok bits E bs n h plain =
    let p = parse_plain own {E = E} bits bs (Ok n) h plain in
    let t : is_number bits bs ≡ true = is_number-true bits bs p.0.0 p.0.1 p.0.2 in
    ap (λ b. cond b (Some (digits_value 10 bs)) None) t ∙ ap Some (sym p.1)

pub number_of-Err : (bits : ℕ) (E : Type 0) (bs : List ℕ) (e : E) → ParsesUnsigned {E = E} bits 10 bs (Err e)
    → (get_or bs 0 0 ≡ 43 → ⊥) → number_of bits bs ≡ None
number_of-Err bits E bs e h plain =
    let p = parse_plain own {E = E} bits bs (Err e) h plain in
    if_false (is_number bits bs) (digits_value 10 bs) (λ t.
    let front = true_left (nat_lt 0 (length bs) && all_ascii_digits bs) (nat_lt (digits_value 10 bs) (2 ^ bits)) t in
    let some : nat_lt 0 (length bs) ≡ true = true_left _ (all_ascii_digits bs) front in
    let fits : nat_lt (digits_value 10 bs) (2 ^ bits) ≡ true =
    true_right (nat_lt 0 (length bs) && all_ascii_digits bs) _ t in
    p (true_right (nat_lt 0 (length bs)) _ front, search (rules, tests), search (rules, tests)))
