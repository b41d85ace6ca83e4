-- The answers of std's searches in a text, as facts of its bytes.
use denote.Ref.{Bor}
use Rattle.rbc_spec.specs.Line.{Line}
use Rattle.std.specs.List.{slice_split}
use Rattle.std.proofs.Common.{[], ◌++◌, ◌-◌, ◌<◌, ◌==◌, ◌≤◌, ◌∙◌, ◌∷◌, ◌≡◌, ap, append-nil, arith, bytes_eq, codes}
use Rattle.std.proofs.Common.{◌↔◌, ◌⊎◌, ⊎_elim, Bool, drop, Err, false, get_or, IfOk, inr, IsTrue, length}
use Rattle.std.proofs.Common.{length-append, List, map, MatchBool, None, Ok, refl, Result, sym, take}
use Rattle.std.proofs.Common.{take-append-drop, true, ℕ}
use Rattle.std.proofs.lemmas.Bool.{true≢false}
use lib.Utf8.{encode}
use lib.Seq.{get_or-append_seam}
use Rattle.std.proofs.Transfers.{drop-appended}
use Rattle.std.proofs.lemmas.Slice.Eq.{bytes_eq-Decides}
use Rattle.std.proofs.lemmas.Str.Pattern.{NoCharPasses-char}
use Rattle.std.specs.Char.{encode_utf8}
use Rattle.std.specs.Str.Pattern.{FindsChar, FindsCharPrefix, FindsCharSuffix, FindsText, FindsTextPrefix, HasMatch}
use Rattle.std.specs.Str.Pattern.{HasPrefixMatch, HasSuffixMatch}
use Rattle.cli_commands.specs.declared.script_faults.RowFault.{RowFault}
use Rattle.cli_commands.specs.Forms.{form_of}
use Rattle.cli_commands.specs.RowFaults.{Begins, Ends, Holds, IsAtCentre, IsByBlanks, IsByForm, IsByFrame, IsByWords}
use Rattle.cli_commands.specs.RowFaults.{IsReason}

pub holds_char : (c : ℕ) (text : List ℕ) → encode_utf8 c ≡ c ∷ [] → HasMatch (FindsChar c) text → Holds (c ∷ []) text
holds_char c text one (i, j, found, on, fits) = (
  take i text,
  drop j text,
  sym (take-append-drop i text)
      ∙ ap (λ rest. take i text ++ rest) (found.1.split ∙ ap (λ front. front ++ drop j text) one),
)

pub lacks_char : (c : ℕ) (text : List ℕ) → c < 128 → FindsChar c text None → ¬ Holds (c ∷ []) text
lacks_char c text low none (front, rest, same) =
    NoCharPasses-char c text (length front) none low
    (omega (arith, ap length same, length-append front (c ∷ rest)))
    (ap (λ t. get_or t (length front) 0) same ∙ get_or-append_seam front c rest 0)

pub holds_text : (bytes text : List ℕ) → HasMatch (FindsText bytes) text → Holds bytes text
holds_text bytes text (i, j, found, on, fits) = (
  take i text,
  drop j text,
  sym (take-append-drop i text) ∙ ap (λ rest. take i text ++ rest) found.1.split,
)

pub lacks_text : (bytes text : List ℕ) → FindsText bytes text None → ¬ Holds bytes text
lacks_text bytes text none (front, rest, same) =
    none (length front) (omega (arith, ap length same, length-append front (bytes ++ rest))) rest
    (drop-appended front text (bytes ++ rest) same)

pub begins_text : (bytes text : List ℕ) → HasPrefixMatch (FindsTextPrefix bytes) text → Begins bytes text
begins_text bytes text (k, found, on) = (drop k text, found.1)

pub begins_not : (bytes text : List ℕ) → FindsTextPrefix bytes text None → ¬ Begins bytes text
begins_not bytes text none (rest, same) = none rest same

pub begins_char : (c : ℕ) (text : List ℕ) → encode_utf8 c ≡ c ∷ [] → HasPrefixMatch (FindsCharPrefix c) text
    → Begins (c ∷ []) text
begins_char c text one (n, found, on) = (drop n text, found.split ∙ ap (λ front. front ++ drop n text) one)

pub begins_no_char : (c : ℕ) (text : List ℕ) → encode_utf8 c ≡ c ∷ [] → FindsCharPrefix c text None
    → ¬ Begins (c ∷ []) text
begins_no_char c text one none (rest, same) = none rest (same ∙ ap (λ front. front ++ rest) (sym one))

pub ends_char : (c : ℕ) (text : List ℕ) → encode_utf8 c ≡ c ∷ [] → HasSuffixMatch (FindsCharSuffix c) text
    → Ends (c ∷ []) text
ends_char c text one (n, found, fits, on) =
    let front = take (length text - n) text in (
      front,
      sym (take-append-drop (length text - n) text)
          ∙ ap (λ rest. front ++ rest) (found.1.split ∙ ap (λ rest. encode_utf8 c ++ rest)
          (drop-appended text text [] (sym (append-nil text))) ∙ append-nil (encode_utf8 c) ∙ one),
    )

pub ends_no_char : (c : ℕ) (text : List ℕ) → encode_utf8 c ≡ c ∷ [] → FindsCharSuffix c text None
    → ¬ Ends (c ∷ []) text
ends_no_char c text one none (front, same) = none front (same ∙ ap (λ rest. front ++ rest) (sym one))

-- the answer of a search, if the other fact does not hold
pub or_held : {A : Type 0} (bytes text : List ℕ) (b : Bool) → ¬ A
    → MatchBool b (HasMatch (FindsText bytes) text) (FindsText bytes text None) → IsTrue b ↔ (A ⊎ Holds bytes text)
or_held bytes text true never found = (λ yes. inr (holds_text bytes text found), λ has. refl)
or_held bytes text false never none = (
  λ yes. absurd (true≢false (sym yes)),
  ⊎_elim (λ a. absurd (never a)) (λ has. absurd (lacks_text bytes text none has)),
)

-- the same of the last character
pub or_ends : {A : Type 0} (c : ℕ) (text : List ℕ) (b : Bool) → encode_utf8 c ≡ c ∷ [] → ¬ A
    → MatchBool b (HasSuffixMatch (FindsCharSuffix c) text) (FindsCharSuffix c text None)
    → IsTrue b ↔ (A ⊎ Ends (c ∷ []) text)
or_ends c text true one never found = (λ yes. inr (ends_char c text one found), λ has. refl)
or_ends c text false one never none = (
  λ yes. absurd (true≢false (sym yes)),
  ⊎_elim (λ a. absurd (never a)) (λ has. absurd (ends_no_char c text one none has)),
)

pub one_blank : encode_utf8 32 ≡ 32 ∷ []
unfolding encode
one_blank = refl

pub one_return : encode_utf8 13 ≡ 13 ∷ []
unfolding encode
one_return = refl

pub one_tab : encode_utf8 9 ≡ 9 ∷ []
unfolding encode
one_tab = refl

-- the characters of the line have no fault, so its fault is that of its words
pub blanks_passed : {E : Type 0} (r : Result RowFault E) (line : Line) (row : List ℕ) → IsByBlanks row None
    → IfOk r (IsByWords line (slice_split (λ b. b == 32) row)) → IfOk r (IsReason line row)
blanks_passed (Ok fault) line row none by = (None, none, by)
blanks_passed (Err why) line row none by = tt

-- ## The words of a line

-- the fault of a delivery is that of its four words
pub by_delivery :
    {E : Type 0} (r : Result RowFault E) (line : Line) (words : List (Bor (List ℕ))) (d : Bor (List ℕ))
    → 4 ≤ length words → length words < 5 → bytes_eq (get_or words 0 d).now (codes "deliver") ≡ true
    → IfOk r (IsAtCentre line (get_or words 1 d).now
    (IsAtCentre line (get_or words 2 d).now (IsByFrame (get_or words 3 d).now)))
    → IfOk r (IsByWords line (map (λ word. word.now) words))
by_delivery (Err why) line words d low high is at = tt
by_delivery (Ok fault) line [] d low high is at = absurd (omega arith)
by_delivery (Ok fault) line (a ∷ []) d low high is at = absurd (omega arith)
by_delivery (Ok fault) line (a ∷ b ∷ []) d low high is at = absurd (omega arith)
by_delivery (Ok fault) line (a ∷ b ∷ c ∷ []) d low high is at = absurd (omega arith)
by_delivery (Ok fault) line (a ∷ b ∷ c ∷ e ∷ []) d low high is at = record {
  delivery = λ same. at;
  other = λ not. absurd (not ((bytes_eq-Decides a.now (codes "deliver")).0 is));
}
by_delivery (Ok fault) line (a ∷ b ∷ c ∷ e ∷ f ∷ more) d low high is at = absurd (omega arith)

-- another line has another form than its event has
pub by_form :
    {E : Type 0} (r : Result RowFault E) (line : Line) (words : List (Bor (List ℕ))) (d : Bor (List ℕ))
    → 1 ≤ length words → ¬ (length words ≡ 3)
    → (length words ≡ 4 → bytes_eq (get_or words 0 d).now (codes "deliver") ≡ false)
    → IfOk r (IsByForm (form_of (get_or words 0 d).now) (get_or words 0 d).now)
    → IfOk r (IsByWords line (map (λ word. word.now) words))
by_form (Err why) line words d some three four by = tt
by_form (Ok fault) line [] d some three four by = absurd (omega arith)
by_form (Ok fault) line (a ∷ []) d some three four by = by
by_form (Ok fault) line (a ∷ b ∷ []) d some three four by = by
by_form (Ok fault) line (a ∷ b ∷ c ∷ []) d some three four by = absurd (three (omega arith))
by_form (Ok fault) line (a ∷ b ∷ c ∷ e ∷ []) d some three four by = record {
  delivery = λ is. absurd (true≢false (sym (ap (λ t. bytes_eq t (codes "deliver")) is) ∙ four (omega arith)));
  other = λ not. by;
}
by_form (Ok fault) line (a ∷ b ∷ c ∷ e ∷ f ∷ more) d some three four by = by
