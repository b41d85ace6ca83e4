-- Whether a text is the front of a first line.
use Rattle.std.proofs.Common.{[], ◌∙◌, ◌∷◌, ◌≡◌, ap, Bool, false, length, List, refl, subst, suc, sym, take, true, zero}
use Rattle.std.proofs.Common.{ℕ}
use Rattle.std.proofs.lemmas.Bool.{true≢false}
use Rattle.std.proofs.lemmas.Slice.Eq.{bytes_eq-Decides}
use Rattle.std.proofs.Math.Dec.{eqb}
use Rattle.std.specs.List.{starts_with}
use Rattle.std.specs.Prelude.{IsTrue}
use Rattle.rbc_spec.specs.Line.{Line}
use Rattle.text_journal.proofs.Entries.{is_true, true_is}
use Rattle.text_journal.specs.Journal.{first_line, V1, V2, Version}

take_again : (n : ℕ) (xs : List ℕ) → take (length (take n xs)) xs ≡ take n xs
take_again zero xs = refl
take_again (suc n) [] = refl
take_again (suc n) (x ∷ xs) = ap (λ (t : List ℕ). x ∷ t) (take_again n xs)

starts_so : (whole text : List ℕ) (n : ℕ) → text ≡ take n whole → starts_with eqb whole text ≡ true
starts_so whole text n e =
    subst (λ (t : List ℕ). starts_with eqb whole t ≡ true) (sym e)
    ((bytes_eq-Decides _ _).1 (sym (take_again n whole)))

old_starts : (line : Line) (c : ℕ) (file text : List ℕ) (b : Bool)
    → starts_with eqb (first_line V2 line c file) text ≡ false
    → b ≡ starts_with eqb (first_line V1 line c file) text →
    (v : Version) (n : ℕ) → text ≡ take n (first_line v line c file) → IsTrue b
old_starts line c file text b other told V1 n e =
    true_is b (told ∙ starts_so (first_line V1 line c file) text n e)
old_starts line c file text b other told V2 n e =
    absurd (true≢false (sym (starts_so (first_line V2 line c file) text n e) ∙ other))

-- no first line of version 2 begins with the text
pub starts_old : (line : Line) (c : ℕ) (file text : List ℕ) (b : Bool)
    → starts_with eqb (first_line V2 line c file) text ≡ false
    → b ≡ starts_with eqb (first_line V1 line c file) text →
    (IsTrue b → (v : Version) × (n : ℕ) × (text ≡ take n (first_line v line c file)))
    × ((v : Version) × (n : ℕ) × (text ≡ take n (first_line v line c file)) → IsTrue b)
starts_old line c file text b other told = (
  λ h. (
    V1,
    length text,
    (bytes_eq-Decides text (take (length text) (first_line V1 line c file))).0 (sym told ∙ is_true b h),
  ),
  λ found. old_starts line c file text b other told found.0 found.1 found.2,
)
