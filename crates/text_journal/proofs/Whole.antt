-- The whole lines of a text, and of a cut journal.
use Rattle.std.proofs.Common.{[], ◌++◌, ◌+◌, ◌-◌, ◌<◌, ◌∙◌, ◌∷◌, ◌≡◌, ◌≢◌, ◌≤◌, ap, append_assoc, arith, drop, get_or}
use Rattle.std.proofs.Common.{inl, inr, length, List, refl, subst, suc, sym, take, true, ℕ}
use Rattle.std.proofs.lemmas.Bool.{cases_lt}
use Rattle.std.proofs.lemmas.List.{get_or-drop, length-drop}
use Rattle.std.specs.List.{flat_map}
use Rattle.rbc_spec.specs.Line.{is_centre, IsLine, Line}
use Rattle.text_journal.proofs.Entries.{entry_line_is, first_feed}
use Rattle.text_journal.proofs.Letters.{lacks_at}
use Rattle.text_journal.proofs.Lines.{lacks_take, line_of}
use Rattle.text_journal.specs.declared.entry.Entry.{Entry}
use Rattle.text_journal.specs.Journal.{entry_line, first_line, journal, Version}
use Rattle.text_journal.specs.Reading.{Begins, early, Lacks, noted_of, torn}
use Rattle.text_journal.specs.Whole.{AreWhole}

get_after : (n : ℕ) (xs : List ℕ) (i : ℕ) → get_or (drop n xs) i 0 ≡ get_or xs (n + i) 0
get_after n xs i = get_or-drop n xs i 0

-- ## A cut journal

last_at : (front rest : List ℕ) → get_or (front ++ 10 ∷ rest) (length front) 0 ≡ 10
last_at [] rest = refl
last_at (x ∷ xs) rest = last_at xs rest

after_at : (front rest : List ℕ) (j : ℕ) → get_or (front ++ 10 ∷ rest) (length front + 1 + j) 0 ≡ get_or rest j 0
after_at [] rest j = let e : 1 + j ≡ suc j = omega arith in rw e refl
after_at (x ∷ xs) rest j = let e : suc (length xs) + 1 + j ≡ suc (length xs + 1 + j) = omega arith in
    rw e (after_at xs rest j)

take_front : (front rest : List ℕ) → take (length front + 1) (front ++ 10 ∷ rest) ≡ front ++ 10 ∷ []
take_front [] rest = refl
take_front (x ∷ xs) rest =
    let e : suc (length xs) + 1 ≡ suc (length xs + 1) = omega arith in
    rw e (ap (λ (t : List ℕ). x ∷ t) (take_front xs rest))

many : (front rest : List ℕ) → length (front ++ 10 ∷ rest) ≡ length front + 1 + length rest
many [] rest = omega arith
many (x ∷ xs) rest = let more = many xs rest in omega (arith, more)

not_sooner : (front rest : List ℕ) (n : ℕ) → AreWhole (front ++ 10 ∷ rest) n → n ≤ length front → ⊥
not_sooner front rest n whole low =
    let text : List ℕ = front ++ 10 ∷ rest in
    let long : length text ≡ length front + 1 + length rest = many front rest in
    let at : n + (length front - n) ≡ length front = omega (arith, low) in
    let left : length (drop n text) ≡ length text - n = length-drop n text in
    lacks_at 10 (drop n text) whole.unended (length front - n) (omega (arith, low, long, left))
    (get_after n text (length front - n) ∙ ap (λ (i : ℕ). get_or text i 0) at ∙ last_at front rest)

not_later : (front rest : List ℕ) (n : ℕ) → Lacks 10 rest → AreWhole (front ++ 10 ∷ rest) n → length front + 1 < n → ⊥
not_later front rest n clean whole high =
    let text : List ℕ = front ++ 10 ∷ rest in
    let long : length text ≡ length front + 1 + length rest = many front rest in
    let at : length front + 1 + (n - (length front + 2)) ≡ n - 1 = omega (arith, high) in
    elim whole.ended [
      | inl none ↦ absurd (let never : ⊥ = omega (arith, none, high) in never)
      | inr feed ↦ lacks_at 10 rest clean (n - (length front + 2)) (omega (arith, long, high, whole.within))
          (sym (after_at front rest (n - (length front + 2))) ∙ ap (λ (i : ℕ). get_or text i 0) at ∙ feed)
    ]

between : (n m : ℕ) → (n ≤ m → ⊥) → (m + 1 < n → ⊥) → n ≡ m + 1
between n m low high = elim (cases_lt m n) [
  | inl h ↦ elim (cases_lt (m + 1) n) [ inl k ↦ absurd (high k) | inr k ↦ omega (arith, h, k) ]
  | inr h ↦ absurd (low h)
]

pub cut_whole : (front rest : List ℕ) (n : ℕ) → Lacks 10 rest → AreWhole (front ++ 10 ∷ rest) n
    → take n (front ++ 10 ∷ rest) ≡ front ++ 10 ∷ []
cut_whole front rest n clean whole =
    let is : n ≡ length front + 1 =
    between n (length front) (not_sooner front rest n whole) (not_later front rest n clean whole) in
    ap (λ (m : ℕ). take m (front ++ 10 ∷ rest)) is ∙ take_front front rest

-- the line feed of a first line, and the lines after it, end with a line feed
lines_end : (line : Line) (es : List Entry) → (front : List ℕ) × (10 ∷ flat_map (entry_line line) es ≡ front ++ 10 ∷ [])
lines_end line [] = ([], refl)
lines_end line (e ∷ es) =
    let more = lines_end line es in
    let row = line_of line (noted_of e) in (
      (10 ∷ row) ++ more.0,
      ap (λ (t : List ℕ). 10 ∷ (t ++ flat_map (entry_line line) es)) (entry_line_is line e)
          ∙ ap (λ (t : List ℕ). 10 ∷ t)
          (append_assoc row (10 ∷ []) (flat_map (entry_line line) es) ∙ ap (λ (t : List ℕ). row ++ t) more.1
          ∙ sym (append_assoc row more.0 (10 ∷ []))),
    )

pub whole_journal : (v : Version) (line : Line) → IsLine line → (c : ℕ) (file text : List ℕ) (es : List Entry) (n : ℕ)
    → is_centre line c ≡ true →
    Begins v line c file text es → AreWhole text n → 0 < n → take n text ≡ journal v line c file es
whole_journal v line good c file text es n it (torn rest e h) whole some =
    let first = first_line v line c file in
    let end = lines_end line es in
    let front : List ℕ = first ++ end.0 in
    let parts : text ≡ front ++ 10 ∷ h.rest =
    e ∙ ap (λ (t : List ℕ). first ++ 10 ∷ t) h.whole
    ∙ ap (λ (t : List ℕ). first ++ t) (ap (λ (t : List ℕ). t ++ h.rest) end.1 ∙ append_assoc end.0 (10 ∷ []) h.rest)
    ∙ sym (append_assoc first end.0 (10 ∷ h.rest)) in
    ap (take n) parts ∙ cut_whole front h.rest n h.unended (subst (λ (t : List ℕ). AreWhole t n) parts whole)
    ∙ append_assoc first end.0 (10 ∷ []) ∙ ap (λ (t : List ℕ). first ++ t) (sym end.1)
whole_journal v line good c file text es n it (early m e none) whole some =
    let clean : Lacks 10 text =
    subst (Lacks 10) (sym e) (lacks_take 10 m (first_line v line c file) (first_feed v line good c file it)) in
    elim whole.ended [
      | inl nought ↦ absurd (let never : ⊥ = omega (arith, nought, some) in never)
      | inr feed ↦ absurd (lacks_at 10 text clean (n - 1) (omega (arith, some, whole.within)) feed)
    ]
