-- The lines of a journal: the note of a line, and the ends that a text of lines may have.
use Rattle.std.proofs.Common.{[], ◌++◌, ◌∙◌, ◌∷◌, ◌≡◌, ◌⊎◌, ap, append_assoc, arith, drop, inl, inr, List, refl, Some}
use Rattle.std.proofs.Common.{subst, suc, sym, take, true, zero, ℕ}
use Rattle.std.specs.Fmt.{decimal}
use Rattle.std.specs.List.{AllByRecursion, flat_map}
use Rattle.std.specs.Prelude.{codes}
use Rattle.rbc_spec.specs.Line.{is_centre, IsLine, Line}
use Rattle.text_journal.proofs.Asking.{delivery_read, name_is_word, set_read, three, train_read, unset_read, verb}
use Rattle.text_journal.proofs.Asking.{words_of}
use Rattle.text_journal.proofs.Letters.{IsWord, lacks_append, lower_hex_is_word, no_cut, one_cut, upper_hex_is_word}
use Rattle.text_journal.proofs.Letters.{word_of_number}
use Rattle.text_journal.proofs.Times.{same_number, same_time, time_feed}
use Rattle.text_journal.specs.Journal.{checksum, digest, time_text}
use Rattle.text_journal.specs.Reading.{IsAt, IsNote, Lacks, Noted}
use Rattle.text_script.specs.Print.Rows.{name_at}
use Rattle.text_script.specs.Script.{Asked, Deliver, row_asks, Set, Show, Train, Unset}

-- ## One line

-- the text of an entry and its line, both without the line feed
abbrev pub told_of : Line → Noted → List ℕ
told_of line x = decimal x.stamp ++ 32 ∷ (time_text x.time ++ 62 ∷ 32 ∷ words_of line x.event)

abbrev pub line_of : Line → Noted → List ℕ
line_of line x = checksum (told_of line x ++ 10 ∷ []) ++ 32 ∷ told_of line x

pub checksum_is_word : (text : List ℕ) → IsWord (checksum text)
unfolding checksum
checksum_is_word text = lower_hex_is_word _

pub digest_is_word : (text : List ℕ) → IsWord (digest text)
unfolding digest
digest_is_word text = lower_hex_is_word _

pub words_read : (line : Line) → IsLine line → (c : ℕ) (a : Asked) → is_centre line c ≡ true → IsAt line c a
    → row_asks line (words_of line a) ≡ Some a
words_read line good c Show it at = absurd at
words_read line good c (Train d bytes) it at = train_read line good d bytes (ap (is_centre line) at.0 ∙ it) at.1 at.2
words_read line good c (Set d s) it at = set_read line good d s (ap (is_centre line) at.0 ∙ it) at.1
words_read line good c (Unset d s) it at = unset_read line good d s (ap (is_centre line) at.0 ∙ it) at.1
words_read line good c (Deliver from d n) it at =
    delivery_read line good from d n at.1 (ap (is_centre line) at.0 ∙ it) at.2

three_feed : (a b r : List ℕ) → IsWord a → IsWord b → IsWord r → Lacks 10 (three a b r)
three_feed a b r h k l =
    lacks_append 10 a _ h.feed (λ e. omega arith, lacks_append 10 b _ k.feed (λ e. omega arith, l.feed))

pub words_feed : (line : Line) → IsLine line → (c : ℕ) (a : Asked) → is_centre line c ≡ true → IsAt line c a
    → Lacks 10 (words_of line a)
words_feed line good c Show it at = absurd at
words_feed line good c (Train d bytes) it at =
    three_feed _ _ _ (verb (codes "train") refl) (name_is_word line good d (ap (is_centre line) at.0 ∙ it))
    (upper_hex_is_word bytes)
words_feed line good c (Set d s) it at =
    three_feed _ _ _ (verb (codes "set") refl) (name_is_word line good d (ap (is_centre line) at.0 ∙ it))
    (word_of_number s (omega (arith, at.1)))
words_feed line good c (Unset d s) it at =
    three_feed _ _ _ (verb (codes "unset") refl) (name_is_word line good d (ap (is_centre line) at.0 ∙ it))
    (word_of_number s (omega (arith, at.1)))
words_feed line good c (Deliver from d n) it at =
    lacks_append 10 (codes "deliver") (32 ∷ three (name_at line from) (name_at line d) (decimal n))
    (verb (codes "deliver") refl).feed (
      λ e. omega arith,
      three_feed _ _ _ (name_is_word line good from at.1)
          (name_is_word line good d (ap (is_centre line) at.0 ∙ it)) (word_of_number n (omega (arith, at.2))),
    )

pub line_feed : (line : Line) → IsLine line → (c : ℕ) (x : Noted) → IsNote line c x → Lacks 10 (line_of line x)
line_feed line good c x n =
    lacks_append 10 (checksum (told_of line x ++ 10 ∷ [])) (32 ∷ told_of line x) (checksum_is_word _).feed (
      λ e. omega arith,
      lacks_append 10 (decimal x.stamp) (32 ∷ (time_text x.time ++ 62 ∷ 32 ∷ words_of line x.event))
          (word_of_number x.stamp (omega (arith, n.stamp))).feed (
            λ e. omega arith,
            lacks_append 10 (time_text x.time) (62 ∷ 32 ∷ words_of line x.event) (time_feed x.time n.time)
                (λ e. omega arith, (λ e. omega arith, words_feed line good c x.event n.centre n.at)),
          ),
    )

-- ## A line has one note

pub some_same : {X : Type 0} (a b : X) → Some a ≡ Some b → a ≡ b
some_same a b e = cc

pub same_note : (line : Line) → IsLine line → (c : ℕ) (x y : Noted) → IsNote line c x → IsNote line c y
    → line_of line x ≡ line_of line y → x ≡ y
same_note line good c x y m n e =
    let told = (one_cut 32 _ _ _ _ (checksum_is_word _).blank (checksum_is_word _).blank e).1 in
    let parts = one_cut 32 _ _ _ _ (word_of_number x.stamp (omega (arith, m.stamp))).blank
    (word_of_number y.stamp (omega (arith, n.stamp))).blank told in
    let after = same_time x.time y.time _ _ m.time n.time parts.1 in
    let words : words_of line x.event ≡ words_of line y.event = ap (drop 1) after.1 in
    let event : x.event ≡ y.event = some_same _ _
    (sym (words_read line good c x.event m.centre m.at) ∙ ap (row_asks line) words
    ∙ words_read line good c y.event n.centre n.at) in
    let stamp : x.stamp ≡ y.stamp = same_number _ _ (omega (arith, m.stamp)) (omega (arith, n.stamp)) parts.0 in
    λ i. record { stamp = stamp i; time = after.0 i; event = event i }

-- ## Many lines

abbrev pub lines_of : Line → List Noted → List ℕ
lines_of line xs = flat_map (λ x. line_of line x ++ 10 ∷ []) xs

-- a line, and the text after it
pub joined : (a x : List ℕ) → (a ++ 10 ∷ []) ++ x ≡ a ++ 10 ∷ x
joined a x = append_assoc a (10 ∷ []) x

joined_more : (a x y : List ℕ) → ((a ++ 10 ∷ []) ++ x) ++ y ≡ a ++ 10 ∷ (x ++ y)
joined_more a x y = append_assoc (a ++ 10 ∷ []) x y ∙ joined a (x ++ y)

pub one_reading : (line : Line) → IsLine line → (c : ℕ) (xs ys : List Noted) (r s : List ℕ) →
    AllByRecursion (IsNote line c) xs → AllByRecursion (IsNote line c) ys → Lacks 10 r → Lacks 10 s →
    lines_of line xs ++ r ≡ lines_of line ys ++ s → xs ≡ ys
one_reading line good c [] [] r s m n h k e = refl
one_reading line good c [] (y ∷ ys) r s m n h k e =
    absurd (no_cut 10 (line_of line y) (lines_of line ys ++ s)
    (subst (Lacks 10) (e ∙ joined_more (line_of line y) (lines_of line ys) s) h))
one_reading line good c (x ∷ xs) [] r s m n h k e =
    absurd (no_cut 10 (line_of line x) (lines_of line xs ++ r)
    (subst (Lacks 10) (sym e ∙ joined_more (line_of line x) (lines_of line xs) r) k))
one_reading line good c (x ∷ xs) (y ∷ ys) r s m n h k e =
    let cut = one_cut 10 (line_of line x) (line_of line y) (lines_of line xs ++ r) (lines_of line ys ++ s)
    (line_feed line good c x m.0) (line_feed line good c y n.0)
    (sym (joined_more (line_of line x) (lines_of line xs) r) ∙ e ∙ joined_more (line_of line y) (lines_of line ys) s) in
    let first = same_note line good c x y m.0 n.0 cut.0 in
    let more = one_reading line good c xs ys r s m.1 n.1 h k cut.1 in
    λ i. first i ∷ more i

-- a text with a line that no note has is not read
pub no_reading : (line : Line) → IsLine line → (c : ℕ) (xs ys : List Noted) (r row others : List ℕ) →
    AllByRecursion (IsNote line c) xs → AllByRecursion (IsNote line c) ys → Lacks 10 r → Lacks 10 row →
    AllByRecursion (λ x. line_of line x ≡ row → ⊥) xs →
    lines_of line xs ++ r ≡ lines_of line ys ++ (row ++ 10 ∷ others) → ⊥
no_reading line good c [] [] r row others m n h k bad e = no_cut 10 row others (subst (Lacks 10) e h)
no_reading line good c [] (y ∷ ys) r row others m n h k bad e =
    no_cut 10 (line_of line y) (lines_of line ys ++ (row ++ 10 ∷ others))
    (subst (Lacks 10) (e ∙ joined_more (line_of line y) (lines_of line ys) (row ++ 10 ∷ others)) h)
no_reading line good c (x ∷ xs) [] r row others m n h k bad e =
    bad.0 (one_cut 10 (line_of line x) row (lines_of line xs ++ r) others (line_feed line good c x m.0) k
    (sym (joined_more (line_of line x) (lines_of line xs) r) ∙ e)).0
no_reading line good c (x ∷ xs) (y ∷ ys) r row others m n h k bad e =
    no_reading line good c xs ys r row others m.1 n.1 h k bad.1
    (one_cut 10 (line_of line x) (line_of line y) (lines_of line xs ++ r) (lines_of line ys ++ (row ++ 10 ∷ others))
    (line_feed line good c x m.0) (line_feed line good c y n.0)
    (sym (joined_more (line_of line x) (lines_of line xs) r) ∙ e
    ∙ joined_more (line_of line y) (lines_of line ys) (row ++ 10 ∷ others))).1

-- ## A text of lines that is cut

pub lacks_take : (c n : ℕ) (xs : List ℕ) → Lacks c xs → Lacks c (take n xs)
lacks_take c zero xs h = tt
lacks_take c (suc n) [] h = tt
lacks_take c (suc n) (x ∷ xs) h = (h.0, lacks_take c n xs h.1)

-- a text cut at n: a front with its line feed and a part of the rest, or a part of the front
pub cut_after : (a x : List ℕ) (n : ℕ)
    → (take n (a ++ 10 ∷ x) ≡ take n a) ⊎ ((m : ℕ) × (take n (a ++ 10 ∷ x) ≡ a ++ 10 ∷ take m x))
cut_after [] x zero = inl refl
cut_after [] x (suc n) = inr (n, refl)
cut_after (p ∷ a) x zero = inl refl
cut_after (p ∷ a) x (suc n) = elim (cut_after a x n) [
  | inl e ↦ inl (ap (λ (t : List ℕ). p ∷ t) e)
  | inr d ↦ inr (d.0, ap (λ (t : List ℕ). p ∷ t) d.1)
]

take_none : (n : ℕ) → take {A = ℕ} n [] ≡ []
take_none zero = refl
take_none (suc n) = refl

pub cut_lines : (line : Line) → IsLine line → (c : ℕ) (xs : List Noted) (n : ℕ) → AllByRecursion (IsNote line c) xs →
    (k : ℕ) × (rest : List ℕ) × Lacks 10 rest × (take n (lines_of line xs) ≡ lines_of line (take k xs) ++ rest)
cut_lines line good c [] n m = (0, [], tt, take_none n)
cut_lines line good c (x ∷ xs) n m = elim (cut_after (line_of line x) (lines_of line xs) n) [
  | inl e ↦ (
    0,
    take n (line_of line x),
    lacks_take 10 n _ (line_feed line good c x m.0),
    ap (take n) (joined (line_of line x) (lines_of line xs)) ∙ e,
  )
  | inr d ↦
      let more = cut_lines line good c xs d.0 m.1 in (
        suc more.0,
        more.1,
        more.2,
        ap (take n) (joined (line_of line x) (lines_of line xs)) ∙ d.1
            ∙ ap (λ (t : List ℕ). line_of line x ++ 10 ∷ t) more.3
            ∙ sym (joined_more (line_of line x) (lines_of line (take more.0 xs)) more.1),
      )
]
