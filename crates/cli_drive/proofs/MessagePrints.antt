-- The print of messages that are read one after the other.
use Rattle.std.proofs.Common.{[], ◌+◌, ◌++◌, ◌∙◌, ◌≡◌, ap, append-nil, append_assoc, arith, List, None, Option}
use Rattle.std.proofs.Common.{refl, Some, subst, suc, sym, zero, ℕ}
use Rattle.std.specs.Io.KnownBytes.{Appends, Consumes}
use Rattle.cli_drive.specs.Messages.{AreMessages, IsMessage, row_of}

pub adds_none : (a : Option (List ℕ)) → Appends a a []
adds_none None = tt
adds_none (Some xs) = sym (append-nil xs)

pub adds_both : (a b c : Option (List ℕ)) (xs ys : List ℕ) → Appends a b xs → Appends b c ys → Appends a c (xs ++ ys)
adds_both None b c xs ys h k = tt
adds_both (Some p) None c xs ys h k = absurd h
adds_both (Some p) (Some q) None xs ys h k = absurd k
adds_both (Some p) (Some q) (Some r) xs ys h k = k ∙ ap (λ zs. zs ++ ys) h ∙ append_assoc p xs ys

pub takes_none : (a : Option (List ℕ)) → Consumes a a []
takes_none None = tt
takes_none (Some xs) = refl

pub takes_both : (a b c : Option (List ℕ)) (xs ys : List ℕ) → Consumes a b xs → Consumes b c ys
    → Consumes a c (xs ++ ys)
takes_both None b c xs ys h k = tt
takes_both (Some p) None c xs ys h k = absurd h
takes_both (Some p) (Some q) None xs ys h k = absurd k
takes_both (Some p) (Some q) (Some r) xs ys h k = h ∙ ap (λ zs. xs ++ zs) k ∙ sym (append_assoc xs ys r)

-- one more message, and its line
pub one_more : (count : ℕ) (bytes text message : List ℕ) → AreMessages count bytes text → IsMessage message
    → AreMessages (count + 1) (bytes ++ message) (text ++ row_of message)
one_more count bytes text message are is =
    let more : suc count ≡ count + 1 = omega arith in
    subst (λ n. AreMessages n (bytes ++ message) (text ++ row_of message)) more
    (bytes, text, message, are, is, refl, refl)

-- messages after others
pub joined : (m n : ℕ) (front rows bytes text : List ℕ) → AreMessages m front rows → AreMessages n bytes text
    → AreMessages (m + n) (front ++ bytes) (rows ++ text)
joined m zero front rows bytes text are (none, empty) =
    let all : m ≡ m + zero = omega arith in
    subst (λ k. AreMessages k (front ++ bytes) (rows ++ text)) all
    (subst (λ ys. AreMessages m (front ++ ys) (rows ++ text)) (sym none)
    (subst (λ ys. AreMessages m (front ++ []) (rows ++ ys)) (sym empty)
    (subst (λ ys. AreMessages m ys (rows ++ [])) (sym (append-nil front))
    (subst (λ ys. AreMessages m front ys) (sym (append-nil rows)) are))))
joined m (suc n) front rows bytes text are (before, lines, last, others, is, cut, shown) =
    let more : suc (m + n) ≡ m + suc n = omega arith in
    subst (λ k. AreMessages k (front ++ bytes) (rows ++ text)) more (
      front ++ before,
      rows ++ lines,
      last,
      joined m n front rows before lines are others,
      is,
      ap (λ ys. front ++ ys) cut ∙ sym (append_assoc front before last),
      ap (λ ys. rows ++ ys) shown ∙ sym (append_assoc rows lines (row_of last)),
    )
