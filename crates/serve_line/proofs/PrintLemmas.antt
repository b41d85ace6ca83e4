-- The bytes of a writer that is known by its name, and a print through a buffer.
use Rattle.std.proofs.Common.{[], ◌++◌, ◌∙◌, ◌∷◌, ◌≡◌, ap, append-nil, Err, List, None, Ok, Option}
use Rattle.std.proofs.Common.{Result, Some, subst, sym, ℕ}
use Rattle.std.specs.Io.KnownBytes.{append_known, Appends, Keeps, WriteAppends}
use Rattle.rbc_log.specs.Log.{LogValue}
use Rattle.rbc_spec.specs.Line.{Line}
use Rattle.serve_line.specs.Prints.{AddsPrint, named}

-- ## One write

named_appends : (name : ℕ) (a b : Option (List ℕ)) (bytes : List ℕ) → Appends a b bytes
    → Appends (named name a) (named name b) bytes
named_appends name None b bytes h = tt
named_appends name (Some xs) None bytes h = absurd h
named_appends name (Some xs) (Some ys) bytes h = ap (λ zs. name ∷ zs) h

pub named_keeps : (name : ℕ) (a b : Option (List ℕ)) → Keeps a b → Keeps (named name a) (named name b)
named_keeps name None b h = tt
named_keeps name (Some xs) None h = absurd h
named_keeps name (Some xs) (Some ys) h = ap (λ zs. name ∷ zs) h

pub named_writes : {E : Type 0} (name : ℕ) (a b : Option (List ℕ)) (result : Result ℕ E) (bytes : List ℕ)
    → WriteAppends a b result bytes → WriteAppends (named name a) (named name b) result bytes
named_writes name a b (Ok n) bytes h = named_appends name a b _ h
named_writes name a b (Err why) bytes h = named_keeps name a b h

-- ## A print through a buffer

-- An empty buffer was put before a writer. Once the buffer is empty again, the writer has the bytes that were written
-- through it. It is this writer, if its bytes are known.
abbrev Stands : ℕ → ℕ → Option (List ℕ) → Option (List ℕ) → List ℕ → Type 0
Stands old new None after text = Unit {0}
Stands old new (Some xs) None text = ⊥
Stands old new (Some xs) (Some ys) text = (new ≡ old) × (ys ≡ xs ++ text)

abbrev head_or : ℕ → List ℕ → ℕ
head_or n [] = n
head_or n (x ∷ xs) = x

abbrev tail_of : List ℕ → List ℕ
tail_of [] = []
tail_of (x ∷ xs) = xs

same_head : (n m : ℕ) (xs ys : List ℕ) → n ∷ xs ≡ m ∷ ys → (n ≡ m) × (xs ≡ ys)
same_head n m xs ys h = (ap (head_or n) h, ap tail_of h)

stands : (old mid new : ℕ) (a b c : Option (List ℕ)) (empty left none text : List ℕ) → empty ≡ [] → none ≡ []
    → Appends (append_known (named old a) empty) (append_known (named mid b) left) text
    → Keeps (append_known (named mid b) left) (append_known (named new c) none)
    → Stands old new a c text
stands old mid new None b c empty left none text e f h k = tt
stands old mid new (Some xs) None c empty left none text e f h k = absurd h
stands old mid new (Some xs) (Some ys) None empty left none text e f h k = absurd k
stands old mid new (Some xs) (Some ys) (Some zs) empty left none text e f h k =
    same_head new old zs (xs ++ text) (
    sym (append-nil (new ∷ zs)) ∙ sym (ap (λ us. (new ∷ zs) ++ us) f) ∙ k ∙ h ∙ ap (λ us. ((old ∷ xs) ++ us) ++ text) e
    ∙ ap (λ us. us ++ text) (append-nil (old ∷ xs))
    )

-- the lent writer is left in this state, under its name
stands_at_last : (old new : ℕ) (a c last : Option (List ℕ)) (text : List ℕ) → Stands old new a c text
    → (new ≡ old → last ≡ c) → Appends a last text
stands_at_last old new None c last text h left = tt
stands_at_last old new (Some xs) None last text h left = absurd h
stands_at_last old new (Some xs) (Some ys) last text (same, grows) left =
    subst (λ (f : Option (List ℕ)). Appends (Some xs) f text) (sym (left same)) grows

-- the print of logs through a buffer
pub print_stands : (line : Line) (logs : List LogValue)
    (old mid new : ℕ) (a b c last : Option (List ℕ)) (empty held none : List ℕ)
    → empty ≡ [] → none ≡ []
    → AddsPrint line logs (append_known (named old a) empty) (append_known (named mid b) held)
    → Keeps (append_known (named mid b) held) (append_known (named new c) none) → (new ≡ old → last ≡ c)
    → AddsPrint line logs a last
print_stands line logs old mid new a b c last empty held none e f (text, is, grows) k left =
    (text, is, stands_at_last old new a c last text (stands old mid new a b c empty held none text e f grows k) left)
