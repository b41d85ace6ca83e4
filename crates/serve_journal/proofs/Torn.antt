-- The file of a journal after a failed append: it begins with the durable bytes.
use Rattle.std.proofs.Common.{◌++◌, ◌∙◌, ◌≡◌, ap, arith, false, length, List, refl, sym, take, true, ℕ}
use Rattle.std.proofs.lemmas.List.{take-append-le, take_all}
use Rattle.std.specs.Io.KnownBytes.{append_known}
use Rattle.std.specs.Prelude.{IfSome, None, Option, Some}
use Rattle.serve_journal.specs.Bytes.{cut_to, IsCut}

abbrev pub HasLength : ℕ → Option (List ℕ) → Type 0
HasLength n known = IfSome known (λ bytes. length bytes ≡ n)

take_first : (n : ℕ) (bytes more : List ℕ) → length bytes ≡ n → take n (bytes ++ more) ≡ bytes
take_first n bytes more is = take-append-le n bytes more (omega arith) ∙ take_all n bytes (omega arith)

keeps_first : (n : ℕ) (more : List ℕ) (durable : Option (List ℕ)) → HasLength n durable
    → cut_to n (append_known durable more) ≡ durable
keeps_first n more None is = refl
keeps_first n more (Some bytes) is = ap (λ (xs : List ℕ). Some xs) (take_first n bytes more is)

is_whole : (n : ℕ) (durable : Option (List ℕ)) → HasLength n durable → cut_to n durable ≡ durable
is_whole n None is = refl
is_whole n (Some bytes) is = ap (λ (xs : List ℕ). Some xs) (take_all n bytes (omega arith))

-- after a cut to the durable bytes, the file has no others
pub mended : (n : ℕ) (contents after durable new : Option (List ℕ)) → HasLength n durable → cut_to n contents ≡ durable
    → IsCut n contents after → new ≡ cut_to n durable → (after ≡ new) × HasLength n new
mended n contents after durable new has first cut is =
    let same : new ≡ durable = is ∙ is_whole n durable has in
    (cut.kept ∙ first ∙ sym same, rw same has)

-- after a failed append, the file begins with the durable bytes
pub torn : (n : ℕ) (contents after durable new : Option (List ℕ)) (more : List ℕ) → contents ≡ durable
    → HasLength n durable → after ≡ append_known contents more → new ≡ durable
    → HasLength n new × (cut_to n after ≡ new) × (true ≡ false → after ≡ new)
torn n contents after durable new more same has grown is =
    let begins : cut_to n after ≡ new =
    ap (λ (known : Option (List ℕ)). cut_to n known)
    (grown ∙ ap (λ (known : Option (List ℕ)). append_known known more) same)
    ∙ keeps_first n more durable has ∙ sym is
    in
    (rw is has, begins, λ never. grind (arith, never))
