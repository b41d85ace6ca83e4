-- Texts that are written in parts.
use Rattle.std.proofs.Common.{[], ◌++◌, ◌+◌, ◌∙◌, ◌≡◌, ap, append-nil, append_assoc, drop, drop-drop, List, None}
use Rattle.std.proofs.Common.{Option, refl, Some, subst, sym, take, take-append-drop, ℕ}
use Rattle.std.proofs.Math.Seq.{take-add}
use Rattle.std.specs.Io.KnownBytes.{Appends, Keeps}
use Rattle.serve_line.specs.Sendings.{HasBegun, IsWritten}

pub appends_then : (a b c : Option (List ℕ)) (xs ys : List ℕ) → Appends a b xs → Appends b c ys
    → Appends a c (xs ++ ys)
appends_then None b c xs ys h k = tt
appends_then (Some p) None c xs ys h k = absurd h
appends_then (Some p) (Some q) None xs ys h k = absurd k
appends_then (Some p) (Some q) (Some r) xs ys h k = k ∙ ap (λ zs. zs ++ ys) h ∙ append_assoc p xs ys

appends_none : (a : Option (List ℕ)) → Appends a a []
appends_none None = tt
appends_none (Some p) = sym (append-nil p)

keeps_none : (a b : Option (List ℕ)) → Keeps a b → Appends a b []
keeps_none None b h = tt
keeps_none (Some p) None h = absurd h
keeps_none (Some p) (Some q) h = h ∙ sym (append-nil p)

-- nothing is written yet
pub none_written : (text : List ℕ) (a : Option (List ℕ)) → IsWritten text text a a
none_written text a = record { count = 0; left = refl; written = appends_none a }

-- nothing is written, and the writer is as before
pub kept_written : (text : List ℕ) (a b : Option (List ℕ)) → Keeps a b → IsWritten text text a b
kept_written text a b h = record { count = 0; left = refl; written = keeps_none a b h }

-- a part is written
pub part_written :
    (text rest : List ℕ) (n : ℕ) (a b : Option (List ℕ)) → rest ≡ drop n text → Appends a b (take n text)
    → IsWritten text rest a b
part_written text rest n a b left written = record { count = n; left = left; written = written }

-- a further part is written
pub written_then :
    (text mid rest : List ℕ) (a b c : Option (List ℕ)) → IsWritten text mid a b → IsWritten mid rest b c
    → IsWritten text rest a c
written_then text mid rest a b c first next = record {
  count = first.count + next.count;
  left = next.left ∙ ap (drop next.count) first.left ∙ drop-drop next.count first.count text;
  written = subst (λ (bytes : List ℕ). Appends a c bytes)
      (ap (λ (bytes : List ℕ). take first.count text ++ take next.count bytes) first.left
      ∙ sym (take-add first.count next.count text))
      (appends_then a b c (take first.count text) (take next.count mid) first.written next.written);
}

-- without a rest the whole text is written
pub whole_written :
    (text rest : List ℕ) (a b : Option (List ℕ)) → rest ≡ [] → IsWritten text rest a b → Appends a b text
whole_written text rest a b none is =
    subst (λ (bytes : List ℕ). Appends a b bytes)
    (sym (append-nil (take is.count text))
    ∙ ap (λ (bytes : List ℕ). take is.count text ++ bytes) (sym none ∙ is.left)
    ∙ take-append-drop is.count text)
    is.written

-- the first bytes are written
pub has_begun : (text rest : List ℕ) (a b : Option (List ℕ)) → IsWritten text rest a b → HasBegun text a b
has_begun text rest a b is = record { count = is.count; written = is.written }

-- the next bytes are written
pub next_written :
    (text mid rest : List ℕ) (n : ℕ) (a b c : Option (List ℕ)) → IsWritten text mid a b → rest ≡ drop n mid
    → Appends b c (take n mid) → IsWritten text rest a c
next_written text mid rest n a b c first left written =
    written_then text mid rest a b c first (part_written mid rest n b c left written)

-- the last part is written
pub begun_then :
    (text mid rest : List ℕ) (a b c : Option (List ℕ)) → IsWritten text mid a b → IsWritten mid rest b c
    → HasBegun text a c
begun_then text mid rest a b c first next = has_begun text rest a c (written_then text mid rest a b c first next)

-- the steps of a text that is written in parts
pub ruleset written_steps =
    (none_written, kept_written, part_written, next_written, written_then, whole_written, has_begun, begun_then)
