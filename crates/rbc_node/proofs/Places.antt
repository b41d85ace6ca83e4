-- Logs, each at the position of its centre's number.
use Rattle.std.proofs.Common.{[], ◌+◌, ◌==◌, ◌∙◌, ◌∷◌, ◌≡◌, All, ap, arith, false, if◌then◌else◌, List, map, ne_eqb}
use Rattle.std.proofs.Common.{None, Option, refl, slice_get, Some, subst, suc, zero, ℕ}
use Rattle.std.proofs.lemmas.Bool.{eq-eqb}
use Rattle.std.proofs.lemmas.Option.{get_or_from_slice_get, slice_get_within}
use Rattle.std.specs.Option.{option_map_or}
use Rattle.rbc_centre.specs.States.{number_of}
use Rattle.rbc_log.specs.Entries.{entry_of}
use Rattle.rbc_log.specs.Log.{LogValue}
use Rattle.rbc_log.specs.Merge.{log_of, logs_by}
use Rattle.rbc_node.specs.Gather.{AreAtPlaces}
use Rattle.rbc_spec.specs.Line.{Line}

-- a property of all items holds of the one at a position
pub all_get : {X : Type 0} (P : X → Type 0) (xs : List X) (i : ℕ) (x : X) → All P xs → slice_get xs i ≡ Some x → P x
all_get P xs i x all is = subst P (get_or_from_slice_get xs i x x is) (all i x (slice_get_within xs i x is))

from_place : (k : ℕ) (logs : List LogValue)
    → ((i : ℕ) (l : LogValue) → slice_get logs i ≡ Some l → number_of l.core ≡ k + i) → (i c : ℕ) → c ≡ k + i
    → log_of c logs ≡ slice_get logs i
from_place k [] each i c is = refl
from_place k (l ∷ ls) each zero c is =
    let here : number_of l.core ≡ k + 0 = each 0 l refl in
    ap (λ b. if b then Some l else log_of c ls) (eq-eqb (number_of l.core) c (omega (arith, here, is)))
from_place k (l ∷ ls) each (suc i) c is =
    let here : number_of l.core ≡ k + 0 = each 0 l refl in
    let apart : (number_of l.core == c) ≡ false =
    ne_eqb (number_of l.core) c (λ (h : number_of l.core ≡ c). absurd (omega (arith, here, is, h))) in
    ap (λ b. if b then Some l else log_of c ls) apart
    ∙ from_place (k + 1) ls (λ j m at. omega (arith, each (suc j) m at)) i c (omega (arith, is))

module _ (line : Line) (logs : List LogValue) (at : AreAtPlaces line logs) where
  pub at_place : (c : ℕ) → log_of c logs ≡ slice_get logs c
  at_place c = from_place 0 logs (λ i l is. omega (arith, at.each i l is)) c c (omega arith)

  pub log_at : (c : ℕ) (l : LogValue) → slice_get logs c ≡ Some l → logs_by logs c ≡ map entry_of l.entries
  log_at c l is =
      ap (λ (o : Option LogValue). option_map_or (λ (m : LogValue). map entry_of m.entries) o []) (at_place c ∙ is)

  pub no_log_at : (c : ℕ) → slice_get logs c ≡ None → logs_by logs c ≡ []
  no_log_at c is =
      ap (λ (o : Option LogValue). option_map_or (λ (m : LogValue). map entry_of m.entries) o []) (at_place c ∙ is)
