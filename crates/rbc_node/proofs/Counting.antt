-- Places, counted up to two.
use Rattle.std.proofs.Common.{[], ◌++◌, ◌+◌, ◌<◌, ◌==◌, ◌∙◌, ◌∷◌, ◌≡◌, ◌≤◌, All, ap, arith, Bool, cond, drop}
use Rattle.std.proofs.Common.{if◌then◌else◌, inl, inr, IsTrue, length, List, min, refl, slice_index, slice_index_or}
use Rattle.std.proofs.Common.{subst, sym, zero-add, ℕ}
use Rattle.std.proofs.lemmas.Bool.Decides.{eqb_tells}
use Rattle.std.proofs.lemmas.List.{drop_more, get_or-replicate, get_or-set_other, get_or-set_same, length-replicate}
use Rattle.std.proofs.lemmas.List.{length-set}
use Rattle.std.proofs.lemmas.List.Concat.{flat_map-cons}
use Rattle.std.proofs.lemmas.List.Elements.{All-from_get_or}
use Rattle.std.proofs.lemmas.List.Sums.{sum_by-cons}
use Rattle.std.proofs.Math.ListN.{replicate}
use Rattle.std.specs.List.{count_by}
use Rattle.rbc_centre.specs.States.{number_of}
use Rattle.rbc_log.specs.Log.{LogValue}
use Rattle.rbc_node.specs.Counted.{counted, counted_once}
use Rattle.rbc_node.specs.Gather.{HasEachOnce, places_in, places_of}
use Rattle.rbc_node.specs.Receipts.{ShareValue}

pub length-counted : (cs ps : List ℕ) → length (counted cs ps) ≡ length cs
length-counted cs [] = refl
length-counted cs (p ∷ ps) = length-counted (counted_once cs p) ps ∙ length-set cs p (min 2 (slice_index cs p + 1))

pub counted-append : (cs ps qs : List ℕ) → counted cs (ps ++ qs) ≡ counted (counted cs ps) qs
counted-append cs [] qs = refl
counted-append cs (p ∷ ps) qs = counted-append (counted_once cs p) ps qs

-- one share more is counted
pub counted-share : (c : ℕ) (old new : List ℕ) (shares : List ShareValue) (i : ℕ) (s : ShareValue) → i < length shares
    → slice_index_or shares i s ≡ s → new ≡ counted old (places_in c s)
    → counted new (places_of c (drop (i + 1) shares)) ≡ counted old (places_of c (drop i shares))
counted-share c old new shares i s within at is =
    let here : drop i shares ≡ s ∷ drop (i + 1) shares =
    drop_more shares i s within ∙ ap (λ (x : ShareValue). x ∷ drop (i + 1) shares) at in
    ap (λ cs. counted cs (places_of c (drop (i + 1) shares))) is
    ∙ (sym (counted-append old (places_in c s) (places_of c (drop (i + 1) shares)))
    ∙ (ap (counted old) (sym (flat_map-cons (places_in c) s (drop (i + 1) shares)))
    ∙ ap (λ ss. counted old (places_of c ss)) (sym here)))

once-at : (cs : List ℕ) (p k : ℕ) → k < length cs
    → slice_index (counted_once cs p) k ≡ (if p == k then min 2 (slice_index cs k + 1) else slice_index cs k)
once-at cs p k within = elim (eqb_tells p k) [
  | inl h ↦
      subst (λ q. slice_index (counted_once cs q) k ≡ min 2 (slice_index cs k + 1)) (sym h.1)
      (get_or-set_same cs k (min 2 (slice_index cs k + 1)) 0 within)
      ∙ sym (ap (λ b. if b then min 2 (slice_index cs k + 1) else slice_index cs k) h.0)
  | inr h ↦ get_or-set_other cs p k (min 2 (slice_index cs p + 1)) 0 (λ e. h.1 (sym e))
      ∙ sym (ap (λ b. if b then min 2 (slice_index cs k + 1) else slice_index cs k) h.0)
]

count-cons : (p k : ℕ) (ps : List ℕ)
    → count_by (λ q. q == k) (p ∷ ps) ≡ (if p == k then 1 else 0) + count_by (λ q. q == k) ps
count-cons p k ps = sum_by-cons (λ q. cond (q == k) 1 0) p ps

-- each count is how often its place was named, up to two
counted-at : (cs ps : List ℕ) (k : ℕ) → k < length cs → slice_index cs k ≤ 2
    → slice_index (counted cs ps) k ≡ min 2 (slice_index cs k + count_by (λ p. p == k) ps)
counted-at cs [] k within low = omega arith
counted-at cs (p ∷ ps) k within low =
    let here = once-at cs p k within in
    let long = length-set cs p (min 2 (slice_index cs p + 1)) in
    elim (eqb_tells p k) [
      | inl h ↦
          let now : slice_index (counted_once cs p) k ≡ min 2 (slice_index cs k + 1) =
          here ∙ ap (λ b. if b then min 2 (slice_index cs k + 1) else slice_index cs k) h.0 in
          let rest = counted-at (counted_once cs p) ps k (omega arith) (omega arith) in
          let count : count_by (λ q. q == k) (p ∷ ps) ≡ 1 + count_by (λ q. q == k) ps =
          count-cons p k ps ∙ ap (λ b. (if b then 1 else 0) + count_by (λ q. q == k) ps) h.0 in
          omega arith
      | inr h ↦
          let now : slice_index (counted_once cs p) k ≡ slice_index cs k =
          here ∙ ap (λ b. if b then min 2 (slice_index cs k + 1) else slice_index cs k) h.0 in
          let rest = counted-at (counted_once cs p) ps k (omega arith) (omega arith) in
          let count : count_by (λ q. q == k) (p ∷ ps) ≡ count_by (λ q. q == k) ps =
          count-cons p k ps ∙ ap (λ b. (if b then 1 else 0) + count_by (λ q. q == k) ps) h.0 ∙ zero-add _ in
          omega arith
    ]

-- from zeros, each count is one if and only if each position was named once
module _ (zeros ps : List ℕ) (none : (k : ℕ) → k < length zeros → slice_index zeros k ≡ 0) where
  pub each_once : All (λ c. c ≡ 1) (counted zeros ps) → (k : ℕ) → k < length zeros → count_by (λ p. p == k) ps ≡ 1
  each_once all k within =
      let one = all k 0 (let long = length-counted zeros ps in omega (arith, within, long)) in
      let start = none k within in
      let count = counted-at zeros ps k within (omega (arith, start)) in
      omega (arith, one, start, count)

  pub all_ones : ((k : ℕ) → k < length zeros → count_by (λ p. p == k) ps ≡ 1) → All (λ c. c ≡ 1) (counted zeros ps)
  all_ones once = from_zero (counted zeros ps) (λ k within.
      let here : k < length zeros = (let long = length-counted zeros ps in omega (arith, within, long)) in
      let start = none k here in
      let count = counted-at zeros ps k here (omega (arith, start)) in
      let named = once k here in
      omega (arith, start, count, named))
    where
      from_zero : (cs : List ℕ) → ((k : ℕ) → k < length cs → slice_index cs k ≡ 1) → All (λ c. c ≡ 1) cs
      from_zero cs each k d within = All-from_get_or (λ c. c ≡ 1) cs 0 each k d within

-- counts from zero decide whether each entry of the log has one receipt
pub ones_tell : (shares : List ShareValue) (l : LogValue) (zeros counts : List ℕ) (answer : Bool)
    → zeros ≡ replicate (length l.entries) 0
    → counts ≡ counted zeros (places_of (number_of l.core) shares)
    → (IsTrue answer → All (λ c. c ≡ 1) counts) × (All (λ c. c ≡ 1) counts → IsTrue answer)
    → (IsTrue answer → HasEachOnce shares l) × (HasEachOnce shares l → IsTrue answer)
ones_tell shares l zeros counts answer start is tells =
    let long : length zeros ≡ length l.entries = ap length start ∙ length-replicate (length l.entries) 0 in
    let none : (k : ℕ) → k < length zeros → slice_index zeros k ≡ 0 = λ k within. ap (λ zs. slice_index zs k) start
    ∙ get_or-replicate (length l.entries) k 0 0 (omega (arith, within, long)) in
    let places : List ℕ = places_of (number_of l.core) shares in (
      λ h. record {
        each =
            λ k within. each_once zeros places none (subst (All (λ c. c ≡ 1)) is (tells.0 h)) k
            (omega (arith, within, long));
      },
      λ h. tells.1 (subst (All (λ c. c ≡ 1)) (sym is)
          (all_ones zeros places none (λ k within. h.each k (omega (arith, within, long))))),
    )
