-- The answer of gathering, from the effect of uniting the logs, and single steps of the tests of logs and shares.
use Rattle.std.proofs.Common.{[], ◌+◌, ◌<◌, ◌==◌, ◌∙◌, ◌∷◌, ◌≡◌, ◌≤◌, All, ap, arith, Bool, Err, false, inl, inr}
use Rattle.std.proofs.Common.{IsTrue, length, List, map, ne_eqb, None, Ok, Option, refl, Result, slice_get}
use Rattle.std.proofs.Common.{slice_index_or, Some, subst, sym, take, true, ℕ}
use Rattle.std.proofs.lemmas.List.{take_all}
use Rattle.std.proofs.lemmas.List.Elements.{All-more}
use Rattle.std.proofs.lemmas.List.Sorted.{length_permutation}
use Rattle.std.proofs.lemmas.Option.{same_Some}
use Rattle.law_logs.specs.Logs.{sent_to}
use Rattle.rbc_centre.specs.declared.event.Event.TheVariants.{Deliver}
use Rattle.rbc_centre.specs.Views.{frame_number}
use Rattle.rbc_log.proofs.Copied.{some_entry}
use Rattle.rbc_log.specs.Entries.{entry_of}
use Rattle.rbc_log.specs.Log.{IsReplaying, LogValue}
use Rattle.rbc_log.specs.Merge.{all_entries}
use Rattle.rbc_node.specs.declared.gather_fault.GatherFault.{GatherFault}
use Rattle.rbc_node.specs.declared.gather_fault.GatherFault.TheVariants.{Centres, Foreign, Memory, Shares}
use Rattle.rbc_node.specs.Gather.{AreFound, Gathers, IsFound, IsGatherFault, IsOrdered, Unites}
use Rattle.rbc_node.specs.Receipts.{ShareValue}
use Rattle.rbc_node.specs.Sent.{IsSent}
use Rattle.rbc_spec.specs.Frame.{Frame}

-- ## The answers

pub unites : (given ordered : List LogValue) (shares : List ShareValue) (fault : GatherFault) → IsOrdered given ordered
    → IsGatherFault ordered shares fault → Unites given shares (Err fault)
unites given ordered shares Memory order is = inr (ordered, order, is)
unites given ordered shares Shares order is = (ordered, order, is)
unites given ordered shares Foreign order is = (ordered, order, is)
unites given ordered shares Centres order is = (ordered, order, is)

some_log : (logs : List LogValue) → 0 < length (all_entries logs) → 0 < length logs
some_log [] some = some
some_log (l ∷ logs) some = omega arith

pub gathers : (nodes : ℕ) (given : List LogValue) (shares : List ShareValue)
    (result : Result (List LogValue) GatherFault) → length given ≡ nodes → All IsReplaying given
    → Unites given shares result → Gathers nodes shares result
gathers nodes given shares (Ok family) count r is = (given, count, r, is)
gathers nodes given shares (Err Memory) count r is = elim is [
  | inl more ↦ omega (arith, count, more)
  | inr h ↦ let some = some_log (h.0) (h.2.1) in let same = length_permutation given (h.0) (h.1).same in
      omega (arith, count, some, same)
]
gathers nodes given shares (Err Shares) count r is = (given, count, r, is)
gathers nodes given shares (Err Foreign) count r is = (given, count, r, is)
gathers nodes given shares (Err Centres) count r is = (given, count, r, is)

-- ## A loop that tests each

-- one more
pub all_more : {X : Type 0} (P : X → Type 0) (xs : List X) (i : ℕ) (x : X) → i < length xs → x ≡ slice_index_or xs i x
    → All P (take i xs) → P x → All P (take (i + 1) xs)
all_more P xs i x within at all here = All-more P xs i x within all (subst P at here)

-- none is left
pub all_of : {X : Type 0} (P : X → Type 0) (xs : List X) (i : ℕ) → length xs ≤ i → All P (take i xs) → All P xs
all_of P xs i past all = subst (All P) (take_all i xs past) all

map_itself : (logs : List LogValue) → map (λ l. l) logs ≡ logs
map_itself [] = refl
map_itself (l ∷ logs) = ap (λ ls. l ∷ ls) (map_itself logs)

-- if one log has an entry, all of them together have one
pub some_entry_of : (logs : List LogValue) (i : ℕ) (l : LogValue) → i < length logs → l ≡ slice_index_or logs i l
    → 0 < length l.entries → 0 < length (all_entries logs)
some_entry_of logs i l within at some =
    subst (λ (ls : List LogValue). 0 < length (all_entries ls)) (map_itself logs)
    (some_entry logs (λ m. m) i l within at some)

-- one is not so
pub not_all : {X : Type 0} (P : X → Type 0) (xs : List X) (i : ℕ) (x : X) → i < length xs → x ≡ slice_index_or xs i x
    → (P x → ⊥) → All P xs → ⊥
not_all P xs i x within at none all = none (subst P (sym at) (all i x within))

-- ## The entries of a log

empty_tells : {X : Type 0} (xs : List X) (answer : Bool) → answer ≡ (length xs == 0)
    → (IsTrue answer → xs ≡ []) × (xs ≡ [] → IsTrue answer)
empty_tells [] answer is = (λ h. refl, λ h. is)
empty_tells (x ∷ xs) answer is =
    let some : (length (x ∷ xs) == 0) ≡ false = ne_eqb (length (x ∷ xs)) 0 (λ h. absurd (omega (arith, h))) in (
      λ h. let wrong : true ≡ false = sym h ∙ (is ∙ some) in absurd cc,
      λ h. absurd cc,
    )

-- a share of a centre that has no log
pub none_found : (logs : List LogValue) (share : ShareValue) (answer : Bool) → slice_get logs share.centre ≡ None
    → answer ≡ (length share.receipts == 0)
    → (IsTrue answer → IsFound logs share) × (IsFound logs share → IsTrue answer)
none_found logs share answer none tells =
    let empty = empty_tells share.receipts answer tells in (
      λ h. record { found = subst (λ o. AreFound o share.receipts) (sym none) (empty.0 h) },
      λ h. empty.1 (subst (λ o. AreFound o share.receipts) none h.found),
    )

-- the frame that the sender's log has under the number
pub sent_if : (logs : List LogValue) (c from : ℕ) (frame : Frame) (l : LogValue) (o : Option Frame) (answer : Bool)
    → slice_get logs from ≡ Some l
    → o ≡ frame_number (sent_to c (map entry_of l.entries)) frame.number
    → (IsTrue answer → o ≡ Some frame) × (o ≡ Some frame → IsTrue answer)
    → (IsTrue answer → IsSent logs c (Deliver from frame)) × (IsSent logs c (Deliver from frame) → IsTrue answer)
sent_if logs c from frame l o answer at is tells = (
  λ h. (l, at, sym is ∙ tells.0 h),
  λ h.
      let same : h.0 ≡ l = same_Some h.0 l (sym h.1 ∙ at) in
      tells.1
      (is ∙ subst (λ (m : LogValue). frame_number (sent_to c (map entry_of m.entries)) frame.number ≡ Some frame) same
      h.2),
)

-- the sender has no log
pub not_sent : (logs : List LogValue) (c from : ℕ) (frame : Frame) → slice_get logs from ≡ None
    → IsSent logs c (Deliver from frame) → ⊥
not_sent logs c from frame none h = let wrong : ◌≡◌ {A = Option LogValue} None (Some h.0) = sym none ∙ h.1 in absurd cc
