-- Laws of the frames of a link.
use Rattle.std.proofs.Common.{[], ◌++◌, ◌+◌, ◌<◌, ◌∙◌, ◌∷◌, ◌≡◌, ◌≤◌, ◌⊎◌, ap, arith, inl, inr, length, length-append}
use Rattle.std.proofs.Common.{List, refl, slice_get, Some, suc, sym, zero, ℕ}
use Rattle.std.proofs.lemmas.List.{map-append}
use Rattle.rbc_link.specs.declared.sent.Sent.{Sent}
use Rattle.rbc_link.specs.Outgoing.{AreFrames, frame_by, frames_by, sent_as}
use Rattle.rbc_spec.specs.Frame.{Body, last_stamp}
use Rattle.rbc_spec.specs.Step.{numbered}

-- an item of a list with one more item is the last one, or was there before
get_more : {X : Type 0} (xs : List X) (x y : X) (i : ℕ) → slice_get (xs ++ x ∷ []) i ≡ Some y
    → (slice_get xs i ≡ Some y) ⊎ ((i ≡ length xs) × (x ≡ y))
get_more [] x y zero is = inr (refl, cc)
get_more [] x y (suc i) is = cc
get_more (z ∷ zs) x y zero is = inl is
get_more (z ∷ zs) x y (suc i) is = elim (get_more zs x y i is) [
  | inl before ↦ inl before
  | inr last ↦ inr (omega (arith, last.0), last.1)
]

-- one more frame, with the next number
pub frames_more : {B : Type 0} (frames more : List (Sent B)) (number stamp : ℕ) (body : B)
    → more ≡ frames ++ sent_as number stamp body ∷ [] → number ≡ length frames + 1
    → length frames < 65536 → (1 ≤ stamp) × (stamp ≤ last_stamp) → AreFrames frames → AreFrames more
frames_more frames more number stamp body pushed next low stamped are = record {
  count = rw pushed (simp (length-append) (omega (arith, low)));
  each = λ i f is. elim (get_more frames (sent_as number stamp body) f i
      (ap (λ xs. slice_get xs i) (sym pushed) ∙ is)) [
        | inl before ↦ are.each i f before
        | inr last ↦ rw (← last.1) (record { number = omega (arith, last.0, next); stamp = stamped })
      ];
}

-- as frames of the rules, the sent frames grow by the body with the number of the rules
pub numbered_more : {B : Type 0} (meaning : B → Body) (frames more : List (Sent B)) (number stamp : ℕ) (body : B)
    → more ≡ frames ++ sent_as number stamp body ∷ [] → number ≡ length frames + 1
    → frames_by meaning more ≡ frames_by meaning frames ++ numbered stamp (length frames) (meaning body ∷ [])
numbered_more meaning frames more number stamp body pushed next =
    rw (pushed, next) (map-append (frame_by meaning) frames (sent_as (length frames + 1) stamp body ∷ []))
