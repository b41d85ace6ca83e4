-- Laws of the queues between centres: a delivery takes the head of a queue or nothing, an act adds at the ends.
use Rattle.std.proofs.Common.{[], ⊎_elim, ◌++◌, ◌+◌, ◌<◌, ◌==◌, ◌∙◌, ◌∷◌, ◌≡◌, ◌≢◌, ◌≤◌, ◌⊎◌, All, ap, append-nil}
use Rattle.std.proofs.Common.{arith, drop, eq-eqb, inl, inr, length, length-append, List, ne_eqb, refl, slice_get, Some}
use Rattle.std.proofs.Common.{subst, subst₂, suc, sym, zero, ℕ}
use Rattle.std.proofs.lemmas.Bool.{cases_eq, cond-false, cond-true}
use Rattle.std.proofs.lemmas.List.{drop-append-le}
use Rattle.std.proofs.lemmas.List.Elements.{All-append, All-head, All-nil, All-tail}
use Rattle.law_base.proofs.CountingLemmas.Sums.{cases_link, put_keeps, put_link_other, put_link_same, put_other}
use Rattle.law_base.proofs.CountingLemmas.Sums.{put_same}
use Rattle.law_base.specs.Counting.Network.{acted, came, EachOnTheWay, IsCounted, Net, numbered, TakesHead, to_one}
use Rattle.law_base.specs.Counting.Network.{took, way}
use Rattle.law_base.specs.Counting.Sums.{put}

-- the list from a position on begins with the frame at that position
at_place : {F : Type 0} (fs : List F) (k : ℕ) (f : F) → slice_get fs k ≡ Some f → drop k fs ≡ f ∷ drop (suc k) fs
at_place [] k f e = absurd (cc)
at_place (g ∷ fs) zero f e = ap (λ x. x ∷ fs) (let h : Some g ≡ Some f = e in cc)
at_place (g ∷ fs) (suc k) f e = at_place fs k f e

-- if something is left after k frames, the list is longer than k
left_over : {F : Type 0} (fs : List F) (k : ℕ) (f : F) (rest : List F) → drop k fs ≡ f ∷ rest → k < length fs
left_over [] zero f rest e = absurd (cc)
left_over [] (suc k) f rest e = absurd (cc)
left_over (g ∷ fs) zero f rest e = omega arith
left_over (g ∷ fs) (suc k) f rest e = omega (arith, left_over fs k f rest e)

-- the count of a link of which one more was taken
counted_up : {X F : Type 0} (w : Net X F) (a b : ℕ) → (took w a b).taken a b ≡ suc (w.taken a b)
counted_up w a b = omega (arith, put_link_same w.taken a b (w.taken a b + 1))

-- the next frame is the head of the frames on the way, and the others follow it
pub next_is_head : {X F : Type 0} (w : Net X F) (a b : ℕ) (f : F)
    → numbered (w.sent a b) (suc (w.taken a b)) ≡ Some f → TakesHead w a b f
next_is_head w a b f next =
    record {
      head = at_place (w.sent a b) (w.taken a b) f next
          ∙ ap (λ k. f ∷ drop k (w.sent a b)) (sym (counted_up w a b));
    }

-- the next frame that arrives is taken
pub came_next : {X F : Type 0} (w : Net X F) (a b number : ℕ) → number ≡ w.taken a b + 1
    → came w a b number ≡ took w a b
came_next w a b number next = cond-true (number == w.taken a b + 1) (took w a b) w
    (eq-eqb number (w.taken a b + 1) next)

-- an old or early one changes nothing
pub came_other : {X F : Type 0} (w : Net X F) (a b number : ℕ) → number ≢ w.taken a b + 1 → came w a b number ≡ w
came_other w a b number other = cond-false (number == w.taken a b + 1) (took w a b) w
    (ne_eqb number (w.taken a b + 1) other)

-- the next frame, by its number, is the head of the frames on the way
pub came_head : {X F : Type 0} (w : Net X F) (a b number : ℕ) (f : F) → numbered (w.sent a b) number ≡ Some f
    → number ≡ w.taken a b + 1 → TakesHead w a b f
came_head w a b number f sent next =
    let counted : suc (w.taken a b) ≡ number = omega arith in
    next_is_head w a b f (ap (numbered (w.sent a b)) counted ∙ sent)

-- a frame that was ever sent arrives, again, late or early: the head of the queue is taken, or nothing happens
pub came_either : {X F : Type 0} (w : Net X F) (a b number : ℕ) (f : F) → numbered (w.sent a b) number ≡ Some f
    → (TakesHead w a b f × (came w a b number ≡ took w a b)) ⊎ (came w a b number ≡ w)
came_either w a b number f sent = ⊎_elim
    (λ (next : number ≡ w.taken a b + 1). inl (came_head w a b number f sent next, came_next w a b number next))
    (λ (other : number ≢ w.taken a b + 1). inr (came_other w a b number other))
    (cases_eq number (w.taken a b + 1))

-- the frames on the other links stay on the way
pub way_took_other : {X F : Type 0} (w : Net X F) (a b i j : ℕ) → (i ≡ a → j ≢ b) → way (took w a b) i j ≡ way w i j
way_took_other w a b i j apart = ap (λ k. drop k (w.sent i j)) (put_link_other w.taken a b (w.taken a b + 1) i j apart)

-- the frames of an act are at the end of those on the way
pub way_acted : {X F : Type 0} (w : Net X F) (c : ℕ) (x : X) (frames : ℕ → List F) → IsCounted w → (d : ℕ)
    → way (acted w c x frames) c d ≡ way w c d ++ frames d
way_acted w c x frames counted d =
    ap (λ row. drop (w.taken c d) (row d)) (put_same w.sent c (λ b. w.sent c b ++ frames b))
    ∙ drop-append-le (w.taken c d) (w.sent c d) (frames d) (counted.counts c d)

-- an act adds nothing to the links of other centres
pub way_acted_other : {X F : Type 0} (w : Net X F) (c : ℕ) (x : X) (frames : ℕ → List F) (a b : ℕ) → a ≢ c
    → way (acted w c x frames) a b ≡ way w a b
way_acted_other w c x frames a b apart =
    ap (λ row. drop (w.taken a b) (row b)) (put_other w.sent c (λ d. w.sent c d ++ frames d) a apart)

-- an act that sends nothing leaves all that is on the way
pub way_acted_none : {X F : Type 0} (w : Net X F) (c : ℕ) (x : X) (a b : ℕ)
    → way (acted w c x (λ d. [])) a b ≡ way w a b
way_acted_none w c x a b =
    ap (drop (w.taken a b)) (put_keeps (λ i row. row b) w.sent c (λ d. w.sent c d ++ []) (append-nil (w.sent c b)) a)

-- frames to one centre: those that it gets, and those of others
pub to_one_same : {F : Type 0} (d : ℕ) (frames : List F) → to_one d frames d ≡ frames
to_one_same d frames = cond-true (d == d) frames [] (eq-eqb d d refl)

-- no other centre is sent any
pub to_one_other : {F : Type 0} (d : ℕ) (frames : List F) (b : ℕ) → b ≢ d → to_one d frames b ≡ []
to_one_other d frames b apart = cond-false (b == d) frames [] (ne_eqb b d apart)

-- a net in which nothing was sent
pub counted_start : {X F : Type 0} (at : ℕ → X)
    → IsCounted {X = X} {F = F} (record { at = at; sent = λ a b. []; taken = λ a b. 0 })
counted_start at = record { counts = λ a b. omega arith }

-- when the head of a queue is taken, the counts still do not exceed the number of frames sent
pub counted_took : {X F : Type 0} (w : Net X F) (a b : ℕ) (f : F) → TakesHead w a b f → IsCounted w
    → IsCounted (took w a b)
counted_took w a b f takes counted = record {
  counts = λ i j. ⊎_elim
      (λ (here : i ≡ a). ⊎_elim
      (λ (same : j ≡ b). subst (λ k. (took w a b).taken k j ≤ length (w.sent k j)) (sym here)
      (subst (λ k. (took w a b).taken a k ≤ length (w.sent a k)) (sym same)
      (omega (arith, counted_up w a b, left_over (w.sent a b) (w.taken a b) f (way (took w a b) a b) takes.head))))
      (λ (apart : j ≢ b).
      omega (arith, put_link_other w.taken a b (w.taken a b + 1) i j (λ _. apart), counted.counts i j))
      (cases_eq j b))
      (λ (apart : i ≢ a).
      omega (arith, put_link_other w.taken a b (w.taken a b + 1) i j (λ e. absurd (apart e)), counted.counts i j))
      (cases_eq i a);
}

-- when a centre acts, the counts still do not exceed the number of frames sent
pub counted_acted : {X F : Type 0} (w : Net X F) (c : ℕ) (x : X) (frames : ℕ → List F) → IsCounted w
    → IsCounted (acted w c x frames)
counted_acted w c x frames counted = record {
  counts = λ a b. ⊎_elim
      (λ (here : a ≡ c). subst (λ k. w.taken k b ≤ length (put w.sent c (λ d. w.sent c d ++ frames d) k b)) (sym here)
      (omega (
        arith,
        ap (λ row. length (row b)) (put_same w.sent c (λ d. w.sent c d ++ frames d)),
        length-append (w.sent c b) (frames b),
        counted.counts c b,
      )))
      (λ (apart : a ≢ c). omega (
        arith,
        ap (λ row. length (row b)) (put_other w.sent c (λ d. w.sent c d ++ frames d) a apart),
        counted.counts a b,
      ))
      (cases_eq a c);
}

-- after each arriving frame, the counts still do not exceed the number of frames sent
pub counted_came : {X F : Type 0} (w : Net X F) (a b number : ℕ) (f : F) → numbered (w.sent a b) number ≡ Some f
    → IsCounted w → IsCounted (came w a b number)
counted_came w a b number f sent counted = ⊎_elim
    (λ (head : TakesHead w a b f × (came w a b number ≡ took w a b)). subst IsCounted (sym head.1)
    (counted_took w a b f head.0 counted))
    (λ (same : came w a b number ≡ w). subst IsCounted (sym same) counted)
    (came_either w a b number f sent)

-- if nothing was sent, each frame on the way has the property
pub each_start : {X F : Type 0} (P : ℕ → ℕ → F → Type 0) (w : Net X F) → ((a b : ℕ) → way w a b ≡ [])
    → EachOnTheWay P w
each_start P w unsent = record { each = λ a b. subst (All (P a b)) (sym (unsent a b)) (All-nil (P a b)) }

-- each frame on the way has the property after an act, if each frame that the act sends has it
pub each_acted : {X F : Type 0} (P : ℕ → ℕ → F → Type 0) (w : Net X F) (c : ℕ) (x : X) (frames : ℕ → List F)
    → IsCounted w → ((d : ℕ) → All (P c d) (frames d)) → EachOnTheWay P w → EachOnTheWay P (acted w c x frames)
each_acted P w c x frames counted sends on_way = record {
  each = λ a b. ⊎_elim
      (λ (here : a ≡ c). subst (λ k. All (P k b) (way (acted w c x frames) k b)) (sym here)
      (subst (All (P c b)) (sym (way_acted w c x frames counted b))
      (All-append (P c b) (way w c b) (frames b) (on_way.each c b) (sends b))))
      (λ (apart : a ≢ c). subst (All (P a b)) (sym (way_acted_other w c x frames a b apart)) (on_way.each a b))
      (cases_eq a c);
}

-- the head of a queue is as it has to be
pub each_head : {X F : Type 0} (P : ℕ → ℕ → F → Type 0) (w : Net X F) (a b : ℕ) (f : F) → TakesHead w a b f
    → EachOnTheWay P w → P a b f
each_head P w a b f takes on_way = All-head (P a b) f (way (took w a b) a b)
    (subst (All (P a b)) takes.head (on_way.each a b))

-- when the head of a queue is taken, each other frame on the way still has the property
pub each_took : {X F : Type 0} (P : ℕ → ℕ → F → Type 0) (w : Net X F) (a b : ℕ) (f : F) → TakesHead w a b f
    → EachOnTheWay P w → EachOnTheWay P (took w a b)
each_took P w a b f takes on_way = record {
  each = λ i j. ⊎_elim
      (λ (here : (i ≡ a) × (j ≡ b)). subst₂ (λ k l. All (P k l) (way (took w a b) k l)) (sym here.0) (sym here.1)
      (All-tail (P a b) f (way (took w a b) a b) (subst (All (P a b)) takes.head (on_way.each a b))))
      (λ (apart : i ≡ a → j ≢ b). subst (All (P i j)) (sym (way_took_other w a b i j apart)) (on_way.each i j))
      (cases_link i j a b);
}
