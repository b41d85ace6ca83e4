-- A fair act, and the taking of the next frame, keep a resource within its cap.
use Rattle.std.proofs.Common.{[], ⊎_elim, ◌++◌, ◌+◌, ◌<◌, ◌∙◌, ◌∷◌, ◌≡◌, ◌≢◌, ◌≤◌, ap, arith, List, refl, Some, subst}
use Rattle.std.proofs.Common.{subst₂, sym, ℕ}
use Rattle.std.proofs.lemmas.Bool.{cases_eq}
use Rattle.law_base.proofs.CountingLemmas.Network.{came_head, came_next, came_other, counted_took, to_one_other}
use Rattle.law_base.proofs.CountingLemmas.Network.{to_one_same, way_acted, way_acted_other, way_took_other}
use Rattle.law_base.proofs.CountingLemmas.Sums.{cases_link, links_put, links_put_row, links_same, links_zero}
use Rattle.law_base.proofs.CountingLemmas.Sums.{put_link_other, put_link_same, put_other, put_same, sum_le, sum_only}
use Rattle.law_base.proofs.CountingLemmas.Sums.{sum_plus, sum_put_by, sum_same, sum_zero}
use Rattle.law_base.specs.Counting.Network.{acted, came, IsCounted, Net, numbered, TakesHead, to_one, took, way}
use Rattle.law_base.specs.Counting.Resource.{allowed, carried, IsAtCap, IsExact, IsFair, IsWithinCap, placed, Resource}
use Rattle.law_base.specs.Counting.Resource.{sent_by}
use Rattle.law_base.specs.Counting.Sums.{put, put_link, sum_below}

-- no frames have nothing inside
pub carried_none : {X F : Type 0} (r : Resource X F) (a b : ℕ) → carried r a b [] ≡ 0
unfolding carried
carried_none r a b = refl

-- one frame more
pub carried_more : {X F : Type 0} (r : Resource X F) (a b : ℕ) (f : F) (fs : List F)
    → carried r a b (f ∷ fs) ≡ r.inside a b f + carried r a b fs
unfolding carried
carried_more r a b f fs = refl

-- the amount inside two lists of frames is the sum of both
pub carried_append : {X F : Type 0} (r : Resource X F) (a b : ℕ) (fs gs : List F)
    → carried r a b (fs ++ gs) ≡ carried r a b fs + carried r a b gs
carried_append r a b [] gs = omega (arith, carried_none r a b)
carried_append r a b (f ∷ fs) gs =
    omega (arith, carried_more r a b f fs, carried_more r a b f (fs ++ gs), carried_append r a b fs gs)

-- an act that sends no frame
pub sent_none : {X F : Type 0} (r : Resource X F) (n c : ℕ) → sent_by r n c (λ d. []) ≡ 0
unfolding sent_by
sent_none r n c = sum_zero n (λ d. carried r c d []) (λ d small. carried_none r c d)

-- an act that sends an amount only to one centre
pub sent_to_only : {X F : Type 0} (r : Resource X F) (n c : ℕ) (frames : ℕ → List F) (b : ℕ) → b < n
    → ((d : ℕ) → d < n → d ≢ b → carried r c d (frames d) ≡ 0) → sent_by r n c frames ≡ carried r c b (frames b)
unfolding sent_by
sent_to_only r n c frames b small others = sum_only n (λ d. carried r c d (frames d)) b small others

-- an act whose frames all go to one centre
pub sent_to_one : {X F : Type 0} (r : Resource X F) (n c b : ℕ) (frames : List F) → b < n
    → sent_by r n c (to_one b frames) ≡ carried r c b frames
sent_to_one r n c b frames small =
    sent_to_only r n c (to_one b frames) b small
    (λ d below apart. ap (carried r c d) (to_one_other b frames d apart) ∙ carried_none r c d)
    ∙ ap (carried r c b) (to_one_same b frames)

-- an act that sends one frame
pub sent_single : {X F : Type 0} (r : Resource X F) (n c b : ℕ) (f : F) → b < n
    → sent_by r n c (to_one b (f ∷ [])) ≡ r.inside c b f
sent_single r n c b f small =
    omega (arith, sent_to_one r n c b (f ∷ []) small, carried_more r c b f [], carried_none r c b)

-- frames sent one act after another
pub sent_append : {X F : Type 0} (r : Resource X F) (n c : ℕ) (fs gs : ℕ → List F)
    → sent_by r n c (λ d. fs d ++ gs d) ≡ sent_by r n c fs + sent_by r n c gs
unfolding sent_by
sent_append r n c fs gs =
    sum_same n (λ d. carried r c d (fs d ++ gs d)) (λ d. carried r c d (fs d) + carried r c d (gs d))
    (λ d small. carried_append r c d (fs d) (gs d)) ∙ sum_plus n (λ d. carried r c d (fs d)) (λ d. carried r c d (gs d))

-- an act that sends nothing, holds no more and lets as much be out
pub fair_still : {X F : Type 0} (r : Resource X F) (n c : ℕ) (x y : X) → r.held c y ≤ r.held c x
    → r.cap c x ≤ r.cap c y → IsFair r n c x 0 y (λ d. [])
fair_still r n c x y holds lets = record { law = omega (arith, sent_none r n c) }

-- fair acts in order are a fair act
pub fair_seq : {X F : Type 0} (r : Resource X F) (n c : ℕ) (x y z : X) (came : ℕ) (fs gs : ℕ → List F)
    → IsFair r n c x came y fs → IsFair r n c y 0 z gs → IsFair r n c x came z (λ d. fs d ++ gs d)
fair_seq r n c x y z came fs gs one two = record { law = omega (arith, one.law, two.law, sent_append r n c fs gs) }

-- a fair act with a greater arriving amount
pub fair_more : {X F : Type 0} (r : Resource X F) (n c : ℕ) (x y : X) (came more : ℕ) (fs : ℕ → List F)
    → came ≤ more → IsFair r n c x came y fs → IsFair r n c x more y fs
fair_more r n c x y came more fs le fair = record { law = omega (arith, fair.law) }

-- an exact act is fair
pub fair_from_exact : {X F : Type 0} (r : Resource X F) (n c : ℕ) (x y : X) (came : ℕ) (fs : ℕ → List F)
    → IsExact r n c x came y fs → IsFair r n c x came y fs
fair_from_exact r n c x y came fs exact = record { law = omega (arith, exact.law) }

-- an act that sends nothing, holds as much and lets as much be out
pub exact_still : {X F : Type 0} (r : Resource X F) (n c : ℕ) (x y : X) → r.held c y ≡ r.held c x
    → r.cap c y ≡ r.cap c x → IsExact r n c x 0 y (λ d. [])
exact_still r n c x y holds lets = record { law = omega (arith, sent_none r n c) }

-- an act changes the whole amount by the change at its centre and by the amount sent
pub placed_acted : {X F : Type 0} (r : Resource X F) (n : ℕ) (w : Net X F) (c : ℕ) (x : X) (frames : ℕ → List F)
    → IsCounted w → c < n
    → placed r n (acted w c x frames) + r.held c (w.at c) ≡ placed r n w + r.held c x + sent_by r n c frames
unfolding placed sent_by
placed_acted r n w c x frames counted small =
    omega (
      arith,
      sum_put_by n r.held w.at c x small,
      links_same n after changed same,
      links_put_row n before c row small,
      sum_plus n (before c) (λ d. carried r c d (frames d)),
    )
  where
    before : ℕ → ℕ → ℕ
    before a b = carried r a b (way w a b)

    after : ℕ → ℕ → ℕ
    after a b = carried r a b (way (acted w c x frames) a b)

    row : ℕ → ℕ
    row d = before c d + carried r c d (frames d)

    changed : ℕ → ℕ → ℕ
    changed = put before c row

    here : (b : ℕ) → after c b ≡ changed c b
    here b = ap (carried r c b) (way_acted w c x frames counted b) ∙ carried_append r c b (way w c b) (frames b)
        ∙ sym (ap (λ on. on b) (put_same before c row))

    same : (a b : ℕ) → a < n → b < n → after a b ≡ changed a b
    same a b _ _ = ⊎_elim
        (λ (e : a ≡ c). subst (λ k. after k b ≡ changed k b) (sym e) (here b))
        (λ (apart : a ≢ c). ap (carried r a b) (way_acted_other w c x frames a b apart)
        ∙ sym (ap (λ on. on b) (put_other before c row a apart)))
        (cases_eq a c)

-- an act changes the allowed amount by the change of its centre's cap
pub allowed_acted : {X F : Type 0} (r : Resource X F) (n : ℕ) (w : Net X F) (c : ℕ) (x : X) (frames : ℕ → List F)
    → c < n → allowed r n (acted w c x frames) + r.cap c (w.at c) ≡ allowed r n w + r.cap c x
unfolding allowed
allowed_acted r n w c x frames small = sum_put_by n r.cap w.at c x small

-- the taking of the next frame lowers the whole amount by the amount inside the frame
pub placed_took : {X F : Type 0} (r : Resource X F) (n : ℕ) (w : Net X F) (a b : ℕ) (f : F) → TakesHead w a b f
    → a < n → b < n → placed r n (took w a b) + r.inside a b f ≡ placed r n w
unfolding placed
placed_took r n w a b f takes small below =
    omega (
      arith,
      links_same n after changed same,
      links_put n before a b (carried r a b (way (took w a b) a b)) small below,
      ap (carried r a b) takes.head,
      carried_more r a b f (way (took w a b) a b),
    )
  where
    before : ℕ → ℕ → ℕ
    before i j = carried r i j (way w i j)

    after : ℕ → ℕ → ℕ
    after i j = carried r i j (way (took w a b) i j)

    changed : ℕ → ℕ → ℕ
    changed = put_link before a b (after a b)

    same : (i j : ℕ) → i < n → j < n → after i j ≡ changed i j
    same i j _ _ = ⊎_elim
        (λ (e : (i ≡ a) × (j ≡ b)). subst₂ (λ k l. after k l ≡ changed k l) (sym e.0) (sym e.1)
        (sym (put_link_same before a b (after a b))))
        (λ (apart : i ≡ a → j ≢ b). ap (carried r i j) (way_took_other w a b i j apart)
        ∙ sym (put_link_other before a b (after a b) i j apart))
        (cases_link i j a b)

-- the taking of a frame keeps the allowed amount
pub allowed_took : {X F : Type 0} (r : Resource X F) (n : ℕ) (w : Net X F) (a b : ℕ)
    → allowed r n (took w a b) ≡ allowed r n w
unfolding allowed
allowed_took r n w a b = refl

-- if only one centre has a cap, that is the allowed amount
pub allowed_at : {X F : Type 0} (r : Resource X F) (n : ℕ) (w : Net X F) (h : ℕ) → h < n
    → ((c : ℕ) → c < n → c ≢ h → r.cap c (w.at c) ≡ 0) → allowed r n w ≡ r.cap h (w.at h)
unfolding allowed
allowed_at r n w h small others = sum_only n (λ c. r.cap c (w.at c)) h small others

-- if nothing is on the way, the whole amount is that of the centres
placed_unsent : {X F : Type 0} (r : Resource X F) (n : ℕ) (w : Net X F) → ((a b : ℕ) → way w a b ≡ [])
    → placed r n w ≡ sum_below n (λ c. r.held c (w.at c))
unfolding placed
placed_unsent r n w unsent =
    omega (
      arith,
      links_zero n (λ a b. carried r a b (way w a b)) (λ a b _ _. ap (carried r a b) (unsent a b)
          ∙ carried_none r a b),
    )

-- a net in which nothing is on the way and no centre holds more than it lets be out
pub within_start : {X F : Type 0} (r : Resource X F) (n : ℕ) (w : Net X F) → ((a b : ℕ) → way w a b ≡ [])
    → ((c : ℕ) → c < n → r.held c (w.at c) ≤ r.cap c (w.at c)) → IsWithinCap r n w
unfolding allowed
within_start r n w unsent holds =
    record {
      law = omega
          (arith, placed_unsent r n w unsent, sum_le n (λ c. r.held c (w.at c)) (λ c. r.cap c (w.at c)) holds);
    }

-- or holds just as much
pub at_cap_start : {X F : Type 0} (r : Resource X F) (n : ℕ) (w : Net X F) → ((a b : ℕ) → way w a b ≡ [])
    → ((c : ℕ) → c < n → r.held c (w.at c) ≡ r.cap c (w.at c)) → IsAtCap r n w
unfolding allowed
at_cap_start r n w unsent holds =
    record { law = placed_unsent r n w unsent ∙ sum_same n (λ c. r.held c (w.at c)) (λ c. r.cap c (w.at c)) holds }

-- a fair act of a centre by itself, as after an order or an old frame, keeps a resource within its cap
pub placed_sound : {X F : Type 0} (r : Resource X F) (n : ℕ) (w : Net X F) (c : ℕ) (x : X) (frames : ℕ → List F)
    → IsCounted w → c < n → IsFair r n c (w.at c) 0 x frames → IsWithinCap r n w
    → IsWithinCap r n (acted w c x frames)
placed_sound r n w c x frames counted small fair within =
    record {
      law = omega (
        arith,
        placed_acted r n w c x frames counted small,
        allowed_acted r n w c x frames small,
        fair.law,
        within.law,
      );
    }

-- a fair act at the head of a queue, which it takes, keeps a resource within its cap
pub placed_sound_took : {X F : Type 0} (r : Resource X F) (n : ℕ) (w : Net X F) (a b : ℕ) (f : F) (x : X)
    (frames : ℕ → List F) → IsCounted w → a < n → b < n → TakesHead w a b f
    → IsFair r n b (w.at b) (r.inside a b f) x frames → IsWithinCap r n w
    → IsWithinCap r n (acted (took w a b) b x frames)
placed_sound_took r n w a b f x frames counted small below takes fair within =
    record {
      law = omega (
        arith,
        placed_took r n w a b f takes small below,
        allowed_took r n w a b,
        placed_acted r n (took w a b) b x frames (counted_took w a b f takes counted) below,
        allowed_acted r n (took w a b) b x frames below,
        fair.law,
        within.law,
      );
    }

-- an exact act of a centre by itself keeps a resource at its cap
pub placed_exact : {X F : Type 0} (r : Resource X F) (n : ℕ) (w : Net X F) (c : ℕ) (x : X) (frames : ℕ → List F)
    → IsCounted w → c < n → IsExact r n c (w.at c) 0 x frames → IsAtCap r n w → IsAtCap r n (acted w c x frames)
placed_exact r n w c x frames counted small exact full =
    record {
      law = omega (
        arith,
        placed_acted r n w c x frames counted small,
        allowed_acted r n w c x frames small,
        exact.law,
        full.law,
      );
    }

-- an exact act at the head of a queue, which it takes, keeps a resource at its cap
pub placed_exact_took : {X F : Type 0} (r : Resource X F) (n : ℕ) (w : Net X F) (a b : ℕ) (f : F) (x : X)
    (frames : ℕ → List F) → IsCounted w → a < n → b < n → TakesHead w a b f
    → IsExact r n b (w.at b) (r.inside a b f) x frames → IsAtCap r n w → IsAtCap r n (acted (took w a b) b x frames)
placed_exact_took r n w a b f x frames counted small below takes exact full =
    record {
      law = omega (
        arith,
        placed_took r n w a b f takes small below,
        allowed_took r n w a b,
        placed_acted r n (took w a b) b x frames (counted_took w a b f takes counted) below,
        allowed_acted r n (took w a b) b x frames below,
        exact.law,
        full.law,
      );
    }

-- For each arriving frame, by its number. An act that is fair at the next one, and at any other, keeps a resource
-- within its cap.
pub placed_sound_came : {X F : Type 0} (r : Resource X F) (n : ℕ) (w : Net X F) (a b number : ℕ) (f : F) (x : X)
    (frames : ℕ → List F) → IsCounted w → a < n → b < n → numbered (w.sent a b) number ≡ Some f
    → (number ≡ w.taken a b + 1 → IsFair r n b (w.at b) (r.inside a b f) x frames)
    → (number ≢ w.taken a b + 1 → IsFair r n b (w.at b) 0 x frames) → IsWithinCap r n w
    → IsWithinCap r n (acted (came w a b number) b x frames)
placed_sound_came r n w a b number f x frames counted small below sent if_next if_other within = ⊎_elim
    (λ (next : number ≡ w.taken a b + 1).
    subst (λ u. IsWithinCap r n (acted u b x frames)) (sym (came_next w a b number next))
    (placed_sound_took r n w a b f x frames counted small below (came_head w a b number f sent next)
    (if_next next) within))
    (λ (other : number ≢ w.taken a b + 1).
    subst (λ u. IsWithinCap r n (acted u b x frames)) (sym (came_other w a b number other))
    (placed_sound r n w b x frames counted below (if_other other) within))
    (cases_eq number (w.taken a b + 1))

-- For each arriving frame, by its number. An act that is exact at the next one, and at any other, keeps a resource at
-- its cap.
pub placed_exact_came : {X F : Type 0} (r : Resource X F) (n : ℕ) (w : Net X F) (a b number : ℕ) (f : F) (x : X)
    (frames : ℕ → List F) → IsCounted w → a < n → b < n → numbered (w.sent a b) number ≡ Some f
    → (number ≡ w.taken a b + 1 → IsExact r n b (w.at b) (r.inside a b f) x frames)
    → (number ≢ w.taken a b + 1 → IsExact r n b (w.at b) 0 x frames) → IsAtCap r n w
    → IsAtCap r n (acted (came w a b number) b x frames)
placed_exact_came r n w a b number f x frames counted small below sent if_next if_other full = ⊎_elim
    (λ (next : number ≡ w.taken a b + 1).
    subst (λ u. IsAtCap r n (acted u b x frames)) (sym (came_next w a b number next))
    (placed_exact_took r n w a b f x frames counted small below (came_head w a b number f sent next)
    (if_next next) full))
    (λ (other : number ≢ w.taken a b + 1).
    subst (λ u. IsAtCap r n (acted u b x frames)) (sym (came_other w a b number other))
    (placed_exact r n w b x frames counted below (if_other other) full))
    (cases_eq number (w.taken a b + 1))
