-- Laws of chains, and the letters of the example.
use Rattle.std.proofs.Common.{[], ⊎_elim, ◌++◌, ◌+◌, ◌==◌, ◌∙◌, ◌∷◌, ◌≡◌, ◌≢◌, All, ap, eq-eqb, eqb-true, false, List}
use Rattle.std.proofs.Common.{None, Option, option_and_then, refl, Some, subst, subst₂, sym, true, ℕ}
use Rattle.std.proofs.lemmas.Bool.{cases_Bool, cases_eq, cond-false, cond-true}
use Rattle.std.proofs.lemmas.List.Elements.{All-head, All-tail}
use Rattle.law_base.proofs.CountingLemmas.Network.{to_one_other, to_one_same, way_acted, way_acted_none}
use Rattle.law_base.proofs.CountingLemmas.Network.{way_acted_other, way_took_other}
use Rattle.law_base.proofs.CountingLemmas.Sums.{cases_link, put_keeps, put_other, put_same}
use Rattle.law_base.specs.Counting.Chain.{after_all, Chain}
use Rattle.law_base.specs.Counting.Coin.{after_opening, after_writing, IsInTurn, Letter, letter, Purse, turn}
use Rattle.law_base.specs.Counting.Network.{acted, IsCounted, Net, TakesHead, to_one, took, way}
use Rattle.law_base.specs.Counting.Sums.{put}

-- # Laws of chains: kept when frames are sent at the end and when the head is taken.

-- the effect of frames in order
after_append : {F S : Type 0} (step : F → S → Option S) (fs gs : List F) (s : S)
    → after_all step (fs ++ gs) s ≡ option_and_then (after_all step gs) (after_all step fs s)
unfolding after_all
after_append step [] gs s = refl
after_append {S = S} step (f ∷ fs) gs s = by_head (after_append step fs gs) (step f s)
  where
    by_head :
        ((t : S) → after_all step (fs ++ gs) t ≡ option_and_then (after_all step gs) (after_all step fs t))
        → (o : Option S) → option_and_then (after_all step (fs ++ gs)) o ≡ option_and_then (after_all step gs)
        (option_and_then (after_all step fs) o)
    by_head rest None = refl
    by_head rest (Some mid) = rest mid

-- no frame on the way: the start is the end
pub chain_none : {F S : Type 0} (step : F → S → Option S) (s : S) → Chain step [] s s
unfolding after_all
chain_none step s = record { leads = refl }

-- a frame that is sent in the last state leads on from there
pub chain_sent : {F S : Type 0} (step : F → S → Option S) (fs gs : List F) (start mid end : S)
    → Chain step fs start mid → Chain step gs mid end → Chain step (fs ++ gs) start end
chain_sent step fs gs start mid end one two =
    record { leads = after_append step fs gs start ∙ ap (option_and_then (after_all step gs)) one.leads ∙ two.leads }

-- one frame
pub chain_one : {F S : Type 0} (step : F → S → Option S) (f : F) (start end : S) → step f start ≡ Some end
    → Chain step (f ∷ []) start end
unfolding after_all
chain_one step f start end leads = record { leads = ap (option_and_then (after_all step [])) leads }

-- frames that may all arrive, and change nothing
pub chain_still : {F S : Type 0} (step : F → S → Option S) (fs : List F) (s : S) → All (λ f. step f s ≡ Some s) fs
    → Chain step fs s s
unfolding after_all
chain_still step [] s still = record { leads = refl }
chain_still step (f ∷ fs) s still =
    record {
      leads = ap (option_and_then (after_all step fs)) (All-head (λ g. step g s ≡ Some s) f fs still)
          ∙ (chain_still step fs s (All-tail (λ g. step g s ≡ Some s) f fs still)).leads;
    }

-- the head may arrive, and the state after it leads through the others to the last state
pub chain_taken : {F S : Type 0} (step : F → S → Option S) (f : F) (fs : List F) (start end : S)
    → Chain step (f ∷ fs) start end → (mid : S) × (step f start ≡ Some mid) × Chain step fs mid end
unfolding after_all
chain_taken {S = S} step f fs start end chain = by_head (step f start) refl chain.leads
  where
    by_head : (o : Option S) → step f start ≡ o → option_and_then (after_all step fs) o ≡ Some end
        → (mid : S) × (step f start ≡ Some mid) × Chain step fs mid end
    by_head None is leads = absurd (cc)
    by_head (Some mid) is leads = (mid, is, record { leads = leads })

-- an act of c sends frames that lead on, on each of its links
pub chain_acted : {X F S : Type 0} (step : F → S → Option S) (w : Net X F) (c : ℕ) (x : X) (frames : ℕ → List F)
    (d : ℕ) (start mid end : S) → IsCounted w → Chain step (way w c d) start mid → Chain step (frames d) mid end
    → Chain step (way (acted w c x frames) c d) start end
chain_acted step w c x frames d start mid end counted one two =
    subst (λ fs. Chain step fs start end) (sym (way_acted w c x frames counted d))
    (chain_sent step (way w c d) (frames d) start mid end one two)

-- an act of c leaves the other links' chains
pub chain_acted_other : {X F S : Type 0} (step : F → S → Option S) (w : Net X F) (c : ℕ) (x : X)
    (frames : ℕ → List F) (a b : ℕ) (start end : S) → a ≢ c → Chain step (way w a b) start end
    → Chain step (way (acted w c x frames) a b) start end
chain_acted_other step w c x frames a b start end apart chain =
    subst (λ fs. Chain step fs start end) (sym (way_acted_other w c x frames a b apart)) chain

-- the head of a queue may arrive, and the state after it is the first from then on
pub chain_took : {X F S : Type 0} (step : F → S → Option S) (w : Net X F) (a b : ℕ) (f : F) (start end : S)
    → TakesHead w a b f → Chain step (way w a b) start end
    → (mid : S) × (step f start ≡ Some mid) × Chain step (way (took w a b) a b) mid end
chain_took step w a b f start end takes chain =
    chain_taken step f (way (took w a b) a b) start end (subst (λ fs. Chain step fs start end) takes.head chain)

-- the chains of the other links stay when the head of a queue is taken
pub chain_took_other : {X F S : Type 0} (step : F → S → Option S) (w : Net X F) (a b i j : ℕ) (start end : S)
    → (i ≡ a → j ≢ b) → Chain step (way w i j) start end → Chain step (way (took w a b) i j) start end
chain_took_other step w a b i j start end apart chain =
    subst (λ fs. Chain step fs start end) (sym (way_took_other w a b i j apart)) chain

-- # The letters of the example stay in turn, after each act of a centre.

-- a letter leads on to the next
pub turn_next : (f : Letter) (k : ℕ) → f.page ≡ k → turn f k ≡ Some (k + 1)
turn_next f k same = cond-true (f.page == k) (Some (k + 1)) None (eq-eqb f.page k same)

-- a letter leads only to the next count, and only from the count that it names
pub turn_only : (f : Letter) (k m : ℕ) → turn f k ≡ Some m → (m ≡ k + 1) × (f.page ≡ k)
turn_only f k m leads = ⊎_elim
    (λ (next : (f.page == k) ≡ true).
    (same (sym leads ∙ cond-true (f.page == k) (Some (k + 1)) None next), eqb-true f.page k next))
    (λ (other : (f.page == k) ≡ false). absurd (none (sym leads ∙ cond-false (f.page == k) (Some (k + 1)) None other)))
    (cases_Bool (f.page == k))
  where
    same : {i j : ℕ} → Some i ≡ Some j → i ≡ j
    same e = cc

    none : Some m ≡ None → ⊥
    none e = cc

-- writing keeps each link's letters in turn
pub writing_in_turn : (w : Net Purse Letter) (c d : ℕ) → IsCounted w → IsInTurn w
    → IsInTurn (acted w c (after_writing d (w.at c)) (to_one d (letter d (w.at c) ∷ [])))
writing_in_turn w c d counted in_turn =
    record {
      chain = λ a b. ⊎_elim (λ (here : a ≡ c). subst (Goal b) (sym here) (here_chain b))
          (λ (apart : a ≢ c). elsewhere a b apart) (cases_eq a c);
    }
  where
    x : Purse
    x = w.at c

    y : Purse
    y = after_writing d x

    sends : ℕ → List Letter
    sends = to_one d (letter d x ∷ [])

    Goal : ℕ → ℕ → Type 0
    Goal b a = Chain turn (way (acted w c y sends) a b) ((put w.at c y b).opened a) ((put w.at c y a).wrote b)

    opened_same : (a b : ℕ) → (w.at b).opened a ≡ (put w.at c y b).opened a
    opened_same a b = sym (put_keeps (λ j (z : Purse). z.opened a) w.at c y refl b)

    wrote_now : (b : ℕ) → y.wrote b ≡ (put w.at c y c).wrote b
    wrote_now b = ap (λ (z : Purse). z.wrote b) (sym (put_same w.at c y))

    led : (b : ℕ) → Chain turn (sends b) (x.wrote b) (y.wrote b)
    led b = ⊎_elim
        (λ (to : b ≡ d). subst (λ k. Chain turn (sends k) (x.wrote k) (y.wrote k)) (sym to)
        (subst₂ (λ fs m. Chain turn fs (x.wrote d) m) (sym (to_one_same d (letter d x ∷ [])))
        (sym (put_same x.wrote d (x.wrote d + 1)))
        (chain_one turn (letter d x) (x.wrote d) (x.wrote d + 1) (turn_next (letter d x) (x.wrote d) refl))))
        (λ (apart : b ≢ d). subst₂ (λ fs m. Chain turn fs (x.wrote b) m)
        (sym (to_one_other d (letter d x ∷ []) b apart))
        (sym (put_other x.wrote d (x.wrote d + 1) b apart)) (chain_none turn (x.wrote b)))
        (cases_eq b d)

    here_chain : (b : ℕ) → Goal b c
    here_chain b = subst₂ (Chain turn (way (acted w c y sends) c b)) (opened_same c b) (wrote_now b)
        (chain_acted turn w c y sends b ((w.at b).opened c) (x.wrote b) (y.wrote b) counted (in_turn.chain c b) (led b))

    elsewhere : (a b : ℕ) → a ≢ c → Goal b a
    elsewhere a b apart = subst₂ (Chain turn (way (acted w c y sends) a b)) (opened_same a b)
        (ap (λ (z : Purse). z.wrote b) (sym (put_other w.at c y a apart)))
        (chain_acted_other turn w c y sends a b ((w.at b).opened a) ((w.at a).wrote b) apart (in_turn.chain a b))

-- opening the next letter keeps each link's letters in turn
pub opening_in_turn : (w : Net Purse Letter) (a b : ℕ) (f : Letter) → TakesHead w a b f → IsInTurn w
    → IsInTurn (acted (took w a b) b (after_opening a f (w.at b)) (λ d. []))
opening_in_turn w a b f takes in_turn =
    record {
      chain = λ i j. ⊎_elim (λ (here : (i ≡ a) × (j ≡ b)). subst₂ Goal (sym here.0) (sym here.1) here_chain)
          (λ (apart : i ≡ a → j ≢ b). elsewhere i j apart) (cases_link i j a b);
    }
  where
    x : Purse
    x = w.at b

    y : Purse
    y = after_opening a f x

    Goal : ℕ → ℕ → Type 0
    Goal i j = Chain turn (way (acted (took w a b) b y (λ d. [])) i j) ((put w.at b y j).opened i)
        ((put w.at b y i).wrote j)

    wrote_same : (i j : ℕ) → (w.at i).wrote j ≡ (put w.at b y i).wrote j
    wrote_same i j = sym (put_keeps (λ k (z : Purse). z.wrote j) w.at b y refl i)

    here_chain : Goal a b
    here_chain =
        let next = chain_took turn w a b f (x.opened a) ((w.at a).wrote b) takes (in_turn.chain a b) in
        let opened : next.0 ≡ (put w.at b y b).opened a =
        (turn_only f (x.opened a) next.0 next.1).0
        ∙ sym (ap (λ (z : Purse). z.opened a) (put_same w.at b y) ∙ put_same x.opened a (x.opened a + 1)) in
        subst (λ fs. Chain turn fs ((put w.at b y b).opened a) ((put w.at b y a).wrote b))
        (sym (way_acted_none (took w a b) b y a b))
        (subst₂ (Chain turn (way (took w a b) a b)) opened (wrote_same a b) next.2)

    opened_same : (i j : ℕ) → (i ≡ a → j ≢ b) → (w.at j).opened i ≡ (put w.at b y j).opened i
    opened_same i j apart = ⊎_elim
        (λ (from : i ≡ a). ap (λ (z : Purse). z.opened i) (sym (put_other w.at b y j (apart from))))
        (λ (other : i ≢ a).
        sym (put_keeps (λ k (z : Purse). z.opened i) w.at b y (put_other x.opened a (x.opened a + 1) i other) j))
        (cases_eq i a)

    elsewhere : (i j : ℕ) → (i ≡ a → j ≢ b) → Goal i j
    elsewhere i j apart = subst (λ fs. Chain turn fs ((put w.at b y j).opened i) ((put w.at b y i).wrote j))
        (sym (way_acted_none (took w a b) b y i j))
        (subst₂ (Chain turn (way (took w a b) i j)) (opened_same i j apart) (wrote_same i j)
        (chain_took_other turn w a b i j ((w.at j).opened i) ((w.at i).wrote j) apart (in_turn.chain i j)))

-- an act that sends nothing, and keeps the counts of written and opened letters, does too
pub still_in_turn : (w : Net Purse Letter) (c coins : ℕ) → IsInTurn w
    → IsInTurn (acted w c (record { coins = coins; wrote = (w.at c).wrote; opened = (w.at c).opened }) (λ d. []))
still_in_turn w c coins in_turn = record {
  chain = λ i j. subst (λ fs. Chain turn fs ((put w.at c y j).opened i) ((put w.at c y i).wrote j))
      (sym (way_acted_none w c y i j))
      (subst₂ (Chain turn (way w i j)) (sym (put_keeps (λ k (z : Purse). z.opened i) w.at c y refl j))
      (sym (put_keeps (λ k (z : Purse). z.wrote j) w.at c y refl i)) (in_turn.chain i j));
}
  where
    y : Purse
    y = record { coins = coins; wrote = (w.at c).wrote; opened = (w.at c).opened }
