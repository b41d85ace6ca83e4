-- The coin is in one place after each schedule, and each letter is opened in its turn.
use Rattle.std.proofs.Common.{[], ⊎_elim, ◌&&◌, ◌+◌, ◌-◌, ◌<◌, ◌==◌, ◌∙◌, ◌∷◌, ◌≡◌, ◌≢◌, ◌≤◌, All, ap, arith, eq-eqb}
use Rattle.std.proofs.Common.{false, if◌then◌else◌, List, lt-ltb, ltb-true, nat_lt, ne_eqb, None, Option, refl, Some}
use Rattle.std.proofs.Common.{subst, subst₂, suc, sym, true≢false, zero, ℕ}
use Rattle.std.proofs.lemmas.Bool.{and_parts, cases_eq, cond-false, cond-true, cond_both}
use Rattle.std.proofs.lemmas.List.Elements.{All-head, All-tail}
use Rattle.law_base.proofs.CountingLemmas.Chain.{chain_none, chain_took, opening_in_turn, still_in_turn, turn_only}
use Rattle.law_base.proofs.CountingLemmas.Chain.{writing_in_turn}
use Rattle.law_base.proofs.CountingLemmas.Network.{came_head, came_next, came_other, counted_acted, counted_came}
use Rattle.law_base.proofs.CountingLemmas.Network.{counted_start, next_is_head}
use Rattle.law_base.proofs.CountingLemmas.Places.{frame_only, held_only, one_place}
use Rattle.law_base.proofs.CountingLemmas.Resource.{allowed_at, at_cap_start, exact_still, fair_from_exact, fair_still}
use Rattle.law_base.proofs.CountingLemmas.Resource.{placed_exact, placed_exact_came, placed_sound, placed_sound_came}
use Rattle.law_base.proofs.CountingLemmas.Resource.{sent_none, sent_single, within_start}
use Rattle.law_base.proofs.CountingLemmas.Sums.{one_if_false, one_if_true}
use Rattle.law_base.specs.Counting.Chain.{Chain}
use Rattle.law_base.specs.Counting.Coin.{after_coming, after_losing, after_opening, after_writing, coin, comes, Event}
use Rattle.law_base.specs.Counting.Coin.{happens, is_loss, IsInOnePlace, IsInOnePlaceAtMost, IsInTurn, Letter, letter}
use Rattle.law_base.specs.Counting.Coin.{Purse, run, start, turn}
use Rattle.law_base.specs.Counting.Coin.Event.{Comes, Loses, Writes}
use Rattle.law_base.specs.Counting.Network.{acted, came, IsCounted, Net, numbered, to_one, took, way}
use Rattle.law_base.specs.Counting.Resource.{allowed, IsAtCap, IsExact, IsFair, IsWithinCap, placed}
use Rattle.law_base.specs.Counting.Sums.{one_if}

-- writing a letter makes no coin and loses none
writing_exact : (n c d : ℕ) (x : Purse) → d < n
    → IsExact coin n c x 0 (after_writing d x) (to_one d (letter d x ∷ []))
writing_exact n c d x small =
    record { law = omega (arith, sent_single coin n c d (letter d x) small, one_or_none x.coins) }
  where
    one_or_none : (k : ℕ) → k - 1 + one_if (nat_lt 0 k) ≡ k
    one_or_none zero = refl
    one_or_none (suc k) = omega (arith, one_if_true (nat_lt 0 (suc k)) (lt-ltb 0 (suc k) (omega arith)))

-- nor does opening one
opening_exact : (n a b : ℕ) (f : Letter) (x : Purse)
    → IsExact coin n b x (coin.inside a b f) (after_opening a f x) (λ d. [])
opening_exact n a b f x = record { law = omega (arith, sent_none coin n b) }

-- losing a coin makes none
losing_fair : (n c : ℕ) (x : Purse) → IsFair coin n c x 0 (after_losing x) (λ d. [])
losing_fair n c x = fair_still coin n c x (after_losing x) (omega arith) (omega arith)

-- a letter that arrives next is opened
coming_next : (w : Net Purse Letter) (a b number : ℕ) (f : Letter) → number ≡ w.taken a b + 1
    → after_coming w a b number f ≡ after_opening a f (w.at b)
coming_next w a b number f next =
    cond-true (number == w.taken a b + 1) (after_opening a f (w.at b)) (w.at b) (eq-eqb number (w.taken a b + 1) next)

-- a letter that is not the next one changes nothing
coming_other : (w : Net Purse Letter) (a b number : ℕ) (f : Letter) → number ≢ w.taken a b + 1
    → after_coming w a b number f ≡ w.at b
coming_other w a b number f other =
    cond-false (number == w.taken a b + 1) (after_opening a f (w.at b)) (w.at b) (ne_eqb number (w.taken a b + 1) other)

-- neither makes a coin or loses one
coming_next_exact : (n : ℕ) (w : Net Purse Letter) (a b number : ℕ) (f : Letter) → number ≡ w.taken a b + 1
    → IsExact coin n b (w.at b) (coin.inside a b f) (after_coming w a b number f) (λ d. [])
coming_next_exact n w a b number f next =
    subst (λ z. IsExact coin n b (w.at b) (coin.inside a b f) z (λ d. [])) (sym (coming_next w a b number f next))
    (opening_exact n a b f (w.at b))

coming_other_exact : (n : ℕ) (w : Net Purse Letter) (a b number : ℕ) (f : Letter) → number ≢ w.taken a b + 1
    → IsExact coin n b (w.at b) 0 (after_coming w a b number f) (λ d. [])
coming_other_exact n w a b number f other =
    subst (λ z. IsExact coin n b (w.at b) 0 z (λ d. [])) (sym (coming_other w a b number f other))
    (exact_still coin n b (w.at b) (w.at b) refl refl)

-- the invariant of each state of a schedule
record IsSound (n : ℕ) (w : Net Purse Letter) : Type 0 where
  counted : IsCounted w
  within_cap : IsWithinCap coin n w
  in_turn : IsInTurn w

-- one coin may be out
allowed_one : (n : ℕ) (w : Net Purse Letter) → 0 < n → allowed coin n w ≡ 1
allowed_one n w some = allowed_at coin n w 0 some (λ c small apart. one_if_false (c == 0) (ne_eqb c 0 apart))

-- before anything happens there is one coin
full_start : (n : ℕ) → IsAtCap coin n start
full_start n = at_cap_start coin n start (λ a b. refl) (λ c small. refl)

sound_start : (n : ℕ) → IsSound n start
sound_start n = record {
  counted = counted_start (λ c. start.at c);
  within_cap = within_start coin n start (λ a b. refl) (λ c small. omega arith);
  in_turn = record { chain = λ a b. chain_none turn 0 };
}

-- a letter arrives, by its number: the next is opened, or nothing happens
sound_comes : (n : ℕ) (w : Net Purse Letter) (a b number : ℕ) → a < n → b < n → IsSound n w → (o : Option Letter)
    → numbered (w.sent a b) number ≡ o → IsSound n (comes w a b number o)
sound_comes n w a b number small below sound None is = sound
sound_comes n w a b number small below sound (Some f) is = record {
  counted = counted_acted (came w a b number) b y (λ d. []) (counted_came w a b number f is sound.counted);
  within_cap = placed_sound_came coin n w a b number f y (λ d. []) sound.counted small below is
      (λ next. fair_from_exact _ _ _ _ _ _ _ (coming_next_exact n w a b number f next))
      (λ other. fair_from_exact _ _ _ _ _ _ _ (coming_other_exact n w a b number f other)) sound.within_cap;
  in_turn = ⊎_elim
      (λ (next : number ≡ w.taken a b + 1). subst₂ (λ u z. IsInTurn (acted u b z (λ d. [])))
      (sym (came_next w a b number next)) (sym (coming_next w a b number f next))
      (opening_in_turn w a b f (came_head w a b number f is next) sound.in_turn))
      (λ (other : number ≢ w.taken a b + 1). subst₂ (λ u z. IsInTurn (acted u b z (λ d. [])))
      (sym (came_other w a b number other)) (sym (coming_other w a b number f other))
      (still_in_turn w b (w.at b).coins sound.in_turn))
      (cases_eq number (w.taken a b + 1));
}
  where
    y : Purse
    y = after_coming w a b number f

-- no coin is lost by the arrival of a letter
full_comes : (n : ℕ) (w : Net Purse Letter) (a b number : ℕ) → a < n → b < n → IsSound n w → IsAtCap coin n w
    → (o : Option Letter) → numbered (w.sent a b) number ≡ o → IsAtCap coin n (comes w a b number o)
full_comes n w a b number small below sound full None is = full
full_comes n w a b number small below sound full (Some f) is =
    placed_exact_came coin n w a b number f (after_coming w a b number f) (λ d. []) sound.counted small below is
    (coming_next_exact n w a b number f) (coming_other_exact n w a b number f) full

-- if P holds for all centres below n, it holds under the test that two centres are below n
of_both : {A : Type 0} (P : A → Type 0) (n c d : ℕ) (new old : A) → (c < n → d < n → P new) → P old
    → P (if nat_lt c n && nat_lt d n then new else old)
of_both P n c d new old shown was = cond_both (nat_lt c n && nat_lt d n) new old P
    (λ both. let ends = and_parts (nat_lt c n) (nat_lt d n) both in shown (ltb-true c n ends.0) (ltb-true d n ends.1))
    (λ _. was)

-- each event keeps it so
sound_happens : (n : ℕ) (w : Net Purse Letter) (e : Event) → IsSound n w → IsSound n (happens n w e)
sound_happens n w (Writes c d) sound = of_both (IsSound n) n c d (acted w c y sends) w
    (λ small below. record {
      counted = counted_acted w c y sends sound.counted;
      within_cap = placed_sound coin n w c y sends sound.counted small
          (fair_from_exact _ _ _ _ _ _ _ (writing_exact n c d (w.at c) below)) sound.within_cap;
      in_turn = writing_in_turn w c d sound.counted sound.in_turn;
    })
    sound
  where
    y : Purse
    y = after_writing d (w.at c)

    sends : ℕ → List Letter
    sends = to_one d (letter d (w.at c) ∷ [])
sound_happens n w (Loses c) sound = cond_both (nat_lt c n) (acted w c y (λ d. [])) w (IsSound n)
    (λ small. record {
      counted = counted_acted w c y (λ d. []) sound.counted;
      within_cap = placed_sound coin n w c y (λ d. []) sound.counted (ltb-true c n small) (losing_fair n c (w.at c))
          sound.within_cap;
      in_turn = still_in_turn w c y.coins sound.in_turn;
    })
    (λ _. sound)
  where
    y : Purse
    y = after_losing (w.at c)
sound_happens n w (Comes a b number) sound =
    of_both (IsSound n) n a b (comes w a b number (numbered (w.sent a b) number)) w
    (λ small below. sound_comes n w a b number small below sound (numbered (w.sent a b) number) refl) sound

-- if the event is not a loss, there is still one coin
full_happens : (n : ℕ) (w : Net Purse Letter) (e : Event) → IsSound n w → is_loss e ≡ false → IsAtCap coin n w
    → IsAtCap coin n (happens n w e)
full_happens n w (Writes c d) sound no_loss full =
    of_both (IsAtCap coin n) n c d (acted w c (after_writing d (w.at c)) (to_one d (letter d (w.at c) ∷ []))) w
    (λ small below. placed_exact coin n w c (after_writing d (w.at c))
    (to_one d (letter d (w.at c) ∷ [])) sound.counted small
    (writing_exact n c d (w.at c) below) full) full
full_happens n w (Loses c) sound no_loss full = absurd (true≢false no_loss)
full_happens n w (Comes a b number) sound no_loss full =
    of_both (IsAtCap coin n) n a b (comes w a b number (numbered (w.sent a b) number)) w
    (λ small below. full_comes n w a b number small below sound full (numbered (w.sent a b) number) refl) full

-- the net is sound after each schedule
sound_run : (n : ℕ) (es : List Event) (w : Net Purse Letter) → IsSound n w → IsSound n (run n es w)
sound_run n [] w sound = sound
sound_run n (e ∷ es) w sound = sound_run n es (happens n w e) (sound_happens n w e sound)

full_run : (n : ℕ) (es : List Event) (w : Net Purse Letter) → IsSound n w → All (λ e. is_loss e ≡ false) es
    → IsAtCap coin n w → IsAtCap coin n (run n es w)
full_run n [] w sound no_loss full = full
full_run n (e ∷ es) w sound no_loss full = full_run n es (happens n w e) (sound_happens n w e sound)
    (All-tail (λ x. is_loss x ≡ false) e es no_loss)
    (full_happens n w e sound (All-head (λ x. is_loss x ≡ false) e es no_loss) full)

-- after each schedule the coin is in one place at most
pub coin_in_one_place_at_most : (n : ℕ) (events : List Event) → 0 < n → IsInOnePlaceAtMost n (run n events start)
coin_in_one_place_at_most n events some = record {
  centres = λ c small has. held_only coin n w c one small has;
  letters = λ a b k f from to on_way full. frame_only coin n w a b k f one from to on_way
      (omega (arith, one_if_true f.full full));
}
  where
    w : Net Purse Letter
    w = run n events start

    one : placed coin n w ≤ 1
    one = omega (arith, (sound_run n events start (sound_start n)).within_cap.law, allowed_one n w some)

-- after each schedule without a loss the coin is in one place
pub coin_in_one_place : (n : ℕ) (events : List Event) → 0 < n → All (λ e. is_loss e ≡ false) events
    → IsInOnePlace n (run n events start)
coin_in_one_place n events some no_loss =
    one_place coin n (run n events start)
    ((full_run n events start (sound_start n) no_loss (full_start n)).law ∙ allowed_one n (run n events start) some)

-- after each schedule the letters are in turn
pub letters_in_turn : (n : ℕ) (events : List Event) → IsInTurn (run n events start)
letters_in_turn n events = (sound_run n events start (sound_start n)).in_turn

-- the next letter names the number of letters opened before it
pub next_in_turn : (n : ℕ) (events : List Event) (a b : ℕ) (f : Letter)
    → numbered ((run n events start).sent a b) ((run n events start).taken a b + 1) ≡ Some f
    → f.page ≡ ((run n events start).at b).opened a
next_in_turn n events a b f next = (turn_only f (((run n events start).at b).opened a) led.0 led.1).1
  where
    w : Net Purse Letter
    w = run n events start

    number : suc (w.taken a b) ≡ w.taken a b + 1
    number = omega arith

    led : (mid : ℕ) × (turn f ((w.at b).opened a) ≡ Some mid) × Chain turn (way (took w a b) a b) mid ((w.at a).wrote b)
    led = chain_took turn w a b f ((w.at b).opened a) ((w.at a).wrote b)
        (next_is_head w a b f (ap (numbered (w.sent a b)) number ∙ next)) ((letters_in_turn n events).chain a b)
