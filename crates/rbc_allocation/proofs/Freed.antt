-- Sections that are given back, from the front of a hand and from its back.
use Rattle.std.proofs.Common.{[], ◌&&◌, ◌+◌, ◌-◌, ◌<◌, ◌==◌, ◌||◌, ◌∙◌, ◌∷◌, ◌≡◌, ◌≤◌, ap, arith, Bool, cond, drop}
use Rattle.std.proofs.Common.{false, inl, inr, length, List, not, refl, suc, sym, take, true, zero, ℕ}
use Rattle.std.proofs.lemmas.Bool.{cases_Bool}
use Rattle.std.proofs.lemmas.Bool.Decides.{eqb_tells, nat_tests}
use Rattle.std.proofs.lemmas.List.{drop-drop, length-drop, length-take-le}
use Rattle.std.proofs.Math.Bool.{and-false, and-true}
use Rattle.std.proofs.Math.Seq.{take-length}
use Rattle.rbc_allocation.proofs.Runs.{within_before, within_more, within_none, within_one}
use Rattle.rbc_allocation.specs.Sections.{FreesRun, hand_front, hand_rest}
use Rattle.rbc_book.specs.Book.{entry_at, is_own, Pages, wish_at}
use Rattle.rbc_book.specs.Claim.{claim_on, is_taken_by, section_of}
use Rattle.rbc_book.specs.declared.claim.Claim.{Claim}
use Rattle.rbc_hand.specs.declared.token.Token.{Token}
use Rattle.rbc_hand.specs.declared.token.Token.TheVariants as code
use Rattle.rbc_hand.specs.Hands.{Holding, one, run}
use Rattle.rbc_hand.specs.Tokens.{Held, Own}
use Rattle.rbc_spec.specs.Centre.{Entry, is_taken_for, Open, Shut}
use Rattle.rbc_spec.specs.SectionRuns.{is_empty, SectionRun, within}

-- # A section that is given back, by its entry.

-- the entry of a section that was given back, which was wished back or not
abbrev pub back_to : Bool → Entry
back_to w = cond w Shut Open

-- the entry and the wish after a section is given back, if its entry is meant
abbrev pub entry_then : (Entry → Bool) → Bool → Entry → Bool → Entry
entry_then is_meant x e w = cond (x && is_meant e) (back_to w) e

abbrev pub wish_then : (Entry → Bool) → Bool → Entry → Bool → Bool
wish_then is_meant x e w = not (x && is_meant e) && w

module _ (is_meant : Entry → Bool) (idle : (w : Bool) → is_meant (back_to w) ≡ false) where
  -- to give back two times is the same as once
  twice : {X : Type 0} (f : Bool → Entry → Bool → X)
      → ((y : Bool) (e : Entry) (w : Bool) → is_meant e ≡ false → f y e w ≡ f false e w)
      → ((e : Entry) (w : Bool) → is_meant e ≡ true → f false (back_to w) false ≡ f true e w)
      → (e : Entry) (w x y : Bool) → f y (entry_then is_meant x e w) (wish_then is_meant x e w) ≡ f (x || y) e w
  twice f same gone e w true y = elim (cases_Bool (is_meant e)) [
    | inl h ↦ rw h (same y (back_to w) false (idle w) ∙ gone e w h)
    | inr h ↦ rw h (same y e w h ∙ sym (same true e w h))
  ]
  twice f same gone e w false y = refl

  pub entry_twice : (e : Entry) (w x y : Bool)
      → entry_then is_meant y (entry_then is_meant x e w) (wish_then is_meant x e w) ≡ entry_then is_meant (x || y) e w
  entry_twice = twice (entry_then is_meant)
      (λ y e w h. ap (λ b. cond (y && b) (back_to w) e) h ∙ ap (λ b. cond b (back_to w) e) (and-false y))
      (λ e w h. ap (λ b. cond b (back_to w) e) (sym h))

  pub wish_twice : (e : Entry) (w x y : Bool)
      → wish_then is_meant y (entry_then is_meant x e w) (wish_then is_meant x e w) ≡ wish_then is_meant (x || y) e w
  wish_twice = twice (wish_then is_meant)
      (λ y e w h. ap (λ b. not (y && b) && w) h ∙ ap (λ b. not b && w) (and-false y))
      (λ e w h. ap (λ b. not b && w) (sym h))

not_within : (from k j : ℕ) → j ≡ from + k → within (record { first = from; count = k }) j ≡ false
unfolding within
not_within from k j e = grind (arith, nat_tests)

-- ## Given back

pub frees_none : (t first : ℕ) (book : Pages) → FreesRun t (record { first = first; count = 0 }) book book
frees_none t first book =
    record { homes = λ s. refl; entry = λ s. rw (within_none first s) refl; wish = λ s. rw (within_none first s) refl }

-- a section that was given back is in use for no train
idle : (t : ℕ) (w : Bool) → is_taken_for t (back_to w) ≡ false
idle t true = refl
idle t false = refl

-- one run after another
pub frees_then : (t : ℕ) (r q p : SectionRun) (a b c : Pages) → ((s : ℕ) → within p s ≡ (within r s || within q s))
    → FreesRun t r a b → FreesRun t q b c → FreesRun t p a c
frees_then t r q p a b c both first next = record {
  homes = λ s. next.homes s ∙ first.homes s;
  entry = λ s. next.entry s
      ∙ (λ i. entry_then (is_taken_for t) (within q s) (first.entry s i) (first.wish s i))
      ∙ entry_twice (is_taken_for t) (idle t) (entry_at a s) (wish_at a s) (within r s) (within q s)
      ∙ ap (λ x. entry_then (is_taken_for t) x (entry_at a s) (wish_at a s)) (sym (both s));
  wish = λ s. next.wish s
      ∙ (λ i. wish_then (is_taken_for t) (within q s) (first.entry s i) (first.wish s i))
      ∙ wish_twice (is_taken_for t) (idle t) (entry_at a s) (wish_at a s) (within r s) (within q s)
      ∙ ap (λ x. wish_then (is_taken_for t) x (entry_at a s) (wish_at a s)) (sym (both s));
}

claim_in : Token → Claim → Claim
claim_in (code.Own c) d = c
claim_in (code.Name lent) d = d

-- a claim on a section
pub claim_is : (c d : Claim) (token : Token) → token ≡ code.Own c → token ≡ code.Own d → c ≡ d
unfolding claim_in
claim_is c d token is e = ap (λ x. claim_in x c) (sym is ∙ e)

frees_on : (t s : ℕ) (a b : Pages) → ((k : ℕ) → is_own b k ≡ is_own a k)
    → ((k : ℕ) → entry_at b k ≡ cond (is_taken_for t (entry_at a s) && (k == s)) (back_to (wish_at a s)) (entry_at a k))
    → ((k : ℕ) → wish_at b k ≡ cond (is_taken_for t (entry_at a s) && (k == s)) false (wish_at a k))
    → FreesRun t (one s) a b
frees_on t s a b homes entry wish = record {
  homes = homes;
  entry =
      λ k. entry k
      ∙ elim (eqb_tells k s) as (λ _. cond (is_taken_for t (entry_at a s) && (k == s)) (back_to (wish_at a s))
      (entry_at a k) ≡ entry_then (is_taken_for t) (within (one s) k) (entry_at a k) (wish_at a k)) [
        | inl e ↦
            rw (within_one s k, e.0, e.1)
            (ap (λ x. cond x (back_to (wish_at a s)) (entry_at a s)) (and-true (is_taken_for t (entry_at a s))))
        | inr e ↦
            rw (within_one s k, e.0)
            (ap (λ x. cond x (back_to (wish_at a s)) (entry_at a k)) (and-false (is_taken_for t (entry_at a s))))
      ];
  wish =
      λ k. wish k
      ∙ elim (eqb_tells k s) as (λ _. cond (is_taken_for t (entry_at a s) && (k == s)) false (wish_at a k)
      ≡ wish_then (is_taken_for t) (within (one s) k) (entry_at a k) (wish_at a k)) [
        | inl e ↦
            rw (within_one s k, e.0, e.1)
            (elim (is_taken_for t (entry_at a s)) as (λ x. cond (x && true) false (wish_at a s)
            ≡ (not x && wish_at a s)) [ true ↦ refl | false ↦ refl ])
        | inr e ↦
            rw (within_one s k, e.0) (ap (λ x. cond x false (wish_at a k)) (and-false (is_taken_for t (entry_at a s))))
      ];
}

-- the section of a claim
pub frees_one : (t s : ℕ) (claim : Claim) (a b : Pages) → claim ≡ claim_on s t → ((k : ℕ) → is_own b k ≡ is_own a k)
    → ((k : ℕ) → entry_at b k
    ≡ cond (is_taken_by a claim && (k == section_of claim)) (back_to (wish_at a (section_of claim))) (entry_at a k))
    → ((k : ℕ) → wish_at b k ≡ cond (is_taken_by a claim && (k == section_of claim)) false (wish_at a k))
    → FreesRun t (one s) a b
frees_one t s claim a b is homes entry wish = frees_on t s a b homes
    (λ k. entry k
    ∙ ap (λ (x : Claim). cond (is_taken_by a x && (k == section_of x)) (back_to (wish_at a (section_of x)))
    (entry_at a k)) is)
    (λ k. wish k ∙ ap (λ (x : Claim). cond (is_taken_by a x && (k == section_of x)) false (wish_at a k)) is)

hand_by : (h : Holding) (first : ℕ) (holds : List Held) → h.first ≡ first → h.holds ≡ holds
    → h ≡ record { first = first; holds = holds }
hand_by h first holds a b i = record { first = a i; holds = b i }

-- the first k sections of the hand have left
pub record HasFreedFront (t k : ℕ) (before now : Holding) (old new : Pages) : Type 0 where
  pub hand : now ≡ hand_rest k before
  pub book : FreesRun t (record { first = before.first; count = k }) old new

pub freed_front_none : (t : ℕ) (hand : Holding) (book : Pages) → HasFreedFront t 0 hand hand book book
freed_front_none t hand book =
    record { hand = hand_by hand (hand.first + 0) hand.holds (omega arith) refl; book = frees_none t hand.first book }

pub freed_front_more : (t k : ℕ) (first now next : Holding) (a b c : Pages) → HasFreedFront t k first now a b
    → next ≡ hand_rest 1 now → FreesRun t (one now.first) b c → HasFreedFront t (k + 1) first next a c
freed_front_more t k first now next a b c so_far cut frees =
    let begins : now.first ≡ first.first + k = ap (λ (h : Holding). h.first) so_far.hand in
    record {
      hand =
          cut ∙ ap (hand_rest 1) so_far.hand
          ∙ hand_by (hand_rest 1 (hand_rest k first)) (first.first + (k + 1)) (drop (k + 1) first.holds) (omega arith)
          (drop-drop 1 k first.holds);
      book =
          frees_then t _ (one now.first) _ a b c
          (λ j. within_more first.first k j
          ∙ ap (λ x. within (record { first = first.first; count = k }) j || within (one x) j) (sym begins)) so_far.book
          frees;
    }

-- the next one is in use and wished as before
pub wished_as_before : (t k s : ℕ) (first now : Holding) (a b : Pages) → HasFreedFront t k first now a b → s ≡ now.first
    → (is_taken_for t (entry_at b s) && wish_at b s)
    ≡ (is_taken_for t (entry_at a (first.first + k)) && wish_at a (first.first + k))
wished_as_before t k s first now a b so_far is =
    let there : s ≡ first.first + k = is ∙ ap (λ (h : Holding). h.first) so_far.hand in
    let out = not_within first.first k s there in
    let entry : entry_at b s ≡ entry_at a s =
    so_far.book.entry s ∙ ap (λ x. entry_then (is_taken_for t) x (entry_at a s) (wish_at a s)) out in
    let wish : wish_at b s ≡ wish_at a s =
    so_far.book.wish s ∙ ap (λ x. wish_then (is_taken_for t) x (entry_at a s) (wish_at a s)) out in
    (λ i. is_taken_for t (entry i) && wish i) ∙ ap (λ j. is_taken_for t (entry_at a j) && wish_at a j) there

-- a hand that has not lost all its sections
pub front_left : (k : ℕ) (first now : Holding) → now ≡ hand_rest k first → k < length first.holds
    → is_empty (run now) ≡ false
front_left k first now is lt =
    let count : length now.holds ≡ length first.holds - k =
    ap (λ (h : Holding). length h.holds) is ∙ length-drop k first.holds in
    grind (arith, nat_tests)

-- the last k sections have left
pub record HasFreedBack (t k : ℕ) (before now : Holding) (old new : Pages) : Type 0 where
  pub hand : now ≡ hand_front (length before.holds - k) before
  pub book : FreesRun t (record { first = before.first + (length before.holds - k); count = k }) old new

pub freed_back_none : (t : ℕ) (hand : Holding) (book : Pages) → HasFreedBack t 0 hand hand book book
freed_back_none t hand book = record {
  hand =
      hand_by hand hand.first (take (length hand.holds - 0) hand.holds) refl
      (sym (ap (λ n. take n hand.holds) all ∙ take-length hand.holds));
  book = frees_none t _ book;
}
  where
    all : length hand.holds - 0 ≡ length hand.holds
    all = omega arith

taken_twice_front : {X : Type 0} (n k : ℕ) (xs : List X) → n ≤ k → take n (take k xs) ≡ take n xs
taken_twice_front zero k xs le = refl
taken_twice_front (suc n) zero xs le = absurd (let no : ⊥ = omega arith in no)
taken_twice_front (suc n) (suc k) [] le = refl
taken_twice_front (suc n) (suc k) (x ∷ xs) le = ap (λ ys. x ∷ ys) (taken_twice_front n k xs (omega arith))

back_count : (k : ℕ) (first now : Holding) → now ≡ hand_front (length first.holds - k) first
    → length now.holds ≡ length first.holds - k
back_count k first now is =
    ap (λ (h : Holding). length h.holds) is ∙ length-take-le (length first.holds - k) first.holds (omega arith)

pub back_left : (k : ℕ) (first now : Holding) → now ≡ hand_front (length first.holds - k) first → k < length first.holds
    → is_empty (run now) ≡ false
back_left k first now is lt = let count = back_count k first now is in grind (arith, nat_tests)

pub freed_back_more : (t k : ℕ) (first now next : Holding) (a b c : Pages) → k < length first.holds
    → HasFreedBack t k first now a b → next ≡ hand_front (length now.holds - 1) now
    → FreesRun t (one (now.first + (length now.holds - 1))) b c → HasFreedBack t (k + 1) first next a c
freed_back_more t k first now next a b c lt so_far cut frees =
    let count = back_count k first now so_far.hand in
    let begins : now.first ≡ first.first = ap (λ (h : Holding). h.first) so_far.hand in
    let kept : length now.holds - 1 ≡ length first.holds - (k + 1) = omega (arith, count) in
    let last : now.first + (length now.holds - 1) ≡ first.first + (length first.holds - (k + 1)) =
    omega (arith, begins, count) in
    let after_last : first.first + (length first.holds - k) ≡ first.first + (length first.holds - (k + 1)) + 1 =
    omega arith in
    record {
      hand = cut ∙ (λ i. hand_front (kept i) (so_far.hand i))
          ∙ hand_by (hand_front (length first.holds - (k + 1)) (hand_front (length first.holds - k) first)) first.first
          (take (length first.holds - (k + 1)) first.holds) refl
          (taken_twice_front (length first.holds - (k + 1)) (length first.holds - k) first.holds (omega arith));
      book = frees_then t _ (one (now.first + (length now.holds - 1))) _ a b c
          (λ j. within_before (first.first + (length first.holds - (k + 1))) k j
          ∙ ap (λ x. within (record { first = x; count = k }) j
          || within (one (first.first + (length first.holds - (k + 1)))) j) (sym after_last)
          ∙ ap (λ x. within (record { first = first.first + (length first.holds - k); count = k }) j
          || within (one x) j) (sym last))
          so_far.book frees;
    }
