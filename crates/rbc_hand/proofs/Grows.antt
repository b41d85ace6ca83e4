-- Sections and claims that are added to a hand.
use Rattle.std.proofs.Common.{[], ◌++◌, ◌+◌, ◌-◌, ◌<◌, ◌==◌, ◌||◌, ◌∙◌, ◌∷◌, ◌≡◌, ◌≤◌, ap, append_assoc, arith, cond}
use Rattle.std.proofs.Common.{inl, inr, length, length-append, List, map, Option, option_to_list, refl, replicate}
use Rattle.std.proofs.Common.{subst, suc, sym, true, zero, ℕ}
use Rattle.std.proofs.lemmas.Bool.{and_from, and_parts, cases_lt, eq-eqb, eqb-true, lt-ltb, ltb-true, or_right}
use Rattle.std.proofs.lemmas.Bool.Decides.{eqb_tells}
use Rattle.std.proofs.lemmas.List.{append-nil, length-map, map-append}
use Rattle.rbc_book.specs.Claim.{claimed, claims_on, claims_train}
use Rattle.rbc_book.specs.declared.claim.Claims.{Claims}
use Rattle.rbc_hand.proofs.Ends.{follow-push, front_own}
use Rattle.rbc_hand.specs.declared.token.Token.{Token}
use Rattle.rbc_hand.specs.Hands.{Follow, Holding, holding, IsAllOwn, IsHand, own_tokens, run, takes}
use Rattle.rbc_hand.specs.Tokens.{Held, held_of, Own, section_of, token_of}
use Rattle.rbc_spec.specs.SectionRuns.{next_after, SectionRun}

pub rest_own : (t first : ℕ) (old new : List Token) (r : Option Token) → old ≡ new ++ option_to_list r
    → IsAllOwn t (holding first old) → IsAllOwn t (holding first new)
rest_own t first old new r split all =
    front_own t first new (option_to_list r) (subst (λ xs. IsAllOwn t (holding first xs)) split all)

-- ## A section is added after the last

-- the section may be added
pub record Fits (h : Holding) (s : ℕ) : Type 0 where
  pub room : length h.holds < 32
  pub number : s < 65535
  pub next : cond (length h.holds == 0) s h.first + length h.holds ≡ s

pub takes_fits : (h : Holding) (s : ℕ) → takes (run h) s ≡ true → Fits h s
unfolding takes
takes_fits h s taken =
    let parts = and_parts _ _ taken in
    let bounds = and_parts _ _ parts.0 in
    record {
      room = ltb-true (length h.holds) 32 bounds.0;
      number = ltb-true s 65535 bounds.1;
      next = by (length h.holds) (h.first) parts.1;
    }
  where
    by : (n first : ℕ) → ((n == 0) || (s == first + n)) ≡ true → cond (n == 0) s first + n ≡ s
    by n first =
        elim (eqb_tells n 0) as (λ _. ((n == 0) || (s == first + n)) ≡ true → cond (n == 0) s first + n ≡ s) [
          | inl e ↦ λ h. rw (e.0) (omega (arith, e.1))
          | inr e ↦ rw (e.0) (λ h. sym (eqb-true s (first + n) h))
        ]

at_some : (n s first : ℕ) → 0 < n → cond (n == 0) s first ≡ first
at_some n s first some =
    elim (eqb_tells n 0) as (λ _. cond (n == 0) s first ≡ first) [
      | inl e ↦ absurd (let no : ⊥ = omega (arith, e.1, some) in no)
      | inr e ↦ rw (e.0) refl
    ]

moved : (xs : List Token) (first f : ℕ) → (0 < length xs → f ≡ first) → Follow first xs → Follow f xs
moved [] first f e h = tt
moved (y ∷ ys) first f e h = subst (λ n. Follow n (y ∷ ys)) (sym (e (omega arith))) h

-- the tokens with one more are a hand
pub extends : (first : ℕ) (old new : List Token) (room more : ℕ) (x : Token) (from : ℕ) → new ≡ old ++ x ∷ []
    → more ≡ room → from ≡ cond (length (map held_of old) == 0) (section_of x) first
    → Fits (holding first old) (section_of x) → IsHand first old room → IsHand from new more
extends first old new room more x from push same begins fits is =
    let held : length (map held_of old) ≡ length old = length-map old held_of in
    let long : length new ≡ length old + 1 = ap length push ∙ length-append old (x ∷ []) in
    let next : from + length (map held_of old) ≡ section_of x =
    ap (λ f. f + length (map held_of old)) begins ∙ fits.next in
    record {
      sections = subst (Follow from) (sym push) (follow-push from old x
          (moved old first from (λ some. begins
          ∙ at_some (length (map held_of old)) (section_of x) first (omega (arith, held, some))) is.sections)
          (omega (arith, held, next)));
      count = omega (arith, fits.room, held, long);
      room = omega (arith, is.room, same);
      next_after = omega (arith, fits.number, next, held, long);
    }

pub takes_next : (r : SectionRun) (s : ℕ) → r.count < 32 → s < 65535 → s ≡ next_after r → takes r s ≡ true
unfolding takes
takes_next r s room number next =
    and_from _ _ (and_from _ _ (lt-ltb r.count 32 room) (lt-ltb s 65535 number))
    (or_right (r.count == 0) (s == next_after r) (eq-eqb s (next_after r) next))

pub takes_first : (r : SectionRun) (s : ℕ) → r.count ≡ 0 → s < 65535 → takes r s ≡ true
unfolding takes
takes_first r s none number =
    and_from _ _ (and_from _ _ (lt-ltb r.count 32 (omega (arith, none))) (lt-ltb s 65535 number))
    (ap (λ b. b || (s == next_after r)) (eq-eqb r.count 0 none))

-- ## Claims are added after the last

follow-append : (first : ℕ) (xs ys : List Token) → Follow first xs → Follow (first + length xs) ys
    → Follow first (xs ++ ys)
follow-append first [] ys h rest = subst (λ n. Follow n ys) (let e : first + 0 ≡ first = omega arith in e) rest
follow-append first (x ∷ xs) ys h rest = (
  h.0,
  follow-append (first + 1) xs ys h.1
      (subst (λ n. Follow n ys) (let e : first + suc (length xs) ≡ first + 1 + length xs = omega arith in e) rest),
)

own-follow : (first n t : ℕ) → Follow first (own_tokens first n t)
own-follow first zero t = tt
own-follow first (suc n) t = (refl, own-follow (first + 1) n t)

own-count : (first n t : ℕ) → length (own_tokens first n t) ≡ n
own-count first zero t = refl
own-count first (suc n) t = ap suc (own-count (first + 1) n t)

own-holds : (first n t : ℕ) → map held_of (own_tokens first n t) ≡ replicate n (Own t)
own-holds first zero t = refl
own-holds first (suc n) t = ap (λ hs. Own t ∷ hs) (own-holds (first + 1) n t)

own-push : (first n t : ℕ) → own_tokens first n t ++ token_of (first + n) (Own t) ∷ [] ≡ own_tokens first (suc n) t
own-push first zero t = ap (λ s. token_of s (Own t) ∷ []) (let e : first + 0 ≡ first = omega arith in e)
own-push first (suc n) t = ap (λ xs. token_of first (Own t) ∷ xs)
    (ap (λ s. own_tokens (first + 1) n t ++ token_of s (Own t) ∷ [])
    (let e : first + suc n ≡ first + 1 + n = omega arith in e) ∙ own-push (first + 1) n t)

-- k of the claims were added
pub record HasPushed (k : ℕ) (claims left : Claims) (old new : List Token) : Type 0 where
  pub rest : left ≡ claims_on (record { first = (claimed claims).first + k; count = (claimed claims).count - k })
      (claims_train claims)
  pub items : new ≡ old ++ own_tokens (claimed claims).first k (claims_train claims)

pub pushed_count : (k : ℕ) (claims left : Claims) (old new : List Token) → HasPushed k claims left old new
    → length new ≡ length old + k
pushed_count k claims left old new so_far = ap length so_far.items
    ∙ length-append old (own_tokens (claimed claims).first k (claims_train claims))
    ∙ ap (λ n. length old + n) (own-count (claimed claims).first k (claims_train claims))

pub pushed_none : (claims : Claims) (old : List Token) → HasPushed 0 claims claims old old
pushed_none claims old = record {
  rest = (let a : (claimed claims).first ≡ (claimed claims).first + 0 = omega arith in
      let b : (claimed claims).count ≡ (claimed claims).count - 0 = omega arith in
      λ i. claims_on (record { first = a i; count = b i }) (claims_train claims));
  items = sym (append-nil old);
}

pub pushed_more : (k : ℕ) (claims left rest : Claims) (token : Token) (old new more : List Token)
    → HasPushed k claims left old new
    → token ≡ token_of (claimed left).first (Own (claims_train left))
    → rest ≡ claims_on (record { first = (claimed left).first + 1; count = (claimed left).count - 1 })
    (claims_train left)
    → more ≡ new ++ token ∷ [] → HasPushed (k + 1) claims rest old more
pushed_more k claims left rest token old new more so_far is cut push =
    let begins : (claimed left).first ≡ (claimed claims).first + k =
    ap (λ (c : Claims). (claimed c).first) so_far.rest in
    let count : (claimed left).count ≡ (claimed claims).count - k =
    ap (λ (c : Claims). (claimed c).count) so_far.rest in
    let train : claims_train left ≡ claims_train claims = ap (λ (c : Claims). claims_train c) so_far.rest in
    let a : (claimed left).first + 1 ≡ (claimed claims).first + (k + 1) = omega (arith, begins) in
    let b : (claimed left).count - 1 ≡ (claimed claims).count - (k + 1) = omega (arith, count) in
    record {
      rest = cut ∙ (λ i. claims_on (record { first = a i; count = b i }) (train i));
      items = push ∙ (λ i. so_far.items i ++ (is ∙ (λ j. token_of (begins j) (Own (train j)))) i ∷ [])
          ∙ append_assoc old (own_tokens (claimed claims).first k (claims_train claims))
          (token_of ((claimed claims).first + k) (Own (claims_train claims)) ∷ [])
          ∙ ap (λ xs. old ++ xs) (own-push (claimed claims).first k (claims_train claims)
          ∙ ap (λ n. own_tokens (claimed claims).first n (claims_train claims))
          (let e : suc k ≡ k + 1 = omega arith in e));
    }

-- the tokens with those of the claims are a hand
pub extends_own : (first from t room more : ℕ) (r : SectionRun) (old new : List Token)
    → new ≡ old ++ own_tokens r.first r.count t → more ≡ room
    → from ≡ cond (length (map held_of old) == 0) r.first first → length (map held_of old) + r.count ≤ 32
    → next_after r ≤ 65535
    → (0 < length (map held_of old) → first + length (map held_of old) ≡ r.first)
    → IsHand first old room → IsHand from new more
extends_own first from t room more r old new push same begins fits numbers next is =
    let held : length (map held_of old) ≡ length old = length-map old held_of in
    let long : length new ≡ length old + r.count = ap length push ∙ length-append old (own_tokens r.first r.count t)
    ∙ ap (λ n. length old + n) (own-count r.first r.count t) in
    let at : from + length old ≡ r.first = elim (cases_lt 0 (length old)) [
      | inl some ↦ let stays = begins ∙ at_some (length (map held_of old)) r.first first (omega (arith, held, some)) in
          let e = next (omega (arith, held, some)) in omega (arith, stays, e, held)
      | inr none ↦ let moves : from ≡ r.first = begins
          ∙ ap (λ b. cond b r.first first) (eq-eqb (length (map held_of old)) 0 (omega (arith, held, none))) in
          omega (arith, moves, none)
    ] in
    record {
      sections = subst (Follow from) (sym push) (follow-append from old (own_tokens r.first r.count t)
          (moved old first from (λ some. begins
          ∙ at_some (length (map held_of old)) r.first first (omega (arith, held, some))) is.sections)
          (subst (λ s. Follow s (own_tokens r.first r.count t)) (sym at) (own-follow r.first r.count t)));
      count = omega (arith, fits, held, long);
      room = omega (arith, is.room, same);
      next_after = omega (arith, numbers, at, long);
    }

-- the holdings are those before, and the claims
pub holds_own : (first n t : ℕ) (old new : List Token) → new ≡ old ++ own_tokens first n t
    → map held_of new ≡ map held_of old ++ replicate n (Own t)
holds_own first n t old new push = ap (map held_of) push ∙ map-append held_of old (own_tokens first n t)
    ∙ ap (λ hs. map held_of old ++ hs) (own-holds first n t)

pub hand_of : (first from : ℕ) (tokens : List Token) (holds : List Held) → first ≡ from → map held_of tokens ≡ holds
    → holding first tokens ≡ record { first = from; holds = holds }
hand_of first from tokens holds a b i = record { first = a i; holds = b i }
