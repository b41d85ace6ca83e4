-- The tokens of the sections of a hand.
use Rattle.std.proofs.Common.{[], ◌&&◌, ◌++◌, ◌+◌, ◌-◌, ◌<◌, ◌∙◌, ◌∷◌, ◌≡◌, ◌≤◌, ◌⊎◌, ap, arith, Bool, drop, eq-eqb}
use Rattle.std.proofs.Common.{false, inl, inr, length, List, None, not, Option, option_map, refl, replicate, slice_get}
use Rattle.std.proofs.Common.{Some, subst, suc, sym, take, true, zero, ℕ}
use Rattle.std.proofs.lemmas.Bool.{cases_Bool, eqb-true, false≢true}
use Rattle.std.proofs.lemmas.Bool.Decides.{eqb_tells}
use Rattle.std.proofs.lemmas.List.{length-drop, length-take-le}
use Rattle.std.proofs.lemmas.Option.{none-some, same_Some, slice_get_within}
use Rattle.std.specs.List.{AllByRecursion}
use Rattle.rbc_allocation.proofs.Runs.{within_one}
use Rattle.rbc_allocation.specs.Sections.{FreesRun, hand_front, hand_rest, is_held_as, IsHeldAt, IsHeldBy}
use Rattle.rbc_book.proofs.Pages.{foreign_is_shut}
use Rattle.rbc_book.specs.Book.{entry_at, is_own, Pages, wish_at}
use Rattle.rbc_book.specs.Claim.{claim_on}
use Rattle.rbc_book.specs.declared.claim.Claim.{Claim}
use Rattle.rbc_hand.specs.declared.lent.Lent.{Lent}
use Rattle.rbc_hand.specs.declared.token.Token.{Token}
use Rattle.rbc_hand.specs.declared.token.Token.TheVariants as code
use Rattle.rbc_hand.specs.Hands.{Holding, IsAllOwn, one, run, token_at}
use Rattle.rbc_hand.specs.Tokens.{Held, Name, Own, token_of}
use Rattle.rbc_spec.specs.Centre.{is_taken_for}
use Rattle.rbc_spec.specs.SectionRuns.{SectionRun, within}

-- ## Lists

slice_get-drop : {X : Type 0} (k : ℕ) (xs : List X) (i j : ℕ) → j ≡ k + i → slice_get (drop k xs) i ≡ slice_get xs j
slice_get-drop zero xs i j e = let same : i ≡ j = omega (arith, e) in ap (slice_get xs) same
slice_get-drop (suc k) [] i j e = refl
slice_get-drop (suc k) (x ∷ xs) i zero e = absurd (let no : ⊥ = omega (arith, e) in no)
slice_get-drop (suc k) (x ∷ xs) i (suc j) e = slice_get-drop k xs i j (omega (arith, e))

-- an item of the first part of a list is in the list
slice_get-take : {X : Type 0} (k : ℕ) (xs : List X) (i : ℕ) (x : X) → slice_get (take k xs) i ≡ Some x
    → slice_get xs i ≡ Some x
slice_get-take zero xs i x h = absurd (none-some x h)
slice_get-take (suc k) [] i x h = h
slice_get-take (suc k) (y ∷ ys) zero x h = h
slice_get-take (suc k) (y ∷ ys) (suc i) x h = slice_get-take k ys i x h

-- an item of a joined list is in the first or in the second list
slice_get-append : {X : Type 0} (xs ys : List X) (i : ℕ) (x : X) → slice_get (xs ++ ys) i ≡ Some x
    → (slice_get xs i ≡ Some x) ⊎ ((j : ℕ) × (i ≡ length xs + j) × (slice_get ys j ≡ Some x))
slice_get-append [] ys i x h = inr (i, omega arith, h)
slice_get-append (y ∷ xs) ys zero x h = inl h
slice_get-append (y ∷ xs) ys (suc i) x h = elim (slice_get-append xs ys i x h) [
  | inl e ↦ inl e
  | inr e ↦ inr (e.0, omega (arith, e.1), e.2)
]

slice_get-replicate : {X : Type 0} (n : ℕ) (y : X) (j : ℕ) (x : X) → slice_get (replicate n y) j ≡ Some x
    → (j < n) × (x ≡ y)
slice_get-replicate zero y j x h = absurd (none-some x h)
slice_get-replicate (suc n) y zero x h = (omega arith, sym (same_Some y x h))
slice_get-replicate (suc n) y (suc j) x h = let rest = slice_get-replicate n y j x h in (omega (arith, rest.0), rest.1)

-- ## In a hand

-- by homes that agree with those before
module _ (t : ℕ) (is_home is_home' : ℕ → Bool) (same : (s : ℕ) → is_home' s ≡ is_home s) where
  pub held_rest : (n : ℕ) (h : Holding) → IsHeldAt t is_home h → IsHeldAt t is_home' (hand_rest n h)
  held_rest n h so i held at =
      let there : h.first + n + i ≡ h.first + (n + i) = omega arith in
      ap (λ b. is_held_as t b held) (same (h.first + n + i) ∙ ap is_home there)
      ∙ so (n + i) held (sym (slice_get-drop n h.holds i (n + i) refl) ∙ at)

  pub held_front : (n : ℕ) (h : Holding) → IsHeldAt t is_home h → IsHeldAt t is_home' (hand_front n h)
  held_front n h so i held at = ap (λ b. is_held_as t b held) (same (h.first + i))
      ∙ so i held (slice_get-take n h.holds i held at)

  -- with more of one kind after the last
  pub held_more : (h g : Holding) (n : ℕ) (x : Held) → (0 < length h.holds → g.first ≡ h.first)
      → g.holds ≡ h.holds ++ replicate n x
      → ((j : ℕ) → j < n → is_held_as t (is_home' (g.first + (length h.holds + j))) x ≡ true) → IsHeldAt t is_home h
      → IsHeldAt t is_home' g
  held_more h g n x begins holds more so i held at =
      elim (slice_get-append h.holds (replicate n x) i held (sym (ap (λ xs. slice_get xs i) holds) ∙ at)) [
        | inl old ↦
            let inside : i < length h.holds = slice_get_within h.holds i held old in
            let from : g.first ≡ h.first = begins (omega arith) in
            ap (λ b. is_held_as t b held) (same (g.first + i) ∙ ap (λ f. is_home (f + i)) from) ∙ so i held old
        | inr new ↦
            let is = slice_get-replicate n x new.0 held new.2 in
            ap (λ k. is_held_as t (is_home' (g.first + k)) held) new.1
            ∙ ap (is_held_as t (is_home' (g.first + (length h.holds + new.0)))) is.1 ∙ more new.0 is.0
      ]

own_at : (t : ℕ) (xs : List Held) (i : ℕ) (x : Held) → AllByRecursion (λ held. held ≡ Own t) xs
    → slice_get xs i ≡ Some x → x ≡ Own t
own_at t [] i x all at = absurd (none-some x at)
own_at t (y ∷ ys) zero x all at = sym (same_Some y x at) ∙ all.0
own_at t (y ∷ ys) (suc i) x all at = own_at t ys i x all.1 at

-- a hand of only claims for the train
pub own_held : (t : ℕ) (is_home : ℕ → Bool) (h : Holding) → IsAllOwn t h → IsHeldAt t is_home h
own_held t is_home h all i held at = ap (is_held_as t (is_home (h.first + i))) (own_at t h.holds i held all at)
    ∙ eq-eqb t t refl

-- a hand of only claims for the train, with more of them, has only such claims
own_append : (t n : ℕ) (xs : List Held) → AllByRecursion (λ held. held ≡ Own t) xs
    → AllByRecursion (λ held. held ≡ Own t) (xs ++ replicate n (Own t))
own_append t zero [] all = tt
own_append t (suc n) [] all = (refl, own_append t n [] tt)
own_append t n (x ∷ xs) all = (all.0, own_append t n xs all.1)

pub own_more : (t n : ℕ) (h g : Holding) → IsAllOwn t h → g.holds ≡ h.holds ++ replicate n (Own t) → IsAllOwn t g
own_more t n h g all holds = subst (AllByRecursion (λ held. held ≡ Own t)) (sym holds) (own_append t n h.holds all)

-- ## The run of a hand

run_by : (r : SectionRun) (first count : ℕ) → r.first ≡ first → r.count ≡ count
    → r ≡ record { first = first; count = count }
run_by r first count a b i = record { first = a i; count = b i }

pub run_rest : (n : ℕ) (h g : Holding) → g ≡ hand_rest n h
    → run g ≡ record { first = h.first + n; count = length h.holds - n }
run_rest n h g is =
    ap run is ∙ run_by (run (hand_rest n h)) (h.first + n) (length h.holds - n) refl (length-drop n h.holds)

pub run_front : (n : ℕ) (h g : Holding) → n ≤ length h.holds → g ≡ hand_front n h
    → run g ≡ record { first = h.first; count = n }
run_front n h g most is = ap run is ∙ run_by (run (hand_front n h)) h.first n refl (length-take-le n h.holds most)

-- ## A token that is given back

-- the token of the k-th section
record IsTokenAt (h : Holding) (k : ℕ) (token : Token) : Type 0 where
  held : Held
  at : slice_get h.holds k ≡ Some held
  is : token ≡ token_of (h.first + k) held

token_is : (h : Holding) (k : ℕ) (token : Token) (o : Option Token) → o ≡ token_at h k → o ≡ Some token
    → IsTokenAt h k token
token_is h k token o is some = by (slice_get h.holds k) refl (sym is ∙ some)
  where
    by : (g : Option Held) → slice_get h.holds k ≡ g → option_map (token_of (h.first + k)) g ≡ Some token
        → IsTokenAt h k token
    by None at e = absurd (none-some token e)
    by (Some x) at e = record { held = x; at = at; is = sym (same_Some (token_of (h.first + k) x) token e) }

-- a property of the section and train of such a token holds of the k-th section of the hand
pub ends_at : (P : ℕ → ℕ → Type 0) (t : ℕ) (h : Holding) (k s : ℕ) (token : Token) (o : Option Token) (a : Pages)
    → h.first + k ≡ s → o ≡ token_at h k → o ≡ Some token → IsHeldBy t h a
    → ((s t : ℕ) (held : Held) → token ≡ token_of s held → is_held_as t (is_own a s) held ≡ true → P s t) → P s t
ends_at P t h k s token o a there is some so ends =
    let found = token_is h k token o is some in
    subst (λ n. P n t) there (ends (h.first + k) t found.held found.is (so k found.held found.at))

-- to give back such a token is to give back its section
pub frees_at : (t : ℕ) (h : Holding) (k s : ℕ) (token : Token) (o : Option Token) (a b : Pages) → h.first + k ≡ s
    → o ≡ token_at h k → o ≡ Some token → IsHeldBy t h a
    → ((s t : ℕ) (held : Held) → token ≡ token_of s held → is_held_as t (is_own a s) held ≡ true
    → FreesRun t (one s) a b) → FreesRun t (one s) a b
frees_at t h k s token o a b = ends_at (λ s t. FreesRun t (one s) a b) t h k s token o a

-- the result of giving a section back is whether it was wished back
pub told_at : (t : ℕ) (h : Holding) (k s : ℕ) (token : Token) (o : Option Token) (a : Pages) (b : Bool)
    → h.first + k ≡ s → o ≡ token_at h k → o ≡ Some token → IsHeldBy t h a
    → ((s t : ℕ) (held : Held) → token ≡ token_of s held → is_held_as t (is_own a s) held ≡ true
    → b ≡ (is_taken_for t (entry_at a s) && wish_at a s)) → b ≡ (is_taken_for t (entry_at a s) && wish_at a s)
told_at t h k s token o a b = ends_at (λ s t. b ≡ (is_taken_for t (entry_at a s) && wish_at a s)) t h k s token o a

-- a claim that is held is for the train
pub claim_held : (t s : ℕ) (is_home : Bool) (held : Held) (token : Token) (claim : Claim) → token ≡ code.Own claim
    → token ≡ token_of s held → is_held_as t is_home held ≡ true → token ≡ code.Own (claim_on s t)
claim_held t s is_home (Own u) token claim own is so = is ∙ ap (λ n. code.Own (claim_on s n)) (eqb-true u t so)
claim_held t s is_home (Name u home) token claim own is so = cc

-- a section of another home frees nothing
frees_foreign : (t s : ℕ) (book : Pages) → is_own book s ≡ false → FreesRun t (one s) book book
frees_foreign t s book foreign = record {
  homes = λ k. refl;
  entry = λ k. rw (idle k) refl;
  wish = λ k. rw (idle k) refl;
}
  where
    idle : (k : ℕ) → (within (one s) k && is_taken_for t (entry_at book k)) ≡ false
    idle k = elim (eqb_tells k s) as (λ _. (within (one s) k && is_taken_for t (entry_at book k)) ≡ false) [
      | inl e ↦
          rw (within_one s k, e.0)
          (ap (λ j. is_taken_for t (entry_at book j)) e.1 ∙ ap (is_taken_for t) (foreign_is_shut book s foreign))
      | inr e ↦ rw (within_one s k, e.0) refl
    ]

-- a name that is held is of a section of another home
name_foreign : (t s : ℕ) (held : Held) (token : Token) (lent : Lent) (book : Pages) → token ≡ code.Name lent
    → token ≡ token_of s held → is_held_as t (is_own book s) held ≡ true → is_own book s ≡ false
name_foreign t s (Own u) token lent book name is so = let no : ⊥ = cc in absurd no
name_foreign t s (Name u home) token lent book name is so =
    elim (cases_Bool (is_own book s)) as (λ _. is_own book s ≡ false) [
      | inl own ↦ absurd (false≢true (sym (ap not own) ∙ so))
      | inr foreign ↦ foreign
    ]

-- nor does a name that is held
pub name_held : (t s : ℕ) (held : Held) (token : Token) (lent : Lent) (book : Pages) → token ≡ code.Name lent
    → token ≡ token_of s held → is_held_as t (is_own book s) held ≡ true → FreesRun t (one s) book book
name_held t s held token lent book name is so =
    frees_foreign t s book (name_foreign t s held token lent book name is so)

-- the section of a name that is held was not wished back here
pub name_untold : (t s : ℕ) (held : Held) (token : Token) (lent : Lent) (book : Pages) → token ≡ code.Name lent
    → token ≡ token_of s held → is_held_as t (is_own book s) held ≡ true
    → false ≡ (is_taken_for t (entry_at book s) && wish_at book s)
name_untold t s held token lent book name is so =
    ap (λ e. is_taken_for t e && wish_at book s)
    (sym (foreign_is_shut book s (name_foreign t s held token lent book name is so)))
