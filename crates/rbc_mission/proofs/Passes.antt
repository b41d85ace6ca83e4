-- Sections that pass to another centre with a train, and arrive with one.
use Rattle.std.proofs.Common.{[], ◌&&◌, ◌++◌, ◌+◌, ◌<◌, ◌==◌, ◌||◌, ◌∙◌, ◌∷◌, ◌≡◌, ◌⊎◌, ap, arith, Bool, cond, drop}
use Rattle.std.proofs.Common.{false, inl, inr, length, List, None, not, Option, option_map, refl, slice_get, Some}
use Rattle.std.proofs.Common.{subst, suc, sym, true, zero, ℕ}
use Rattle.std.proofs.lemmas.Bool.{cases_Bool, eqb-true, false≢true}
use Rattle.std.proofs.lemmas.Bool.Decides.{eqb_tells, nat_tests}
use Rattle.std.proofs.lemmas.List.{drop-drop}
use Rattle.std.proofs.lemmas.Option.{cond_some, none-some, same_Some, slice_get_within}
use Rattle.rbc_allocation.proofs.Runs.{within_more, within_none, within_one}
use Rattle.rbc_allocation.specs.Sections.{hand_rest, is_held_as, IsHeldAt, IsHeldBy}
use Rattle.rbc_book.proofs.Pages.{foreign_is_shut}
use Rattle.rbc_book.specs.Book.{entry_at, is_own, Pages, wish_at}
use Rattle.rbc_book.specs.Claim.{claim_if, claim_on, is_taken_by, section_of, train_of}
use Rattle.rbc_book.specs.declared.claim.Claim.{Claim}
use Rattle.rbc_hand.specs.declared.lent.Lent.{Lent}
use Rattle.rbc_hand.specs.declared.token.Token.{Token}
use Rattle.rbc_hand.specs.declared.token.Token.TheVariants as code
use Rattle.rbc_hand.specs.Hands.{extended, Holding, one, run, token_at}
use Rattle.rbc_hand.specs.Tokens.{Held, Name, Own, token_of}
use Rattle.rbc_mission.specs.Passing.{IsBooked}
use Rattle.rbc_spec.specs.Centre.{Entry, is_out_for, is_taken_for, Out, Taken}
use Rattle.rbc_spec.specs.SectionRuns.{is_empty, SectionRun, within}

-- ## In the book

module _ (is_meant : Entry → Bool) (entry : Entry) where
  pub booked_none : (first : ℕ) (book : Pages) → IsBooked is_meant entry (record { first = first; count = 0 }) book book
  booked_none first book = record { homes = λ s. refl; entries = λ s. rw (within_none first s) refl; wish = λ s. refl }

  twice : (e : Entry) (x y : Bool)
      → cond (y && is_meant (cond (x && is_meant e) entry e)) entry (cond (x && is_meant e) entry e)
      ≡ cond ((x || y) && is_meant e) entry e
  twice e false false = refl
  twice e false true = refl
  twice e true y =
      elim (cases_Bool (is_meant e)) as (λ _. cond (y && is_meant (cond (is_meant e) entry e)) entry
      (cond (is_meant e) entry e) ≡ cond (is_meant e) entry e) [
        | inl h ↦ rw h (either (y && is_meant entry))
        | inr h ↦
            rw h (ap (λ b. cond (y && b) entry e) h ∙ elim y as (λ b. cond (b && false) entry e ≡ e) [
              | true ↦ refl
              | false ↦ refl
            ])
      ]
    where
      either : (b : Bool) → cond b entry entry ≡ entry
      either true = refl
      either false = refl

  -- one run after another
  pub booked_then : (r q p : SectionRun) (a b c : Pages) → ((s : ℕ) → within p s ≡ (within r s || within q s))
      → IsBooked is_meant entry r a b → IsBooked is_meant entry q b c → IsBooked is_meant entry p a c
  booked_then r q p a b c both first next = record {
    homes = λ s. next.homes s ∙ first.homes s;
    entries = λ s. next.entries s ∙ ap (λ e. cond (within q s && is_meant e) entry e) (first.entries s)
        ∙ twice (entry_at a s) (within r s) (within q s)
        ∙ ap (λ x. cond (x && is_meant (entry_at a s)) entry (entry_at a s)) (sym (both s));
    wish = λ s. next.wish s ∙ first.wish s;
  }

  -- one section
  pub booked_one : (s : ℕ) (a b : Pages) → ((k : ℕ) → is_own b k ≡ is_own a k)
      → ((k : ℕ) → entry_at b k ≡ cond (is_meant (entry_at a s) && (k == s)) entry (entry_at a k))
      → ((k : ℕ) → wish_at b k ≡ wish_at a k) → IsBooked is_meant entry (one s) a b
  booked_one s a b homes entries wish = record {
    homes = homes;
    entries =
        λ k. entries k
        ∙ elim (eqb_tells k s) as (λ _. cond (is_meant (entry_at a s) && (k == s)) entry (entry_at a k)
        ≡ cond (within (one s) k && is_meant (entry_at a k)) entry (entry_at a k)) [
          | inl e ↦
              rw (within_one s k, e.0, e.1)
              (elim (is_meant (entry_at a s)) as (λ x. cond (x && true) entry (entry_at a s)
              ≡ cond x entry (entry_at a s)) [ true ↦ refl | false ↦ refl ])
          | inr e ↦
              rw (within_one s k, e.0)
              (elim (is_meant (entry_at a s)) as (λ x. cond (x && false) entry (entry_at a k) ≡ entry_at a k) [
                | true ↦ refl
                | false ↦ refl
              ])
        ];
    wish = wish;
  }

  -- a section that is not meant
  pub booked_idle : (s : ℕ) (book : Pages) → is_meant (entry_at book s) ≡ false
      → IsBooked is_meant entry (one s) book book
  booked_idle s book idle = booked_one s book book (λ k. refl) (λ k. rw idle refl) (λ k. refl)

-- ## A token passes

-- the section of a claim
pub passes_one : (t s : ℕ) (claim : Claim) (a b : Pages) → claim ≡ claim_on s t → ((k : ℕ) → is_own b k ≡ is_own a k)
    → ((k : ℕ) → entry_at b k
    ≡ cond (is_taken_by a claim && (k == section_of claim)) (Out (train_of claim)) (entry_at a k))
    → ((k : ℕ) → wish_at b k ≡ wish_at a k) → IsBooked (is_taken_for t) (Out t) (one s) a b
passes_one t s claim a b is homes entry wish = booked_one (is_taken_for t) (Out t) s a b homes
    (λ k. entry k ∙ ap (λ (x : Claim). cond (is_taken_by a x && (k == section_of x)) (Out (train_of x)) (entry_at a k))
    is) wish

-- the name of a section
pub passes_name : (t s : ℕ) (held : Held) (token : Token) (lent : Lent) (book : Pages) → token ≡ code.Name lent
    → token ≡ token_of s held → is_held_as t (is_own book s) held ≡ true
    → IsBooked (is_taken_for t) (Out t) (one s) book book
passes_name t s (Own u) token lent book name is so = let no : ⊥ = cc in absurd no
passes_name t s (Name u home) token lent book name is so =
    booked_idle (is_taken_for t) (Out t) s book
    (ap (is_taken_for t) (foreign_is_shut book s (elim (cases_Bool (is_own book s)) as (λ _. is_own book s ≡ false) [
      | inl own ↦ absurd (false≢true (sym (ap not own) ∙ so))
      | inr foreign ↦ foreign
    ])))

-- the token of the first section
record IsFront (h : Holding) (token : Token) : Type 0 where
  held : Held
  at : slice_get h.holds 0 ≡ Some held
  is : token ≡ token_of (h.first + 0) held

front_is : (h : Holding) (token : Token) (o : Option Token) → o ≡ token_at h 0 → o ≡ Some token → IsFront h token
front_is h token o is some = by (slice_get h.holds 0) refl (sym is ∙ some)
  where
    by : (g : Option Held) → slice_get h.holds 0 ≡ g → option_map (token_of (h.first + 0)) g ≡ Some token
        → IsFront h token
    by None at e = absurd (none-some token e)
    by (Some x) at e = record { held = x; at = at; is = sym (same_Some (token_of (h.first + 0) x) token e) }

-- to pass a token with these holdings is to pass the first section
pub passes_front : (t : ℕ) (h : Holding) (token : Token) (o : Option Token) (a b : Pages) → o ≡ token_at h 0
    → o ≡ Some token → IsHeldBy t h a
    → ((s t : ℕ) (held : Held) → token ≡ token_of s held → is_held_as t (is_own a s) held ≡ true
    → IsBooked (is_taken_for t) (Out t) (one s) a b)
    → IsBooked (is_taken_for t) (Out t) (one h.first) a b
passes_front t h token o a b is some so passes =
    let found = front_is h token o is some in
    let there : h.first + 0 ≡ h.first = omega arith in
    subst (λ n. IsBooked (is_taken_for t) (Out t) (one n) a b) there
    (passes (h.first + 0) t found.held found.is (so 0 found.held found.at))

-- ## After k sections have passed

hand_by : (h : Holding) (first : ℕ) (holds : List Held) → h.first ≡ first → h.holds ≡ holds
    → h ≡ record { first = first; holds = holds }
hand_by h first holds a b i = record { first = a i; holds = b i }

-- the first k sections of the hand have passed
pub record HasPassed (t k : ℕ) (before now : Holding) (old new : Pages) : Type 0 where
  pub hand : now ≡ hand_rest k before
  pub book : IsBooked (is_taken_for t) (Out t) (record { first = before.first; count = k }) old new

pub none_passed : (t : ℕ) (hand : Holding) (book : Pages) → HasPassed t 0 hand hand book book
none_passed t hand book =
    record {
      hand = hand_by hand (hand.first + 0) hand.holds (omega arith) refl;
      book = booked_none (is_taken_for t) (Out t) hand.first book;
    }

pub more_passed : (t k : ℕ) (first now next : Holding) (a b c : Pages) → HasPassed t k first now a b
    → next ≡ hand_rest 1 now → IsBooked (is_taken_for t) (Out t) (one now.first) b c
    → HasPassed t (k + 1) first next a c
more_passed t k first now next a b c so_far cut passes =
    let begins : now.first ≡ first.first + k = ap (λ (h : Holding). h.first) so_far.hand in
    record {
      hand =
          cut ∙ ap (hand_rest 1) so_far.hand
          ∙ hand_by (hand_rest 1 (hand_rest k first)) (first.first + (k + 1)) (drop (k + 1) first.holds) (omega arith)
          (drop-drop 1 k first.holds);
      book =
          booked_then (is_taken_for t) (Out t) _ (one now.first) _ a b c
          (λ j. within_more first.first k j
          ∙ ap (λ x. within (record { first = first.first; count = k }) j || within (one x) j) (sym begins)) so_far.book
          passes;
    }

-- ## After k sections have arrived

-- the first k sections are in the hand
pub record HasCome (t first k : ℕ) (hand : Holding) (old new : Pages) : Type 0 where
  pub count : length hand.holds ≡ k
  pub begins : 0 < k → hand.first ≡ first
  pub held : IsHeldAt t (is_own old) hand
  pub book : IsBooked (is_out_for t) (Taken t) (record { first = first; count = k }) old new

pub none_come : (t first : ℕ) (hand : Holding) (book : Pages) → is_empty (run hand) ≡ true
    → HasCome t first 0 hand book book
none_come t first hand book empty =
    let none : length hand.holds ≡ 0 = eqb-true (length hand.holds) 0 empty in
    record {
      count = none;
      begins = λ some. absurd (let no : ⊥ = omega (arith, some) in no);
      held =
          λ i held at. absurd (let inside : i < length hand.holds = slice_get_within hand.holds i held at in
          let no : ⊥ = omega (arith, inside, none) in no);
      book = booked_none (is_out_for t) (Taken t) first book;
    }

last_or_before : (xs : List Held) (x : Held) (i : ℕ) (held : Held) → slice_get (xs ++ x ∷ []) i ≡ Some held
    → (slice_get xs i ≡ Some held) ⊎ ((i ≡ length xs) × (x ≡ held))
last_or_before [] x zero held at = inr (refl, same_Some x held at)
last_or_before [] x (suc i) held at = absurd (none-some held at)
last_or_before (y ∷ ys) x zero held at = inl at
last_or_before (y ∷ ys) x (suc i) held at =
    elim (last_or_before ys x i held at) [ inl e ↦ inl e | inr e ↦ inr (ap suc e.0, e.1) ]

pub more_come : (t first k s : ℕ) (x : Held) (hand more : Holding) (a b c : Pages) → s ≡ first + k
    → HasCome t first k hand a b → more ≡ extended hand s x → is_held_as t (is_own b s) x ≡ true
    → IsBooked (is_out_for t) (Taken t) (one s) b c → HasCome t first (k + 1) more a c
more_come t first k s x hand more a b c is before longer so next = record {
  count = let counted : length more.holds ≡ suc k = ap (λ (h : Holding). length h.holds) longer ∙ long hand.holds
      ∙ ap suc before.count in omega (arith, counted);
  begins = λ _. ap (λ (h : Holding). h.first) longer ∙ start k refl;
  held =
      λ i held at.
      by i held (last_or_before hand.holds x i held (sym (ap (λ (h : Holding). slice_get h.holds i) longer) ∙ at));
  book =
      booked_then (is_out_for t) (Taken t) _ (one s) _ a b c
      (λ j. within_more first k j
      ∙ ap (λ n. within (record { first = first; count = k }) j || within (one n) j) (sym is)) before.book next;
}
  where
    long : (xs : List Held) → length (xs ++ x ∷ []) ≡ suc (length xs)
    long [] = refl
    long (y ∷ ys) = ap suc (long ys)

    start : (n : ℕ) → k ≡ n → cond (length hand.holds == 0) s hand.first ≡ first
    start zero e = rw (before.count ∙ e) (let none : s ≡ first = omega (arith, is, e) in none)
    start (suc n) e =
        elim (eqb_tells (length hand.holds) 0) as (λ _. cond (length hand.holds == 0) s hand.first ≡ first) [
          | inl h ↦ absurd (let no : ⊥ = omega (arith, e, h.1, before.count) in no)
          | inr h ↦ rw h.0 (before.begins (omega (arith, e)))
        ]

    begins : more.first ≡ first
    begins = ap (λ (h : Holding). h.first) longer ∙ start k refl

    by : (i : ℕ) (held : Held) → (slice_get hand.holds i ≡ Some held) ⊎ ((i ≡ length hand.holds) × (x ≡ held))
        → is_held_as t (is_own a (more.first + i)) held ≡ true
    by i held (inl old) =
        let inside : i < length hand.holds = slice_get_within hand.holds i held old in
        let some : hand.first ≡ first = before.begins (omega (arith, inside, before.count)) in
        ap (λ n. is_held_as t (is_own a (n + i)) held) (begins ∙ sym some) ∙ before.held i held old
    by i held (inr new) =
        let there : more.first + i ≡ s = omega (arith, begins, new.0, before.count, is) in
        (λ j. is_held_as t (is_own a (there j)) (sym new.1 j))
        ∙ ap (λ own. is_held_as t own x) (sym (before.book.homes s)) ∙ so

-- the next section is one of the arriving ones, and nothing is booked for it yet
pub next_within : (first k count : ℕ) → k < count → within (record { first = first; count = count }) (first + k) ≡ true
unfolding within
next_within first k count lt = grind (nat_tests, arith, lt)

next_without : (first k : ℕ) → within (record { first = first; count = k }) (first + k) ≡ false
unfolding within
next_without first k = grind (nat_tests, arith)

pub next_is_out : (t first k count : ℕ) (hand : Holding) (a b : Pages) → k < count → HasCome t first k hand a b
    → ((s : ℕ) → within (record { first = first; count = count }) s ≡ true → is_own a s ≡ true
    → is_out_for t (entry_at a s) ≡ true)
    → is_own b (first + k) ≡ true → is_out_for t (entry_at b (first + k)) ≡ true
next_is_out t first k count hand a b lt before out own =
    ap (is_out_for t) (before.book.entries (first + k)
    ∙ ap (λ x. cond (x && is_out_for t (entry_at a (first + k))) (Taken t) (entry_at a (first + k)))
    (next_without first k))
    ∙ out (first + k) (next_within first k count lt) (sym (before.book.homes (first + k)) ∙ own)

pub held_by : (t : ℕ) (r : SectionRun) (hand : Holding) (a b : Pages) → IsBooked (is_out_for t) (Taken t) r a b
    → IsHeldAt t (is_own a) hand → IsHeldBy t hand b
held_by t r hand a b booked held i x at = ap (λ own. is_held_as t own x) (booked.homes (hand.first + i)) ∙ held i x at

inside : (first k count j : ℕ) → j ≡ first + k → k < count → within (record { first = first; count = count }) j ≡ true
unfolding within
inside first k count j e lt = grind (arith, nat_tests)

-- ## The token of an arriving section

pub held_claim : (t s : ℕ) (b : Bool) (own : Bool) (claim : Claim) (o : Option Claim) → o ≡ claim_if b s t
    → o ≡ Some claim → (section_of claim ≡ s) × (is_held_as t own (Own (train_of claim)) ≡ true)
held_claim t s b own claim o is some =
    let on : claim_on s t ≡ claim = (cond_some b (claim_on s t) claim (sym is ∙ some)).1 in (
      ap section_of (sym on),
      ap (λ (x : Claim). train_of x == t) (sym on)
          ∙ (elim (eqb_tells t t) as (λ _. (t == t) ≡ true) [ inl e ↦ e.0 | inr e ↦ absurd (e.1 refl) ]),
    )
