-- Sections that a home lends.
use Rattle.std.proofs.Common.{[], if◌then◌else◌, ◌&&◌, ◌+◌, ◌<◌, ◌==◌, ◌||◌, ◌∙◌, ◌∷◌, ◌≡◌, ◌≤◌, ap, arith, Bool, cond}
use Rattle.std.proofs.Common.{false, inl, inr, is_some, length, None, Option, refl, Some, sym, true, ℕ, ⊎_elim}
use Rattle.std.proofs.lemmas.Bool.{cases_Bool, cases_lt}
use Rattle.std.proofs.lemmas.Bool.Decides.{eqb_tells}
use Rattle.std.proofs.lemmas.Option.{cond_some, slice_get_within}
use Rattle.rbc_allocation.proofs.Runs.{within_more, within_none, within_one}
use Rattle.rbc_book.specs.Book.{entry_at, is_own, Pages, wish_at}
use Rattle.rbc_book.specs.Claim.{claim_if, claim_on, is_taken_by, section_of, train_of}
use Rattle.rbc_book.specs.declared.claim.Claim.{Claim}
use Rattle.rbc_border.proofs.HomeParts.{IsFound, stretch_within}
use Rattle.rbc_border.proofs.Lists.{longest_both, longest_same, none_chosen}
use Rattle.rbc_border.specs.Homes.{is_of}
use Rattle.rbc_border.specs.Lending.{HasBook, LendsRun, with_book}
use Rattle.rbc_hand.specs.Hands.{one}
use Rattle.rbc_line.specs.declared.parts.Section.{Section as SectionRow}
use Rattle.rbc_spec.proofs.Lists.{itself}
use Rattle.rbc_spec.proofs.Runs.{longest_few}
use Rattle.rbc_spec.specs.Acts.{◌>>◌, booked, rest, send}
use Rattle.rbc_spec.specs.Centre.{Centre, Entry, is_free, is_open, is_taken_for, Out, Taken}
use Rattle.rbc_spec.specs.Frame.{HasRunRange, RouteInfo}
use Rattle.rbc_spec.specs.Line.{is_home, IsLine, Line, Section, section}
use Rattle.rbc_spec.specs.Links.{lendable, route_asked}
use Rattle.rbc_spec.specs.Maps.{has as has_section}
use Rattle.rbc_spec.specs.SectionRuns.{longest, SectionRun, within}
use Rattle.rbc_spec.specs.Sections.{is_on}

-- one section has this entry now if the test holds, and nothing else changed
pub record Writes (s : ℕ) (test : Bool) (now : Entry) (a b : Pages) : Type 0 where
  pub homes : (k : ℕ) → is_own b k ≡ is_own a k
  pub entry : (k : ℕ) → entry_at b k ≡ cond (test && (k == s)) now (entry_at a k)
  pub wish : (k : ℕ) → wish_at b k ≡ wish_at a k

-- ## One section

pub lends_some : (t s : ℕ) (o : Option Claim) (claim : Claim) (a m b : Pages)
    → o ≡ claim_if (is_open (entry_at a s)) s t → o ≡ Some claim
    → Writes s (is_open (entry_at a s)) (Taken t) a m
    → Writes (section_of claim) (is_taken_by m claim) (Out (train_of claim)) m b → LendsRun t (one s) a b
lends_some t s o claim a m b is some takes lends =
    let h = cond_some (is_open (entry_at a s)) (claim_on s t) claim (sym is ∙ some) in
    let taken : is_taken_for t (entry_at m s) ≡ true =
    ap (is_taken_for t) (takes.entry s) ∙ (rw (h.0, itself s) (itself t)) in
    record {
      homes = λ k. lends.homes k ∙ takes.homes k;
      entry = λ k. lends.entry k
          ∙ ap (λ (x : Claim). cond (is_taken_by m x && (k == section_of x)) (Out (train_of x)) (entry_at m k))
          (sym h.1)
          ∙ ap (λ x. cond (x && (k == s)) (Out t) (entry_at m k)) taken
          ∙ (elim (eqb_tells k s) as (λ _. cond (k == s) (Out t) (entry_at m k)
          ≡ cond (within (one s) k && is_open (entry_at a k)) (Out t) (entry_at a k)) [
            | inl e ↦ rw (within_one s k, e.0, e.1, h.0) refl
            | inr e ↦
                rw (within_one s k, e.0)
                (takes.entry k ∙ ap (λ x. cond (x && (k == s)) (Taken t) (entry_at a k)) h.0
                ∙ ap (λ x. cond x (Taken t) (entry_at a k)) e.0)
          ]);
      wish = λ k. lends.wish k ∙ takes.wish k;
    }

pub lends_no : (t s : ℕ) (o : Option Claim) (a m : Pages) → o ≡ claim_if (is_open (entry_at a s)) s t → o ≡ None
    → Writes s (is_open (entry_at a s)) (Taken t) a m → LendsRun t (one s) a m
lends_no t s o a m is none takes =
    let shut : is_open (entry_at a s) ≡ false = none_chosen (is_open (entry_at a s)) (claim_on s t) (sym is ∙ none) in
    record {
      homes = takes.homes;
      entry = λ k. takes.entry k ∙ ap (λ x. cond (x && (k == s)) (Taken t) (entry_at a k)) shut
          ∙ (elim (eqb_tells k s) as (λ _. entry_at a k
          ≡ cond (within (one s) k && is_open (entry_at a k)) (Out t) (entry_at a k)) [
            | inl e ↦ rw (within_one s k, e.0, e.1, shut) refl
            | inr e ↦ rw (within_one s k, e.0) refl
          ]);
      wish = takes.wish;
    }

-- ## One section after another

pub lends_none : (t from : ℕ) (book : Pages) → LendsRun t (record { first = from; count = 0 }) book book
lends_none t from book = record { homes = λ s. refl; entry = λ s. rw (within_none from s) refl; wish = λ s. refl }

lent_twice : (t : ℕ) (e : Entry) (x y : Bool)
    → cond (y && is_open (cond (x && is_open e) (Out t) e)) (Out t) (cond (x && is_open e) (Out t) e)
    ≡ cond ((x || y) && is_open e) (Out t) e
lent_twice t e true true = elim (cases_Bool (is_open e)) [ inl h ↦ rw h refl | inr h ↦ rw (h, h) refl ]
lent_twice t e true false = refl
lent_twice t e false true = refl
lent_twice t e false false = refl

pub lends_more : (t from k s : ℕ) (a b c : Pages) → s ≡ from + k → LendsRun t (record { first = from; count = k }) a b
    → LendsRun t (one s) b c → LendsRun t (record { first = from; count = k + 1 }) a c
lends_more t from k s a b c is so_far next =
    let both : (j : ℕ) → within (record { first = from; count = k + 1 }) j
    ≡ (within (record { first = from; count = k }) j || within (one s) j)
    = λ j. within_more from k j
    ∙ ap (λ x. within (record { first = from; count = k }) j || within (one x) j) (sym is) in
    record {
      homes = λ j. next.homes j ∙ so_far.homes j;
      entry = λ j. next.entry j ∙ ap (λ e. cond (within (one s) j && is_open e) (Out t) e) (so_far.entry j)
          ∙ lent_twice t (entry_at a j) (within (record { first = from; count = k }) j) (within (one s) j)
          ∙ ap (λ x. cond (x && is_open (entry_at a j)) (Out t) (entry_at a j)) (sym (both j));
      wish = λ j. next.wish j ∙ so_far.wish j;
    }

-- ## At a centre

-- how many sections are lent
abbrev lent_count : Line → ℕ → Pages → ℕ → ℕ → ℕ → ℕ
lent_count line c book track from most =
    longest (λ s. is_open (entry_at book s)) from (longest (is_of line c track) from most)

count_is : (line : Line) (c from most : ℕ) (k : Centre) (book : Pages) (p : Section) → HasBook line c k book
    → section line from ≡ Some p → (lendable line c k from most).count ≡ lent_count line c book p.track from most
count_is line c from most k book p has at =
    longest_same (λ s. is_free line c k s && has_section (λ q. is_on line q.track s) (section line from))
    (λ s. is_of line c p.track s && is_open (entry_at book s)) from most
    (λ s. (λ i. (is_home line c s && is_open (has.has_book s i)) && has_section (λ q. is_on line q.track s) (at i))
    ∙ turned (is_home line c s) (is_open (entry_at book s)) (is_on line p.track s))
    ∙ longest_both (is_of line c p.track) (λ s. is_open (entry_at book s)) from most
  where
    turned : (home free on : Bool) → ((home && free) && on) ≡ ((home && on) && free)
    turned true true true = refl
    turned true true false = refl
    turned true false true = refl
    turned true false false = refl
    turned false free on = refl

lent_is : (line : Line) (c d t from most n : ℕ) (k : Centre) (book book' : Pages) (p : Section) → HasBook line c k book
    → section line from ≡ Some p → n ≡ lent_count line c book p.track from most
    → LendsRun t (record { first = from; count = n }) book book'
    → route_asked line c d t from most k ≡ send d (RouteInfo t (record { first = from; count = n })) (with_book book' k)
unfolding ◌>>◌
lent_is line c d t from most n k book book' p has at long lends =
    let r : SectionRun = record { first = from; count = n } in
    ap (λ (o : Option Section).
    cond (is_some o)
    ((booked is_open (Out t) (lendable line c k from most) >> send d (RouteInfo t (lendable line c k from most))) k)
    (rest k)) at
    ∙ ap
    (λ (m : ℕ).
    (booked is_open (Out t) (record { first = from; count = m })
    >> send d (RouteInfo t (record { first = from; count = m }))) k)
    (count_is line c from most k book p has at ∙ sym long)
    ∙ (λ i. record {
      state = record k {
        book = λ s. (ap (λ e. cond (within r s && is_open e) (Out t) e) (has.has_book s) ∙ sym (lends.entry s)) i;
        wish = λ s. (has.has_wish s ∙ sym (lends.wish s)) i;
      };
      frames = λ e. if e == d then RouteInfo t r ∷ [] else [];
      sayings = [];
      words = [];
    })

-- the values looked up and counted while sections are lent
pub record IsLending (line : Line) (c from most : ℕ) (book : Pages) (row : SectionRow)
    (on_track count : ℕ) : Type 0 where
  pub rules : IsLine line
  pub first : IsFound line from row
  pub stretch : on_track ≡ longest (is_of line c row.track) from most
  pub released : count ≡ longest (λ s. is_open (entry_at book s)) from on_track

module _ (line : Line) (c from most : ℕ) (book : Pages) (row : SectionRow) (on_track count : ℕ)
    (lending : IsLending line c from most book row on_track count) where
  first_below : from < 512
  first_below =
      let on : from < length line.sections = slice_get_within line.sections from lending.first.there lending.first.at in
      omega (arith, on, lending.rules.limits.sections)

  -- the sections of the stretch are below 512
  pub stretch_below : from + on_track ≤ 512
  stretch_below = ⊎_elim
      (λ (some : 0 < on_track). let below =
      stretch_within line c row.track from most lending.rules (omega (arith, some, lending.stretch)) in
      omega (arith, below, lending.stretch))
      (λ (none : on_track ≤ 0). omega (arith, none, first_below))
      (cases_lt 0 on_track)

  pub few : count ≤ on_track
  few = omega (arith, lending.released, longest_few (λ s. is_open (entry_at book s)) from on_track)

  -- lent sections are of the line
  pub lent_range : HasRunRange 0 most (record { first = from; count = count })
  lent_range = record {
    first = omega (arith, first_below);
    count = (omega arith, omega (arith, few, lending.stretch, longest_few (is_of line c row.track) from most));
    last = omega (arith, few, stretch_below);
  }

  pub asked_some : (d t : ℕ) (k : Centre) (book' : Pages) → HasBook line c k book
      → LendsRun t (record { first = from; count = count }) book book'
      → route_asked line c d t from most k
      ≡ send d (RouteInfo t (record { first = from; count = count })) (with_book book' k)
  asked_some d t k book' has lends =
      lent_is line c d t from most count k book book' lending.first.there has lending.first.at
      (lending.released ∙ ap (longest (λ s. is_open (entry_at book s)) from)
      (lending.stretch ∙ ap (λ track. longest (is_of line c track) from most) (sym lending.first.track))) lends
