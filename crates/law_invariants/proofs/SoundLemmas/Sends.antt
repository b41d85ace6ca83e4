-- The sections and frames of an act.
use Rattle.std.proofs.Common.{[], ⊎_elim, ◌&&◌, ◌++◌, ◌+◌, ◌==◌, ◌||◌, ◌∙◌, ◌∷◌, ◌≡◌, ◌≢◌, ◌≤◌, All, ap, arith, Bool}
use Rattle.std.proofs.Common.{eq-eqb, eqb-true, false, if◌then◌else◌, is_some, List, None, not, Option, refl, Some}
use Rattle.std.proofs.Common.{subst, sym, true, ℕ}
use Rattle.std.proofs.lemmas.Bool.{and_left, and_parts, and_right, both_ways, cases_Bool, cases_eq, cond-true, or_right}
use Rattle.std.proofs.lemmas.List.Elements.{All-append, All-cons, All-nil}
use Rattle.std.specs.Option.{option_map_or}
use Rattle.law_base.proofs.LocalLemmas.Entries.{given, taken_for_one}
use Rattle.law_base.proofs.LocalLemmas.Worlds.{is_ordered}
use Rattle.law_base.specs.Counting.Sums.{one_if}
use Rattle.law_base.specs.Local.Local.{hand_has}
use Rattle.law_invariants.proofs.FlowLemmas.Neighbours.{home_below}
use Rattle.law_invariants.proofs.FlowLemmas.Taken.{in_both}
use Rattle.law_invariants.specs.Flow.Counts.{wait_has}
use Rattle.law_invariants.specs.Flow.Keeping.{LeavesSound}
use Rattle.law_invariants.specs.Flow.Sound.{IsBodySound, IsCentreSound, IsHandAt, IsMissionAt, IsOfNext}
use Rattle.rbc_spec.proofs.Runs.{joined_empty, same_tests, within_from, within_joined, within_none, within_true}
use Rattle.rbc_spec.specs.Acts.{◌>>◌, Act, Reply, rest, returned, send}
use Rattle.rbc_spec.specs.Centre.{Centre, Entry, is_taken_for, is_unused, Mission, Out, Shut}
use Rattle.rbc_spec.specs.Frame.{Body, RouteReturn}
use Rattle.rbc_spec.specs.Line.{is_centre, is_home, IsLine, Line, Section, section, train_number}
use Rattle.rbc_spec.specs.Place.{covered, Place}
use Rattle.rbc_spec.specs.SectionRuns.{is_empty, joined, next_after, part_from, SectionRun, shared, within}
use Rattle.rbc_spec.specs.Sections.{home_run, is_on}

-- # A centre within an act: its holdings for one train change, and all else is as before the act.

pub given_unused : (back wish : Bool) (e : Entry) → (is_unused e ≡ true → wish ≡ false)
    → is_unused (given back wish e) ≡ true → (not back && wish) ≡ false
given_unused true wish e was unused = refl
given_unused false wish e was unused = was unused

pub away : (b home mine : Bool) → home ≡ false → ((b && home) && mine) ≡ false
away b home mine e = and_left (b && home) mine (and_right b home e)

pub both_or : (a b h : Bool) → (a ≡ true → b ≡ true) → (h || (a && b)) ≡ (h || a)
both_or true b h to = ap (λ x. h || x) (to refl)
both_or false b h to = refl

pub shut_unbooked : (b : Bool) (x e : Entry) → e ≡ Shut → (test : Entry → Bool) → test Shut ≡ false
    → (if b && test e then x else e) ≡ Shut
shut_unbooked b x e is test none = ap (λ z. if b && z then x else e) (ap test is ∙ none)
    ∙ ap (λ z. if z then x else e) (and_right b false refl) ∙ is

-- out for t, if it was taken for t
abbrev pub lent_for : ℕ → Bool → Entry → Entry
lent_for t there e = if there then Out t else e

pub lent_unused : (t : ℕ) (there wish : Bool) (e : Entry) → (is_unused e ≡ true → wish ≡ false)
    → is_unused (lent_for t there e) ≡ true → wish ≡ false
lent_unused t true wish e was unused = cc
lent_unused t false wish e was unused = was unused

pub lent_taken : (t : ℕ) (b mine : Bool) (e : Entry) → is_taken_for t e ≡ mine
    → is_taken_for t (lent_for t (b && is_taken_for t e) e) ≡ (mine && not b)
lent_taken t b mine e is = by_mine b mine (is_taken_for t e) refl is
  where
    and_one : (z : Bool) → z ≡ (z && true)
    and_one true = refl
    and_one false = refl

    by_mine : (b mine x : Bool) → is_taken_for t e ≡ x → x ≡ mine
        → is_taken_for t (lent_for t (b && x) e) ≡ (mine && not b)
    by_mine true mine true at same = ap (λ z. z && false) same
    by_mine true mine false at same = at ∙ ap (λ z. z && false) same
    by_mine false mine x at same = at ∙ same ∙ and_one mine

pub lent_others : (t u : ℕ) (b : Bool) (e : Entry) → u ≢ t
    → is_taken_for u (lent_for t (b && is_taken_for t e) e) ≡ is_taken_for u e
lent_others t u b e apart = by_mine b (is_taken_for t e) refl
  where
    by_mine : (b x : Bool) → is_taken_for t e ≡ x → is_taken_for u (lent_for t (b && x) e) ≡ is_taken_for u e
    by_mine true true at = sym (taken_for_one t u e apart at)
    by_mine true false at = refl
    by_mine false x at = refl

-- ## The holdings of a centre for a train

-- of centre c, which was k, with train t: its home sections that are taken for the train are `mine`
pub record Held (line : Line) (c : ℕ) (k : Centre) (t : ℕ) (is_mine : ℕ → Bool) (waiting : Option Place)
    (present : Option Mission) (y : Centre) : Type 0 where
  pub foreign : (s : ℕ) → is_home line c s ≡ false → y.book s ≡ Shut
  pub asks : (u first : ℕ) → y.route_ask u ≡ Some first → IsOfNext line c first
  pub unwished : (s : ℕ) → is_unused (y.book s) ≡ true → y.wish s ≡ false
  pub mine : (s : ℕ) → is_home line c s ≡ true → is_taken_for t (y.book s) ≡ is_mine s
  pub others : (s u : ℕ) → u ≢ t → is_taken_for u (y.book s) ≡ is_taken_for u (k.book s)
  pub wait : y.wait t ≡ waiting
  pub waits : (u : ℕ) → u ≢ t → y.wait u ≡ k.wait u
  pub mission : y.mission t ≡ present
  pub missions : (u : ℕ) → u ≢ t → y.mission u ≡ k.mission u
  pub heard : (u : ℕ) → is_some (k.heard u) ≡ true → is_some (y.heard u) ≡ true
  pub announced : k.announced ≤ y.announced

-- the duties of these holdings, so that the centre is sound
pub record Owes (line : Line) (c : ℕ) (t : ℕ) (is_mine : ℕ → Bool) (waiting : Option Place) (present : Option Mission)
    (y : Centre) : Type 0 where
  pub claims : (s : ℕ) → is_home line c s ≡ true → one_if (is_mine s) ≡ one_if (wait_has line waiting s)
      + one_if (hand_has present s)
  pub wait_home : (s : ℕ) → wait_has line waiting s ≡ true → is_home line c s ≡ true
  pub wait_fits : (place : Place) → waiting ≡ Some place → IsHandAt line place (covered line place)
  pub wait_known : (place : Place) → waiting ≡ Some place → (is_some (train_number line t) ≡ true)
      × (is_some (y.heard t) ≡ true)
  pub mission : (m : Mission) → present ≡ Some m → IsMissionAt line c y m
  pub mission_known : (m : Mission) → present ≡ Some m → (is_some (train_number line t) ≡ true)
      × (is_some (y.heard t) ≡ true)

-- # A sound centre stays so as its trains report, shorten, and end.

-- a run and one that follows it, which does not have the section
pub joined_without : (a b : SectionRun) (s : ℕ) → (a.count ≢ 0 → is_empty b ≡ false → b.first ≡ next_after a)
    → within b s ≡ false → within (joined a b) s ≡ within a s
joined_without a b s follows none = ⊎_elim
    (λ (empty : a.count ≡ 0). ap (λ r. within r s)
    (cond-true (is_empty a) b (record { first = a.first; count = a.count + b.count }) (eq-eqb a.count 0 empty))
    ∙ none ∙ sym (within_none a s empty))
    (λ (some : a.count ≢ 0). ⊎_elim (λ (empty : is_empty b ≡ true). joined_empty a b s empty)
    (λ (more : is_empty b ≡ false). within_joined a b s (follows some more) ∙ ap (λ x. within a s || x) none
    ∙ or_none (within a s))
    (cases_Bool (is_empty b)))
    (cases_eq a.count 0)
  where
    or_none : (b : Bool) → (b || false) ≡ b
    or_none true = refl
    or_none false = refl

pub not_away : (b : Bool) (home : Bool) → home ≡ true → (b ≡ true → home ≡ false) → b ≡ false
not_away true home is out = absurd (both_ways home (out refl) is)
not_away false home is out = refl

-- after a cut, the tail of the hand is followed as the hand is
pub tail_after : (n : ℕ) (hand : SectionRun) → (part_from n hand).count ≢ 0
    → next_after (part_from n hand) ≡ next_after hand
tail_after n hand some = omega (arith, some)

pub whole_tail : (n : ℕ) (hand : SectionRun) (s : ℕ) → (part_from n hand).count ≡ hand.count
    → within (part_from n hand) s ≡ within hand s
whole_tail n hand s all = same_tests _ _
    (λ is. let at = within_true (part_from n hand) s is in within_from hand s (omega (arith, at)) (omega (arith, at)))
    (λ is. let at = within_true hand s is in
    within_from (part_from n hand) s (omega (arith, at, all)) (omega (arith, at, all)))

pub tail_part : (n : ℕ) (hand : SectionRun) (s : ℕ) → within (part_from n hand) s ≡ true → within hand s ≡ true
tail_part n hand s is = let at = within_true (part_from n hand) s is in
    within_from hand s (omega (arith, at)) (omega (arith, at))

-- # The frames of an act: sound bodies, only to centres of the line. The state after it is sound.

pub record Sends (line : Line) (c : ℕ) (frames : ℕ → List Body) : Type 0 where
  pub inside : (d : ℕ) → is_centre line d ≡ false → frames d ≡ []
  pub bodies : (d : ℕ) → All (IsBodySound line c d) (frames d)

-- of a reply
abbrev pub Sound : Line → ℕ → Reply → Type 0
Sound line c r = LeavesSound line c r.state r.frames

module _ (line : Line) (c : ℕ) where
  pub none_sent : Sends line c (λ d. [])
  none_sent = record { inside = λ d out. refl; bodies = λ d. All-nil (IsBodySound line c d) }

  pub one_sent : (d : ℕ) (body : Body) (k : Centre) → is_centre line d ≡ true → IsBodySound line c d body
      → Sends line c (send d body k).frames
  one_sent d body k to sound = record {
    inside = λ e out. by_same e (e == d) refl out;
    bodies = λ e. by_body e (e == d) refl;
  }
    where
      by_same : (e : ℕ) (b : Bool) → (e == d) ≡ b → is_centre line e ≡ false → (if b then body ∷ [] else []) ≡ []
      by_same e true is out = absurd (both_ways (is_centre line e) out (ap (is_centre line) (eqb-true e d is) ∙ to))
      by_same e false is out = refl

      by_body : (e : ℕ) (b : Bool) → (e == d) ≡ b → All (IsBodySound line c e) (if b then body ∷ [] else [])
      by_body e true is = All-cons (IsBodySound line c e) body []
          (subst (λ x. IsBodySound line c x body) (sym (eqb-true e d is)) sound) (All-nil (IsBodySound line c e))
      by_body e false is = All-nil (IsBodySound line c e)

  pub then_sent : (f g : ℕ → List Body) → Sends line c f → Sends line c g → Sends line c (λ d. f d ++ g d)
  then_sent f g one two = record {
    inside = λ d out. ap (λ xs. xs ++ g d) (one.inside d out) ∙ two.inside d out;
    bodies = λ d. All-append (IsBodySound line c d) (f d) (g d) (one.bodies d) (two.bodies d);
  }

  -- sections are returned to centres of the line
  pub returned_sent : IsLine line → (t track : ℕ) (r : SectionRun) (k : Centre)
      → Sends line c (returned line c t track r k).frames
  returned_sent ok t track r k = record {
    inside = λ d out. by_none d ((d == c) || is_empty (shared r (home_run line d track)))
        (or_right (d == c) _ (nothing d out));
    bodies = λ d. by_empty d ((d == c) || is_empty (shared r (home_run line d track)));
  }
    where
      by_none : (d : ℕ) (b : Bool) → b ≡ true
          → (if b then [] else RouteReturn t (shared r (home_run line d track)) ∷ []) ≡ []
      by_none d true is = refl
      by_none d false is = cc

      by_empty : (d : ℕ) (b : Bool)
          → All (IsBodySound line c d) (if b then [] else RouteReturn t (shared r (home_run line d track)) ∷ [])
      by_empty d true = All-nil (IsBodySound line c d)
      by_empty d false = All-cons (IsBodySound line c d) (RouteReturn t (shared r (home_run line d track))) []
          (record {}) (All-nil (IsBodySound line c d))

      at_home : (d s : ℕ) (o : Option Section) → section line s ≡ o → option_map_or (λ p. p.home == d) o false ≡ true
          → is_centre line d ≡ true
      at_home d s (Some p) at is = ap (is_centre line) (sym (eqb-true p.home d is)) ∙ home_below line ok s p at
      at_home d s None at is = cc

      nothing : (d : ℕ) → is_centre line d ≡ false → is_empty (shared r (home_run line d track)) ≡ true
      nothing d out = ⊎_elim
          (λ (none : (shared r (home_run line d track)).count ≡ 0). eq-eqb _ 0 none)
          (λ (some : (shared r (home_run line d track)).count ≢ 0).
          let s : ℕ = (shared r (home_run line d track)).first in
          let both = in_both r (home_run line d track) s
          (within_from (shared r (home_run line d track)) s (omega arith) (omega (arith, some))) in
          let there = and_parts (is_home line d s) (is_on line track s)
          (sym ((is_ordered line ok).homes_run d track s) ∙ both.1) in
          absurd (both_ways (is_centre line d) out (at_home d s (section line s) refl there.0)))
          (cases_eq (shared r (home_run line d track)).count 0)

  -- ## Acts together

  pub leaves : {y : Centre} {frames : ℕ → List Body} → IsCentreSound line c y → Sends line c frames
      → LeavesSound line c y frames
  leaves centre sends = record { centre = centre; inside = sends.inside; bodies = sends.bodies }

  pub sends_of : {y : Centre} {frames : ℕ → List Body} → LeavesSound line c y frames → Sends line c frames
  sends_of sound = record { inside = sound.inside; bodies = sound.bodies }

  pub rest_sound : (k : Centre) → IsCentreSound line c k → Sound line c (rest k)
  rest_sound k sound = leaves sound none_sent

  pub then_sound : (a b : Act) (k : Centre) → Sound line c (a k)
      → ((j : Centre) → j ≡ (a k).state → IsCentreSound line c j → Sound line c (b j)) → Sound line c ((a >> b) k)
  unfolding ◌>>◌
  then_sound a b k one two = let both = two (a k).state refl one.centre in
      leaves both.centre (then_sent (a k).frames (b (a k).state).frames (sends_of one) (sends_of both))

  pub if_sound : (b : Bool) (f g : Act) (k : Centre) → (b ≡ true → Sound line c (f k))
      → (b ≡ false → Sound line c (g k)) → Sound line c ((if b then f else g) k)
  if_sound true f g k one two = one refl
  if_sound false f g k one two = two refl

  pub if_reply : (b : Bool) (r q : Reply) → (b ≡ true → Sound line c r) → (b ≡ false → Sound line c q)
      → Sound line c (if b then r else q)
  if_reply true r q one two = one refl
  if_reply false r q one two = two refl

  pub or_sound : {X : Type 0} (o : Option X) (f : X → Act) (g : Act) (k : Centre)
      → ((x : X) → o ≡ Some x → Sound line c (f x k)) → (o ≡ None → Sound line c (g k))
      → Sound line c (option_map_or f o g k)
  or_sound (Some x) f g k one two = one x refl
  or_sound None f g k one two = two refl

  pub or_reply : {X : Type 0} (o : Option X) (f : X → Reply) (r : Reply) → ((x : X) → o ≡ Some x → Sound line c (f x))
      → (o ≡ None → Sound line c r)
      → Sound line c (option_map_or f o r)
  or_reply (Some x) f r one two = one x refl
  or_reply None f r one two = two refl
