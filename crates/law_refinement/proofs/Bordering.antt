-- Acts keep this invariant: a handover is announced as soon as the hand has a section of the next centre.
use Rattle.std.proofs.Common.{◌==◌, ◌∙◌, ◌≡◌, ◌≢◌, ap, arith, Bool, false, if◌then◌else◌, None, Option, option_map}
use Rattle.std.proofs.Common.{refl, Some, subst, sym, true, ℕ}
use Rattle.std.proofs.lemmas.Bool.{and_from, and_parts, eqb-false, eqb-true}
use Rattle.std.specs.Option.{option_map_or}
use Rattle.law_invariants.proofs.FlowLemmas.Neighbours.{neighbours}
use Rattle.law_refinement.specs.Announced.{HasAnnounced}
use Rattle.rbc_spec.proofs.Lists.{itself, one_home}
use Rattle.rbc_spec.proofs.Places.{homes_run}
use Rattle.rbc_spec.proofs.Runs.{within_from, within_none, within_shared}
use Rattle.rbc_spec.specs.Acts.{◌>>◌, Act, change_mission, part_at, rest, set_mission, where_so, with_some}
use Rattle.rbc_spec.specs.Centre.{Centre, Mission}
use Rattle.rbc_spec.specs.Line.{is_home, IsLine, Line, next_centre}
use Rattle.rbc_spec.specs.Maps.{has, put}
use Rattle.rbc_spec.specs.Rules.{choose}
use Rattle.rbc_spec.specs.SectionRuns.{is_empty, SectionRun, within}
use Rattle.rbc_spec.specs.Sections.{home_run, is_on}

module _ (line : Line) (c : ℕ) where
  -- a mission that announced no handover has no section of the next centre in its hand
  abbrev pub Is : Mission → Type 0
  Is m = (d : ℕ) → next_centre line c m.place.track ≡ Some d → m.handing ≡ None
      → is_empty (part_at line d m.place.track m.hand) ≡ true

  abbrev pub IsSo : Option Mission → Type 0
  IsSo None = Unit {0}
  IsSo (Some m) = Is m

  abbrev pub Good : Centre → Type 0
  Good k = (t : ℕ) → IsSo (k.mission t)

  pub good_from : (k : Centre) → HasAnnounced line c k → Good k
  good_from k old t = by_mission (k.mission t) refl
    where
      by_mission : (o : Option Mission) → k.mission t ≡ o → IsSo o
      by_mission None at = tt
      by_mission (Some m) at = λ d next none. old t d m at next none

  pub good_to : (k : Centre) → Good k → HasAnnounced line c k
  good_to k good t d m at next none = subst IsSo at (good t) d next none

  pub put_so : (f : ℕ → Option Mission) → ((u : ℕ) → IsSo (f u)) → (t : ℕ) (o : Option Mission) → IsSo o
      → (u : ℕ) → IsSo (put f t o u)
  put_so f good t o so u = by_here (u == t)
    where
      by_here : (b : Bool) → IsSo (if b then o else f u)
      by_here true = so
      by_here false = good u

  pub mapped : (f : Mission → Mission) → ((m : Mission) → Is m → Is (f m)) → (o : Option Mission)
      → IsSo o → IsSo (option_map f o)
  mapped f kept None so = tt
  mapped f kept (Some m) so = kept m so

  -- ## Acts

  pub record Keeps (act : Act) : Type 0 where
    pub each : (k : Centre) → Good k → Good (act k).state

  pub both : (a b : Act) → Keeps a → Keeps b → Keeps (a >> b)
  unfolding ◌>>◌
  both a b first second = record { each = λ k good. second.each (a k).state (first.each k good) }

  pub branch : (z : Bool) (a b : Act) → Keeps a → Keeps b → Keeps (if z then a else b)
  branch true a b one other = one
  branch false a b one other = other

  pub when : (test : Centre → Bool) (a : Act) → Keeps a → Keeps (where_so test a)
  when test a keeps = record { each = λ k good. by_test k good (test k) }
    where
      by_test : (k : Centre) → Good k → (z : Bool) → Good (if z then a k else rest k).state
      by_test k good true = keeps.each k good
      by_test k good false = good

  pub chosen : (test : Centre → Bool) (a b : Act) → Keeps a → Keeps b → Keeps (choose test a b)
  chosen test a b one other = record { each = λ k good. by_test k good (test k) }
    where
      by_test : (k : Centre) → Good k → (z : Bool) → Good (if z then a k else b k).state
      by_test k good true = one.each k good
      by_test k good false = other.each k good

  pub of_some : {X : Type 0} (value : Centre → Option X) (act : X → Act) → ((x : X) → Keeps (act x))
      → Keeps (with_some value act)
  of_some value act keeps = record { each = λ k good. by_value k good (value k) }
    where
      by_value : (k : Centre) → Good k → (o : Option _) → Good (option_map_or (λ x. act x k) o (rest k)).state
      by_value k good None = good
      by_value k good (Some x) = (keeps x).each k good

  pub of_option : {X : Type 0} (o : Option X) (act : X → Act) (a : Act) → ((x : X) → Keeps (act x)) → Keeps a
      → Keeps (option_map_or act o a)
  of_option None act a each other = other
  of_option (Some x) act a each other = each x

  pub ends : (t : ℕ) → Keeps (set_mission t None)
  ends t = record { each = λ k good. put_so k.mission good t None tt }

  pub changes : (t : ℕ) (f : Mission → Mission) → ((m : Mission) → Is m → Is (f m)) → Keeps (change_mission t f)
  changes t f kept =
      record {
        each = λ k good. put_so k.mission good t (option_map f (k.mission t))
            (mapped f kept (k.mission t) (good t));
      }

  -- the mission of a train that has one
  pub at_mission : (k : Centre) (t : ℕ) (m : Mission) → k.mission t ≡ Some m → Good k → Is m
  at_mission k t m at good = subst IsSo at (good t)

-- ## Hands

empty_if : (r : SectionRun) → ((s : ℕ) → within r s ≡ true → ⊥) → is_empty r ≡ true
empty_if r never = by_count (is_empty r) refl
  where
    by_count : (b : Bool) → is_empty r ≡ b → is_empty r ≡ true
    by_count true is = is
    by_count false is = absurd (let some : r.count ≢ 0 = eqb-false r.count 0 is in
        never r.first (within_from r r.first (omega arith) (omega (arith, some))))

-- a hand with no section of the centre
pub none_there : (line : Line) → IsLine line → (d track : ℕ) (hand : SectionRun)
    → ((s : ℕ) → within hand s ≡ true → is_home line d s ≡ true → ⊥) → is_empty (part_at line d track hand) ≡ true
none_there line ok d track hand never = empty_if (part_at line d track hand) (λ s is.
    let both = and_parts (within hand s) (within (home_run line d track) s)
    (sym (within_shared hand (home_run line d track) s) ∙ is) in
    never s both.0 (and_parts (is_home line d s) (is_on line track s) (sym (homes_run line d track s ok) ∙ both.1)).0)

-- a part of a hand with no section of the centre has none of it either
pub part_of : (line : Line) (d track : ℕ) (hand less : SectionRun)
    → ((s : ℕ) → within less s ≡ true → within hand s ≡ true) → is_empty (part_at line d track hand) ≡ true
    → is_empty (part_at line d track less) ≡ true
part_of line d track hand less inside none = empty_if (part_at line d track less) (λ s is.
    let both = and_parts (within less s) (within (home_run line d track) s)
    (sym (within_shared less (home_run line d track) s) ∙ is) in
    let wrong : false ≡ true =
    sym (within_none (part_at line d track hand) s (eqb-true (part_at line d track hand).count 0 none))
    ∙ within_shared hand (home_run line d track) s
    ∙ and_from (within hand s) (within (home_run line d track) s) (inside s both.0) both.1 in cc)

-- the next centre is another
pub next_apart : (line : Line) → IsLine line → (c d track : ℕ) → next_centre line c track ≡ Some d → c ≡ d → ⊥
next_apart line ok c d track next same =
    let there : next_centre line d track ≡ Some d = ap (λ x. next_centre line x track) (sym same) ∙ next in
    let wrong : true ≡ false = sym (itself d) ∙ sym (ap (has (λ n. n == d)) there)
    ∙ ap (λ x. has (λ n. n == x) (next_centre line d track)) (sym same)
    ∙ (neighbours line ok).onward c d track next in cc

-- a hand of own sections has none of the next centre
pub own_is : (line : Line) → IsLine line → (c d track : ℕ) (hand : SectionRun)
    → ((s : ℕ) → within hand s ≡ true → is_home line c s ≡ true) → next_centre line c track ≡ Some d
    → is_empty (part_at line d track hand) ≡ true
own_is line ok c d track hand own next =
    none_there line ok d track hand (λ s in_hand home. next_apart line ok c d track next
    (one_home line c d s (own s in_hand) home))
