-- A mission without a handover has no section of the next centre: parts of its hand, and an extension of it.
use Rattle.std.proofs.Common.{⊎_elim, ◌&&◌, ◌+◌, ◌==◌, ◌∙◌, ◌≡◌, ◌≢◌, ap, arith, Bool, eqb-true, false, if◌then◌else◌}
use Rattle.std.proofs.Common.{is_none, nat_le, nat_lt, None, not, Option, option_map, refl, Some, subst, sym, true, ℕ}
use Rattle.std.proofs.lemmas.Bool.{and_from, and_parts, cases_eq, eqb-false}
use Rattle.std.proofs.lemmas.Option.{same_Some}
use Rattle.std.specs.Option.{option_map_or}
use Rattle.law_invariants.proofs.FlowLemmas.Neighbours.{neighbours}
use Rattle.law_refinement.specs.Followups.Announced.{IsAnnounced}
use Rattle.rbc_spec.proofs.Lists.{itself, one_home, put_other, put_there}
use Rattle.rbc_spec.proofs.Places.{homes_run}
use Rattle.rbc_spec.proofs.Runs.{each_within, within_from, within_none, within_part_before, within_part_from}
use Rattle.rbc_spec.proofs.Runs.{within_shared}
use Rattle.rbc_spec.specs.Acts.{◌>>◌, announce, booked, change_mission, part_at, rest, set_mission}
use Rattle.rbc_spec.specs.Centre.{Centre, Handing, is_open, is_out_for, Mission, Taken}
use Rattle.rbc_spec.specs.Line.{is_home, IsLine, Line, next_centre, Section, section}
use Rattle.rbc_spec.specs.Links.{may_arrive}
use Rattle.rbc_spec.specs.Maps.{has, put}
use Rattle.rbc_spec.specs.Place.{Place}
use Rattle.rbc_spec.specs.Rules.{announce_if_due, ask_route_if_due, at_border, extended_by, extension, grant}
use Rattle.rbc_spec.specs.SectionRuns.{all_of, is_empty, part_before, part_from, SectionRun, within}
use Rattle.rbc_spec.specs.Sections.{home_run, is_on}

module _ (line : Line) (ok : IsLine line) (c : ℕ) where
  -- ## Parts of a hand

  pub none_at : (d track : ℕ) (hand : SectionRun)
      → ((s : ℕ) → within hand s ≡ true → within (home_run line d track) s ≡ true → ⊥)
      → is_empty (part_at line d track hand) ≡ true
  none_at d track hand never = by_empty (is_empty (part_at line d track hand)) refl
    where
      by_empty : (b : Bool) → is_empty (part_at line d track hand) ≡ b → is_empty (part_at line d track hand) ≡ true
      by_empty true is = is
      by_empty false is =
          let some : (part_at line d track hand).count ≢ 0 = eqb-false (part_at line d track hand).count 0 is in
          let s : ℕ = (part_at line d track hand).first in
          let both = and_parts (within hand s) (within (home_run line d track) s)
          (sym (within_shared hand (home_run line d track) s)
          ∙ within_from (part_at line d track hand) s (omega arith) (omega (arith, some))) in
          absurd (never s both.0 both.1)

  pub fewer : (d track : ℕ) (a b : SectionRun) → ((s : ℕ) → within b s ≡ true → within a s ≡ true)
      → is_empty (part_at line d track a) ≡ true → is_empty (part_at line d track b) ≡ true
  fewer d track a b less none = none_at d track b (λ s has home.
      let wrong : false ≡ true =
      sym (within_none (part_at line d track a) s (eqb-true (part_at line d track a).count 0 none))
      ∙ within_shared a (home_run line d track) s
      ∙ and_from (within a s) (within (home_run line d track) s) (less s has) home in cc)

  -- the next centre is another
  pub not_itself : (d track : ℕ) → next_centre line c track ≡ Some d → d ≢ c
  not_itself d track next same =
      let here : next_centre line c track ≡ Some c = next ∙ ap (λ (x : ℕ). Some x) same in
      let wrong : true ≡ false = sym (itself c) ∙ sym (ap (has (λ n. n == c)) here)
      ∙ (neighbours line ok).onward c c track here in cc

  pub own_hand : (m : Mission) → ((s : ℕ) → within m.hand s ≡ true → is_home line c s ≡ true) → IsAnnounced line c m
  own_hand m own d none next = none_at d m.place.track m.hand (λ s in_hand in_run.
      let of_d =
      (and_parts (is_home line d s) (is_on line m.place.track s)
      (sym (homes_run line d m.place.track s ok) ∙ in_run)).0 in
      not_itself d m.place.track next (one_home line d c s of_d (own s in_hand)))

  pub from_part : (cut : ℕ) (hand : SectionRun) (s : ℕ) → within (part_from cut hand) s ≡ true → within hand s ≡ true
  from_part cut hand s has = (and_parts (within hand s) (nat_le cut s) (sym (within_part_from hand cut s) ∙ has)).0

  pub before_part : (cut : ℕ) (hand : SectionRun) (s : ℕ) → within (part_before cut hand) s ≡ true
      → within hand s ≡ true
  before_part cut hand s has = (and_parts (within hand s) (nat_lt s cut) (sym (within_part_before hand cut s) ∙ has)).0

  -- ## Missions

  -- the invariant of each mission: beside the law, its handover is to the next centre
  pub record Fits (m : Mission) : Type 0 where
    pub announced : IsAnnounced line c m
    pub onward : (h : Handing) → m.handing ≡ Some h → next_centre line c m.place.track ≡ Some h.to

  -- without a handover
  pub unhanded : (m : Mission) → m.handing ≡ None → IsAnnounced line c m → Fits m
  unhanded m none announced =
      record {
        announced = announced;
        onward = λ h some. let wrong : ◌≡◌ {A = Option Handing} None (Some h) = sym none
            ∙ some in cc;
      }

  -- the same mission at another place of its track, with a part of its hand
  pub moved : (m n : Mission) → n.place.track ≡ m.place.track → n.handing ≡ m.handing
      → ((s : ℕ) → within n.hand s ≡ true → within m.hand s ≡ true) → Fits m → Fits n
  moved m n track handing less is = record {
    announced = λ d none next. fewer d n.place.track m.hand n.hand less
        (ap (λ x. is_empty (part_at line d x m.hand)) track
        ∙ is.announced d (sym handing ∙ none) (ap (next_centre line c) (sym track) ∙ next));
    onward = λ h some. ap (next_centre line c) track ∙ is.onward h (sym handing ∙ some);
  }

  abbrev pub FitsAll : Centre → Type 0
  FitsAll k = (t : ℕ) (m : Mission) → k.mission t ≡ Some m → Fits m

  -- if only the mission of one train changes
  pub others : (t : ℕ) (k y : Centre) → FitsAll k → ((u : ℕ) → u ≢ t → y.mission u ≡ k.mission u)
      → ((m : Mission) → y.mission t ≡ Some m → Fits m) → FitsAll y
  others t k y old same fits u m at = ⊎_elim
      (λ (here : u ≡ t). fits m (ap y.mission (sym here) ∙ at))
      (λ (other : u ≢ t). old u m (sym (same u other) ∙ at))
      (cases_eq u t)

  pub set_all : (t : ℕ) (o : Option Mission) (k : Centre) → ((m : Mission) → o ≡ Some m → Fits m) → FitsAll k
      → FitsAll (set_mission t o k).state
  set_all t o k fits old = others t k (set_mission t o k).state old (λ u other. put_other k.mission t u o other)
      (λ m at. fits m (sym (put_there k.mission t o) ∙ at))

  pub change_all : (t : ℕ) (f : Mission → Mission) (k : Centre)
      → ((m : Mission) → k.mission t ≡ Some m → Fits m → Fits (f m)) → FitsAll k → FitsAll (change_mission t f k).state
  change_all t f k keeps old = set_all t _ k (by_mission (k.mission t) refl) old
    where
      by_mission : (o : Option Mission) → k.mission t ≡ o → (n : Mission)
          → ◌≡◌ {A = Option Mission} (option_map f o) (Some n) → Fits n
      by_mission None at n is = cc
      by_mission (Some m) at n is = subst Fits (same_Some (f m) n is) (keeps m at (old t m at))

  -- ## A mission that arrives

  pub came_fits : (t : ℕ) (k : Centre) (d : ℕ) (place : Place) (m : Mission) → m.place ≡ place
      → all_of (may_arrive line c k t place.track) m.hand ≡ true → IsAnnounced line c m
  came_fits t k d place m same arrives e none next = none_at e m.place.track m.hand (λ s in_hand in_run.
      let of_e =
      (and_parts (is_home line e s) (is_on line m.place.track s)
      (sym (homes_run line e m.place.track s ok) ∙ in_run)).0 in
      let may : may_arrive line c k t m.place.track s ≡ true = ap (λ (p : Place). may_arrive line c k t p.track s) same
      ∙ each_within (may_arrive line c k t place.track) m.hand arrives s in_hand in
      by_home s e of_e next (is_home line c s) refl may)
    where
      by_section : (e : ℕ) → next_centre line c m.place.track ≡ Some e → (o : Option Section)
          → has (λ p. p.home == e) o ≡ true
          → has (λ p. not (has (λ n. n == p.home) (next_centre line c m.place.track))) o ≡ true → ⊥
      by_section e next None home may = cc
      by_section e next (Some p) home may =
          let is : p.home ≡ e = eqb-true p.home e home in
          let wrong : false ≡ true = ap not (sym (itself e)) ∙ ap (λ x. not (e == x)) (sym is)
          ∙ ap (λ o. not (has (λ n. n == p.home) o)) (sym next) ∙ may in cc

      by_home : (s e : ℕ) → is_home line e s ≡ true → next_centre line c m.place.track ≡ Some e
          → (b : Bool) → is_home line c s ≡ b
          → (if b then is_out_for t (k.book s) else has
          (λ p. not (has (λ n. n == p.home) (next_centre line c m.place.track))) (section line s)) ≡ true → ⊥
      by_home s e of_e next true own may = not_itself e m.place.track next (one_home line e c s of_e own)
      by_home s e of_e next false away may = by_section e next (section line s) of_e may

  -- ## A longer hand, and its announcement

  module _ (t : ℕ) (m : Mission) (place : Place) (on_track : place.track ≡ m.place.track) (k : Centre)
      (has_it : k.mission t ≡ Some m) (old : FitsAll k) where
    abbrev n : Mission
    n = extended_by (extension line c k (record m { place = place })) (record m { place = place })

    -- after the authority, before the border is looked at
    abbrev j : Centre
    j = record (set_mission t (Some n) (booked is_open (Taken t) (extension line c k (record m { place = place }))
        k).state).state { said = put k.said t (k.said t + 1) }

    with_n : IsAnnounced line c n → FitsAll j
    with_n fits =
        set_all t (Some n) k (λ x is. subst Fits (same_Some n x is)
        (record {
          announced = fits;
          onward = λ h some. ap (next_centre line c) on_track
              ∙ (old t m has_it).onward h some;
        })) old

    abbrev is_due : ℕ → Mission → Bool
    is_due e x = is_none x.handing && not (is_empty (part_at line e x.place.track x.hand))

    announced_all : (e : ℕ) → next_centre line c place.track ≡ Some e → FitsAll (announce_if_due line t e j).state
    unfolding ◌>>◌
    announced_all e next = by_mission (j.mission t) refl
      where
        handed : Handing
        handed = record { number = j.announced + 1; to = e }

        with_handing : Fits (record n { handing = Some handed })
        with_handing =
            record {
              announced = λ d none further. cc;
              onward = λ h some. next
                  ∙ ap (λ (g : Handing). Some g.to) (same_Some handed h some);
            }

        undue : is_due e n ≡ false → IsAnnounced line c n
        undue not_due d none further = by_empty (is_empty (part_at line d n.place.track n.hand)) refl
          where
            by_empty : (b : Bool) → is_empty (part_at line d n.place.track n.hand) ≡ b
                → is_empty (part_at line d n.place.track n.hand) ≡ true
            by_empty true is = is
            by_empty false is = let wrong : false ≡ true = sym not_due
                ∙ ap (λ z. is_due z n) (same_Some e d (sym next ∙ further))
                ∙ and_from (is_none n.handing) (not (is_empty (part_at line d n.place.track n.hand)))
                (ap is_none none) (ap not is) in cc

        by_due : (b : Bool) → is_due e n ≡ b → FitsAll (if b then announce line t n.place.group e n j else rest j).state
        by_due true is = others t k (announce line t n.place.group e n j).state old
            (λ u other. put_other j.mission t u _ other ∙ put_other k.mission t u (Some n) other)
            (λ z at. subst Fits (same_Some (record n { handing = Some handed }) z
            (sym (put_there j.mission t _ ∙ ap (option_map (λ (q : Mission). record q { handing = Some handed }))
            (put_there k.mission t (Some n))) ∙ at)) with_handing)
        by_due false is = with_n (undue is)

        by_mission : (o : Option Mission) → j.mission t ≡ o
            → FitsAll (option_map_or (λ x. if is_due e x then announce line t x.place.group e x j else rest j)
            o (rest j)).state
        by_mission None none = absurd (let wrong : ◌≡◌ {A = Option Mission} None (Some n) = sym none
            ∙ put_there k.mission t (Some n) in cc)
        by_mission (Some x) is =
            subst (λ (y : Mission). FitsAll (if is_due e y then announce line t y.place.group e y j else rest j).state)
            (same_Some n x (sym (put_there k.mission t (Some n)) ∙ is)) (by_due (is_due e n) refl)

    -- if further sections may be asked for there
    pub grant_all : ((e : ℕ) (i : Centre) → FitsAll i → FitsAll (ask_route_if_due line t e i).state)
        → FitsAll (grant line c t (record m { place = place }) k).state
    unfolding ◌>>◌
    grant_all asks = by_next (next_centre line c place.track) refl
      where
        by_next : (o : Option ℕ) → next_centre line c place.track ≡ o
            → FitsAll (option_map_or (at_border line c t) o rest j).state
        by_next None none =
            with_n (λ d unannounced next. absurd (let wrong : ◌≡◌ {A = Option ℕ} None (Some d) = sym none ∙ next in cc))
        by_next (Some e) next = asks e (announce_if_due line t e j).state (announced_all e next)
