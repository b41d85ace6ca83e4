-- The conditions of a Yield on its centre, so that sections are counted outside their home, and the acts before it that
-- keep them.
use Rattle.std.proofs.Common.{⊎_elim, ◌&&◌, ◌<◌, ◌∙◌, ◌≡◌, ◌≢◌, ◌⊎◌, ap, Bool, false, if◌then◌else◌, inl, inr, None}
use Rattle.std.proofs.Common.{Option, option_map, refl, Some, subst, sym, true, ℕ}
use Rattle.std.proofs.lemmas.Bool.{cases_eq, eqb-true}
use Rattle.std.specs.Option.{option_map_or}
use Rattle.law_base.proofs.CountingLemmas.Sums.{put_other, put_same}
use Rattle.law_base.specs.Local.Local.{hand_has}
use Rattle.law_invariants.proofs.NoCopyLemmas.Tally.{HasRegistrar, MayYield, Tally}
use Rattle.law_invariants.specs.Flow.Flow.{centre_count}
use Rattle.rbc_spec.specs.Acts.{◌>>◌, become, cancel, change_mission, close, freed, leave, rest, return_right, send}
use Rattle.rbc_spec.specs.Acts.{set_mission}
use Rattle.rbc_spec.specs.Centre.{Centre, Entry, Handing, is_registrar_of, is_taken_for, Mission, Open, Out, Shut}
use Rattle.rbc_spec.specs.Centre.{Taken}
use Rattle.rbc_spec.specs.Frame.{Cancel, ReturnRight}
use Rattle.rbc_spec.specs.Line.{is_home, Line, registrar}
use Rattle.rbc_spec.specs.Maps.{put}
use Rattle.rbc_spec.specs.SectionRuns.{SectionRun, within}
use Rattle.rbc_spec.specs.Sections.{is_on}

-- a section that is taken for a train is taken for no other
pub taken_once : (u t : ℕ) (e : Entry) → is_taken_for u e ≡ true → is_taken_for t e ≡ true → u ≡ t
taken_once u t Shut one two = cc
taken_once u t Open one two = cc
taken_once u t (Taken v) one two = sym (eqb-true v u one) ∙ eqb-true v t two
taken_once u t (Out v) one two = cc

module _ (line : Line) (c : ℕ) (y : Tally) where
  -- If losses are counted: each section of the train's mission is on its track. The right is in the mission, and has a
  -- registrar to which it can return. The handover is to a centre of the line.
  pub record Stands (k : Centre) (m : Mission) : Type 0 where
    pub hand_on : within m.hand y.section ≡ true → is_on line m.place.track y.section ≡ true
    pub pool_on : within m.pool y.section ≡ true → is_on line m.place.track y.section ≡ true
    pub alone : k.has_right y.train ≡ false
    pub to_registrar : HasRegistrar line y.train
    pub to_centre : (h : Handing) → m.handing ≡ Some h → h.to < centre_count line

  -- if sections are counted only outside their home, a home section in the train's hand is taken for it
  pub record Ready (k : Centre) : Type 0 where
    pub claims : y.outside ≡ true → hand_has (k.mission y.train) y.section ≡ true → is_home line c y.section ≡ true
        → is_taken_for y.train (k.book y.section) ≡ true
    pub stands : y.exact ≡ true → (m : Mission) → k.mission y.train ≡ Some m → Stands k m

  -- a mission on the same track, with a part of the hand and of the pool
  pub record IsPart (m n : Mission) : Type 0 where
    pub track : n.place.track ≡ m.place.track
    pub hand : within n.hand y.section ≡ true → within m.hand y.section ≡ true
    pub pool : within n.pool y.section ≡ true → within m.pool y.section ≡ true

  -- no handover of n is to another centre than one of m
  abbrev pub SameWay : Mission → Mission → Type 0
  SameWay m n = (h : Handing) → n.handing ≡ Some h → (g : Handing) × (m.handing ≡ Some g) × (g.to ≡ h.to)

  -- beside the mission, it depends only on the train's right
  pub stands_again : (k j : Centre) (m : Mission) → j.has_right y.train ≡ k.has_right y.train → Stands k m → Stands j m
  stands_again k j m right at =
      record {
        hand_on = at.hand_on;
        pool_on = at.pool_on;
        alone = right
            ∙ at.alone;
        to_registrar = at.to_registrar;
        to_centre = at.to_centre;
      }

  -- the conditions of a Yield and a mission depend only on the mission, the section's entry and the right
  pub ready_again : (k j : Centre) → j.mission y.train ≡ k.mission y.train → j.book y.section ≡ k.book y.section
      → j.has_right y.train ≡ k.has_right y.train → Ready k → Ready j
  ready_again k j mission book right ready = record {
    claims = λ so has home. ap (is_taken_for y.train) book
        ∙ ready.claims so (ap (λ o. hand_has o y.section) (sym mission) ∙ has) home;
    stands = λ so m is. stands_again k j m right (ready.stands so m (sym mission ∙ is));
  }

  pub part_stands : (k j : Centre) (m n : Mission) → j.has_right ≡ k.has_right → IsPart m n
      → SameWay m n → Stands k m → Stands j n
  part_stands k j m n same less way stands = record {
    hand_on = λ has. ap (λ a. is_on line a y.section) less.track ∙ stands.hand_on (less.hand has);
    pool_on = λ has. ap (λ a. is_on line a y.section) less.track ∙ stands.pool_on (less.pool has);
    alone = ap (λ f. f y.train) same ∙ stands.alone;
    to_registrar = stands.to_registrar;
    to_centre = λ h is. let before = way h is in
        subst (λ d. d < centre_count line) before.2 (stands.to_centre before.0 before.1);
  }

  pub ready_changed : (t : ℕ) (f : Mission → Mission) (k : Centre) → ((m : Mission) → (f m).hand ≡ m.hand)
      → ((m : Mission) → SameWay m (f m)) → ((m : Mission) → IsPart m (f m)) → Ready k
      → Ready (change_mission t f k).state
  ready_changed t f k hand way less ready = ⊎_elim
      (λ (here : y.train ≡ t). changed (ap (λ v. put k.mission t (option_map f (k.mission t)) v) here
      ∙ put_same k.mission t (option_map f (k.mission t)) ∙ ap (λ v. option_map f (k.mission v)) (sym here)))
      (λ (other : y.train ≢ t). let same : put k.mission t (option_map f (k.mission t)) y.train
      ≡ k.mission y.train = put_other k.mission t (option_map f (k.mission t)) y.train other in record {
        claims = λ so has home. ready.claims so (ap (λ o. hand_has o y.section) (sym same) ∙ has) home;
        stands = λ so m is. stands_again k (change_mission t f k).state m refl (ready.stands so m (sym same ∙ is));
      })
      (cases_eq y.train t)
    where
      hand_same : (o : Option Mission) → hand_has (option_map f o) y.section ≡ hand_has o y.section
      hand_same None = refl
      hand_same (Some m) = ap (λ r. within r y.section) (hand m)

      by_standing : y.exact ≡ true → (o : Option Mission) → k.mission y.train ≡ o → (n : Mission)
          → option_map f o ≡ Some n → Stands (change_mission t f k).state n
      by_standing so None was n is = cc
      by_standing so (Some m) was n is = let same : f m ≡ n = cc in
          subst (Stands (change_mission t f k).state) same
          (part_stands k (change_mission t f k).state m (f m) refl (less m) (way m) (ready.stands so m was))

      changed : put k.mission t (option_map f (k.mission t)) y.train ≡ option_map f (k.mission y.train)
          → Ready (change_mission t f k).state
      changed now = record {
        claims = λ so has home. ready.claims so (sym (hand_same (k.mission y.train))
            ∙ ap (λ o. hand_has o y.section) (sym now) ∙ has) home;
        stands = λ so m is. by_standing so (k.mission y.train) refl m (sym now ∙ is);
      }

  -- the rest of a hand was in it, and has not left
  pub record Leaves (k : Centre) (t : ℕ) (r : SectionRun) (n : Mission) : Type 0 where
    pub hand : within n.hand y.section ≡ true → is_home line c y.section ≡ true
        → (hand_has (k.mission t) y.section ≡ true) × (within r y.section ≡ false)
    pub way : (h : Handing) → n.handing ≡ Some h → (m : Mission) × (k.mission t ≡ Some m) × (m.handing ≡ Some h)
    pub less : (m : Mission) × (k.mission t ≡ Some m) × IsPart m n × SameWay m n

  still_taken : (t : ℕ) (r : SectionRun) (k : Centre)
      → (t ≡ y.train → is_home line c y.section ≡ true → within r y.section ≡ false) → is_home line c y.section ≡ true
      → is_taken_for y.train (k.book y.section) ≡ true
      → is_taken_for y.train ((freed line c (is_taken_for t) r k).state.book y.section) ≡ true
  still_taken t r k out home taken = by_tests (within r y.section) refl (is_home line c y.section)
      (is_taken_for t (k.book y.section)) refl
    where
      by_tests : (w : Bool) → within r y.section ≡ w → (h x : Bool) → is_taken_for t (k.book y.section) ≡ x
          → is_taken_for y.train (if (w && h) && x then (if k.wish y.section then Shut else Open) else k.book y.section)
          ≡ true
      by_tests false in_run h x is = taken
      by_tests true in_run false x is = taken
      by_tests true in_run true false is = taken
      by_tests true in_run true true is =
          absurd (let wrong : true ≡ false = sym in_run
          ∙ out (taken_once t y.train (k.book y.section) is taken) home in cc)

  pub ready_left : (t track : ℕ) (r : SectionRun) (o : Option Mission) (k : Centre)
      → ((n : Mission) → o ≡ Some n → Leaves k t r n) → Ready k
      → Ready ((leave line c t track r >> set_mission t o) k).state
  unfolding ◌>>◌
  ready_left t track r o k leaves ready = by_train (cases_eq y.train t)
    where
      by_hand : (z : Option Mission) → o ≡ z → hand_has z y.section ≡ true → is_home line c y.section ≡ true
          → (hand_has (k.mission t) y.section ≡ true) × (within r y.section ≡ false)
      by_hand None is has home = cc
      by_hand (Some n) is has home = (leaves n is).hand has home

      by_train : (y.train ≡ t) ⊎ (y.train ≢ t) → Ready ((leave line c t track r >> set_mission t o) k).state
      by_train (inl here) = let now : put k.mission t o y.train ≡ o = ap (λ v. put k.mission t o v) here
          ∙ put_same k.mission t o in record {
            claims = λ so has home. let both = by_hand o refl (ap (λ z. hand_has z y.section) (sym now) ∙ has) home in
                still_taken t r k (λ e h. both.1) home
                (ready.claims so (ap (λ v. hand_has (k.mission v) y.section) here ∙ both.0) home);
            stands = λ so n is. let less = (leaves n (sym now ∙ is)).less in
                part_stands k ((leave line c t track r >> set_mission t o) k).state less.0 n refl less.2 less.3
                (ready.stands so less.0 (ap (λ v. k.mission v) here ∙ less.1));
          }
      by_train (inr other) = let now : put k.mission t o y.train ≡ k.mission y.train =
          put_other k.mission t o y.train other in record {
            claims = λ so has home. still_taken t r k (λ e. absurd (other (sym e))) home
                (ready.claims so (ap (λ z. hand_has z y.section) (sym now) ∙ has) home);
            stands = λ so n is. stands_again k ((leave line c t track r >> set_mission t o) k).state n refl
                (ready.stands so n (sym now ∙ is));
          }

  -- a handover may be yielded
  pub may_yield : (t : ℕ) (m : Mission) (k : Centre) → k.mission t ≡ Some m → Ready k → t ≡ y.train → y.outside ≡ true
      → MayYield line c y m.hand (k.book y.section)
  may_yield t m k has ready here so in_hand home =
      ready.claims so (ap (λ v. hand_has (k.mission v) y.section) (sym here)
      ∙ ap (λ o. hand_has o y.section) has ∙ in_hand) home

  -- ## A mission that closes

  pub ready_cancel : (t : ℕ) (m : Mission) (k : Centre) → Ready k → Ready (cancel t m k).state
  unfolding ◌>>◌
  ready_cancel t m k ready = by_handing m.handing
    where
      by_handing : (o : Option Handing)
          → Ready (option_map_or (λ h. send h.to (Cancel h.number t)
          >> change_mission t (λ n. record n { handing = None })) o rest k).state
      by_handing None = ready
      by_handing (Some h) = ready_changed t (λ n. record n { handing = None }) k (λ n. refl) (λ n g is. cc)
          (λ n. record { track = refl; hand = λ is. is; pool = λ is. is }) ready

  -- a cancellation keeps the rights, and a mission that is none
  pub cancel_rights : (t : ℕ) (m : Mission) (k : Centre) → (cancel t m k).state.has_right ≡ k.has_right
  unfolding ◌>>◌
  cancel_rights t m k = by_handing m.handing
    where
      by_handing : (o : Option Handing)
          → (option_map_or (λ h. send h.to (Cancel h.number t) >> change_mission t (λ n. record n { handing = None })) o
          rest k).state.has_right ≡ k.has_right
      by_handing None = refl
      by_handing (Some h) = refl

  cancel_none : (t : ℕ) (m : Mission) (k : Centre) → k.mission t ≡ None → (cancel t m k).state.mission t ≡ None
  unfolding ◌>>◌
  cancel_none t m k none = by_handing m.handing
    where
      by_handing : (o : Option Handing)
          → (option_map_or (λ h. send h.to (Cancel h.number t) >> change_mission t (λ n. record n { handing = None })) o
          rest k).state.mission t ≡ None
      by_handing None = none
      by_handing (Some h) =
          put_same k.mission t (option_map {T = Mission} {U = Mission} (λ n. record n { handing = None }) (k.mission t))
          ∙ ap (option_map {T = Mission} {U = Mission} (λ n. record n { handing = None })) none

  ready_return : (t : ℕ) (k : Centre) → k.mission t ≡ None → Ready k → Ready (return_right line c t k).state
  ready_return t k none ready = by_registrar (is_registrar_of line c t) (registrar line t)
    where
      stands_still : y.exact ≡ true → (m : Mission) → k.mission y.train ≡ Some m
          → Stands (record k { has_right = put k.has_right t true }) m
      stands_still so m is = ⊎_elim
          (λ (here : y.train ≡ t). absurd (let wrong : ◌≡◌ {A = Option Mission} None (Some m) = sym none
          ∙ ap (λ v. k.mission v) (sym here) ∙ is in cc))
          (λ (other : y.train ≢ t). stands_again k (record k { has_right = put k.has_right t true }) m
          (put_other k.has_right t true y.train other) (ready.stands so m is))
          (cases_eq y.train t)

      by_registrar : (b : Bool) (o : Option ℕ)
          → Ready ((if b then become (λ j. record j { has_right = put j.has_right t true }) else option_map_or
          (λ r. send r (ReturnRight t)) o rest) k).state
      by_registrar true o = record { claims = ready.claims; stands = stands_still }
      by_registrar false (Some r) = ready
      by_registrar false None = ready

  pub ready_closed : (t track : ℕ) (r : SectionRun) (m : Mission) (k : Centre) → Ready k
      → Ready ((leave line c t track r >> close line c t m) k).state
  unfolding ◌>>◌
  ready_closed t track r m k ready =
      ready_return t (cancel t m (set_mission t None (leave line c t track r k).state).state).state
      (cancel_none t m (set_mission t None (leave line c t track r k).state).state
      (put_same (leave line c t track r k).state.mission t None))
      (ready_cancel t m (set_mission t None (leave line c t track r k).state).state
      (ready_left t track r None k (λ n is. cc) ready))
