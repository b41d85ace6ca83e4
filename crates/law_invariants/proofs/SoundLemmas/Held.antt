-- A centre in an act: its sections for one train.
use Rattle.std.proofs.Common.{⊎_elim, ◌&&◌, ◌*◌, ◌+◌, ◌||◌, ◌∙◌, ◌≡◌, ◌≢◌, ◌≤◌, ap, arith, Bool, false, inl, inr}
use Rattle.std.proofs.Common.{is_some, not, Option, refl, Some, subst, sym, true, ℕ}
use Rattle.std.proofs.lemmas.Bool.{and_parts, both_ways, cases_eq}
use Rattle.law_base.proofs.LocalLemmas.Entries.{given, hand_given, others_given, taken_elsewhere, taken_for_one}
use Rattle.law_base.proofs.LocalLemmas.Entries.{taken_given, taken_here, unused_booked}
use Rattle.law_base.proofs.LocalLemmas.Homes.{begun_local, fit_parts}
use Rattle.law_base.proofs.RulesLemmas.Places.{extent_ahead, has_group}
use Rattle.law_base.specs.Counting.Sums.{one_if}
use Rattle.law_base.specs.Local.Local.{hand_has, IsOrdered}
use Rattle.law_invariants.proofs.SoundLemmas.Sends.{away, both_or, given_unused, Held, lent_others, lent_taken}
use Rattle.law_invariants.proofs.SoundLemmas.Sends.{lent_unused, Owes, shut_unbooked}
use Rattle.law_invariants.specs.Flow.Counts.{wait_has}
use Rattle.law_invariants.specs.Flow.Sound.{HasComeTo, IsCentreSound, IsHandAt, IsMissionAt, IsOfNext}
use Rattle.rbc_spec.proofs.Lists.{one_track, put_here, put_other}
use Rattle.rbc_spec.proofs.Runs.{each_within, within_from}
use Rattle.rbc_spec.specs.Acts.{booked, freed, set_mission}
use Rattle.rbc_spec.specs.Centre.{Centre, Entry, is_open, is_taken_for, is_unused, Mission, Out, Taken}
use Rattle.rbc_spec.specs.Line.{is_home, Line, next_centre, section_of_group, train_number}
use Rattle.rbc_spec.specs.Maps.{has, put}
use Rattle.rbc_spec.specs.Place.{covered, extent, group_start, is_fit, Place, Position}
use Rattle.rbc_spec.specs.SectionRuns.{all_of, SectionRun, within}
use Rattle.rbc_spec.specs.Sections.{is_on}

-- a mission stays sound if more handovers were announced
pub still : (line : Line) (c : ℕ) (k y : Centre) (m : Mission) → k.announced ≤ y.announced → IsMissionAt line c k m
    → IsMissionAt line c y m
still line c k y m more is = record {
  hand = is.hand;
  pool_follows = is.pool_follows;
  pool_away = is.pool_away;
  pool_on = is.pool_on;
  pool_next = is.pool_next;
  handing_to = is.handing_to;
  handing_number = λ h some. let counted = is.handing_number h some in (counted.0, omega (arith, counted.1, more));
  hand_ends = is.hand_ends;
}

-- so does the end of its hand, if the hand becomes a part of itself and no handover is new
pub ends_less : (line : Line) (c : ℕ) (k : Centre) (m n : Mission) → IsMissionAt line c k m
    → n.place.track ≡ m.place.track → (is_some n.handing ≡ true → is_some m.handing ≡ true)
    → ((s : ℕ) → within n.hand s ≡ true → within m.hand s ≡ true) → (s d x : ℕ)
    → next_centre line c n.place.track ≡ Some d → next_centre line d n.place.track ≡ Some x
    → HasComeTo line d n → within n.hand s ≡ true → is_home line x s ≡ false
ends_less line c k m n is track handing part s d x next beyond come has =
    is.hand_ends s d x (ap (next_centre line c) (sym track) ∙ next) (ap (next_centre line d) (sym track) ∙ beyond)
    (⊎_elim (λ (stands : is_some n.handing ≡ true). inl (handing stands))
    (λ (some : (e : ℕ) × (within n.hand e ≡ true) × (is_home line d e ≡ true)).
    inr (some.0, part some.0 some.1, some.2)) come)
    (part s has)

module _ (line : Line) (c : ℕ) (k : Centre) (t : ℕ) where
  -- ## From a sound centre, and to one

  pub held : (wait : Option Place) (mission : Option Mission) → IsCentreSound line c k
      → k.wait t ≡ wait → k.mission t ≡ mission
      → Held line c k t (λ s. is_taken_for t (k.book s)) wait mission k
  held wait mission sound waits at = record {
    foreign = sound.foreign;
    asks = sound.asks;
    unwished = sound.unwished;
    mine = λ s home. refl;
    others = λ s u apart. refl;
    wait = waits;
    waits = λ u apart. refl;
    mission = at;
    missions = λ u apart. refl;
    heard = λ u is. is;
    announced = omega arith;
  }

  pub sound_again : (mine : ℕ → Bool) (wait : Option Place) (mission : Option Mission) (y : Centre)
      → IsCentreSound line c k
      → Held line c k t mine wait mission y → Owes line c t mine wait mission y → IsCentreSound line c y
  sound_again mine wait mission y old h owes = record {
    claims = λ s u home. by_train (λ x. one_if (is_taken_for x (y.book s)) ≡ one_if (wait_has line (y.wait x) s)
        + one_if (hand_has (y.mission x) s)) u
        (omega (
          arith,
          owes.claims s home,
          ap one_if (h.mine s home),
          ap (λ o. one_if (wait_has line o s)) h.wait,
          ap (λ o. one_if (hand_has o s)) h.mission,
        ))
        (λ other.
        omega (
          arith,
          old.claims s u home,
          ap one_if (h.others s u other),
          ap (λ o. one_if (wait_has line o s)) (h.waits u other),
          ap (λ o. one_if (hand_has o s)) (h.missions u other),
        ));
    foreign = h.foreign;
    asks = h.asks;
    unwished = h.unwished;
    wait_home = λ u s. by_train (λ x. wait_has line (y.wait x) s ≡ true → is_home line c s ≡ true) u
        (λ is. owes.wait_home s (sym (ap (λ o. wait_has line o s) h.wait) ∙ is))
        (λ other is. old.wait_home u s (sym (ap (λ o. wait_has line o s) (h.waits u other)) ∙ is));
    wait_fits = λ u place. by_train (λ x. y.wait x ≡ Some place → IsHandAt line place (covered line place)) u
        (λ is. owes.wait_fits place (sym h.wait ∙ is))
        (λ other is. old.wait_fits u place (sym (h.waits u other) ∙ is));
    wait_known = λ u place. by_train (λ x. y.wait x ≡ Some place → (is_some (train_number line x) ≡ true)
        × (is_some (y.heard x) ≡ true)) u
        (λ is. owes.wait_known place (sym h.wait ∙ is))
        (λ other is. let known = old.wait_known u place (sym (h.waits u other) ∙ is) in (known.0, h.heard u known.1));
    mission = λ u m. by_train (λ x. y.mission x ≡ Some m → IsMissionAt line c y m) u
        (λ is. owes.mission m (sym h.mission ∙ is))
        (λ other is. still line c k y m h.announced (old.mission u m (sym (h.missions u other) ∙ is)));
    mission_known = λ u m. by_train (λ x. y.mission x ≡ Some m → (is_some (train_number line x) ≡ true)
        × (is_some (y.heard x) ≡ true)) u
        (λ is. owes.mission_known m (sym h.mission ∙ is))
        (λ other is. let known = old.mission_known u m (sym (h.missions u other) ∙ is) in (known.0, h.heard u known.1));
  }
    where
      by_train : (P : ℕ → Type 0) (u : ℕ) → P t → (u ≢ t → P u) → P u
      by_train P u here other = ⊎_elim (λ (e : u ≡ t). subst P (sym e) here) other (cases_eq u t)

  -- ## Step by step

  module _ (mine : ℕ → Bool) (wait : Option Place) (mission : Option Mission) (y : Centre)
      (h : Held line c k t mine wait mission y) where
    pub held_freed : (r : SectionRun)
        → Held line c k t (λ s. mine s && not (within r s)) wait mission (freed line c (is_taken_for t) r y).state
    held_freed r =
        let back : ℕ → Bool = λ s. (within r s && is_home line c s) && is_taken_for t (y.book s) in
        record {
          foreign = λ s out. ap (λ b. given b (y.wish s) (y.book s))
              (away (within r s) (is_home line c s) (is_taken_for t (y.book s)) out) ∙ h.foreign s out;
          asks = h.asks;
          unwished = λ s unused. given_unused (back s) (y.wish s) (y.book s) (h.unwished s) unused;
          mine = λ s home. taken_given t (back s) (y.wish s) (y.book s)
              ∙ hand_given (within r s) (is_home line c s) (is_taken_for t (y.book s)) (mine s) (h.mine s home)
              (λ out. absurd (both_ways (is_home line c s) out home));
          others = λ s u apart. taken_given u (back s) (y.wish s) (y.book s)
              ∙ others_given (within r s && is_home line c s) (is_taken_for t (y.book s)) (is_taken_for u (y.book s))
              (taken_for_one t u (y.book s) apart) ∙ h.others s u apart;
          wait = h.wait;
          waits = h.waits;
          mission = h.mission;
          missions = h.missions;
          heard = h.heard;
          announced = h.announced;
        }

    -- sections that are open become the train's
    pub held_booked : (r : SectionRun) → ((s : ℕ) → is_home line c s ≡ true → within r s ≡ true
        → is_open (y.book s) ≡ true)
        → Held line c k t (λ s. mine s || within r s) wait mission (booked is_open (Taken t) r y).state
    held_booked r opened =
        let there : ℕ → Bool = λ s. within r s && is_open (y.book s) in
        let is_there : (s : ℕ) → there s ≡ true → is_open (y.book s) ≡ true =
        λ s is. (and_parts (within r s) (is_open (y.book s)) is).1 in
        record {
          foreign = λ s out. shut_unbooked (within r s) (Taken t) (y.book s) (h.foreign s out) is_open refl;
          asks = h.asks;
          unwished = λ s unused. unused_booked t (there s) (y.wish s) (y.book s) (h.unwished s) unused;
          mine = λ s home. taken_here t (there s) (mine s) (y.book s) (h.mine s home) (is_there s)
              ∙ both_or (within r s) (is_open (y.book s)) (mine s) (opened s home);
          others = λ s u apart. taken_elsewhere t u (there s) (y.book s) apart (is_there s) ∙ h.others s u apart;
          wait = h.wait;
          waits = h.waits;
          mission = h.mission;
          missions = h.missions;
          heard = h.heard;
          announced = h.announced;
        }

    -- the train's sections are lent
    pub held_lent : (r : SectionRun)
        → Held line c k t (λ s. mine s && not (within r s)) wait mission (booked (is_taken_for t) (Out t) r y).state
    held_lent r = record {
      foreign = λ s out. shut_unbooked (within r s) (Out t) (y.book s) (h.foreign s out) (is_taken_for t) refl;
      asks = h.asks;
      unwished = λ s unused. lent_unused t (within r s && is_taken_for t (y.book s)) (y.wish s)
          (y.book s) (h.unwished s) unused;
      mine = λ s home. lent_taken t (within r s) (mine s) (y.book s) (h.mine s home);
      others = λ s u apart. lent_others t u (within r s) (y.book s) apart ∙ h.others s u apart;
      wait = h.wait;
      waits = h.waits;
      mission = h.mission;
      missions = h.missions;
      heard = h.heard;
      announced = h.announced;
    }

    pub held_mission : (new : Option Mission) → Held line c k t mine wait new (set_mission t new y).state
    held_mission new = record {
      foreign = h.foreign;
      asks = h.asks;
      unwished = h.unwished;
      mine = h.mine;
      others = h.others;
      wait = h.wait;
      waits = h.waits;
      mission = put_here y.mission t t new refl;
      missions = λ u apart. put_other y.mission t u new apart ∙ h.missions u apart;
      heard = h.heard;
      announced = h.announced;
    }

    pub held_wait : (new : Option Place) → Held line c k t mine new mission (record y { wait = put y.wait t new })
    held_wait new = record {
      foreign = h.foreign;
      asks = h.asks;
      unwished = h.unwished;
      mine = h.mine;
      others = h.others;
      wait = put_here y.wait t t new refl;
      waits = λ u apart. put_other y.wait t u new apart ∙ h.waits u apart;
      mission = h.mission;
      missions = h.missions;
      heard = h.heard;
      announced = h.announced;
    }

    -- the state outside these holdings may change
    pub held_aside : (z : Centre) → z.book ≡ y.book → z.wish ≡ y.wish → z.wait ≡ y.wait → z.mission ≡ y.mission
        → ((u : ℕ) → is_some (y.heard u) ≡ true → is_some (z.heard u) ≡ true) → y.announced ≤ z.announced
        → ((u first : ℕ) → z.route_ask u ≡ Some first → IsOfNext line c first) → Held line c k t mine wait mission z
    held_aside z book wish waits missions heard announced asks = record {
      foreign = λ s out. ap (λ (f : ℕ → Entry). f s) book ∙ h.foreign s out;
      asks = asks;
      unwished = λ s unused. ap (λ (f : ℕ → Bool). f s) wish
          ∙ h.unwished s (sym (ap (λ (f : ℕ → Entry). is_unused (f s)) book) ∙ unused);
      mine = λ s home. ap (λ (f : ℕ → Entry). is_taken_for t (f s)) book ∙ h.mine s home;
      others = λ s u apart. ap (λ (f : ℕ → Entry). is_taken_for u (f s)) book ∙ h.others s u apart;
      wait = ap (λ (f : ℕ → Option Place). f t) waits ∙ h.wait;
      waits = λ u apart. ap (λ (f : ℕ → Option Place). f u) waits ∙ h.waits u apart;
      mission = ap (λ (f : ℕ → Option Mission). f t) missions ∙ h.mission;
      missions = λ u apart. ap (λ (f : ℕ → Option Mission). f u) missions ∙ h.missions u apart;
      heard = λ u is. heard u (h.heard u is);
      announced = omega (arith, h.announced, announced);
    }

-- # Hands at the places of reports.

-- the group is on the place's track, and not in advance of its front
pub record IsReported (line : Line) (place : Place) : Type 0 where
  pub group : has (is_on line place.track) (section_of_group line place.group) ≡ true
  pub front : 10 * group_start line place ≤ place.front

pub reported : (line : Line) (p : Position) (place : Place) → extent line p ≡ Some place → IsReported line place
reported line p place is = record { group = has_group line p place is; front = extent_ahead line p place is }

-- a hand at another place on its track
pub moved : (line : Line) (old place : Place) (hand : SectionRun) → IsHandAt line old hand → place.track ≡ old.track
    → IsReported line place → IsHandAt line place hand
moved line old place hand is same at = record {
  some = is.some;
  few = is.few;
  on_track = λ s has. subst (λ track. is_on line track s ≡ true) (sym same) (is.on_track s has);
  group = at.group;
  front = at.front;
}

-- the sections that it covers are a hand there
pub fit_hand : (line : Line) → IsOrdered line → (place : Place) → is_fit line place ≡ true → IsReported line place
    → IsHandAt line place (covered line place)
fit_hand line ordered place fit at =
    let local = begun_local line ordered place (fit_parts line place fit) in
    record { some = local.some; few = local.few; on_track = local.on_track; group = at.group; front = at.front }

-- if a hand has all sections of a place, the place is on its track
pub same_track : (line : Line) (old place : Place) (hand : SectionRun) → IsHandAt line old hand
    → IsHandAt line place (covered line place) → all_of (within hand) (covered line place) ≡ true
    → place.track ≡ old.track
same_track line old place hand is at all =
    let s : ℕ = (covered line place).first in
    let there = within_from (covered line place) s (omega arith) (omega (arith, at.some)) in
    one_track line s place.track old.track (at.on_track s there)
    (is.on_track s (each_within (within hand) (covered line place) all s there))
