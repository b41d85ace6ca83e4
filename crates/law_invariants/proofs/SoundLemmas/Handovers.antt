-- A sound centre stays so as handovers are announced, cancelled and claimed, and as a mission is taken.
use Rattle.std.proofs.Common.{⊎_elim, ◌&&◌, ◌*◌, ◌==◌, ◌||◌, ◌∙◌, ◌≡◌, ◌≢◌, ◌≤◌, ap, arith, Bool, eq-eqb, eqb-true}
use Rattle.std.proofs.Common.{false, is_none, is_some, leb-true, max, nat_le, None, not, Option, refl, Some, subst, sym}
use Rattle.std.proofs.Common.{true, ℕ}
use Rattle.std.proofs.lemmas.Bool.{and_parts, cond-false, cond-true, ne_eqb, or_right}
use Rattle.std.proofs.lemmas.Option.{same_Some}
use Rattle.std.specs.List.{find, range_with_len}
use Rattle.std.specs.Option.{option_map_or}
use Rattle.law_base.proofs.LocalLemmas.Entries.{booked_for, unused_booked}
use Rattle.law_base.proofs.LocalLemmas.Missions.{none_within}
use Rattle.law_base.proofs.LocalLemmas.Stays.{by_same}
use Rattle.law_base.specs.Counting.Sums.{one_if}
use Rattle.law_base.specs.Local.Local.{hand_has}
use Rattle.law_invariants.proofs.FlowLemmas.Neighbours.{next_apart}
use Rattle.law_invariants.proofs.SoundLemmas.Again.{again, free_sound, grown_law}
use Rattle.law_invariants.proofs.SoundLemmas.Held.{held, held_mission}
use Rattle.law_invariants.proofs.SoundLemmas.Leaving.{yielded_over}
use Rattle.law_invariants.proofs.SoundLemmas.Routes.{propose_sound}
use Rattle.law_invariants.proofs.SoundLemmas.Sends.{Held, if_reply, leaves, none_sent, or_reply, rest_sound}
use Rattle.law_invariants.proofs.SoundLemmas.Sends.{shut_unbooked, Sound, then_sound}
use Rattle.law_invariants.specs.Flow.Counts.{wait_has}
use Rattle.law_invariants.specs.Flow.Sound.{IsCentreSound, IsMissionAt}
use Rattle.rbc_spec.proofs.Lists.{none_is, one_home, put_here, put_other}
use Rattle.rbc_spec.proofs.Runs.{each_within}
use Rattle.rbc_spec.specs.Acts.{◌>>◌, become, booked, propose_if_so, rest, set_mission, with_some}
use Rattle.rbc_spec.specs.Centre.{Centre, Entry, Expectation, is_out_for, is_taken_for, Mission, Open, Out, Shut, Taken}
use Rattle.rbc_spec.specs.Line.{is_home, IsLine, Line, next_centre, Section, section, section_of_group, train_number}
use Rattle.rbc_spec.specs.Links.{announced, cancelled, expect, is_under, may_arrive, may_take, take_mission}
use Rattle.rbc_spec.specs.Links.{taking_over, yielded}
use Rattle.rbc_spec.specs.Maps.{has, put, put_pair}
use Rattle.rbc_spec.specs.Place.{group_start, Place}
use Rattle.rbc_spec.specs.SectionRuns.{all_of, most_in_hand, no_run, SectionRun, within}
use Rattle.rbc_spec.specs.Sections.{is_on, is_on_track}

-- a section that was out is taken for the train again
back_taken : (t : ℕ) (b hand : Bool) (e : Entry) → is_taken_for t e ≡ hand → (b ≡ true → is_out_for t e ≡ true)
    → is_taken_for t (booked_for t (b && is_out_for t e) e) ≡ (hand || b)
back_taken t true hand e is out = ap (λ z. is_taken_for t (booked_for t z e)) (out refl) ∙ eq-eqb t t refl
    ∙ sym (or_right hand true refl)
back_taken t false hand e is out = is ∙ or_none hand
  where
    or_none : (b : Bool) → b ≡ (b || false)
    or_none true = refl
    or_none false = refl

back_others : (t u : ℕ) (b : Bool) (e : Entry) → u ≢ t
    → is_taken_for u (booked_for t (b && is_out_for t e) e) ≡ is_taken_for u e
back_others t u true Shut apart = refl
back_others t u true Open apart = refl
back_others t u true (Taken v) apart = refl
back_others t u true (Out v) apart = by_test (is_out_for t (Out v))
  where
    by_test : (z : Bool) → is_taken_for u (booked_for t z (Out v)) ≡ false
    by_test true = ne_eqb t u (λ same. apart (sym same))
    by_test false = refl
back_others t u false e apart = refl

pub out_untaken : (t u : ℕ) (e : Entry) → is_out_for t e ≡ true → is_taken_for u e ≡ false
out_untaken t u Shut is = cc
out_untaken t u Open is = cc
out_untaken t u (Taken v) is = cc
out_untaken t u (Out v) is = refl

module _ (line : Line) (ok : IsLine line) (c : ℕ) where
  expects_sound : (d t : ℕ) (e : Option Expectation) (k : Centre) → IsCentreSound line c k
      → Sound line c (expect d t e k)
  expects_sound d t e k old =
      leaves line c (free_sound line c k old (expect d t e k).state refl refl refl refl (λ u is. is) (omega arith)
      old.asks) (none_sent line c)

  pub announced_sound : (d number t : ℕ) (k : Centre) → IsCentreSound line c k → Sound line c (announced d number t k)
  announced_sound d number t k old = if_reply line c (is_none (k.expects d t)) _ (rest k)
      (λ none. expects_sound d t _ k old) (λ some. rest_sound line c k old)

  pub cancelled_sound : (d number t : ℕ) (k : Centre) → IsCentreSound line c k → Sound line c (cancelled d number t k)
  cancelled_sound d number t k old = if_reply line c (is_under number (k.expects d t)) _ (rest k)
      (λ under. expects_sound d t None k old) (λ no. rest_sound line c k old)

  -- the handover is yielded, if it is the one that is taken over
  pub over_sound : (d number t : ℕ) (k : Centre) → IsCentreSound line c k
      → Sound line c (taking_over line c d number t k)
  over_sound d number t k old = yielded_over line ok c d number t k old

  -- ## A mission is taken

  module _ (k : Centre) (t : ℕ) (is_mine : ℕ → Bool) (waiting : Option Place) (present : Option Mission) (y : Centre)
      (h : Held line c k t is_mine waiting present y) where
    held_back : (r : SectionRun) → ((s : ℕ) → is_home line c s ≡ true → within r s ≡ true
        → is_out_for t (y.book s) ≡ true)
        → Held line c k t (λ s. is_mine s || within r s) waiting present (booked (is_out_for t) (Taken t) r y).state
    held_back r out =
        let there : ℕ → Bool = λ s. within r s && is_out_for t (y.book s) in
        record {
          foreign = λ s at. shut_unbooked (within r s) (Taken t) (y.book s) (h.foreign s at) (is_out_for t) refl;
          asks = h.asks;
          unwished = λ s unused. unused_booked t (there s) (y.wish s) (y.book s) (h.unwished s) unused;
          mine = λ s home. back_taken t (within r s) (is_mine s) (y.book s) (h.mine s home) (out s home);
          others = λ s u apart. back_others t u (within r s) (y.book s) apart ∙ h.others s u apart;
          wait = h.wait;
          waits = h.waits;
          mission = h.mission;
          missions = h.missions;
          heard = h.heard;
          announced = h.announced;
        }

  module _ (d number t heard : ℕ) (hand : SectionRun) (has_data is_ended : Bool) (place : Place) (k : Centre)
      (old : IsCentreSound line c k) (known : is_some (train_number line t) ≡ true)
      (range : (1 ≤ hand.count) × (hand.count ≤ most_in_hand))
      (may : may_take line c k d number t place hand ≡ true) where
    abbrev came : Mission
    came = record {
      place = place;
      hand = hand;
      pool = no_run;
      has_data = has_data;
      is_ended = is_ended;
      proposal = None;
      handing = None;
    }

    front_parts : ((has (λ e. (e.number == number) && e.is_taking) (k.expects d t)
        && (is_none (k.mission t) && not (k.has_right t))) ≡ true)
        × (((is_on_track line place.track hand && has (is_on line place.track) (section_of_group line place.group))
        && (nat_le (10 * group_start line place) place.front && all_of (may_arrive line c k t place.track) hand))
        ≡ true)
    front_parts = and_parts _ _ may

    none : k.mission t ≡ None
    none = none_is (k.mission t) (and_parts (is_none (k.mission t)) _
        (and_parts _ (is_none (k.mission t) && not (k.has_right t)) front_parts.0).1).0

    tracks : (is_on_track line place.track hand ≡ true)
        × (has (is_on line place.track) (section_of_group line place.group) ≡ true)
    tracks = and_parts _ _ (and_parts _ (nat_le (10 * group_start line place) place.front
        && all_of (may_arrive line c k t place.track) hand) front_parts.1).0

    ends : (nat_le (10 * group_start line place) place.front ≡ true)
        × (all_of (may_arrive line c k t place.track) hand ≡ true)
    ends = and_parts _ _ (and_parts (is_on_track line place.track hand
        && has (is_on line place.track) (section_of_group line place.group)) _ front_parts.1).1

    was_out : (s : ℕ) → is_home line c s ≡ true → within hand s ≡ true → is_out_for t (k.book s) ≡ true
    was_out s home has = sym (cond-true (is_home line c s) (is_out_for t (k.book s)) _ home)
        ∙ each_within (may_arrive line c k t place.track) hand ends.1 s has

    -- no section of the hand is of the next centre
    not_come : (s e : ℕ) → next_centre line c place.track ≡ Some e → within hand s ≡ true → is_home line e s ≡ true → ⊥
    not_come s e next inside there = by_home (is_home line c s) refl
      where
        by_section : (o : Option Section) → option_map_or (λ p. p.home == e) o false ≡ true
            → option_map_or (λ p. not (has (λ n. n == p.home) (next_centre line c place.track))) o false ≡ true → ⊥
        by_section None at may_come = cc
        by_section (Some p) at may_come =
            let is_next : has (λ n. n == p.home) (next_centre line c place.track) ≡ true =
            ap (has (λ n. n == p.home)) next ∙ eq-eqb e p.home (sym (eqb-true p.home e at)) in
            let wrong : true ≡ false = sym may_come ∙ ap not is_next in cc

        by_home : (b : Bool) → is_home line c s ≡ b → ⊥
        by_home true own = next_apart line c e place.track next (sym (one_home line c e s own there))
        by_home false away = by_section (section line s) there (sym (cond-false (is_home line c s) _ _ away)
            ∙ each_within (may_arrive line c k t place.track) hand ends.1 s inside)

    -- the train's stamp is recorded, and the expectation ends
    abbrev ready : Centre
    ready = record k {
      heard = put k.heard t (Some (option_map_or (max heard) (k.heard t) heard));
      expects = put_pair k.expects d t None;
    }

    ready_sound : IsCentreSound line c ready
    ready_sound = free_sound line c k old ready refl refl refl refl
        (λ u is. by_same u t
        (λ here. ap is_some (put_here k.heard t u (Some (option_map_or (max heard) (k.heard t) heard)) here))
        (λ other. ap is_some (put_other k.heard t u _ other) ∙ is)) (omega arith) old.asks

    abbrev y : Centre
    y = (set_mission t (Some came) (booked (is_out_for t) (Taken t) hand ready).state).state

    abbrev mine : ℕ → Bool
    mine s = is_taken_for t (k.book s)

    came_sound : IsMissionAt line c ready came
    came_sound = record {
      hand = record {
        some = range.0;
        few = range.1;
        on_track = λ s has.
            each_within (λ x. is_on line place.track x) hand tracks.0 s has;
        group =
            tracks.1;
        front = leb-true _ _ ends.0;
      };
      pool_follows = λ some. cc;
      pool_away = λ s has. absurd (none_within s has);
      pool_on = λ s has. absurd (none_within s has);
      pool_next = λ s e next has. absurd (none_within s has);
      handing_to = λ h is. cc;
      handing_number = λ h is. cc;
      hand_ends = λ s e n next beyond come has. absurd (⊎_elim
          (λ (stands : is_some came.handing ≡ true). let wrong : false ≡ true = stands in let no : ⊥ = cc in no)
          (λ (some : (x : ℕ) × (within hand x ≡ true) × (is_home line e x ≡ true)).
          not_come some.0 e next some.1 some.2)
          come);
    }

    taken_sound : IsCentreSound line c y
    taken_sound = again line c ready ready_sound t (λ s. mine s || within hand s) (Some came) y
        (held_mission line c ready t _ (k.wait t) None (booked (is_out_for t) (Taken t) hand ready).state
        (held_back ready t mine (k.wait t) None ready (held line c ready t (k.wait t) None ready_sound refl none)
        hand was_out) (Some came))
        (λ s home. grown_law (within hand s) (mine s) (wait_has line (k.wait t) s) false
        (omega (arith, old.claims s t home, ap (λ (o : Option Mission). one_if (hand_has o s)) none))
        (λ has. out_untaken t t (k.book s) (was_out s home has)))
        (λ m is. (
          subst (IsMissionAt line c ready) (same_Some came m is) came_sound,
          (known, ap is_some (put_here k.heard t t (Some (option_map_or (max heard) (k.heard t) heard)) refl)),
        ))

    pub take_sound : Sound line c (take_mission line c d t heard came k)
    unfolding ◌>>◌
    take_sound = then_sound line c ((booked (is_out_for t) (Taken t) hand >> set_mission t (Some came))
        >> (become (λ j. record j { heard = put j.heard t (Some (option_map_or (max heard) (j.heard t) heard)) })
        >> expect d t None))
        (with_some (λ j. find (λ s. is_home line c s && j.wish s) (range_with_len hand.first hand.count))
        (propose_if_so line t)) k
        (leaves line c taken_sound (none_sent line c))
        (λ j is sound. or_reply line c (find (λ s. is_home line c s && j.wish s) (range_with_len hand.first hand.count))
        _ (rest j)
        (λ s found. propose_sound line ok c t s j sound) (λ no. rest_sound line c j sound))

  pub yielded_sound : (d number t heard : ℕ) (hand : SectionRun) (has_data is_ended : Bool) (place : Place) (k : Centre)
      → IsCentreSound line c k → is_some (train_number line t) ≡ true
      → (1 ≤ hand.count) × (hand.count ≤ most_in_hand)
      → Sound line c (yielded line c d number t hand heard has_data is_ended place k)
  yielded_sound d number t heard hand has_data is_ended place k old known range =
      if_reply line c (may_take line c k d number t place hand) _ (rest k)
      (λ may. take_sound d number t heard hand has_data is_ended place k old known range may)
      (λ no. rest_sound line c k old)
