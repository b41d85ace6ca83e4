-- A sound centre stays so as missions start, and as rights are given.
use Rattle.std.proofs.Common.{◌&&◌, ◌||◌, ◌∙◌, ◌≡◌, ap, arith, Bool, false, if◌then◌else◌, is_none, is_some, None, not}
use Rattle.std.proofs.Common.{Option, refl, Some, subst, sym, true, ℕ}
use Rattle.std.proofs.lemmas.Bool.{and_parts}
use Rattle.std.proofs.lemmas.Option.{same_Some}
use Rattle.std.specs.Option.{option_map_or}
use Rattle.law_base.proofs.LocalLemmas.Missions.{none_within}
use Rattle.law_base.proofs.LocalLemmas.Worlds.{is_ordered}
use Rattle.law_base.proofs.RulesLemmas.Places.{fit_is}
use Rattle.law_base.specs.Counting.Sums.{one_if}
use Rattle.law_base.specs.Local.Local.{hand_has}
use Rattle.law_invariants.proofs.FlowLemmas.Neighbours.{begun_ends}
use Rattle.law_invariants.proofs.SoundLemmas.Again.{again, changed_sound, dropped_sound, free_sound, grown_law, IsKnown}
use Rattle.law_invariants.proofs.SoundLemmas.Again.{said_sound, waiting_law}
use Rattle.law_invariants.proofs.SoundLemmas.Held.{ends_less, fit_hand, held, held_aside, held_booked, held_mission}
use Rattle.law_invariants.proofs.SoundLemmas.Held.{held_wait, IsReported, moved, reported, same_track, sound_again}
use Rattle.law_invariants.proofs.SoundLemmas.Held.{still}
use Rattle.law_invariants.proofs.SoundLemmas.Leaving.{registrar_is_centre, right_sent}
use Rattle.law_invariants.proofs.SoundLemmas.Requests.{open_untaken}
use Rattle.law_invariants.proofs.SoundLemmas.Sends.{Held, if_reply, if_sound, leaves, none_sent, one_sent, or_reply}
use Rattle.law_invariants.proofs.SoundLemmas.Sends.{or_sound, rest_sound, Sound, then_sound}
use Rattle.law_invariants.specs.Flow.Counts.{wait_has}
use Rattle.law_invariants.specs.Flow.Sound.{IsCentreSound, IsHandAt, IsMissionAt}
use Rattle.rbc_spec.proofs.Lists.{none_is}
use Rattle.rbc_spec.proofs.Runs.{each_within}
use Rattle.rbc_spec.specs.Acts.{◌>>◌, Act, become, begun, booked, change_mission, rest, return_right, send, set_mission}
use Rattle.rbc_spec.specs.Acts.{where_so}
use Rattle.rbc_spec.specs.Centre.{Centre, is_free, is_open, is_registrar_of, is_taken_for, Mission, Taken}
use Rattle.rbc_spec.specs.Frame.{AskRight, GiveRight, RefuseRight, ReturnRight}
use Rattle.rbc_spec.specs.Line.{is_centre, is_home, IsLine, Line, next_centre, registrar}
use Rattle.rbc_spec.specs.Links.{answered_ask, right_asked, right_given, right_refused, right_returned}
use Rattle.rbc_spec.specs.Maps.{put}
use Rattle.rbc_spec.specs.Place.{covered, fit_place, Place, Position}
use Rattle.rbc_spec.specs.Rules.{accept, begin, drop_wait, reject, restart, start_here, start_mission, start_new}
use Rattle.rbc_spec.specs.Rules.{start_waiting}
use Rattle.rbc_spec.specs.SectionRuns.{all_of, within}
use Rattle.rbc_spec.specs.Sections.{is_on}

-- # A sound centre stays so as missions start.

-- a mission that begins is sound
pub begun_is : (line : Line) (c : ℕ) (k : Centre) (place : Place) → IsHandAt line place (covered line place)
    → ((e : ℕ) → within (covered line place) e ≡ true → is_home line c e ≡ true)
    → IsMissionAt line c k (begun line place)
begun_is line c k place hand own =
    record {
      hand = hand;
      pool_follows = λ some. cc;
      pool_away = λ s has. absurd (none_within s has);
      pool_on = λ s has. absurd (none_within s has);
      pool_next = λ s d next has. absurd (none_within s has);
      handing_to =
          λ h is. cc;
      handing_number = λ h is. cc;
      hand_ends =
          λ s d n next beyond come has. begun_ends line c d n s place next own come;
    }

module _ (line : Line) (ok : IsLine line) (c : ℕ) (k : Centre) (old : IsCentreSound line c k) (t : ℕ) where
  restart_sound : (place : Place) (m : Mission) → k.mission t ≡ Some m → IsHandAt line place (covered line place)
      → IsReported line place → Sound line c (restart line t place m k)
  restart_sound place m at hand there = if_sound line c (all_of (within m.hand) (covered line place))
      (change_mission t f >> accept t) (reject t) k
      (λ all. then_sound line c (change_mission t f) (accept t) k
      (changed_sound line c k old t f (λ n is. refl)
      (λ n is. restarted n (old.mission t n is)
      (subst (λ (q : Mission). all_of (within q.hand) (covered line place) ≡ true)
      (same_Some m n (sym at ∙ is)) all)))
      (λ j is sound. said_sound line c j sound t))
      (λ no_room. said_sound line c k old t)
    where
      f : Mission → Mission
      f n = record n { place = place; has_data = false; is_ended = false; proposal = None }

      restarted : (n : Mission) → IsMissionAt line c k n → all_of (within n.hand) (covered line place) ≡ true
          → IsMissionAt line c k (f n)
      restarted n is all =
          let same = same_track line n.place place n.hand is.hand hand all in
          record {
            hand = moved line n.place place n.hand is.hand same there;
            pool_follows = is.pool_follows;
            pool_away = is.pool_away;
            pool_on = λ s has. subst (λ track. is_on line track s ≡ true) (sym same) (is.pool_on s has);
            pool_next = λ s d next has. is.pool_next s d (ap (next_centre line c) (sym same) ∙ next) has;
            handing_to = λ h handed. ap (next_centre line c) same ∙ is.handing_to h handed;
            handing_number = is.handing_number;
            hand_ends = ends_less line c k n (f n) is same (λ stands. stands) (λ s has. has);
          }

  module _ (place : Place) (known : IsKnown line k t) (none : k.mission t ≡ None) (no_wait : k.wait t ≡ None)
      (hand : IsHandAt line place (covered line place))
      (free : all_of (is_free line c k) (covered line place) ≡ true) where
    abbrev mine : ℕ → Bool
    mine s = is_taken_for t (k.book s)

    is_free_at : (s : ℕ) → within (covered line place) s ≡ true → (is_home line c s ≡ true)
        × (is_open (k.book s) ≡ true)
    is_free_at s has = and_parts (is_home line c s) (is_open (k.book s))
        (each_within (is_free line c k) (covered line place) free s has)

    abbrev taken_now : Centre
    taken_now = (booked is_open (Taken t) (covered line place) k).state

    taken_held : Held line c k t (λ s. mine s || within (covered line place) s) (k.wait t) (k.mission t) taken_now
    taken_held = held_booked line c k t mine (k.wait t) (k.mission t) k
        (held line c k t (k.wait t) (k.mission t) old refl refl) (covered line place)
        (λ s home has. (is_free_at s has).1)

    abbrev began : Centre
    began = record taken_now
        { has_right = put k.has_right t false; mission = put k.mission t (Some (begun line place)) }

    began_sound : IsCentreSound line c began
    began_sound =
        let h = held_mission line c k t _ (k.wait t) (k.mission t) taken_now taken_held (Some (begun line place)) in
        again line c k old t (λ s. mine s || within (covered line place) s) (Some (begun line place)) began
        (held_aside line c k t _ (k.wait t) (Some (begun line place))
        (set_mission t (Some (begun line place)) taken_now).state h began refl refl refl refl
        (λ u is. is) (omega arith) h.asks)
        (λ s home. grown_law (within (covered line place) s) (mine s) (wait_has line (k.wait t) s) false
        (omega (arith, old.claims s t home, ap (λ (o : Option Mission). one_if (hand_has o s)) none))
        (λ has. open_untaken t k s (is_free_at s has).1))
        (λ m is. (
          subst (IsMissionAt line c k) (same_Some (begun line place) m is)
              (begun_is line c k place hand (λ e has. (is_free_at e has).0)),
          known,
        ))

    start_here_sound : Sound line c (start_here line t place k)
    unfolding ◌>>◌
    start_here_sound = if_reply line c (k.has_right t) _ (reject t k)
        (λ right. then_sound line c
        ((booked is_open (Taken t) (covered line place)
        >> become (λ j. record j { has_right = put j.has_right t false }))
        >> set_mission t (Some (begun line place))) (accept t) k
        (leaves line c began_sound (none_sent line c))
        (λ j is sound. said_sound line c j sound t))
        (λ away. said_sound line c k old t)

    abbrev waiting : Centre
    waiting = record taken_now { wait = put k.wait t (Some place) }

    waiting_sound : IsCentreSound line c waiting
    waiting_sound =
        let h = held_wait line c k t _ (k.wait t) (k.mission t) taken_now taken_held (Some place) in
        sound_again line c k t (λ s. mine s || within (covered line place) s) (Some place)
        (k.mission t) waiting old h (record {
          claims = λ s home. waiting_law (within (covered line place) s) (mine s) (hand_has (k.mission t) s)
              (omega (arith, old.claims s t home, ap (λ (o : Option Place). one_if (wait_has line o s)) no_wait))
              (λ has. open_untaken t k s (is_free_at s has).1);
          wait_home = λ s has. (is_free_at s has).0;
          wait_fits = λ p is. subst (λ (q : Place). IsHandAt line q (covered line q)) (same_Some place p is) hand;
          wait_known = λ p is. known;
          mission = λ m is. still line c k waiting m (omega arith) (old.mission t m is);
          mission_known = λ m is. known;
        })

    start_waiting_sound : Sound line c (start_waiting line t place k)
    unfolding ◌>>◌
    start_waiting_sound = then_sound line c (booked is_open (Taken t) (covered line place)
        >> become (λ j. record j { wait = put j.wait t (Some place) })) (where_so (λ j. not (j.has_asked t)) asks) k
        (leaves line c waiting_sound (none_sent line c))
        (λ j is sound. if_reply line c (not (j.has_asked t)) (asks j) (rest j) (λ ask. asked j sound)
        (λ has. rest_sound line c j sound))
      where
        asks : Act
        asks = option_map_or (λ r. send r (AskRight t)) (registrar line t) rest
            >> become (λ j. record j { has_asked = put j.has_asked t true })

        asked : (j : Centre) → IsCentreSound line c j → Sound line c (asks j)
        asked j sound = then_sound line c (option_map_or (λ r. send r (AskRight t)) (registrar line t) rest)
            (become (λ i. record i { has_asked = put i.has_asked t true })) j
            (or_sound line c (registrar line t) (λ r. send r (AskRight t)) rest j
            (λ r is. leaves line c sound
            (one_sent line c r (AskRight t) j (registrar_is_centre line ok t r is) (record {})))
            (λ no. rest_sound line c j sound))
            (λ i is last. leaves line c (free_sound line c i last (record i { has_asked = put i.has_asked t true }) refl
            refl refl refl (λ u has. has) (omega arith) last.asks) (none_sent line c))

  pub start_sound : (is_valid : Bool) (position : Position) → IsKnown line k t → k.wait t ≡ None
      → Sound line c (start_mission line c t is_valid position k)
  start_sound is_valid position known no_wait = or_reply line c (fit_place line is_valid position) _ (reject t k)
      (λ place is.
      let fit = fit_is line is_valid position place is in
      let there = reported line position place fit.1 in
      let hand = fit_hand line (is_ordered line ok) place fit.0 there in
      or_reply line c (k.mission t) (λ m. restart line t place m k) (start_new line c t place k)
      (λ m at. restart_sound place m at hand there)
      (λ none. if_reply line c (all_of (is_free line c k) (covered line place)) _ (reject t k)
      (λ free. if_sound line c (is_registrar_of line c t) (start_here line t place) (start_waiting line t place) k
      (λ here. start_here_sound place known none no_wait hand free)
      (λ away. start_waiting_sound place known none no_wait hand free))
      (λ taken. said_sound line c k old t)))
      (λ none. said_sound line c k old t)

-- # A sound centre stays sound when rights to supervise trains arrive and are asked for.

module _ (line : Line) (ok : IsLine line) (c : ℕ) where
  has_right_sound : (right : ℕ → Bool) (k : Centre) → IsCentreSound line c k
      → IsCentreSound line c (record k { has_right = right })
  has_right_sound right k old = free_sound line c k old (record k { has_right = right }) refl refl refl refl
      (λ u is. is) (omega arith) old.asks

  pub asked_sound : (d t : ℕ) (k : Centre) → is_centre line d ≡ true → IsCentreSound line c k
      → Sound line c (right_asked line c d t k)
  asked_sound d t k to old = if_reply line c (is_registrar_of line c t) _ (rest k)
      (λ here. if_reply line c (k.has_right t) _ (send d (RefuseRight t) k)
      (λ has. then_sound line c (become (λ j. record j { has_right = put j.has_right t false }))
      (send d (GiveRight t)) k
      (leaves line c (has_right_sound (put k.has_right t false) k old) (none_sent line c))
      (λ j is sound. leaves line c sound (one_sent line c d (GiveRight t) j to (record {}))))
      (λ not_here. leaves line c old (one_sent line c d (RefuseRight t) k to (record {}))))
      (λ away. rest_sound line c k old)

  pub right_back : (t : ℕ) (k : Centre) → IsCentreSound line c k → Sound line c (return_right line c t k)
  right_back t k old = leaves line c (by_test (is_registrar_of line c t)) (right_sent line ok c t k)
    where
      by_registrar : (o : Option ℕ) → IsCentreSound line c (option_map_or (λ r. send r (ReturnRight t)) o rest k).state
      by_registrar (Some r) = old
      by_registrar None = old

      by_test : (b : Bool)
          → IsCentreSound line c
          ((if b then become (λ j. record j { has_right = put j.has_right t true }) else option_map_or
          (λ r. send r (ReturnRight t)) (registrar line t) rest) k).state
      by_test true = has_right_sound (put k.has_right t true) k old
      by_test false = by_registrar (registrar line t)

  answered_sound : (t : ℕ) (k : Centre) → IsCentreSound line c k → Sound line c (answered_ask t k)
  answered_sound t k old =
      leaves line c (free_sound line c k old (answered_ask t k).state refl refl refl refl (λ u is. is) (omega arith)
      old.asks) (none_sent line c)

  -- a start that waits becomes a mission
  admitted : (t : ℕ) (place : Place) (k : Centre) → IsCentreSound line c k → k.wait t ≡ Some place → k.mission t ≡ None
      → IsCentreSound line c
      (record k { wait = put k.wait t None; mission = put k.mission t (Some (begun line place)) })
  admitted t place k old waits none =
      let mine : ℕ → Bool = λ s. is_taken_for t (k.book s) in
      let one = held_wait line c k t mine (Some place) None k (held line c k t (Some place) None old waits none) None in
      let y : Centre = record k { wait = put k.wait t None; mission = put k.mission t (Some (begun line place)) } in
      let two = held_mission line c k t mine None None (record k { wait = put k.wait t None }) one
      (Some (begun line place)) in
      sound_again line c k t mine None (Some (begun line place)) y old two (record {
        claims = λ s home. omega (
          arith,
          old.claims s t home,
          ap (λ (o : Option Place). one_if (wait_has line o s)) waits,
          ap (λ (o : Option Mission). one_if (hand_has o s)) none,
        );
        wait_home = λ s is. cc;
        wait_fits = λ p is. cc;
        wait_known = λ p is. cc;
        mission = λ m is. subst (IsMissionAt line c y) (same_Some (begun line place) m is)
            (begun_is line c y place (old.wait_fits t place waits)
            (λ e has. old.wait_home t e (ap (λ (o : Option Place). wait_has line o e) waits ∙ has)));
        mission_known = λ m is. old.wait_known t place waits;
      })

  begins : (t : ℕ) (place : Place) (k : Centre) → IsCentreSound line c k → k.wait t ≡ Some place → k.mission t ≡ None
      → Sound line c ((become (λ j. record j { wait = put j.wait t None }) >> begin line t place) k)
  unfolding ◌>>◌
  begins t place k old waits none = leaves line c
      (said_sound line c (record k { wait = put k.wait t None; mission = put k.mission t (Some (begun line place)) })
      (admitted t place k old waits none) t).centre (none_sent line c)

  pub given_sound : (t : ℕ) (k : Centre) → IsCentreSound line c k → Sound line c (right_given line c t k)
  given_sound t k old = if_reply line c (k.has_asked t) _ (rest k)
      (λ asked. then_sound line c (answered_ask t) _ k (answered_sound t k old)
      (λ j is sound. if_reply line c (is_some (j.wait t) && is_none (j.mission t)) _ (return_right line c t j)
      (λ both. or_reply line c (j.wait t) _ (rest j)
      (λ place at. begins t place j sound at
      (none_is (j.mission t) (and_parts (is_some (j.wait t)) (is_none (j.mission t)) both).1))
      (λ none. rest_sound line c j sound))
      (λ no. right_back t j sound)))
      (λ unasked. rest_sound line c k old)

  pub refused_sound : (t : ℕ) (k : Centre) → IsCentreSound line c k → Sound line c (right_refused line c t k)
  refused_sound t k old = if_reply line c (k.has_asked t) _ (rest k)
      (λ asked. then_sound line c (answered_ask t) _ k (answered_sound t k old)
      (λ j is sound. if_reply line c (is_some (j.wait t)) _ (rest j)
      (λ waits. then_sound line c (drop_wait line c t) (reject t) j (dropped_sound line c j sound t)
      (λ i same last. said_sound line c i last t))
      (λ none. rest_sound line c j sound)))
      (λ unasked. rest_sound line c k old)

  pub returned_sound : (t : ℕ) (k : Centre) → IsCentreSound line c k → Sound line c (right_returned line c t k)
  returned_sound t k old = if_reply line c (is_registrar_of line c t && (not (k.has_right t) && is_none (k.mission t)))
      _ (rest k) (λ back. right_back t k old) (λ no. rest_sound line c k old)
