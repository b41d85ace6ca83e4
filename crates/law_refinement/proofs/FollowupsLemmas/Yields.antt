-- A handover that is taken over is yielded. The supervision is laid down by a quiet step, and the train may be ordered
-- to end its session.
use Rattle.std.proofs.Common.{[], ⊎_elim, ◌&&◌, ◌++◌, ◌<◌, ◌==◌, ◌∙◌, ◌∷◌, ◌≡◌, ◌≢◌, ap, arith, Bool, eq-eqb, false}
use Rattle.std.proofs.Common.{if◌then◌else◌, List, ltb-true, None, Option, option_map, refl, Some, subst, sym, true, ℕ}
use Rattle.std.proofs.lemmas.Bool.{and_parts, cases_eq, ne_eqb}
use Rattle.std.specs.Option.{option_map_or}
use Rattle.law_base.proofs.CountingLemmas.Resource.{sent_append, sent_single}
use Rattle.law_base.proofs.CountingLemmas.Sums.{one_if_true}
use Rattle.law_base.specs.Counting.Network.{acted, to_one}
use Rattle.law_base.specs.Counting.Resource.{sent_by}
use Rattle.law_base.specs.Counting.Sums.{one_if}
use Rattle.law_base.specs.Local.Local.{hand_has}
use Rattle.law_invariants.specs.Flow.Counts.{hands, missions}
use Rattle.law_invariants.specs.Flow.Flow.{centre_count, Flow}
use Rattle.law_invariants.specs.Flow.Keeping.{nothing_came}
use Rattle.law_invariants.specs.Flow.Shows.{parted, Shows}
use Rattle.law_invariants.specs.Flow.Sound.{IsFlowSound}
use Rattle.law_refinement.proofs.AbstractionLemmas.Hands.{given, mark_stays, sends_both, sends_home, sends_none}
use Rattle.law_refinement.proofs.AbstractionLemmas.Hands.{sends_single, was, yield_hands_over}
use Rattle.law_refinement.proofs.AbstractionLemmas.Marks.{given_mark_of}
use Rattle.law_refinement.proofs.AbstractionLemmas.Shows.{by_itself, entry_here, part_stays, shows_after}
use Rattle.law_refinement.specs.Abstraction.Acts.{hand_after, hand_before, IsAct, SendsNone}
use Rattle.law_refinement.specs.Abstraction.After.{MarkAfter, MissionAfter, PartAfter}
use Rattle.law_refinement.specs.Abstraction.After.MarkAfter.{is_given}
use Rattle.law_refinement.specs.Abstraction.After.MissionAfter.{stays}
use Rattle.rbc_spec.proofs.Lists.{itself, put_here, put_other, put_there}
use Rattle.rbc_spec.specs.Acts.{returned}
use Rattle.rbc_spec.specs.Centre.{Centre, Entry, is_taken_for, is_used_for, Mission, Out, Phase}
use Rattle.rbc_spec.specs.Frame.{Body, Yield, yielded_place}
use Rattle.rbc_spec.specs.Line.{is_centre, is_home, Line}
use Rattle.rbc_spec.specs.LineCentre as line_centre
use Rattle.rbc_spec.specs.LineCentre.{LineMission, LineState}
use Rattle.rbc_spec.specs.Maps.{put}
use Rattle.rbc_spec.specs.Place.{Place}
use Rattle.rbc_spec.specs.ReadOff.{seen}
use Rattle.rbc_spec.specs.SectionRuns.{within}

-- ## The shown state

-- Centre c, which had mission m of the train, sends it to centre d in a Yield with this number. The sections of its
-- pool are returned.
module _ (line : Line) (w : Flow) (sound : IsFlowSound line w) (v : LineState) (sees : Shows line w v) (c : ℕ)
    (to : is_centre line c ≡ true) (t d number : ℕ) (there : is_centre line d ≡ true)
    (m : Mission) (at : (w.at c).mission t ≡ Some m) where
  -- the last stamp that was received
  abbrev pub stamp : ℕ
  stamp = option_map_or (λ n. n) ((w.at c).heard t) 0

  abbrev pub gives : Body
  gives = Yield number t stamp m.has_data m.is_ended (yielded_place m.place) m.hand

  abbrev pub home : ℕ → List Body
  home = (returned line c t m.place.track m.pool (w.at c)).frames

  abbrev pub frames : ℕ → List Body
  frames = λ e. home e ++ to_one d (gives ∷ []) e

  -- the mission as the line has it then
  abbrev pub laid : LineMission
  laid = parted stamp m.has_data m.is_ended m.place

  abbrev pub laid_down : LineState
  laid_down = line_centre.set_mission t (Some laid) v

  sent_hand : (u s : ℕ) → sent_by (hands u s) (centre_count line) c frames ≡ one_if ((t == u) && within m.hand s)
  sent_hand u s = omega (
    arith,
    sent_append (hands u s) (centre_count line) c home (to_one d (gives ∷ [])),
    sends_none (hands u s) (centre_count line) c home (sends_home line c t u s m.place.track m.pool (w.at c)).0,
    sent_single (hands u s) (centre_count line) c d gives (ltb-true d (centre_count line) there),
  )

  module _ (y : Centre) (phase : y.phase ≡ (w.at c).phase) (heard : y.heard ≡ (w.at c).heard)
      (wait : y.wait ≡ (w.at c).wait) (wish : y.wish ≡ (w.at c).wish)
      (book : y.book ≡ (λ s. if within m.hand s && is_taken_for t ((w.at c).book s) then Out t else (w.at c).book s))
      (mission : y.mission ≡ put (w.at c).mission t None)
      (count : ℕ → ℕ → ℕ) (said : PartAfter c v.said y.said count) where
    abbrev new : Flow
    new = acted w c y frames

    abbrev after : LineState
    after = record laid_down { said = count }

    act : IsAct line w c nothing_came y frames (acted w c y frames)
    act = by_itself line w c y frames sound.counted to

    none_now : y.mission t ≡ None
    none_now = ap (λ (g : ℕ → Option Mission). g t) mission ∙ put_there (w.at c).mission t None

    -- the hand goes with the Yield
    hands_same : (u s : ℕ) → hand_after line c u s y frames ≡ hand_before u s (w.at c) nothing_came
    hands_same u s = ⊎_elim
        (λ (here : u ≡ t). omega (
          arith,
          sent_hand u s,
          ap (λ (g : ℕ → Option Mission). one_if (hand_has (g u) s)) mission,
          ap (λ (o : Option Mission). one_if (hand_has o s)) (put_here (w.at c).mission t u None here),
          ap (λ x. one_if (hand_has ((w.at c).mission x) s)) here,
          ap (λ (o : Option Mission). one_if (hand_has o s)) at,
          ap (λ b. one_if (b && within m.hand s)) (eq-eqb t u (sym here)),
        ))
        (λ (other : u ≢ t). omega (
          arith,
          sent_hand u s,
          ap (λ (g : ℕ → Option Mission). one_if (hand_has (g u) s)) mission,
          ap (λ (o : Option Mission). one_if (hand_has o s)) (put_other (w.at c).mission t u None other),
          ap (λ b. one_if (b && within m.hand s)) (ne_eqb t u (λ e. other (sym e))),
        ))
        (cases_eq u t)

    had : (s : ℕ) → within m.hand s ≡ true → 0 < hand_before t s (w.at c) nothing_came
    had s has = omega (arith, ap (λ (o : Option Mission). one_if (hand_has o s)) at, one_if_true (within m.hand s) has)

    -- a section taken for the train is of this home
    home_of : (s : ℕ) (b : Bool) → is_home line c s ≡ b → is_taken_for t ((w.at c).book s) ≡ true
        → is_home line c s ≡ true
    home_of s true is taken = is
    home_of s false is taken = let wrong : false ≡ true = sym (ap (is_taken_for t) ((sound.centres c to).foreign s is))
        ∙ taken in cc

    -- own sections of the hand become lent, and stay given
    marks : (s e : ℕ) → is_home line e s ≡ true → (b : Bool) → (within m.hand s && is_taken_for t ((w.at c).book s)) ≡ b
        → MarkAfter line w new s e (v.mark s) (v.mark s)
    marks s e is_of false is = mark_stays line w c nothing_came y frames new s e (v.mark s) act
        (ap (λ (g : ℕ → Entry). g s) book ∙ ap (λ (b : Bool). if b then Out t else (w.at c).book s) is)
        (λ u used. hands_same u s)
    marks s e is_of true is =
        let both = and_parts (within m.hand s) (is_taken_for t ((w.at c).book s)) is in
        let own = home_of s (is_home line c s) refl both.1 in
        let has = had s both.0 in
        is_given t (given_mark_of line w v t sound sees s (was line w c nothing_came y frames new t s act has))
        (ap (is_used_for t) (entry_here line w c nothing_came y frames new s e act is_of own
        ∙ ap (λ (g : ℕ → Entry). g s) book ∙ ap (λ (b : Bool). if b then Out t else (w.at c).book s) is) ∙ itself t)
        (given line w c nothing_came y frames new t s act (omega (arith, has, hands_same t s)))

    none_other : (u : ℕ) → u ≢ t → SendsNone (missions u) c frames
    none_other u other = sends_both (missions u) c home (to_one d (gives ∷ []))
        (sends_home line c t u 0 m.place.track m.pool (w.at c)).1
        (sends_single (missions u) c d gives (ap one_if (ne_eqb t u (λ e. other (sym e)))))

    missions_after : (u : ℕ) → MissionAfter line w c nothing_came y frames u (v.mission u) (after.mission u)
    missions_after u = ⊎_elim
        (λ (here : u ≡ t). subst (λ x. MissionAfter line w c nothing_came y frames x (v.mission x) (after.mission x))
        (sym here)
        (subst (MissionAfter line w c nothing_came y frames t (v.mission t)) (sym (put_there v.mission t (Some laid)))
        (yield_hands_over line w c nothing_came y home d number t stamp m.has_data m.is_ended m.place m.hand m
        (v.mission t) there at none_now
        (sends_home line c t t 0 m.place.track m.pool (w.at c)).1)))
        (λ (other : u ≢ t). stays (put_other v.mission t u (Some laid) other)
        (ap (λ (g : ℕ → Option Mission). option_map (seen c) (g u)) mission
        ∙ ap (option_map (seen c)) (put_other (w.at c).mission t u None other)) refl (none_other u other))
        (cases_eq u t)

    pub yield_shown : Shows line (acted w c y frames) (record laid_down { said = count })
    yield_shown = shows_after line w c nothing_came y frames new v after sound sees to act (record {
      phase = part_stays Phase c v.phase y.phase (λ u. sees.phase u c ∙ ap (λ (g : ℕ → Phase). g u) (sym phase));
      heard = part_stays (Option ℕ) c v.heard y.heard (λ u. sees.heard u c
          ∙ ap (λ (g : ℕ → Option ℕ). g u) (sym heard));
      said = said;
      wait = part_stays (Option Place) c v.wait y.wait (λ u. sees.wait u c
          ∙ ap (λ (g : ℕ → Option Place). g u) (sym wait));
      wish = λ s own. sees.wish s c own ∙ ap (λ (g : ℕ → Bool). g s) (sym wish);
      other_wish = λ s away. refl;
      mark = λ s e is_of. marks s e is_of (within m.hand s && is_taken_for t ((w.at c).book s)) refl;
      no_section = λ s none. refl;
      mission = missions_after;
    })
