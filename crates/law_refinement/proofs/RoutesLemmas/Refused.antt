-- A right that is refused: the start that waits for it is dismissed.
use Rattle.std.proofs.Common.{[], ◌&&◌, ◌++◌, ◌+◌, ◌==◌, ◌∙◌, ◌∷◌, ◌≡◌, ap, append-nil, arith, Bool, false}
use Rattle.std.proofs.Common.{if◌then◌else◌, is_some, map, None, not, Option, refl, Some, subst, sym, true, ℕ}
use Rattle.std.proofs.lemmas.Bool.{and_from}
use Rattle.std.specs.List.{filter, range_with_len}
use Rattle.std.specs.Option.{option_map_or}
use Rattle.law_base.proofs.CountingLemmas.Resource.{carried_none}
use Rattle.law_base.proofs.CountingLemmas.Sums.{one_if_some, one_if_true}
use Rattle.law_base.specs.Counting.Network.{acted, TakesHead, took}
use Rattle.law_invariants.proofs.SoundLemmas.Starts.{refused_sound}
use Rattle.law_invariants.specs.Flow.Counts.{hands, missions, wait_has}
use Rattle.law_invariants.specs.Flow.Flow.{centre_count, Flow, took_frame}
use Rattle.law_invariants.specs.Flow.Keeping.{came_with}
use Rattle.law_invariants.specs.Flow.Leads.{Leads, one_message, replied, said_by}
use Rattle.law_invariants.specs.Flow.Shows.{Shows}
use Rattle.law_invariants.specs.Flow.Sound.{IsFlowSound}
use Rattle.law_refinement.proofs.AbstractionLemmas.Hands.{sends_none}
use Rattle.law_refinement.proofs.AbstractionLemmas.Shows.{at_head, part_changes, part_stays, shows_after}
use Rattle.law_refinement.proofs.RoutesLemmas.Bodies.{act_keeps, IsAside, leads_if, of_train_leads, received_keeps}
use Rattle.law_refinement.proofs.RoutesLemmas.Bodies.{sound_here, trained}
use Rattle.law_refinement.proofs.RoutesLemmas.Rights.{after_change, freed_mark, freed_no_section, freed_other_wish}
use Rattle.law_refinement.proofs.RoutesLemmas.Rights.{freed_told, freed_wish, home_known, known_below, resting}
use Rattle.law_refinement.specs.Abstraction.Acts.{IsAct}
use Rattle.law_refinement.specs.Abstraction.After.MissionAfter.{stays}
use Rattle.rbc_spec.proofs.Lists.{itself}
use Rattle.rbc_spec.proofs.Worlds.{alike_then}
use Rattle.rbc_spec.specs.Acts.{◌>>◌, become, freed, Reply, rest}
use Rattle.rbc_spec.specs.Centre as centre
use Rattle.rbc_spec.specs.Centre.{Centre, is_taken_for, Phase}
use Rattle.rbc_spec.specs.Frame.{RefuseRight}
use Rattle.rbc_spec.specs.Line.{is_centre, is_home, IsLine, Line}
use Rattle.rbc_spec.specs.LineCentre.{free, is_waiting_at, LineState, nothing, says, told}
use Rattle.rbc_spec.specs.Links.{received, right_refused}
use Rattle.rbc_spec.specs.Maps.{has, put, put_pair}
use Rattle.rbc_spec.specs.Message.{TrainRejected, unknown_group}
use Rattle.rbc_spec.specs.Outcome.{Told}
use Rattle.rbc_spec.specs.Place.{covered, Place}
use Rattle.rbc_spec.specs.Quiet.{Dismiss, Dismisses}
use Rattle.rbc_spec.specs.Rules.{drop_wait, reject}
use Rattle.rbc_spec.specs.SectionRuns.{within}

refuses : (t : ℕ) → IsAside (RefuseRight t)
refuses t = record { follows = λ u n. refl; mission = λ a c u. refl; hand = λ a c u s. refl }

module _ (line : Line) (ok : IsLine line) (w : Flow) (sound : IsFlowSound line w) (v : LineState)
    (sees : Shows line w v) (a c number : ℕ) (from : is_centre line a ≡ true) (to : is_centre line c ≡ true)
    (t : ℕ) (head : TakesHead w a c (RefuseRight t)) where
  abbrev k : Centre
  k = took_frame a number (w.at c)

  -- ## A start that waits

  module _ (place : Place) (waits : (w.at c).wait t ≡ Some place) where
    abbrev is_dropped : ℕ → Bool
    is_dropped s = (within (covered line place) s && is_home line c s) && is_taken_for t ((w.at c).book s)

    waits_for : (s : ℕ) → is_waiting_at line v t c s ≡ within (covered line place) s
    waits_for s = ap (has (λ p. within (covered line p) s)) (sees.wait t c ∙ waits)

    waits_home : (s : ℕ) → within (covered line place) s ≡ true → is_home line c s ≡ true
    waits_home s is = (sound.centres c to).wait_home t s (ap (λ o. wait_has line o s) waits ∙ is)

    waits_taken : (s : ℕ) → within (covered line place) s ≡ true → is_taken_for t ((w.at c).book s) ≡ true
    waits_taken s is =
        let there : wait_has line ((w.at c).wait t) s ≡ true = ap (λ o. wait_has line o s) waits ∙ is in
        one_if_some (is_taken_for t ((w.at c).book s))
        (omega (arith, (sound.centres c to).claims s t (waits_home s is), one_if_true _ there))

    drops : (s : ℕ) → is_waiting_at line v t c s ≡ is_dropped s
    drops s = waits_for s ∙ by_cover (within (covered line place) s) refl
      where
        by_cover : (b : Bool) → within (covered line place) s ≡ b
            → b ≡ ((b && is_home line c s) && is_taken_for t ((w.at c).book s))
        by_cover true is =
            sym (and_from (is_home line c s) (is_taken_for t ((w.at c).book s)) (waits_home s is) (waits_taken s is))
        by_cover false is = refl

    homes : (s : ℕ) → is_waiting_at line v t c s ≡ true → is_home line c s ≡ true
    homes s is = waits_home s (sym (waits_for s) ∙ is)

    abbrev middle : Centre
    middle = record k { has_asked = put k.has_asked t false }

    abbrev rejection : Reply
    rejection =
        ((freed line c (is_taken_for t) (covered line place) >> become (λ j. record j { wait = put j.wait t None }))
        >> reject t) middle

    abbrev y : Centre
    y = record middle {
      book = λ s. if is_dropped s then (if (w.at c).wish s then centre.Shut else centre.Open) else (w.at c).book s;
      wish = λ s. not (is_dropped s) && (w.at c).wish s;
      wait = put (w.at c).wait t None;
      said = put (w.at c).said t ((w.at c).said t + 1);
    }

    abbrev new : Flow
    new = acted (took w a c) c y (λ d. [])

    abbrev after : LineState
    after = says t c (record (free (is_waiting_at line v t c) v) { wait = put_pair v.wait t c None })

    act : IsAct line w c (came_with a c (RefuseRight t)) y (λ d. []) (acted (took w a c) c y (λ d. []))
    act = at_head line w a c (RefuseRight t) y (λ d. []) sound.counted from to head

    shows : Shows line (acted (took w a c) c y (λ d. []))
        (says t c (record (free (is_waiting_at line v t c) v) { wait = put_pair v.wait t c None }))
    shows = shows_after line w c (came_with a c (RefuseRight t)) y (λ d. []) new v after sound sees to act (record {
      phase = part_stays Phase c v.phase y.phase (λ u. sees.phase u c);
      heard = part_stays (Option ℕ) c v.heard y.heard (λ u. sees.heard u c);
      said = part_changes ℕ c t (v.said t c + 1) v.said (w.at c).said y.said (λ u. sees.said u c)
          (λ u. ap (λ n. put (w.at c).said t (n + 1) u) (sym (sees.said t c)));
      wait = part_changes (Option Place) c t None v.wait (w.at c).wait y.wait (λ u. sees.wait u c) (λ u. refl);
      wish = λ s home. freed_wish line w v sees c (is_waiting_at line v t c) homes s home
          ∙ ap (λ b. not b && (w.at c).wish s) (drops s);
      other_wish = freed_other_wish line w v sees c (is_waiting_at line v t c) homes;
      mark = freed_mark line w v sees c (is_waiting_at line v t c) homes
          (came_with a c (RefuseRight t)) y (λ d. []) new act
          (λ s. ap (λ b. if b then (if (w.at c).wish s then centre.Shut else centre.Open) else (w.at c).book s)
          (sym (drops s)))
          (λ u s. omega
          (arith, sends_none (hands u s) (centre_count line) c (λ d. []) (λ d. carried_none (hands u s) c d)));
      no_section = freed_no_section line w v sees c (is_waiting_at line v t c) homes;
      mission = λ u. stays refl refl refl (λ d. carried_none (missions u) c d);
    })

    words_are : told line (is_waiting_at line v t c) v
        ≡ map (λ s. Told s) (filter (λ s. is_dropped s && (w.at c).wish s)
        (range_with_len (covered line place).first (covered line place).count))
    words_are = freed_told line w v sees c (is_waiting_at line v t c) homes (covered line place)
        (λ s is. sym (waits_for s) ∙ is) (λ s is. known_below line s (home_known line c s (waits_home s is)))
        ∙ ap (λ (test : ℕ → Bool). map (λ s. Told s)
        (filter (λ s. test s && (w.at c).wish s)
        (range_with_len (covered line place).first (covered line place).count))) (λ i s. drops s i)

    said_so : said_by rejection ≡ one_message t c unknown_group TrainRejected (told line (is_waiting_at line v t c) v) v
    unfolding ◌>>◌
    said_so = λ i. record {
      sayings =
          record {
            nid_engine = t;
            message = record {
              t_train = sym (sees.said t c) i + 1;
              nid_lrbg = unknown_group;
              body = TrainRejected;
            };
          } ∷ [];
      words = told_so i;
    }
      where
        told_so :
            ((map (λ s. Told s) (filter (λ s. is_dropped s && (w.at c).wish s)
            (range_with_len (covered line place).first (covered line place).count)) ++ [])
            ++ []) ≡ told line (is_waiting_at line v t c) v
        told_so = append-nil _ ∙ append-nil _ ∙ sym words_are

    dismisses : Dismisses line v t c (said_by rejection) after
    dismisses =
        record { place = place; waits = sees.wait t c ∙ waits; says = record { said_is = said_so; new_is = refl } }

    rejection_leads : IsFlowSound line (replied (took w a c) c rejection) → Leads line (took w a c) c rejection v
    unfolding ◌>>◌
    rejection_leads keeps = record {
      quiets = Dismiss t c ∷ [];
      new = after;
      takes = (
        said_by rejection,
        nothing,
        after,
        dismisses,
        (refl, refl),
        λ i. record { sayings = sym (append-nil rejection.sayings) i; words = sym (append-nil rejection.words) i },
      );
      own_centre = and_from (c == c) true (itself c) refl;
      shows = shows;
      sound = keeps;
    }

  -- ## As a frame

  pub refused_leads : Leads line (took w a c) c (received line c a (RefuseRight t) (took_frame a number (w.at c))) v
  refused_leads = of_train_leads line ok w sound a c number from to (RefuseRight t) head (refuses t) v
      sees t (right_refused line c t)
      (λ known. leads_if line (took w a c) c v (k.has_asked t) _ (rest k)
      (act_keeps line ok w sound a c number from to (RefuseRight t) head t (right_refused line c t) known
      (received_keeps line ok w sound a c number from to (RefuseRight t) head (record {})
      (trained line ok w sound a c number from to (RefuseRight t) head t (right_refused line c t)
      (λ so. refused_sound line ok c t k (sound_here line ok w sound a c number from to (RefuseRight t) head)))))
      (λ asked keeps. subst (λ q. Leads line (took w a c) c q v)
      (sym (after_change (λ j. record j { has_asked = put j.has_asked t false }) _ k))
      (by_wait ((w.at c).wait t) refl (subst (λ q. IsFlowSound line (replied (took w a c) c q))
      (after_change (λ j. record j { has_asked = put j.has_asked t false }) _ k) keeps)))
      (λ unasked keeps. resting line ok w sound v sees a c number from to (RefuseRight t) head (refuses t) k keeps refl
      refl refl refl refl refl refl))
    where
      middle_of : Centre
      middle_of = record k { has_asked = put k.has_asked t false }

      rejects : Option Place → Reply
      rejects o = if is_some o then (drop_wait line c t >> reject t) middle_of else rest middle_of

      by_wait : (o : Option Place) → (w.at c).wait t ≡ o
          → IsFlowSound line (replied (took w a c) c (rejects ((w.at c).wait t)))
          → Leads line (took w a c) c (rejects ((w.at c).wait t)) v
      by_wait None none keeps = subst (λ (o : Option Place). Leads line (took w a c) c (rejects o) v) (sym none)
          (resting line ok w sound v sees a c number from to (RefuseRight t) head (refuses t) middle_of
          (subst (λ (o : Option Place). IsFlowSound line (replied (took w a c) c (rejects o))) none keeps) refl
          refl refl refl refl refl refl)
      by_wait (Some place) waits keeps =
          let same : rejects ((w.at c).wait t) ≡ rejection place waits = ap rejects waits
          ∙ alike_then (drop_wait line c t) (freed line c (is_taken_for t) (covered line place)
          >> become (λ j. record j { wait = put j.wait t None })) (reject t) middle_of
          (ap (λ (o : Option Place). option_map_or
          (λ p. (freed line c (is_taken_for t) (covered line p)
          >> become (λ j. record j { wait = put j.wait t None })) middle_of) o (rest middle_of)) waits) in
          subst (λ q. Leads line (took w a c) c q v) (sym same)
          (rejection_leads place waits (subst (λ q. IsFlowSound line (replied (took w a c) c q)) same keeps))
