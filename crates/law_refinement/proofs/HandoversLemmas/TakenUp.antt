-- A mission whose handover is claimed, and its mission at the accepting centre.
use Rattle.std.proofs.Common.{[], ⊎_elim, ◌&&◌, ◌+◌, ◌==◌, ◌∙◌, ◌≡◌, ◌≢◌, ◌≤◌, ◌⊎◌, ap, arith, Bool, eqb-true, false}
use Rattle.std.proofs.Common.{if◌then◌else◌, max, None, Option, option_map, refl, Some, subst, sym, true, ℕ}
use Rattle.std.proofs.lemmas.Bool.{and_from, and_parts, cases_eq, ne_eqb}
use Rattle.std.specs.Option.{option_map_or}
use Rattle.std.specs.Prelude.{Contains}
use Rattle.law_base.proofs.CountingLemmas.Resource.{carried_none}
use Rattle.law_base.proofs.CountingLemmas.Sums.{one_if_true, put_same}
use Rattle.law_base.specs.Counting.Network.{acted, TakesHead, took, way}
use Rattle.law_base.specs.Counting.Resource.{Resource}
use Rattle.law_base.specs.Counting.Sums.{one_if}
use Rattle.law_base.specs.Local.Local.{hand_has}
use Rattle.law_invariants.proofs.FlowLemmas.Shown.{leads_then}
use Rattle.law_invariants.proofs.HandoverLemmas.Frames.{passed, passes}
use Rattle.law_invariants.proofs.HandoverLemmas.Kept.{taken_over as over_was}
use Rattle.law_invariants.proofs.HandoverLemmas.Orderly.{still}
use Rattle.law_invariants.proofs.NoCopyLemmas.Rights.{plain}
use Rattle.law_invariants.proofs.NoCopyLemmas.Tally.{Fair, fair_plain, Tally}
use Rattle.law_invariants.proofs.SoundLemmas.Sends.{rest_sound}
use Rattle.law_invariants.specs.Flow.Counts.{hands, missions}
use Rattle.law_invariants.specs.Flow.Flow.{centre_count, Flow, took_frame}
use Rattle.law_invariants.specs.Flow.Keeping.{came_with}
use Rattle.law_invariants.specs.Flow.Leads.{Leads, replied}
use Rattle.law_invariants.specs.Flow.Pairs.{before, takes_over}
use Rattle.law_invariants.specs.Flow.Shows.{parted, Shows}
use Rattle.law_invariants.specs.Flow.Sound.{IsFlowSound}
use Rattle.law_invariants.specs.Handover.Orderly.{IsTaking}
use Rattle.law_refinement.proofs.AbstractionLemmas.Hands.{mark_stays, sends_none, was}
use Rattle.law_refinement.proofs.AbstractionLemmas.Marks.{given_mark_of}
use Rattle.law_refinement.proofs.AbstractionLemmas.Missions.{came_here}
use Rattle.law_refinement.proofs.AbstractionLemmas.Shows.{at_head, enters_elsewhere, enters_here, part_changes}
use Rattle.law_refinement.proofs.AbstractionLemmas.Shows.{part_stays, shows_after}
use Rattle.law_refinement.proofs.FollowupsLemmas.Keeps.{head_sound}
use Rattle.law_refinement.proofs.FollowupsLemmas.Laying.{MayYieldTo, yields_so}
use Rattle.law_refinement.proofs.HandoversLemmas.Heads.{met, met_sound, unshown_leads, unshown_state}
use Rattle.law_refinement.specs.Abstraction.Acts.{IsAct, IsMissionHere}
use Rattle.law_refinement.specs.Abstraction.After.{MarkAfter, MissionAfter}
use Rattle.law_refinement.specs.Abstraction.After.MissionAfter.{is_here, stays}
use Rattle.rbc_spec.proofs.Held.{contains_head}
use Rattle.rbc_spec.proofs.Lists.{itself, put_other, put_there}
use Rattle.rbc_spec.proofs.Worlds.{rest_then}
use Rattle.rbc_spec.specs.Acts.{Reply, rest}
use Rattle.rbc_spec.specs.Centre.{Centre, Entry, is_out_for, is_used_for, Mission, Phase, Taken}
use Rattle.rbc_spec.specs.Frame.{Body, TakingOver, Yield, yielded_place, YieldedPlace}
use Rattle.rbc_spec.specs.Line.{is_centre, is_home, IsLine, Line}
use Rattle.rbc_spec.specs.LineCentre as line_centre
use Rattle.rbc_spec.specs.LineCentre.{At, LineState, nothing}
use Rattle.rbc_spec.specs.Links.{is_train, received, taking_over}
use Rattle.rbc_spec.specs.Maps.{put, put_pair}
use Rattle.rbc_spec.specs.Place.{Place}
use Rattle.rbc_spec.specs.Quiet.{TakesUp}
use Rattle.rbc_spec.specs.ReadOff.{seen}
use Rattle.rbc_spec.specs.SectionRuns.{no_run, SectionRun, within}
use Rattle.rbc_spec.specs.Step.{ticked}

-- # The accepting centre takes over: the mission whose handover it names is yielded.

module _ (line : Line) (w : Flow) (v : LineState) (a c h t number stamp : ℕ) (ok : IsLine line)
    (sound : IsFlowSound line w)
    (sees : Shows line w v) (from : is_centre line a ≡ true) (to : is_centre line c ≡ true)
    (head : TakesHead w a c (TakingOver h t)) where
  abbrev j : Centre
  j = met w a c (w.at c).phase number stamp

  -- the counted amounts of the centre as the frame finds it
  as_met : (y : Tally) (q : Reply) → Fair line c y j 0 0 q → Fair line c y (w.at c) 0 0 q
  as_met y q fair = record { law = fair.law; back = fair.back }

  -- ## It names no train of the line, or is not acted on

  aside : Leads line (took w a c) c (rest j) v
  aside = unshown_leads line w sound v sees a c from to (TakingOver h t) head (rest j)
      (unshown_state c (w.at c) (came_with a c (TakingOver h t)) j refl refl refl refl refl refl
      refl (λ u. refl) (λ u s. refl))
      (head_sound line ok c w sound to (rest j)
      (rest_sound line c j (met_sound line ok w sound a c to (w.at c).phase number stamp))
      a (TakingOver h t) from head
      (λ y is ready. plain line c y is a (TakingOver h t) (w.at c) (rest j) refl
      (as_met y (rest j) (fair_plain line c y j (rest j) refl refl refl)))
      (passes line c a (TakingOver h t) (w.at c) (λ u n. refl) (still (w.at c) j refl refl refl)))

  -- ## It is acted on

  taking : IsTaking a (TakingOver h t) (w.at c) j
  taking = let is = passed line c a (TakingOver h t) (w.at c) (λ u n. refl) in
      record {
        leads = is.leads;
        expected = is.expected;
        waits = is.waits;
        announced = is.announced;
        number = is.number;
        handing = is.handing;
      }

  -- only an announced handover that is taken over may be yielded
  may_yield : MayYieldTo (replied (took w a c) c (rest j)) c a h t j
  may_yield d u x so =
      let both = and_parts (d == a) (takes_over u x (TakingOver h t)) so in
      let was = over_was w a c (TakingOver h t) head j taking u x both.1 (sound.pairs c a u to from) in (
        subst (λ e. before (replied (took w a c) c (rest j)) c e u x ≡ 0) (sym (eqb-true d a both.0)) was.0,
        subst (λ (z : Centre). x ≤ z.announced) (put_same (took w a c).at c j) was.1,
      )

  taken_over : Leads line (took w a c) c (taking_over line c a h t j) v
  taken_over = subst (λ q. Leads line (took w a c) c q v) (rest_then (taking_over line c a h t) j)
      (leads_then line (took w a c) c j v rest (taking_over line c a h t) aside
      (yields_so line (replied (took w a c) c (rest j)) c a h t j aside.new ok aside.sound aside.shows to
      (put_same (took w a c).at c j) may_yield))

  by_train : (b : Bool) → Leads line (took w a c) c ((if b then taking_over line c a h t else rest) j) v
  by_train true = taken_over
  by_train false = aside

  pub over_body_leads : Leads line (took w a c) c
      (received line c a (TakingOver h t) (took_frame a number (ticked stamp (w.at c)))) v
  over_body_leads = by_train (is_train line t)

-- # A mission is taken up: its hand and its place arrive at the centre, own sections become claims, and the later stamp
-- is kept.

-- the stamp that is kept: the later of the arrived and the recorded one
abbrev pub later : ℕ → Option ℕ → Option ℕ
later stamp heard = Some (option_map_or (max stamp) heard stamp)

used_taken : (t : ℕ) (e : Entry) → is_out_for t e ≡ true
    → is_used_for t (if true && is_out_for t e then Taken t else e) ≡ true
used_taken t e is = ap (λ b. is_used_for t (if b then Taken t else e)) is ∙ itself t

no_one : (b : Bool) → one_if (b && false) ≡ 0
no_one true = refl
no_one false = refl

module _ (line : Line) (w : Flow) (v : LineState) (sound : IsFlowSound line w) (sees : Shows line w v)
    (a c h t stamp : ℕ) (has_data is_ended : Bool)
    (place : Place) (carried : YieldedPlace) (hand : SectionRun) (is_carried : carried ≡ yielded_place place)
    (from : is_centre line a ≡ true) (to : is_centre line c ≡ true)
    (head : TakesHead w a c (Yield h t stamp has_data is_ended carried hand))
    (out : (s : ℕ) → is_home line c s ≡ true → within hand s ≡ true → is_out_for t ((w.at c).book s) ≡ true) where
  -- the arriving mission
  abbrev pub m : Mission
  m = record {
    place = place;
    hand = hand;
    pool = no_run;
    has_data = has_data;
    is_ended = is_ended;
    proposal = None;
    handing = None;
  }

  module _ (y : Centre) (y_phase : y.phase ≡ (w.at c).phase) (y_said : y.said ≡ (w.at c).said)
      (y_wait : y.wait ≡ (w.at c).wait) (y_wish : y.wish ≡ (w.at c).wish)
      (y_heard : y.heard ≡ put (w.at c).heard t (later stamp ((w.at c).heard t)))
      (y_mission : y.mission ≡ put (w.at c).mission t (Some m))
      (y_book : (s : ℕ)
      → y.book s ≡ (if within hand s && is_out_for t ((w.at c).book s) then Taken t else (w.at c).book s)) where
    abbrev came : Resource Centre Body → ℕ
    came = came_with a c (Yield h t stamp has_data is_ended carried hand)

    abbrev new : Flow
    new = acted (took w a c) c y (λ d. [])

    abbrev after : LineState
    after = record (line_centre.set_mission t
        (Some (record (parted stamp has_data is_ended place) { supervisor = At c })) v)
        { heard = put_pair v.heard t c (later stamp (v.heard t c)) }

    act : IsAct line w c came y (λ d. []) (acted (took w a c) c y (λ d. []))
    act = at_head line w a c (Yield h t stamp has_data is_ended carried hand) y (λ d. []) sound.counted from to head

    came_so : IsMissionHere line w c came t × ((w.at c).mission t ≡ None)
    came_so = came_here line w c came y (λ d. []) new t sound act (omega (arith, one_if_true (t == t) (itself t)))

    here : (w.at c).mission t ≡ None
    here = came_so.1

    mission_now : y.mission t ≡ Some m
    mission_now = ap (λ (g : ℕ → Option Mission). g t) y_mission ∙ put_there (w.at c).mission t (Some m)

    mission_other : (u : ℕ) → u ≢ t → y.mission u ≡ (w.at c).mission u
    mission_other u other = ap (λ (g : ℕ → Option Mission). g u) y_mission
        ∙ put_other (w.at c).mission t u (Some m) other

    -- ## Marks

    hand_now : (s : ℕ) → within hand s ≡ true → hand_has (y.mission t) s ≡ true
    hand_now s is = ap (λ (o : Option Mission). hand_has o s) mission_now ∙ is

    -- a section that is not in the hand is in a hand of any train as before
    hand_apart : (u s : ℕ) → within hand s ≡ false → one_if (hand_has (y.mission u) s)
        ≡ one_if (hand_has ((w.at c).mission u) s) + one_if ((t == u) && within hand s)
    hand_apart u s is =
        omega (arith, ap (λ b. one_if ((t == u) && b)) is, no_one (t == u), ap one_if (same (cases_eq u t)))
      where
        same : (u ≡ t) ⊎ (u ≢ t) → hand_has (y.mission u) s ≡ hand_has ((w.at c).mission u) s
        same = ⊎_elim
            (λ (e : u ≡ t). ap (λ x. hand_has (y.mission x) s) e
            ∙ ap (λ (o : Option Mission). hand_has o s) mission_now ∙ is
            ∙ sym (ap (λ x. hand_has ((w.at c).mission x) s) e ∙ ap (λ (o : Option Mission). hand_has o s) here))
            (λ (other : u ≢ t). ap (λ (o : Option Mission). hand_has o s) (mission_other u other))

    came_in : (s : ℕ) → within hand s ≡ true → one_if ((t == t) && within hand s) ≡ 1
    came_in s is = one_if_true ((t == t) && within hand s) (and_from (t == t) (within hand s) (itself t) is)

    -- a section of the hand is given, as it was
    given_as : (s d : ℕ) → is_home line d s ≡ true → within hand s ≡ true
        → MarkAfter line w new s d (v.mark s) (line_centre.Given t)
    given_as s d home is = by_home (is_home line c s) refl
      where
        by_home : (b : Bool) → is_home line c s ≡ b → MarkAfter line w new s d (v.mark s) (line_centre.Given t)
        by_home true at_c = enters_here line w c came y (λ e. []) new s d act home t (v.mark s) at_c
            (ap (is_used_for t) (y_book s)
            ∙ ap (λ b. is_used_for t (if b && is_out_for t ((w.at c).book s) then Taken t else (w.at c).book s)) is
            ∙ used_taken t ((w.at c).book s) (out s at_c is))
            (omega (arith, one_if_true (hand_has (y.mission t) s) (hand_now s is)))
        by_home false away = enters_elsewhere line w c came y (λ e. []) new s d act home t (v.mark s) sound away
            (omega (arith, came_in s is)) (omega (arith, one_if_true (hand_has (y.mission t) s) (hand_now s is)))

    marks : (s d : ℕ) → is_home line d s ≡ true → (b : Bool) → within hand s ≡ b
        → MarkAfter line w new s d (v.mark s) (v.mark s)
    marks s d home true is = subst (λ x. MarkAfter line w new s d (v.mark s) x)
        (sym (given_mark_of line w v t sound sees s
        (was line w c came y (λ e. []) new t s act (omega (arith, came_in s is)))))
        (given_as s d home is)
    marks s d home false is = mark_stays line w c came y (λ e. []) new s d (v.mark s) act
        (y_book s ∙ ap (λ b. if b && is_out_for t ((w.at c).book s) then Taken t else (w.at c).book s) is)
        (λ u used.
        omega (
          arith,
          hand_apart u s is,
          sends_none (hands u s) (centre_count line) c (λ e. [])
              (λ e. carried_none (hands u s) c e),
        ))

    -- ## Missions

    missions_after : (u : ℕ) → MissionAfter line w c came y (λ d. []) u (v.mission u) (after.mission u)
    missions_after u = ⊎_elim
        (λ (e : u ≡ t). subst (λ x. MissionAfter line w c came y (λ d. []) x (v.mission x) (after.mission x)) (sym e)
        (is_here m (put_there v.mission t (Some (seen c m))) mission_now
        came_so.0 (λ d. carried_none (missions t) c d)))
        (λ (other : u ≢ t). stays (put_other v.mission t u (Some (seen c m)) other)
        (ap (option_map (seen c)) (mission_other u other))
        (ap one_if (ne_eqb t u (λ e. other (sym e)))) (λ d. carried_none (missions u) c d))
        (cases_eq u t)

    pub taken_up_shown : Shows line (acted (took w a c) c y (λ d. []))
        (record (line_centre.set_mission t (Some (record (parted stamp has_data is_ended place) { supervisor = At c }))
        v) { heard = put_pair v.heard t c (later stamp (v.heard t c)) })
    taken_up_shown = shows_after line w c came y (λ d. []) new v after sound sees to act (record {
      phase = part_stays Phase c v.phase y.phase (λ u. sees.phase u c ∙ ap (λ (g : ℕ → Phase). g u) (sym y_phase));
      heard = part_changes (Option ℕ) c t (later stamp (v.heard t c)) v.heard (w.at c).heard
          y.heard (λ u. sees.heard u c)
          (λ u. ap (λ (g : ℕ → Option ℕ). g u) y_heard
          ∙ ap (λ o. put (w.at c).heard t (later stamp o) u) (sym (sees.heard t c)));
      said = part_stays ℕ c v.said y.said (λ u. sees.said u c ∙ ap (λ (g : ℕ → ℕ). g u) (sym y_said));
      wait = part_stays (Option Place) c v.wait y.wait (λ u. sees.wait u c
          ∙ ap (λ (g : ℕ → Option Place). g u) (sym y_wait));
      wish = λ s home. sees.wish s c home ∙ ap (λ (g : ℕ → Bool). g s) (sym y_wish);
      other_wish = λ s away. refl;
      mark = λ s d home. marks s d home (within hand s) refl;
      no_section = λ s none. refl;
      mission = missions_after;
    })

    -- the quiet step: the mission that nobody supervised is taken up
    pub taking_up : TakesUp v t c nothing
        (record (line_centre.set_mission t (Some (record (parted stamp has_data is_ended place) { supervisor = At c }))
        v) { heard = put_pair v.heard t c (later stamp (v.heard t c)) })
    taking_up = record {
      mission = parted stamp has_data is_ended place;
      stamp = stamp;
      of_train = sees.on_way a c h t stamp has_data is_ended place hand
          (subst (λ p. Contains (way w a c) (Yield h t stamp has_data is_ended p hand)) is_carried
          (subst (λ fs. Contains fs (Yield h t stamp has_data is_ended carried hand)) (sym head.head)
          (contains_head (Yield h t stamp has_data is_ended carried hand) (way (took w a c) a c))));
      parted = refl;
      leaves = record { said_is = refl; new_is = refl };
    }
