-- A shortening that is granted: the hand is cut after the last section kept, if the train has not run past the proposed
-- end.
use Rattle.std.proofs.Common.{[], ⊎_elim, ◌&&◌, ◌+◌, ◌<◌, ◌==◌, ◌∙◌, ◌≡◌, ◌≢◌, ◌≤◌, ◌⊎◌, ap, arith, Bool, eqb-true}
use Rattle.std.proofs.Common.{false, if◌then◌else◌, inl, inr, lt-ltb, ltb-true, nat_lt, None, not, Option, option_map}
use Rattle.std.proofs.Common.{refl, Some, subst, sym, true, ℕ}
use Rattle.std.proofs.lemmas.Bool.{and_from, and_parts, cases_lt, eqb-false, ne_eqb}
use Rattle.std.specs.Option.{option_map_or}
use Rattle.law_invariants.proofs.HandoverLemmas.Moves.{goes_cut}
use Rattle.law_invariants.proofs.NoCopyLemmas.Messages.{fair_cut, standing}
use Rattle.law_invariants.proofs.NoCopyLemmas.Tally.{mission_of}
use Rattle.law_invariants.proofs.SoundLemmas.Reports.{cut_sound}
use Rattle.law_invariants.proofs.SoundLemmas.Sends.{joined_without, not_away, tail_after, tail_part, whole_tail}
use Rattle.law_invariants.specs.Flow.Flow.{Flow}
use Rattle.law_invariants.specs.Flow.Leads.{replied, said_by}
use Rattle.law_invariants.specs.Flow.Shows.{Shows}
use Rattle.law_invariants.specs.Flow.Sound.{IsFlowSound, IsMissionAt}
use Rattle.law_refinement.proofs.MissionsLemmas.Heard.{act_sound}
use Rattle.law_refinement.proofs.MissionsLemmas.Leaves.{close_is, given_is, leaving_shown, none_given, run_leaves}
use Rattle.law_refinement.proofs.MissionsLemmas.Leaves.{run_told, some_given}
use Rattle.law_refinement.proofs.MissionsLemmas.Sets.{Sets, sets_cancel, sets_close, sets_keeping, sets_mission}
use Rattle.law_refinement.proofs.MissionsLemmas.Sets.{sets_rest, sets_then}
use Rattle.rbc_spec.proofs.Lists.{put_over, put_there}
use Rattle.rbc_spec.proofs.Runs.{same_tests, within_before, within_from, within_true}
use Rattle.rbc_spec.specs.Acts.{◌>>◌, Act, cancel, close, leave, part_at, Reply, rest, set_mission as set_here}
use Rattle.rbc_spec.specs.Centre.{Centre, Handing, Mission, Proposal}
use Rattle.rbc_spec.specs.Line.{is_centre, is_home, IsLine, Line}
use Rattle.rbc_spec.specs.LineCentre.{close_if_empty, is_given_to, LineMission, LineState, release, set_mission}
use Rattle.rbc_spec.specs.Maps.{put}
use Rattle.rbc_spec.specs.OwnSteps.{is_cut_of, release_words, without_ask}
use Rattle.rbc_spec.specs.ReadOff.{seen}
use Rattle.rbc_spec.specs.Rules.{cut}
use Rattle.rbc_spec.specs.SectionRuns.{is_empty, joined, no_run, part_before, part_from, SectionRun, within}

-- the mission without its request
abbrev pub unasked : Mission → Mission
unasked n = record n { proposal = None }

-- ## The cut

module _ (line : Line) (ok : IsLine line) (w : Flow) (sound : IsFlowSound line w) (v : LineState)
    (sees : Shows line w v) (c t : ℕ) (to : is_centre line c ≡ true) (last_kept : ℕ)
    (m : Mission) (asked : Option Proposal) (at : (w.at c).mission t ≡ Some (record m { proposal = asked })) where
  abbrev k : Centre
  k = w.at c

  -- the mission as it is, with any request
  abbrev was : Mission
  was = record m { proposal = asked }

  is : IsMissionAt line c k was
  is = (sound.centres c to).mission t was at

  is_before : IsMissionAt line c k m
  is_before =
      record {
        hand = is.hand;
        pool_follows = is.pool_follows;
        pool_away = is.pool_away;
        pool_on = is.pool_on;
        pool_next = is.pool_next;
        handing_to = is.handing_to;
        handing_number =
            is.handing_number;
        hand_ends = is.hand_ends;
      }

  abbrev tail : SectionRun
  tail = part_from (last_kept + 1) m.hand

  abbrev gone : SectionRun
  gone = joined tail m.pool

  abbrev kept : Mission
  kept = record m { hand = part_before (last_kept + 1) m.hand; pool = no_run; proposal = None }

  abbrev is_released : ℕ → Bool
  is_released s = is_cut_of v t last_kept s

  inside : (s : ℕ) → is_released s ≡ true → within m.hand s ≡ true
  inside s so = sym (given_is line w sound v sees c t to was at s)
      ∙ (and_parts (is_given_to t (v.mark s)) (nat_lt last_kept s) so).0

  tail_is : (s : ℕ) → within tail s ≡ is_released s
  tail_is s = same_tests (within tail s) (within m.hand s && nat_lt last_kept s)
      (λ in_tail. let ends = within_true tail s in_tail in
      and_from (within m.hand s) (nat_lt last_kept s) (tail_part (last_kept + 1) m.hand s in_tail)
      (lt-ltb last_kept s (omega (arith, ends))))
      (λ both. let parts = and_parts (within m.hand s) (nat_lt last_kept s) both in
      let ends = within_true m.hand s parts.0 in let past = ltb-true last_kept s parts.1 in
      within_from tail s (omega (arith, ends, past)) (omega (arith, ends, past)))
      ∙ sym (ap (λ b. b && nat_lt last_kept s) (given_is line w sound v sees c t to was at s))

  at_home : (s : ℕ) → is_home line c s ≡ true → within gone s ≡ is_released s
  at_home s home = joined_without tail m.pool s (λ some more. is.pool_follows more
      ∙ sym (tail_after (last_kept + 1) m.hand some))
      (not_away (within m.pool s) (is_home line c s) home (is.pool_away s)) ∙ tail_is s

  -- the replies of the cut, and the state that is shown after it
  pub record CutSo (q : Reply) : Type 0 where
    pub tells : said_by q ≡ record { sayings = []; words = release_words line c is_released v }
    pub shows : Shows line (replied w c q) (close_if_empty line t (release line c t is_released (without_ask t v)))

  cut_all : (tail.count == m.hand.count) ≡ true → CutSo ((leave line c t m.place.track gone >> close line c t m) k)
  cut_all all = record {
    tells = run_told line w sound v sees c t to was at is_released inside gone at_home m.place.track
        (close line c t m) None sets;
    shows = subst (Shows line (replied w c ((leave line c t m.place.track gone >> close line c t m) k)))
        (sym (close_is line t (release line c t is_released (without_ask t v)) false
        (none_given line w sound v sees c t to was at is_released inside (λ s so. whole s ∙ so)) ∙ closed_over))
        (leaving_shown line w sound v sees c t to was at is_released inside None _
        (run_leaves line w sound v sees c t to was at is_released inside gone at_home m.place.track (close line c t m)
        None sets (λ s. none_left (within m.hand s) (is_released s) (sym (whole s)))));
  }
    where
      left_so : Centre
      left_so = (leave line c t m.place.track gone k).state

      sets : Sets c t None left_so (close line c t m left_so)
      sets = sets_close c t line m left_so

      closed_over : set_mission t None (release line c t is_released (without_ask t v))
          ≡ set_mission t None (release line c t is_released v)
      closed_over = λ i. record (release line c t is_released v) {
        mission = λ u. put_over t None (option_map (λ (n : LineMission). record n { proposal = None })
            (v.mission t)) v.mission u i;
      }

      whole : (s : ℕ) → is_released s ≡ within m.hand s
      whole s = sym (tail_is s) ∙ whole_tail (last_kept + 1) m.hand s (eqb-true tail.count m.hand.count all)

      none_left : (a b : Bool) → a ≡ b → false ≡ (a && not b)
      none_left true true e = refl
      none_left true false e = cc
      none_left false b e = refl

  abbrev cancels : Act
  cancels = option_map_or (λ h. if is_empty (part_at line h.to m.place.track kept.hand) then cancel t kept else rest)
      m.handing rest

  -- the mission after the cut: its handover may be cancelled
  record Left (j : Centre) (q : Reply) : Type 0 where
    left : Mission
    hand_is : left.hand ≡ kept.hand
    seen_is : seen c left ≡ seen c kept
    sets : Sets c t (Some left) j q

  cut_left : (j : Centre) → Left j ((set_here t (Some kept) >> cancels) j)
  cut_left j = by_handing m.handing
    where
      cut_to : Centre
      cut_to = (set_here t (Some kept) j).state

      rests : Left j ((set_here t (Some kept) >> rest) j)
      rests = record {
        left = kept;
        hand_is = refl;
        seen_is = refl;
        sets = sets_keeping c t (Some kept) (set_here t (Some kept)) rest j (sets_mission c t (Some kept) j)
            (sets_rest c t cut_to);
      }

      cancelled : Left j ((set_here t (Some kept) >> cancel t kept) j)
      cancelled = ⊎_elim
          (λ (one : Sets c t (option_map (λ (n : Mission). record n { handing = None }) (cut_to.mission t)) cut_to
          (cancel t kept cut_to)). record {
            left = record kept { handing = None };
            hand_is = refl;
            seen_is = refl;
            sets = sets_then c t (Some kept) (Some (record kept { handing = None })) (set_here t (Some kept))
                (cancel t kept) j (sets_mission c t (Some kept) j)
                (subst (λ o. Sets c t o cut_to (cancel t kept cut_to))
                (ap (option_map (λ (n : Mission). record n { handing = None })) (put_there j.mission t (Some kept)))
                one);
          })
          (λ (two : Sets c t (cut_to.mission t) cut_to (cancel t kept cut_to)). record {
            left = kept;
            hand_is = refl;
            seen_is = refl;
            sets = sets_keeping c t (Some kept) (set_here t (Some kept)) (cancel t kept) j
                (sets_mission c t (Some kept) j) two;
          })
          (sets_cancel c t kept cut_to)

      by_handing : (o : Option Handing)
          → Left j ((set_here t (Some kept)
          >> option_map_or (λ h. if is_empty (part_at line h.to m.place.track kept.hand) then cancel t kept else rest)
          o rest) j)
      by_handing None = rests
      by_handing (Some h) = by_part (is_empty (part_at line h.to m.place.track kept.hand))
        where
          by_part : (b : Bool) → Left j ((set_here t (Some kept) >> (if b then cancel t kept else rest)) j)
          by_part true = cancelled
          by_part false = rests

  -- a part of the hand is kept
  pub record PartSo (q : Reply) : Type 0 where
    pub tells : said_by q ≡ record { sayings = []; words = release_words line c is_released v }
    pub shows : Shows line (replied w c q) (release line c t is_released (without_ask t v))
    pub left : Mission
    pub left_is : q.state.mission t ≡ Some left
    pub shown_is : (without_ask t v).mission t ≡ Some (seen c left)
    pub closes_not : close_if_empty line t (release line c t is_released (without_ask t v))
        ≡ release line c t is_released (without_ask t v)

  cut_part : (tail.count == m.hand.count) ≡ false
      → PartSo ((leave line c t m.place.track gone >> (set_here t (Some kept) >> cancels)) k)
  cut_part some = record {
    tells = run_told line w sound v sees c t to was at is_released inside gone at_home m.place.track
        (set_here t (Some kept) >> cancels) (Some done.left) done.sets;
    shows = subst
        (Shows line (replied w c ((leave line c t m.place.track gone >> (set_here t (Some kept) >> cancels)) k)))
        becomes
        (leaving_shown line w sound v sees c t to was at is_released inside (Some done.left) _
        (run_leaves line w sound v sees c t to was at is_released inside gone at_home m.place.track
        (set_here t (Some kept) >> cancels) (Some done.left) done.sets left_of));
    left = done.left;
    left_is =
        (run_leaves line w sound v sees c t to was at is_released inside gone at_home m.place.track
        (set_here t (Some kept) >> cancels) (Some done.left) done.sets left_of).mission t
        ∙ put_there k.mission t (Some done.left);
    shown_is = put_there v.mission t (option_map (λ (n : LineMission). record n { proposal = None }) (v.mission t))
        ∙ sym shown_so;
    closes_not = close_is line t (release line c t is_released (without_ask t v)) true
        (some_given line w sound v sees c t to was at is_released inside m.hand.first
        (within_from m.hand m.hand.first (omega arith) (omega (arith, is.hand.some))) first_kept);
  }
    where
      done : Left (leave line c t m.place.track gone k).state
          ((set_here t (Some kept) >> cancels) (leave line c t m.place.track gone k).state)
      done = cut_left (leave line c t m.place.track gone k).state

      differ : tail.count ≢ m.hand.count
      differ = eqb-false tail.count m.hand.count some

      left_of : (s : ℕ) → within done.left.hand s ≡ (within m.hand s && not (is_released s))
      left_of s = ap (λ r. within r s) done.hand_is ∙ same_tests _ _
          (λ in_kept. let ends = within_true kept.hand s in_kept in
          and_from (within m.hand s) (not (is_released s))
          (within_from m.hand s (omega (arith, ends)) (omega (arith, ends)))
          (ap not (sym (tail_is s) ∙ within_before tail s (omega (arith, ends)))))
          (λ both. let parts = and_parts (within m.hand s) (not (is_released s)) both in
          let ends = within_true m.hand s parts.0 in by_place ends (cases_lt s (last_kept + 1)) parts.1)
        where
          by_place : (m.hand.first ≤ s) × (s < m.hand.first + m.hand.count) → (s < last_kept + 1) ⊎ (last_kept + 1 ≤ s)
              → not (is_released s) ≡ true → within kept.hand s ≡ true
          by_place ends (inl before) stays =
              within_from kept.hand s (omega (arith, ends, before)) (omega (arith, ends, before))
          by_place ends (inr after) stays =
              absurd (let wrong : false
              ≡ true = sym
              (ap not (sym (tail_is s) ∙ within_from tail s (omega (arith, ends, after)) (omega (arith, ends, after))))
              ∙ stays in cc)

      first_kept : is_released m.hand.first ≡ false
      first_kept = sym (tail_is m.hand.first) ∙ within_before tail m.hand.first (omega (arith, differ))

      shown_so : Some (seen c done.left) ≡ option_map (λ (n : LineMission). record n { proposal = None }) (v.mission t)
      shown_so = ap (λ (n : LineMission). Some n) done.seen_is
          ∙ sym (ap (option_map (λ (n : LineMission). record n { proposal = None })) (sees.mission t c was at))

      becomes : set_mission t (Some (seen c done.left)) (release line c t is_released v)
          ≡ release line c t is_released (without_ask t v)
      becomes = λ i. record (release line c t is_released v) { mission = λ u. put v.mission t (shown_so i) u }

  cut_part_so : (tail.count == m.hand.count) ≡ false
      → CutSo ((leave line c t m.place.track gone >> (set_here t (Some kept) >> cancels)) k)
  cut_part_so some = let done = cut_part some in
      record {
        tells = done.tells;
        shows = subst
            (Shows line (replied w c ((leave line c t m.place.track gone >> (set_here t (Some kept) >> cancels)) k)))
            (sym done.closes_not) done.shows;
      }

  then_either : (a f g : Act) (b : Bool) → (b ≡ true → CutSo ((a >> f) k)) → (b ≡ false → CutSo ((a >> g) k))
      → CutSo ((a >> (if b then f else g)) k)
  then_either a f g true one two = one refl
  then_either a f g false one two = two refl

  pub cuts : CutSo (cut line c t last_kept m k)
  cuts = then_either (leave line c t m.place.track gone) (close line c t m) (set_here t (Some kept) >> cancels)
      (tail.count == m.hand.count) cut_all cut_part_so

  -- the whole act, if a part of the hand is kept
  pub cuts_part : tail.count ≢ m.hand.count → PartSo (cut line c t last_kept m k)
  cuts_part differ =
      subst (λ b.
      PartSo ((leave line c t m.place.track gone
      >> (if b then close line c t m else (set_here t (Some kept) >> cancels))) k))
      (sym (ne_eqb tail.count m.hand.count differ)) (cut_part (ne_eqb tail.count m.hand.count differ))

  pub cut_keeps : IsFlowSound line (replied w c (cut line c t last_kept m k))
  cut_keeps = act_sound line ok c w sound to (cut line c t last_kept m k)
      (cut_sound line ok c t last_kept m was k (sound.centres c to) at refl is_before)
      (λ y counts ready. fair_cut line c y counts t last_kept m k (ap (mission_of y) at) is.pool_follows
      (λ so here. let stands = standing line c y counts t was k at ready so here in
      record {
        hand_on = stands.hand_on;
        pool_on = stands.pool_on;
        alone = stands.alone;
        to_registrar = stands.to_registrar;
        to_centre = stands.to_centre;
      }))
      (goes_cut line c t last_kept m was k at refl)
