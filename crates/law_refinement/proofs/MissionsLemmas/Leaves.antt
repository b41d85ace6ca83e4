-- Sections that leave the hand of a train at the whole line: the state that is shown after it, and the replies.
use Rattle.std.proofs.Common.{[], ⊎_elim, ◌&&◌, ◌++◌, ◌+◌, ◌<◌, ◌∙◌, ◌≡◌, ◌≢◌, ap, arith, Bool, false, if◌then◌else◌}
use Rattle.std.proofs.Common.{List, map, None, not, Option, option_map, refl, Some, subst, sym, true, ℕ}
use Rattle.std.proofs.lemmas.Bool.{and_parts, cases_eq}
use Rattle.std.proofs.lemmas.List.{append-nil}
use Rattle.std.proofs.Math.Bool.{and-true}
use Rattle.std.specs.List.{filter, list_any, range_with_len}
use Rattle.law_base.proofs.CountingLemmas.Sums.{one_if_some, one_if_true}
use Rattle.law_base.specs.Counting.Network.{acted}
use Rattle.law_base.specs.Counting.Sums.{one_if}
use Rattle.law_base.specs.Local.Local.{hand_has}
use Rattle.law_invariants.specs.Flow.Counts.{hands, missions}
use Rattle.law_invariants.specs.Flow.Flow.{centre_count, Flow}
use Rattle.law_invariants.specs.Flow.Keeping.{nothing_came}
use Rattle.law_invariants.specs.Flow.Leads.{replied, said_by}
use Rattle.law_invariants.specs.Flow.Shows.{Shows}
use Rattle.law_invariants.specs.Flow.Sound.{IsFlowSound}
use Rattle.law_refinement.proofs.AbstractionLemmas.Hands.{mark_stays, sends_both, sends_home, sends_none}
use Rattle.law_refinement.proofs.AbstractionLemmas.Marks.{hand_at_centre}
use Rattle.law_refinement.proofs.AbstractionLemmas.Missions.{supervised}
use Rattle.law_refinement.proofs.AbstractionLemmas.Shows.{by_itself, leaves_elsewhere, opened, part_stays, shows_after}
use Rattle.law_refinement.proofs.AbstractionLemmas.Shows.{shut}
use Rattle.law_refinement.proofs.MissionsLemmas.Sets.{Sets}
use Rattle.law_refinement.specs.Abstraction.Acts.{IsAct, SendsNone}
use Rattle.law_refinement.specs.Abstraction.After.{MarkAfter, MissionAfter}
use Rattle.law_refinement.specs.Abstraction.After.MissionAfter.{ended, is_here, stays}
use Rattle.rbc_spec.proofs.Lists.{any-range, any-range_none, on_line, put_other, put_there}
use Rattle.rbc_spec.proofs.Runs.{filter_run, within_true}
use Rattle.rbc_spec.specs.Acts.{◌>>◌, Act, leave, Reply}
use Rattle.rbc_spec.specs.Centre as centre
use Rattle.rbc_spec.specs.Centre.{Centre, is_taken_for, Mission, Phase}
use Rattle.rbc_spec.specs.Line.{is_centre, is_home, Line, section}
use Rattle.rbc_spec.specs.LineCentre as line_centre
use Rattle.rbc_spec.specs.LineCentre.{close_if_empty, is_given_to, LineState, release, set_mission}
use Rattle.rbc_spec.specs.Maps.{put}
use Rattle.rbc_spec.specs.Outcome.{Told, Word}
use Rattle.rbc_spec.specs.OwnSteps.{release_words}
use Rattle.rbc_spec.specs.Place.{Place}
use Rattle.rbc_spec.specs.ReadOff.{seen}
use Rattle.rbc_spec.specs.SectionRuns.{next_after, SectionRun, within}
use Rattle.rbc_spec.specs.Sections.{section_count}

no_use : (b : Bool) → (b && false) ≡ false
no_use true = refl
no_use false = refl

-- a section that leaves the hand is not given after that
after_leaving : (t : ℕ) (wish : Bool) → is_given_to t (if wish then line_centre.Shut else line_centre.Open) ≡ false
after_leaving t true = refl
after_leaving t false = refl

-- whether the hand of the train is empty
pub close_is : (line : Line) (t : ℕ) (v : LineState) (b : Bool)
    → list_any (λ s. is_given_to t (v.mark s)) (range_with_len 0 (section_count line)) ≡ b
    → close_if_empty line t v ≡ (if b then v else set_mission t None v)
close_is line t v b is = ap (λ a. if a then v else set_mission t None v) is

-- if only sections of two runs pass a test, a search through either run finds them
pub filter_both : (test : ℕ → Bool) (r q : SectionRun) (n : ℕ) → ((s : ℕ) → test s ≡ true → within r s ≡ true)
    → ((s : ℕ) → test s ≡ true → within q s ≡ true) → ((s : ℕ) → within q s ≡ true → s < n)
    → filter test (range_with_len 0 n) ≡ filter test (range_with_len r.first r.count)
filter_both test r q n in_r in_q below = filter_run test q n in_q below
    ∙ sym (filter_run test q (n + next_after r) in_q (λ s is. omega (arith, below s is)))
    ∙ filter_run test r (n + next_after r) in_r (λ s is. let ends = within_true r s is in omega (arith, ends.1))

module _ (line : Line) (w : Flow) (sound : IsFlowSound line w) (v : LineState) (sees : Shows line w v) (c t : ℕ)
    (to : is_centre line c ≡ true) (m : Mission) (at : (w.at c).mission t ≡ Some m) where
  abbrev pub k : Centre
  k = w.at c

  pub given_is : (s : ℕ) → is_given_to t (v.mark s) ≡ within m.hand s
  given_is = (hand_at_centre line w v t sound sees c m at).each

  -- a section of home c in the hand is taken for the train
  pub taken_here : (s : ℕ) → is_home line c s ≡ true → within m.hand s ≡ true → is_taken_for t (k.book s) ≡ true
  taken_here s home in_hand = one_if_some (is_taken_for t (k.book s))
      (omega (
        arith,
        (sound.centres c to).claims s t home,
        ap (λ (o : Option Mission). one_if (hand_has o s)) at,
        one_if_true (within m.hand s) in_hand,
      ))

  pub hand_on : (s : ℕ) → within m.hand s ≡ true → s < section_count line
  hand_on s in_hand = on_line line m.place.track s (((sound.centres c to).mission t m at).hand.on_track s in_hand)

  module _ (is_released : ℕ → Bool) (inside : (s : ℕ) → is_released s ≡ true → within m.hand s ≡ true) where
    -- ## The shown state

    -- the book and the missions after the reply
    pub record Leaving (left : Option Mission) (q : Reply) : Type 0 where
      pub hand : (s : ℕ) → hand_has left s ≡ (within m.hand s && not (is_released s))
      pub phase : q.state.phase ≡ k.phase
      pub heard : q.state.heard ≡ k.heard
      pub said : q.state.said ≡ k.said
      pub wait : q.state.wait ≡ k.wait
      pub book : (s : ℕ)
          → q.state.book s
          ≡ (if is_released s && is_home line c s then (if k.wish s then centre.Shut else centre.Open) else k.book s)
      pub wish : (s : ℕ) → q.state.wish s ≡ (not (is_released s && is_home line c s) && k.wish s)
      pub mission : (u : ℕ) → q.state.mission u ≡ put k.mission t left u
      pub no_hand : (u s : ℕ) → SendsNone (hands u s) c q.frames
      pub no_mission : (u : ℕ) → SendsNone (missions u) c q.frames

    module _ (left : Option Mission) (q : Reply) (is : Leaving left q) where
      abbrev new : Flow
      new = acted w c q.state q.frames

      abbrev after : LineState
      after = set_mission t (option_map (seen c) left) (release line c t is_released v)

      act : IsAct line w c nothing_came q.state q.frames (acted w c q.state q.frames)
      act = by_itself line w c q.state q.frames sound.counted to

      hand_now : (s : ℕ) → hand_has (q.state.mission t) s ≡ (within m.hand s && not (is_released s))
      hand_now s = ap (λ (o : Option Mission). hand_has o s) (is.mission t ∙ put_there k.mission t left) ∙ is.hand s

      hand_then : (s : ℕ) → hand_has (k.mission t) s ≡ within m.hand s
      hand_then s = ap (λ (o : Option Mission). hand_has o s) at

      same_hand : (u s : ℕ) → is_released s ≡ false → hand_has (q.state.mission u) s ≡ hand_has (k.mission u) s
      same_hand u s kept = ⊎_elim
          (λ (here : u ≡ t). subst (λ x. hand_has (q.state.mission x) s ≡ hand_has (k.mission x) s) (sym here)
          (hand_now s ∙ ap (λ b. within m.hand s && not b) kept ∙ and-true (within m.hand s) ∙ sym (hand_then s)))
          (λ (other : u ≢ t). ap (λ (o : Option Mission). hand_has o s) (is.mission u
          ∙ put_other k.mission t u left other))
          (cases_eq u t)

      marks : (s d : ℕ) → is_home line d s ≡ true → (b h : Bool) → is_released s ≡ b → is_home line c s ≡ h
          → MarkAfter line w new s d (v.mark s) (if b
          && h then (if v.wish s then line_centre.Shut else line_centre.Open) else
          (if b && not h then line_centre.Kept t else v.mark s))
      marks s d home true true so here = by_wish (v.wish s) (sees.wish s c here)
        where
          book_is : q.state.book s ≡ (if k.wish s then centre.Shut else centre.Open)
          book_is = is.book s
              ∙ ap (λ b. if b && is_home line c s then (if k.wish s then centre.Shut else centre.Open) else k.book s) so
              ∙ ap (λ b. if b then (if k.wish s then centre.Shut else centre.Open) else k.book s) here

          by_wish : (x : Bool) → x ≡ k.wish s
              → MarkAfter line w new s d (v.mark s) (if x then line_centre.Shut else line_centre.Open)
          by_wish true wished = shut line w c nothing_came q.state q.frames new s d act home (v.mark s) here (book_is
              ∙ ap (λ b. if b then centre.Shut else centre.Open) (sym wished))
          by_wish false wished = opened line w c nothing_came q.state q.frames new s d act home (v.mark s) here (book_is
              ∙ ap (λ b. if b then centre.Shut else centre.Open) (sym wished))
      marks s d home true false so away = leaves_elsewhere line w c nothing_came q.state q.frames new s d act
          home t (v.mark s) sound away
          (omega (arith, ap one_if (hand_then s), one_if_true (within m.hand s) (inside s so)))
          (omega (
            arith,
            ap one_if (hand_now s ∙ ap (λ b. within m.hand s && not b) so ∙ no_use (within m.hand s)),
            sends_none (hands t s) (centre_count line) c q.frames (is.no_hand t s),
          ))
      marks s d home false h kept there = mark_stays line w c nothing_came q.state q.frames new s d (v.mark s) act
          (is.book s
          ∙ ap (λ b. if b && is_home line c s then (if k.wish s then centre.Shut else centre.Open) else k.book s)
          kept)
          (λ u used.
          omega (
            arith,
            ap one_if (same_hand u s kept),
            sends_none (hands u s) (centre_count line) c q.frames (is.no_hand u s),
          ))

      wishes : (s : ℕ) → is_home line c s ≡ true → after.wish s ≡ q.state.wish s
      wishes s home = ap (λ b. not (is_released s && is_home line c s) && b) (sees.wish s c home) ∙ sym (is.wish s)

      other_wishes : (s : ℕ) → is_home line c s ≡ false → after.wish s ≡ v.wish s
      other_wishes s away = ap (λ b. not (is_released s && b) && v.wish s) away
          ∙ ap (λ b. not b && v.wish s) (no_use (is_released s))

      no_sections : (s : ℕ) → section line s ≡ None → (b : Bool) → is_released s ≡ b
          → (if b && is_home line c s then (if v.wish s then line_centre.Shut else line_centre.Open) else
          (if b && not (is_home line c s) then line_centre.Kept t else v.mark s)) ≡ v.mark s
      no_sections s none true so = absurd (let wrong : false ≡ true = sym (ap (is_given_to t) (sees.no_section s none))
          ∙ given_is s ∙ inside s so in cc)
      no_sections s none false so = refl

      at_train : (o : Option Mission) → o ≡ left
          → MissionAfter line w c nothing_came q.state q.frames t (v.mission t) (after.mission t)
      at_train None same = ended m (put_there v.mission t _ ∙ ap (option_map (seen c)) (sym same)) at (is.mission t
          ∙ put_there k.mission t left ∙ sym same) (is.no_mission t)
      at_train (Some n) same = is_here n (put_there v.mission t _ ∙ ap (option_map (seen c)) (sym same)) (is.mission t
          ∙ put_there k.mission t left ∙ sym same)
          (supervised line w c nothing_came q.state q.frames new t sound act m at) (is.no_mission t)

      missions_after : (u : ℕ) → MissionAfter line w c nothing_came q.state q.frames u (v.mission u) (after.mission u)
      missions_after u = ⊎_elim
          (λ (here : u ≡ t). subst (λ x. MissionAfter line w c nothing_came q.state q.frames x (v.mission x)
          (after.mission x)) (sym here) (at_train left refl))
          (λ (other : u ≢ t). stays (put_other v.mission t u _ other)
          (ap (option_map (seen c)) (is.mission u ∙ put_other k.mission t u left other)) refl (is.no_mission u))
          (cases_eq u t)

      pub leaving_shown : Shows line (replied w c q)
          (set_mission t (option_map (seen c) left) (release line c t is_released v))
      leaving_shown = shows_after line w c nothing_came q.state q.frames new v after sound sees to act (record {
        phase = part_stays Phase c v.phase q.state.phase (λ u. sees.phase u c
            ∙ ap (λ (g : ℕ → Phase). g u) (sym is.phase));
        heard = part_stays (Option ℕ) c v.heard q.state.heard (λ u. sees.heard u c
            ∙ ap (λ (g : ℕ → Option ℕ). g u) (sym is.heard));
        said = part_stays ℕ c v.said q.state.said (λ u. sees.said u c ∙ ap (λ (g : ℕ → ℕ). g u) (sym is.said));
        wait = part_stays (Option Place) c v.wait q.state.wait (λ u. sees.wait u c
            ∙ ap (λ (g : ℕ → Option Place). g u) (sym is.wait));
        wish = wishes;
        other_wish = other_wishes;
        mark = λ s d home. marks s d home (is_released s) (is_home line c s) refl refl;
        no_section = λ s none. no_sections s none (is_released s) refl;
        mission = missions_after;
      })

    -- ## The sections that stay given

    pub still_given : (s : ℕ) → is_given_to t ((release line c t is_released v).mark s)
        ≡ (within m.hand s && not (is_released s))
    still_given s = by_tests (is_released s) (is_home line c s) refl
      where
        by_tests : (b h : Bool) → is_released s ≡ b
            → is_given_to t (if b && h then (if v.wish s then line_centre.Shut else line_centre.Open) else
            (if b && not h then line_centre.Kept t else v.mark s)) ≡ (within m.hand s && not b)
        by_tests true true so = after_leaving t (v.wish s) ∙ sym (no_use (within m.hand s))
        by_tests true false so = sym (no_use (within m.hand s))
        by_tests false h so = given_is s ∙ sym (and-true (within m.hand s))

    abbrev is_some_given : Bool
    is_some_given = list_any (λ s. is_given_to t ((release line c t is_released v).mark s))
        (range_with_len 0 (section_count line))

    pub none_given : ((s : ℕ) → within m.hand s ≡ true → is_released s ≡ true) → is_some_given ≡ false
    none_given all = any-range_none (λ s. is_given_to t ((release line c t is_released v).mark s)) 0
        (section_count line) (λ s low high. still_given s ∙ by_hand s (within m.hand s) refl)
      where
        by_hand : (s : ℕ) (b : Bool) → within m.hand s ≡ b → (b && not (is_released s)) ≡ false
        by_hand s true so = ap not (all s so)
        by_hand s false so = refl

    pub some_given : (s : ℕ) → within m.hand s ≡ true → is_released s ≡ false → is_some_given ≡ true
    some_given s so out = any-range (λ e. is_given_to t ((release line c t is_released v).mark e)) 0
        (section_count line) s (omega arith) (let below = hand_on s so in omega (arith, below))
        (still_given s ∙ ap (λ b. b && not (is_released s)) so ∙ ap not out)

    -- ## Sections of a run leave

    module _ (r : SectionRun) (at_home : (s : ℕ) → is_home line c s ≡ true → within r s ≡ is_released s) where
      freed_is : (s : ℕ) → ((within r s && is_home line c s) && is_taken_for t (k.book s))
          ≡ (is_released s && is_home line c s)
      freed_is s = by_home (is_home line c s) refl
        where
          taken_too : (b : Bool) → is_released s ≡ b → is_home line c s ≡ true
              → ((b && true) && is_taken_for t (k.book s)) ≡ (b && true)
          taken_too true so home = taken_here s home (inside s so)
          taken_too false so home = refl

          by_home : (h : Bool) → is_home line c s ≡ h
              → ((within r s && h) && is_taken_for t (k.book s)) ≡ (is_released s && h)
          by_home true home = ap (λ b. (b && true) && is_taken_for t (k.book s)) (at_home s home)
              ∙ taken_too (is_released s) refl home
          by_home false away = ap (λ b. b && is_taken_for t (k.book s)) (no_use (within r s))
              ∙ sym (no_use (is_released s))

      passes_in : (s : ℕ) → ((is_released s && is_home line c s) && v.wish s) ≡ true → (is_released s ≡ true)
          × (is_home line c s ≡ true)
      passes_in s passes = and_parts (is_released s) (is_home line c s)
          (and_parts (is_released s && is_home line c s) (v.wish s) passes).0

      words_are : map (λ s. Told s) (filter (λ s. ((within r s && is_home line c s) && is_taken_for t (k.book s))
          && k.wish s) (range_with_len r.first r.count)) ≡ release_words line c is_released v
      words_are =
          ap (map (λ s. Told s))
          (ap (λ (test : ℕ → Bool). filter test (range_with_len r.first r.count)) (λ i s. same s i)
          ∙ sym (filter_both (λ s. (is_released s && is_home line c s) && v.wish s) r m.hand (section_count line)
          (λ s passes. let both = passes_in s passes in at_home s both.1 ∙ both.0)
          (λ s passes. inside s (passes_in s passes).0) hand_on))
        where
          same : (s : ℕ) → (((within r s && is_home line c s) && is_taken_for t (k.book s)) && k.wish s)
              ≡ ((is_released s && is_home line c s) && v.wish s)
          same s = ap (λ b. b && k.wish s) (freed_is s) ∙ by_home (is_home line c s) refl
            where
              by_home : (h : Bool) → is_home line c s ≡ h
                  → ((is_released s && h) && k.wish s) ≡ ((is_released s && h) && v.wish s)
              by_home true home = ap (λ b. (is_released s && true) && b) (sym (sees.wish s c home))
              by_home false away = ap (λ b. b && k.wish s) (no_use (is_released s))
                  ∙ sym (ap (λ b. b && v.wish s) (no_use (is_released s)))

      module _ (track : ℕ) (act : Act) (left : Option Mission)
          (sets : Sets c t left (leave line c t track r k).state (act (leave line c t track r k).state)) where
        abbrev pub q : Reply
        q = (leave line c t track r >> act) k

        pub run_leaves : ((s : ℕ) → hand_has left s ≡ (within m.hand s && not (is_released s))) → Leaving left q
        unfolding ◌>>◌
        run_leaves hand = record {
          hand = hand;
          phase = sets.phase;
          heard = sets.heard;
          said = sets.said;
          wait = sets.wait;
          book = λ s. ap (λ (g : ℕ → centre.Entry). g s) sets.book
              ∙ ap (λ b. if b then (if k.wish s then centre.Shut else centre.Open) else k.book s) (freed_is s);
          wish = λ s. ap (λ (g : ℕ → Bool). g s) sets.wish ∙ ap (λ b. not b && k.wish s) (freed_is s);
          mission = sets.mission;
          no_hand = λ u s. sends_both (hands u s) c _ _ (sends_home line c t u s track r k).0 (sets.no_hand u s);
          no_mission = λ u. sends_both (missions u) c _ _ (sends_home line c t u 0 track r k).1 (sets.no_mission u);
        }

        pub run_told : said_by q ≡ record { sayings = []; words = release_words line c is_released v }
        unfolding ◌>>◌
        run_told = λ i. record { sayings = sets.sayings i; words = told i }
          where
            first : List Word
            first = map (λ s. Told s) (filter (λ s. ((within r s && is_home line c s) && is_taken_for t (k.book s))
                && k.wish s) (range_with_len r.first r.count))

            told : (first ++ []) ++ (act (leave line c t track r k).state).words ≡ release_words line c is_released v
            told = (λ i. (first ++ []) ++ sets.words i) ∙ append-nil (first ++ []) ∙ append-nil first ∙ words_are

  -- ## A mission that keeps its hand

  pub kept_shown : (n : Mission) (q : Reply) → n.hand ≡ m.hand → Sets c t (Some n) k q
      → Shows line (replied w c q) (set_mission t (Some (seen c n)) v)
  kept_shown n q same sets = leaving_shown (λ s. false) (λ s so. cc) (Some n) q (record {
    hand = λ s. ap (λ r. within r s) same ∙ sym (and-true (within m.hand s));
    phase = sets.phase;
    heard = sets.heard;
    said = sets.said;
    wait = sets.wait;
    book = λ s. ap (λ (g : ℕ → centre.Entry). g s) sets.book;
    wish = λ s. ap (λ (g : ℕ → Bool). g s) sets.wish;
    mission = sets.mission;
    no_hand = sets.no_hand;
    no_mission = sets.no_mission;
  })
