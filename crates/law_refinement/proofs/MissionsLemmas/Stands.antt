-- An end of mission at standstill: the sections ahead are cut off the hand of a train that has reached it.
use Rattle.std.proofs.Common.{[], ⊎_elim, ◌&&◌, ◌*◌, ◌+◌, ◌-◌, ◌<◌, ◌==◌, ◌||◌, ◌∙◌, ◌≡◌, ◌≢◌, ◌≤◌, ap, arith, Bool}
use Rattle.std.proofs.Common.{eqb-true, false, if◌then◌else◌, le-leb, List, ltb-true, map, nat_le, nat_lt, None, not}
use Rattle.std.proofs.Common.{Option, option_map, refl, Some, sym, true, ℕ}
use Rattle.std.proofs.lemmas.Bool.{and_from, cases_lt, eqb-false, le-ltb, lt-leb, lt-ltb, ltb-false, or_cases, or_parts}
use Rattle.std.specs.Option.{option_map_or}
use Rattle.law_invariants.proofs.HandoverLemmas.Orderly.{goes_rest}
use Rattle.law_invariants.proofs.NoCopyLemmas.Tally.{fair_rest}
use Rattle.law_invariants.proofs.SoundLemmas.Sends.{rest_sound}
use Rattle.law_invariants.specs.Flow.Flow.{Flow}
use Rattle.law_invariants.specs.Flow.Leads.{replied, said_by}
use Rattle.law_invariants.specs.Flow.Shows.{Shows}
use Rattle.law_invariants.specs.Flow.Sound.{IsFlowSound, IsMissionAt}
use Rattle.law_refinement.proofs.MissionsLemmas.Cuts.{cut_keeps, cuts_part, PartSo}
use Rattle.law_refinement.proofs.MissionsLemmas.Heard.{act_sound}
use Rattle.law_refinement.proofs.MissionsLemmas.Leaves.{given_is, hand_on}
use Rattle.law_refinement.proofs.MissionsLemmas.Reports.{rest_shown}
use Rattle.rbc_spec.proofs.Lists.{any-range, any-range_none, filter-range_none, put_over, put_there}
use Rattle.rbc_spec.proofs.Places.{starts_rise}
use Rattle.rbc_spec.proofs.Runs.{longest_is, within_from, within_true}
use Rattle.rbc_spec.proofs.Worlds.{reached_few, rests_or_cuts}
use Rattle.rbc_spec.specs.Acts.{Reply, rest}
use Rattle.rbc_spec.specs.Centre.{Centre, Mission}
use Rattle.rbc_spec.specs.Line.{is_centre, is_home, IsLine, Line, start}
use Rattle.rbc_spec.specs.LineCentre as line_centre
use Rattle.rbc_spec.specs.LineCentre.{is_given_to, LineMission, LineState, release}
use Rattle.rbc_spec.specs.Maps.{put}
use Rattle.rbc_spec.specs.Outcome.{Told, Word}
use Rattle.rbc_spec.specs.OwnSteps.{ended, has_reached, is_ahead_of, is_cut_of, release_words, stopped, stopping_words}
use Rattle.rbc_spec.specs.OwnSteps.{without_ask}
use Rattle.rbc_spec.specs.Place.{Place, place_on, Position}
use Rattle.rbc_spec.specs.ReadOff.{seen}
use Rattle.rbc_spec.specs.Rules.{cut, cut_ahead, reached, stand_still}
use Rattle.rbc_spec.specs.SectionRuns.{IsLongest}
use Rattle.rbc_spec.specs.SectionRuns.{within}
use Rattle.rbc_spec.specs.Sections.{section_count}

-- ## The acts of the one line centre

-- at standstill, the sections that stop being given, and the replies
abbrev pub stood : Line → ℕ → ℕ → Bool → Option Place → LineState → LineState
stood line t c is_still None v = v
stood line t c false (Some place) v = v
stood line t c true (Some place) v = stopped line t c place v

abbrev pub standing_words : Line → ℕ → ℕ → Bool → Option Place → LineState → List Word
standing_words line t c is_still None v = []
standing_words line t c false (Some place) v = []
standing_words line t c true (Some place) v = stopping_words line t c place v

module _ (line : Line) (t c : ℕ) (v : LineState) where
  -- sections of which none is released
  release_none : (f : ℕ → Bool) → ((s : ℕ) → f s ≡ false) → release line c t f v ≡ v
  release_none f none = λ i. record v { mark = λ s. mark s (f s) (none s) i; wish = λ s. wish s (f s) (none s) i }
    where
      mark : (s : ℕ) (b : Bool) → b ≡ false
          → (if b && is_home line c s then (if v.wish s then line_centre.Shut else line_centre.Open) else
          (if b && not (is_home line c s) then line_centre.Kept t else v.mark s)) ≡ v.mark s
      mark s true is = cc
      mark s false is = refl

      wish : (s : ℕ) (b : Bool) → b ≡ false → (not (b && is_home line c s) && v.wish s) ≡ v.wish s
      wish s true is = cc
      wish s false is = refl

  told_none : (f : ℕ → Bool) → ((s : ℕ) → f s ≡ false) → release_words line c f v ≡ []
  told_none f none =
      ap (map (λ s. Told s)) (filter-range_none (λ s. (f s && is_home line c s) && v.wish s) 0 (section_count line)
      (λ s low high. by_test s (f s) (none s)))
    where
      by_test : (s : ℕ) (b : Bool) → b ≡ false → ((b && is_home line c s) && v.wish s) ≡ false
      by_test s true is = cc
      by_test s false is = refl

  -- if no section is given, none is reached
  pub none_reached : (place : Place) → ((s : ℕ) → s < section_count line → is_given_to t (v.mark s) ≡ false)
      → has_reached line v t place ≡ false
  none_reached place none = any-range_none (λ s. is_given_to t (v.mark s) && nat_lt (10 * start line s) place.front)
      0 (section_count line)
      (λ s low high. ap (λ b. b && nat_lt (10 * start line s) place.front) (none s (omega (arith, high))))

  -- an end that drops the request twice
  pub ended_unasked : ended t (without_ask t v) ≡ ended t v
  ended_unasked = λ i. record v { mission = λ u. same u i }
    where
      drops : LineMission → LineMission
      drops n = record n { proposal = None }

      ends : LineMission → LineMission
      ends n = record n { is_ended = true; proposal = None }

      one : (o : Option LineMission) → option_map ends (option_map drops o) ≡ option_map ends o
      one None = refl
      one (Some n) = refl

      same : (u : ℕ) → put (put v.mission t (option_map drops (v.mission t))) t
          (option_map ends (put v.mission t (option_map drops (v.mission t)) t)) u
          ≡ put v.mission t (option_map ends (v.mission t)) u
      same u = put_over t (option_map ends (put v.mission t (option_map drops (v.mission t)) t))
          (option_map drops (v.mission t)) v.mission u
          ∙ ap (λ (o : Option LineMission). put v.mission t o u)
          (ap (option_map ends) (put_there v.mission t (option_map drops (v.mission t))) ∙ one (v.mission t))

-- ## The acts of the centre

module _ (line : Line) (ok : IsLine line) (w : Flow) (sound : IsFlowSound line w) (v : LineState)
    (sees : Shows line w v) (c t : ℕ) (to : is_centre line c ≡ true) (m : Mission)
    (at : (w.at c).mission t ≡ Some m) where
  abbrev k : Centre
  k = w.at c

  is : IsMissionAt line c k m
  is = (sound.centres c to).mission t m at

  -- the state that is shown after it, except for the request, which the end of mission drops
  pub record StoodSo (is_still : Bool) (o : Option Place) (q : Reply) : Type 0 where
    pub tells : said_by q ≡ record { sayings = []; words = standing_words line t c is_still o v }
    pub mid : LineState
    pub mid_is : ended t mid ≡ ended t (stood line t c is_still o v)
    pub shows : Shows line (replied w c q) mid
    pub left : Mission
    pub left_is : q.state.mission t ≡ Some left
    pub shown_is : mid.mission t ≡ Some (seen c left)

  rests_so : (is_still : Bool) (o : Option Place) → standing_words line t c is_still o v ≡ []
      → stood line t c is_still o v ≡ v → StoodSo is_still o (rest k)
  rests_so is_still o silent same = record {
    tells = ap (λ ws. record { sayings = []; words = ws }) (sym silent);
    mid = v;
    mid_is = ap (ended t) (sym same);
    shows = rest_shown line ok w sound v sees c t to m at;
    left = m;
    left_is = at;
    shown_is = sees.mission t c m at;
  }

  module _ (place : Place) where
    abbrev is_before : ℕ → Bool
    is_before s = nat_lt (10 * start line s) place.front

    most : IsLongest is_before m.hand.first m.hand.count (reached line place m)
    most = longest_is is_before m.hand.first m.hand.count

    given_so : (s : ℕ) → is_given_to t (v.mark s) ≡ within m.hand s
    given_so s = given_is line w sound v sees c t to m at s

    rises : (s e : ℕ) → within m.hand s ≡ true → within m.hand e ≡ true → s ≤ e → start line s ≤ start line e
    rises s e one two le = starts_rise line m.place.track s e (is.hand.on_track s one) (is.hand.on_track e two) le

    -- a section of the hand starts before the front if and only if it is one of the first that do
    before_is : (s : ℕ) → within m.hand s ≡ true → s < m.hand.first + reached line place m → is_before s ≡ true
    before_is s has low =
        most.each s (within_from (record { first = m.hand.first; count = reached line place m }) s
        (within_true m.hand s has).0 low)

    not_before : (s : ℕ) → within m.hand s ≡ true → m.hand.first + reached line place m ≤ s → is_before s ≡ false
    not_before s has high =
        let ends = within_true m.hand s has in
        let next : ℕ = m.hand.first + reached line place m in
        let next_in : within m.hand next ≡ true = within_from m.hand next (omega arith) (omega (arith, ends.1, high)) in
        let far = ltb-false (10 * start line next) place.front (most.ends (omega (arith, ends.1, high))) in
        let rise = rises next s next_in has high in
        le-ltb (10 * start line s) place.front (omega (arith, far, rise))

    ahead_if_not : (s : ℕ) (b : Bool) → is_before s ≡ b → nat_le place.front (10 * start line s) ≡ not b
    ahead_if_not s true before = let far = ltb-true (10 * start line s) place.front before in
        lt-leb place.front (10 * start line s) (omega (arith, far))
    ahead_if_not s false not_so = let near = ltb-false (10 * start line s) place.front not_so in
        le-leb place.front (10 * start line s) (omega (arith, near))

    -- no section is reached
    none_so : reached line place m ≡ 0 → StoodSo true (Some place) (rest k)
    none_so zero_is =
        rests_so true (Some place) (ap (λ b. if b then release_words line c (is_ahead_of line v t place) v else [])
        none) (ap (λ b. if b then release line c t (is_ahead_of line v t place) v else v) none)
      where
        by_hand : (s : ℕ) (b : Bool) → within m.hand s ≡ b → (b && is_before s) ≡ false
        by_hand s true has = not_before s has (let ends = within_true m.hand s has in omega (arith, ends.0, zero_is))
        by_hand s false out = refl

        none : has_reached line v t place ≡ false
        none = any-range_none (λ s. is_given_to t (v.mark s) && is_before s) 0 (section_count line)
            (λ s low high. ap (λ b. b && is_before s) (given_so s) ∙ by_hand s (within m.hand s) refl)

    -- all sections are reached
    all_so : reached line place m ≡ m.hand.count → StoodSo true (Some place) (rest k)
    all_so all = rests_so true (Some place) (by_reach_words (has_reached line v t place))
        (by_reach (has_reached line v t place))
      where
        by_hand : (s : ℕ) (b : Bool) → within m.hand s ≡ b → (b && nat_le place.front (10 * start line s)) ≡ false
        by_hand s true has =
            ahead_if_not s true (before_is s has (let ends = within_true m.hand s has in omega (arith, ends.1, all)))
        by_hand s false out = refl

        none : (s : ℕ) → is_ahead_of line v t place s ≡ false
        none s = ap (λ b. b && nat_le place.front (10 * start line s)) (given_so s) ∙ by_hand s (within m.hand s) refl

        by_reach : (b : Bool) → (if b then release line c t (is_ahead_of line v t place) v else v) ≡ v
        by_reach true = release_none line t c v (is_ahead_of line v t place) none
        by_reach false = refl

        by_reach_words : (b : Bool) → (if b then release_words line c (is_ahead_of line v t place) v else []) ≡ []
        by_reach_words true = told_none line t c v (is_ahead_of line v t place) none
        by_reach_words false = refl

    -- some sections are ahead
    part_so : reached line place m ≢ 0 → reached line place m < m.hand.count
        → StoodSo true (Some place) (cut line c t (m.hand.first + reached line place m - 1) m k)
    part_so some few = record {
      tells = done.tells ∙ ap (λ ws. record { sayings = []; words = ws })
          (ap (λ (f : ℕ → Bool). release_words line c f v) same
          ∙ sym (ap (λ b. if b then release_words line c (is_ahead_of line v t place) v else []) has_it));
      mid = release line c t (is_cut_of v t last_kept) (without_ask t v);
      mid_is = ended_unasked line t c (release line c t (is_cut_of v t last_kept) v)
          ∙ ap (λ (f : ℕ → Bool). ended t (release line c t f v)) same
          ∙ sym (ap (λ b. ended t (if b then release line c t (is_ahead_of line v t place) v else v)) has_it);
      shows = done.shows;
      left = done.left;
      left_is = done.left_is;
      shown_is = done.shown_is;
    }
      where
        last_kept : ℕ
        last_kept = m.hand.first + reached line place m - 1

        done : PartSo line ok w sound v sees c t to last_kept m m.proposal at (cut line c t last_kept m k)
        done = cuts_part line ok w sound v sees c t to last_kept m m.proposal at (omega (arith, some, few))

        by_hand : (s : ℕ) (b : Bool) → within m.hand s ≡ b
            → (b && nat_lt last_kept s) ≡ (b && nat_le place.front (10 * start line s))
        by_hand s true has = ⊎_elim
            (λ (low : s < m.hand.first + reached line place m). le-ltb last_kept s (omega (arith, low, some))
            ∙ sym (ahead_if_not s true (before_is s has low)))
            (λ (high : m.hand.first + reached line place m ≤ s). lt-ltb last_kept s (omega (arith, high, some))
            ∙ sym (ahead_if_not s false (not_before s has high)))
            (cases_lt s (m.hand.first + reached line place m))
        by_hand s false out = refl

        same : is_cut_of v t last_kept ≡ is_ahead_of line v t place
        same = λ i s. (ap (λ b. b && nat_lt last_kept s) (given_so s) ∙ by_hand s (within m.hand s) refl
            ∙ sym (ap (λ b. b && nat_le place.front (10 * start line s)) (given_so s))) i

        first_in : within m.hand m.hand.first ≡ true
        first_in = within_from m.hand m.hand.first (omega arith) (omega (arith, few))

        has_it : has_reached line v t place ≡ true
        has_it = any-range (λ s. is_given_to t (v.mark s) && is_before s) 0 (section_count line) m.hand.first
            (omega arith) (let on = hand_on line w sound v sees c t to m at m.hand.first first_in in omega (arith, on))
            (and_from (is_given_to t (v.mark m.hand.first)) (is_before m.hand.first) (given_so m.hand.first ∙ first_in)
            (before_is m.hand.first first_in (omega (arith, some))))

  pub stands_so : (position : Position)
      → StoodSo (position.v_train == 0) (place_on line m.place.track position) (stand_still line c t position m k)
  stands_so position = by_speed (position.v_train == 0) (place_on line m.place.track position)
    where
      by_reach : (place : Place) (b : Bool)
          → ((reached line place m == 0) || (reached line place m == m.hand.count)) ≡ b
          → StoodSo true (Some place) ((if b then rest else cut line c t (m.hand.first + reached line place m - 1) m) k)
      by_reach place true is_so = ⊎_elim
          (λ (none : (reached line place m == 0) ≡ true). none_so place (eqb-true (reached line place m) 0 none))
          (λ (all : (reached line place m == m.hand.count) ≡ true).
          all_so place (eqb-true (reached line place m) m.hand.count all))
          (or_cases (reached line place m == 0) (reached line place m == m.hand.count) is_so)
      by_reach place false part =
          let both = or_parts (reached line place m == 0) (reached line place m == m.hand.count) part in
          let other = eqb-false (reached line place m) m.hand.count both.1 in
          let few = reached_few line place m in
          part_so place (eqb-false (reached line place m) 0 both.0) (omega (arith, few, other))

      by_speed : (b : Bool) (o : Option Place)
          → StoodSo b o ((if b then option_map_or (cut_ahead line c t m) o rest else rest) k)
      by_speed true (Some place) =
          by_reach place ((reached line place m == 0) || (reached line place m == m.hand.count)) refl
      by_speed true None = rests_so true None refl refl
      by_speed false (Some place) = rests_so false (Some place) refl refl
      by_speed false None = rests_so false None refl refl

  pub stand_keeps : (position : Position) → IsFlowSound line (replied w c (stand_still line c t position m k))
  stand_keeps position = rests_or_cuts (λ act. IsFlowSound line (replied w c (act k))) line c t position m
      (act_sound line ok c w sound to (rest k) (rest_sound line c k (sound.centres c to))
      (λ y counts ready. fair_rest line c y k) (goes_rest k))
      (λ n some few. cut_keeps line ok w sound v sees c t to (m.hand.first + n - 1) m m.proposal at)
