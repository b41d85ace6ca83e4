-- A granted request: the hand is extended as far as it may go, by open sections of this centre and by those of the
-- pool.
use Rattle.std.proofs.Common.{[], ⊎_elim, ◌&&◌, ◌+◌, ◌-◌, ◌<◌, ◌==◌, ◌||◌, ◌∙◌, ◌∷◌, ◌≡◌, ◌≢◌, ◌≤◌, ◌⊎◌, ap, arith}
use Rattle.std.proofs.Common.{Bool, false, if◌then◌else◌, inl, inr, leb-true, length, ltb-true, not, Option, refl, Some}
use Rattle.std.proofs.Common.{subst, suc, sym, true, zero, ℕ}
use Rattle.std.proofs.lemmas.Bool.{and_from, cases_eq, cases_lt, or_cases}
use Rattle.std.specs.Option.{option_map_or}
use Rattle.law_base.proofs.CountingLemmas.Places.{held_le_placed, two_held_le_placed}
use Rattle.law_base.proofs.CountingLemmas.Sums.{one_if_true}
use Rattle.law_base.proofs.RulesLemmas.Places.{placed_on}
use Rattle.law_base.specs.Counting.Network.{acted}
use Rattle.law_base.specs.Counting.Resource.{placed}
use Rattle.law_base.specs.Counting.Sums.{one_if}
use Rattle.law_invariants.proofs.HandoverLemmas.Moves.{goes_extend}
use Rattle.law_invariants.proofs.NoCopyLemmas.Borders.{fair_extend}
use Rattle.law_invariants.proofs.NoCopyLemmas.Tally.{mission_of}
use Rattle.law_invariants.proofs.SoundLemmas.Held.{reported}
use Rattle.law_invariants.proofs.SoundLemmas.Requests.{extend_sound}
use Rattle.law_invariants.specs.Flow.Counts.{pool_has, tokens, wait_has}
use Rattle.law_invariants.specs.Flow.Flow.{centre_count, Flow}
use Rattle.law_invariants.specs.Flow.Keeping.{nothing_came}
use Rattle.law_invariants.specs.Flow.Leads.{replied, said_by}
use Rattle.law_invariants.specs.Flow.Shows.{is_in_hand, shown, Shows}
use Rattle.law_invariants.specs.Flow.Sound.{IsFlowSound, IsMissionAt}
use Rattle.law_refinement.proofs.AbstractionLemmas.Hands.{one_token}
use Rattle.law_refinement.proofs.AbstractionLemmas.Marks.{hand_at_centre, in_no_hand, kept_mark_of}
use Rattle.law_refinement.proofs.AbstractionLemmas.Shows.{by_itself, token_used}
use Rattle.law_refinement.proofs.MissionsLemmas.Extending as extending
use Rattle.law_refinement.proofs.MissionsLemmas.Heard.{act_sound}
use Rattle.law_refinement.proofs.MissionsLemmas.Reports.{track_is}
use Rattle.law_refinement.specs.Abstraction.Acts.{IsAct}
use Rattle.law_refinement.specs.Missions.Parts.{Answers, extend, own_request}
use Rattle.rbc_spec.proofs.Lists.{any-range_none, itself}
use Rattle.rbc_spec.proofs.Places.{section_on}
use Rattle.rbc_spec.proofs.Runs.{all_within, joined_is, within_from}
use Rattle.rbc_spec.specs.Acts.{◌>>◌, rest}
use Rattle.rbc_spec.specs.Centre as centre
use Rattle.rbc_spec.specs.Centre.{Centre, Entry, is_free, is_open, Mission}
use Rattle.rbc_spec.specs.Line.{end, is_centre, is_home, IsLine, Line, Section}
use Rattle.rbc_spec.specs.LineCentre as line_centre
use Rattle.rbc_spec.specs.LineCentre.{is_kept_for, is_mark_open, is_waiting, is_waiting_at, LineState, saying_of}
use Rattle.rbc_spec.specs.Maps.{has}
use Rattle.rbc_spec.specs.Message.{Authority, Request, TrainMessage}
use Rattle.rbc_spec.specs.OwnSteps.{Ends, Extends, full, may_be_given, not_free, off_track, too_far}
use Rattle.rbc_spec.specs.Place.{farthest, group_start, has_room, Place, place_on, Position}
use Rattle.rbc_spec.specs.Rules.{authority, extended_by, extension, may_follow}
use Rattle.rbc_spec.specs.SectionRuns.{IsLongest}
use Rattle.rbc_spec.specs.SectionRuns.{most_in_hand, next_after, SectionRun, within}
use Rattle.rbc_spec.specs.Sections.{is_on}

-- a section is shown as open if its home has it open
shown_open : (e : Entry) (given : ℕ → Bool) → is_mark_open (shown e given) ≡ is_open e
shown_open centre.Shut given = refl
shown_open centre.Open given = refl
shown_open (centre.Taken u) given = by_given (given u)
  where
    by_given : (b : Bool) → is_mark_open (if b then line_centre.Given u else line_centre.Kept u) ≡ false
    by_given true = refl
    by_given false = refl
shown_open (centre.Out u) given = by_given (given u)
  where
    by_given : (b : Bool) → is_mark_open (if b then line_centre.Given u else line_centre.Kept u) ≡ false
    by_given true = refl
    by_given false = refl

module _ (line : Line) (ok : IsLine line) (w : Flow) (sound : IsFlowSound line w) (v : LineState)
    (sees : Shows line w v) (c : ℕ) (to : is_centre line c ≡ true) (t_train t : ℕ) (position : Position)
    (m : Mission) (at : (w.at c).mission t ≡ Some m) (place : Place)
    (on : place_on line m.place.track position ≡ Some place)
    (near : has_room line place (end line (next_after m.hand - 1)) ≡ true) where
  abbrev message : TrainMessage
  message = record { t_train = t_train; nid_engine = t; body = Request position }

  abbrev k : Centre
  k = w.at c

  is : IsMissionAt line c k m
  is = (sound.centres c to).mission t m at

  abbrev here : Mission
  here = record m { place = place }

  abbrev more : SectionRun
  more = extension line c k here

  abbrev longer : Mission
  longer = extended_by more here

  abbrev after : LineState
  after = extending.after line w sound v sees c t to m at place

  most : IsLongest (may_follow line c k here) (next_after m.hand) (most_in_hand - m.hand.count) more.count
  most = extending.most line w sound v sees c t to m at place

  abbrev Follows : ℕ → Type 0
  Follows s = extending.Follows line w sound v sees c t to m at place s

  follows : (s : ℕ) → within more s ≡ true → Follows s
  follows = extending.follows line w sound v sees c t to m at place

  token_here : (s : ℕ) → within m.pool s ≡ true → one_if (pool_has (k.mission t) s) ≡ 1
  token_here = extending.token_here line w sound v sees c t to m at place

  -- ## How far the hand is extended

  -- an act that changes nothing, so that the centre's amounts are counted
  act : IsAct line w c nothing_came k (λ d. []) (acted w c k (λ d. []))
  act = by_itself line w c k (λ d. []) sound.counted to

  or_right : (a b : Bool) → b ≡ true → (a || b) ≡ true
  or_right true b is_so = refl
  or_right false b is_so = is_so

  -- a section that may be given: it is open at this centre, or kept for the train without a start that waits for it
  open_so : (s : ℕ) → (is_home line c s && is_mark_open (v.mark s)) ≡ is_free line c k s
  open_so s = by_home (is_home line c s) refl
    where
      by_home : (b : Bool) → is_home line c s ≡ b → (b && is_mark_open (v.mark s)) ≡ (b && is_open (k.book s))
      by_home true home = ap is_mark_open (sees.mark s c home) ∙ shown_open (k.book s) (is_in_hand line w s)
      by_home false away = refl

  kept_so : (s : ℕ) → is_on line place.track s ≡ true → within m.pool s ≡ true → v.mark s ≡ line_centre.Kept t
  kept_so s on_track lent =
      let p = section_on line place.track s on_track in
      let home : is_home line (p.0).home s ≡ true = ap (has (λ (x : Section). x.home == (p.0).home)) p.1.at
      ∙ itself (p.0).home in
      kept_mark_of line w v t sound sees s (p.0).home home
      (token_used line w c nothing_came k (λ e. []) (acted w c k (λ e. [])) s (p.0).home act home t sound
      (omega (arith, token_here s lent)))
      (in_no_hand line w c nothing_came k (λ e. []) (acted w c k (λ e. [])) t s sound act
      (omega (arith, token_here s lent)))

  not_waiting : (s : ℕ) → within m.pool s ≡ true → is_waiting line v t s ≡ false
  not_waiting s lent = any-range_none (λ d. is_waiting_at line v t d s) 0 (length line.centres)
      (λ d low high. by_wait d high (is_waiting_at line v t d s) refl)
    where
      few : placed (tokens line t s) (centre_count line) w ≤ 1
      few = omega (arith, (sound.tokens t s).law, one_token line t s (centre_count line) w)

      -- a centre with a start that waits for it has a token of it
      token_there : (d : ℕ) → is_waiting_at line v t d s ≡ true → one_if (wait_has line ((w.at d).wait t) s) ≡ 1
      token_there d waits = one_if_true _ (ap (λ (o : Option Place). wait_has line o s) (sym (sees.wait t d)) ∙ waits)

      by_wait : (d : ℕ) → d < 0 + length line.centres → (b : Bool) → is_waiting_at line v t d s ≡ b → b ≡ false
      by_wait d high false none = refl
      by_wait d high true waits = absurd (⊎_elim
          (λ (same : c ≡ d). let no : ⊥ = omega (arith, few, two_at_one same) in no)
          (λ (apart : c ≢ d). let no : ⊥ = omega (
            arith,
            few,
            two_held_le_placed (tokens line t s) (centre_count line) w c d
                (ltb-true c (centre_count line) to) (omega (arith, high)) apart,
            token_here s lent,
            token_there d waits,
          ) in no)
          (cases_eq c d))
        where
          two_at_one : c ≡ d → 2 ≤ placed (tokens line t s) (centre_count line) w
          two_at_one same = omega (
            arith,
            held_le_placed (tokens line t s) (centre_count line) w c (ltb-true c (centre_count line) to),
            token_here s lent,
            ap (λ x. one_if (wait_has line ((w.at x).wait t) s)) same,
            token_there d waits,
          )

  may_be : (s : ℕ) → Follows s → may_be_given line v c t s ≡ true
  may_be s f = ⊎_elim
      (λ (free : is_free line c k s ≡ true). ap (λ b. b || (is_kept_for t (v.mark s) && not (is_waiting line v t s)))
      (open_so s ∙ free))
      (λ (lent : within m.pool s ≡ true). or_right (is_home line c s && is_mark_open (v.mark s))
      (is_kept_for t (v.mark s) && not (is_waiting line v t s))
      (and_from (is_kept_for t (v.mark s)) (not (is_waiting line v t s)) (ap (is_kept_for t) (kept_so s f.on_track lent)
      ∙ itself t) (ap not (not_waiting s lent))))
      (or_cases (is_free line c k s) (within m.pool s) f.free)

  abbrev grown : SectionRun
  grown = record { first = m.hand.first; count = m.hand.count + more.count }

  ends_at : (s : ℕ) → next_after grown ≡ s → may_follow line c k here s ≡ false → Ends line v c place grown
  ends_at s same fails = by_parts (is_on line place.track s) (is_free line c k s)
      (has_room line place (end line s)) refl refl refl
    where
      all_pass : (a b d e : Bool) → a ≡ true → b ≡ true → e ≡ true → ((a && (b || d)) && e) ≡ true
      all_pass a b d e f g h = rw f (rw g (rw h refl))

      by_parts : (on_track free in_reach : Bool) → is_on line place.track s ≡ on_track → is_free line c k s ≡ free
          → has_room line place (end line s) ≡ in_reach → Ends line v c place grown
      by_parts false b d f g h = off_track (ap (is_on line place.track) same ∙ f)
      by_parts true false d f g h = not_free (open_so (next_after grown) ∙ ap (is_free line c k) same ∙ g)
      by_parts true true false f g h = too_far (ap (λ e. has_room line place (end line e)) same ∙ h)
      by_parts true true true f g h =
          absurd (let wrong : true
          ≡ false =
          sym (all_pass (is_on line place.track s) (is_free line c k s) (within m.pool s)
          (has_room line place (end line s)) f g h) ∙ fails in cc)

  ends : Ends line v c place grown
  ends = by_room (cases_lt more.count (most_in_hand - m.hand.count))
    where
      by_room : (more.count < most_in_hand - m.hand.count) ⊎ (most_in_hand - m.hand.count ≤ more.count)
          → Ends line v c place grown
      by_room (inl less) = ends_at (next_after m.hand + more.count) (let e : m.hand.first + (m.hand.count + more.count)
          ≡ m.hand.first + m.hand.count + more.count = omega arith in e) (most.ends less)
      by_room (inr all) = full (omega (arith, all, most.fits, is.hand.few))

  in_reach : has_room line place (end line (next_after m.hand + more.count - 1)) ≡ true
  in_reach = by_count more.count refl
    where
      by_count : (n : ℕ) → more.count ≡ n → has_room line place (end line (next_after m.hand + more.count - 1)) ≡ true
      by_count zero none = ap (λ e. has_room line place (end line e))
          (let e : next_after m.hand + more.count - 1 ≡ next_after m.hand - 1 = omega (arith, none) in e) ∙ near
      by_count (suc n) some =
          (follows (next_after m.hand + more.count - 1)
          (within_from more (next_after m.hand + more.count - 1) (omega (arith, some)) (omega (arith, some)))).in_reach

  authority_is : authority line longer ≡ end line (next_after m.hand + more.count - 1) - group_start line place
  authority_is = ap (λ (r : SectionRun). end line (next_after r - 1) - group_start line place)
      (joined_is m.hand more.count is.hand.some)
      ∙ ap (λ e. end line (e - 1) - group_start line place) (let e : m.hand.first + (m.hand.count + more.count)
      ≡ m.hand.first + m.hand.count + more.count = omega arith in e)

  extends : Extends line v t c place
      (record {
        sayings = saying_of t c place.group
            (Authority (end line (next_after m.hand + more.count - 1) - group_start line place)) v ∷ [];
        words = [];
      }) after
  extends = record {
    hand = m.hand;
    count = more.count;
    is_hand = hand_at_centre line w v t sound sees c m at;
    each = all_within (λ s. may_be_given line v c t s && is_on line place.track s) more
        (λ s inside. let f = follows s inside in
        and_from (may_be_given line v c t s) (is_on line place.track s) (may_be s f) f.on_track);
    ends = ends;
    room = omega (arith, most.fits, is.hand.few);
    within_reach = leb-true (end line (next_after m.hand + more.count - 1))
        (group_start line place + farthest) in_reach;
    says_it = record { said_is = refl; new_is = refl };
  }

  said_so : said_by (extend line c t here k)
      ≡ record {
        sayings = saying_of t c place.group
            (Authority (end line (next_after m.hand + more.count - 1) - group_start line place)) v ∷ [];
        words = [];
      }
  unfolding ◌>>◌
  said_so =
      (λ i. record {
        sayings = record {
          nid_engine = t;
          message =
              record { t_train = sym (sees.said t c) i + 1; nid_lrbg = place.group; body = Authority (authority_is i) };
        } ∷ [];
        words = [];
      })

  granted_keeps : IsFlowSound line (replied w c (extend line c t here k))
  granted_keeps = let there = placed_on line m.place.track position place on in
      act_sound line ok c w sound to (extend line c t here k)
      (extend_sound line ok c k (sound.centres c to) t m place at there.track_is
      (reported line position place there.extent_is))
      (λ x counts ready. fair_extend line c x counts t here k (ap (mission_of x) at) is.pool_follows)
      (goes_extend line c t here m k at refl)

  replied_so : Shows line (replied w c (extend line c t here k)) after
  unfolding ◌>>◌
  replied_so = extending.shown_so line w sound v sees c t to m at place

  granted_so : Answers line w c message (extend line c t here k) v
  granted_so = record {
    mid = after;
    own = (
      place,
      track_is line ok w sound v sees c t to m at position
          ∙ on,
      subst (λ said. Extends line v t c place said after) (sym said_so) extends,
    );
    shows = replied_so;
    sound = granted_keeps;
  }

  pub request_answers : Answers line w c message (own_request line c t position (w.at c)) v
  request_answers = subst (λ r. Answers line w c message r v)
      (sym (ap (λ (o : Option Mission). option_map_or
      (λ n. option_map_or (λ x. extend line c t (record n { place = x }))
      (place_on line n.place.track position) rest k) o (rest k)) at
      ∙ ap (λ (o : Option Place). option_map_or (λ x. extend line c t (record m { place = x })) o rest k)
      on)) granted_so
