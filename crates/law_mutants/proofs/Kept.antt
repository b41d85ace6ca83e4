-- The rules keep rights, tokens and stamps.
use Rattle.std.proofs.Common.{◌&&◌, ◌*◌, ◌==◌, ◌∙◌, ◌≡◌, ◌≢◌, ◌⊎◌, ap, arith, Bool, eqb-true, false, if◌then◌else◌, inl}
use Rattle.std.proofs.Common.{inr, is_none, le-leb, leb-true, ltb-true, max, nat_le, None, not, Option, refl, Some, sym}
use Rattle.std.proofs.Common.{true, ℕ}
use Rattle.std.proofs.lemmas.Bool.{and_parts}
use Rattle.std.specs.List.{find, range_with_len}
use Rattle.std.specs.Option.{option_map_or}
use Rattle.law_base.proofs.CountingLemmas.Resource.{placed_sound, placed_sound_took}
use Rattle.law_base.proofs.LocalLemmas.Worlds.{is_ordered}
use Rattle.law_base.specs.Counting.Network.{IsCounted, TakesHead, took}
use Rattle.law_base.specs.Counting.Resource.{IsFair, IsWithinCap}
use Rattle.law_invariants.proofs.NoCopyLemmas.Leaving.{fair_yield}
use Rattle.law_invariants.proofs.NoCopyLemmas.Messages.{fair_return_pool}
use Rattle.law_invariants.proofs.NoCopyLemmas.Rights.{rights_counted, rights_tally}
use Rattle.law_invariants.proofs.NoCopyLemmas.Routes.{fair_home, fair_route_asked}
use Rattle.law_invariants.proofs.NoCopyLemmas.Starts.{fair_start_waiting}
use Rattle.law_invariants.proofs.NoCopyLemmas.Steps.{fair_section_unset}
use Rattle.law_invariants.proofs.NoCopyLemmas.Tally.{Fair, fair_or, fair_rest, IsTally, mission_of, Tally}
use Rattle.law_invariants.proofs.NoCopyLemmas.Tokens.{tokens_counted, tokens_tally}
use Rattle.law_invariants.specs.Flow.Counts.{rights, tokens}
use Rattle.law_invariants.specs.Flow.Flow.{centre_count, Flow}
use Rattle.law_invariants.specs.Flow.Leads.{replied}
use Rattle.law_mutants.specs.Rules.{handed_over_by, sent_home_by}
use Rattle.rbc_spec.proofs.Lists.{put_there}
use Rattle.rbc_spec.proofs.Runs.{each_within}
use Rattle.rbc_spec.specs.Acts.{◌>>◌, Act, become, booked, may_propose, propose, propose_if_so, Reply, rest}
use Rattle.rbc_spec.specs.Acts.{return_pool, set_mission, where_so, with_some, yield}
use Rattle.rbc_spec.specs.Centre.{Centre, Expectation, is_free, is_open, is_out_for, Mission, Taken}
use Rattle.rbc_spec.specs.Frame.{Body, RouteReturn}
use Rattle.rbc_spec.specs.Line.{is_centre, is_home, IsLine, Line, section_of_group}
use Rattle.rbc_spec.specs.Links.{cancelled, expect, is_under, may_arrive, may_take, route_asked, route_returned}
use Rattle.rbc_spec.specs.Links.{take_mission}
use Rattle.rbc_spec.specs.Maps.{has, put}
use Rattle.rbc_spec.specs.Message.{is_stale}
use Rattle.rbc_spec.specs.Place.{covered, group_start, Place}
use Rattle.rbc_spec.specs.Rules.{start_waiting}
use Rattle.rbc_spec.specs.SectionRuns.{all_of, SectionRun}
use Rattle.rbc_spec.specs.Sections.{is_on, is_on_track}
use Rattle.rbc_spec.specs.Step.{unset}

-- # The rules keep the counted amounts, in every flow.

module _ (line : Line) (c : ℕ) (y : Tally) (is : IsTally line c y) where
  -- an act that is fair in numbers is a fair act of its centre
  fair_act : (k : Centre) (came : ℕ) (q : Reply) → Fair line c y k came 0 q
      → IsFair y.res (centre_count line) c k came q.state q.frames
  fair_act k came q fair =
      record { law = omega (arith, fair.law, is.held k, is.cap k, is.held q.state, is.cap q.state) }

  by_itself : (w : Flow) (q : Reply) → IsCounted w → is_centre line c ≡ true → Fair line c y (w.at c) 0 0 q
      → IsWithinCap y.res (centre_count line) w → IsWithinCap y.res (centre_count line) (replied w c q)
  by_itself w q counted centre fair within =
      placed_sound y.res (centre_count line) w c q.state q.frames counted (ltb-true c (centre_count line) centre)
      (fair_act (w.at c) 0 q fair) within

  at_head : (w : Flow) (a : ℕ) (f : Body) (q : Reply) → IsCounted w → is_centre line a ≡ true
      → is_centre line c ≡ true → TakesHead w a c f
      → Fair line c y (w.at c) (y.res.inside a c f) 0 q → IsWithinCap y.res (centre_count line) w
      → IsWithinCap y.res (centre_count line) (replied (took w a c) c q)
  at_head w a f q counted from centre takes fair within =
      placed_sound_took y.res (centre_count line) w a c f q.state q.frames counted (ltb-true a (centre_count line) from)
      (ltb-true c (centre_count line) centre) takes
      (fair_act (w.at c) (y.res.inside a c f) q fair) within

-- ## Tokens

module _ (line : Line) (ok : IsLine line) (c t s : ℕ) where
  is : IsTally line c (tokens_tally line c t s)
  is = tokens_counted line (is_ordered line ok) c t s

  pub lent_once : (w : Flow) (d u first most : ℕ) → IsCounted w → is_centre line c ≡ true
      → IsWithinCap (tokens line t s) (centre_count line) w
      → IsWithinCap (tokens line t s) (centre_count line) (replied w c (route_asked line c d u first most (w.at c)))
  lent_once w d u first most counted centre =
      by_itself line c (tokens_tally line c t s) is w (route_asked line c d u first most (w.at c)) counted centre
      (fair_route_asked line c (tokens_tally line c t s) is d u first most (w.at c) (λ so. cc))

  pub home_once : (w : Flow) (a u : ℕ) (r : SectionRun) → IsCounted w → is_centre line a ≡ true
      → is_centre line c ≡ true → TakesHead w a c (RouteReturn u r)
      → IsWithinCap (tokens line t s) (centre_count line) w
      → IsWithinCap (tokens line t s) (centre_count line) (replied (took w a c) c (route_returned line c u r (w.at c)))
  home_once w a u r counted from centre takes =
      at_head line c (tokens_tally line c t s) is w a (RouteReturn u r) (route_returned line c u r (w.at c))
      counted from centre takes
      (fair_home line c (tokens_tally line c t s) is a u r (w.at c) (λ so. cc))

  pub asked_back_once : (w : Flow) (e : ℕ) → IsCounted w → is_centre line c ≡ true
      → IsWithinCap (tokens line t s) (centre_count line) w
      → IsWithinCap (tokens line t s) (centre_count line) (replied w c (unset line c e (w.at c)))
  asked_back_once w e counted centre =
      by_itself line c (tokens_tally line c t s) is w (unset line c e (w.at c)) counted centre
      (fair_section_unset line c (tokens_tally line c t s) is e (w.at c))

  pub returned_once : (w : Flow) (u : ℕ) → IsCounted w → is_centre line c ≡ true
      → IsWithinCap (tokens line t s) (centre_count line) w
      → IsWithinCap (tokens line t s) (centre_count line) (replied w c (sent_home_by (return_pool line c u) u (w.at c)))
  returned_once w u counted centre =
      by_itself line c (tokens_tally line c t s) is w (sent_home_by (return_pool line c u) u (w.at c)) counted centre
      (fair_or line c (tokens_tally line c t s) ((w.at c).mission u) (λ m. return_pool line c u m (w.at c))
      (w.at c) (rest (w.at c))
      (λ m stands. fair_return_pool line c (tokens_tally line c t s) is u m (w.at c) stands (λ so. cc))
      (λ none. fair_rest line c (tokens_tally line c t s) (w.at c)))

-- ## Rights

module _ (line : Line) (c t : ℕ) where
  abbrev y : Tally
  y = rights_tally line c t

  pub yielded_once : (w : Flow) (u : ℕ) → IsCounted w → is_centre line c ≡ true
      → IsWithinCap (rights line t) (centre_count line) w
      → IsWithinCap (rights line t) (centre_count line) (replied w c (handed_over_by (yield line c u) u (w.at c)))
  yielded_once w u counted centre =
      by_itself line c y (rights_counted line c t) w (handed_over_by (yield line c u) u (w.at c)) counted centre
      (fair_or line c y ((w.at c).mission u) (λ m. with_some (λ k. m.handing) (yield line c u m) (w.at c))
      (w.at c) (rest (w.at c))
      (λ m stands. fair_or line c y m.handing (λ h. yield line c u m h (w.at c)) (w.at c) (rest (w.at c))
      (λ h hands. fair_yield line c y (rights_counted line c t) u m h (w.at c) (ap (mission_of y) stands)
      (λ here so. cc) (λ so. cc) (λ so. cc))
      (λ none. fair_rest line c y (w.at c)))
      (λ none. fair_rest line c y (w.at c)))

  pub started_once : (w : Flow) (u : ℕ) (place : Place) → IsCounted w → is_centre line c ≡ true
      → all_of (is_free line c (w.at c)) (covered line place) ≡ true
      → IsWithinCap (rights line t) (centre_count line) w
      → IsWithinCap (rights line t) (centre_count line) (replied w c (start_waiting line u place (w.at c)))
  started_once w u place counted centre free =
      by_itself line c y (rights_counted line c t) w (start_waiting line u place (w.at c)) counted centre
      (fair_start_waiting line c y (rights_counted line c t) u place (w.at c)
      (λ in_place. and_parts (is_home line c y.section) (is_open ((w.at c).book y.section))
      (each_within (is_free line c (w.at c)) (covered line place) free y.section in_place)))

-- # The recorded stamp does not fall when a mission is taken over, and a Cancel under another number ends nothing.

-- ## The recorded stamps

module _ (line : Line) (t : ℕ) where
  proposed : (s : ℕ) (m : Mission) (k : Centre) (b : Bool)
      → (if b then propose line t s m k else rest k).state.heard ≡ k.heard
  unfolding ◌>>◌
  proposed s m k true = refl
  proposed s m k false = refl

  asked : (s : ℕ) (k : Centre) (o : Option Mission)
      → (option_map_or (λ m. where_so (may_propose line t s m) (propose line t s m) k) o (rest k)).state.heard ≡ k.heard
  asked s k None = refl
  asked s k (Some m) = proposed s m k (may_propose line t s m k)

  -- a proposal records no stamp
  found : (k : Centre) (o : Option ℕ) → (option_map_or (λ s. propose_if_so line t s k) o (rest k)).state.heard ≡ k.heard
  found k None = refl
  found k (Some s) = asked s k (k.mission t)

-- a stamp that is not above one of two is not above the later
later_stale : (heard stamp : ℕ) (o : Option ℕ) → (is_stale stamp o ≡ true) ⊎ (is_stale stamp (Some heard) ≡ true)
    → is_stale stamp (Some (option_map_or (max heard) o heard)) ≡ true
later_stale heard stamp None (inl old) = cc
later_stale heard stamp None (inr old) = old
later_stale heard stamp (Some last) (inl old) = let low = leb-true stamp last old in
    le-leb stamp (max heard last) (omega (arith, low))
later_stale heard stamp (Some last) (inr old) = let low = leb-true stamp heard old in
    le-leb stamp (max heard last) (omega (arith, low))

module _ (line : Line) (c d t heard : ℕ) (m : Mission) (k : Centre) where
  abbrev hears : Act
  hears = become (λ j. record j { heard = put j.heard t (Some (option_map_or (max heard) (j.heard t) heard)) })

  last : Centre
  last = (((booked (is_out_for t) (Taken t) m.hand >> set_mission t (Some m)) >> (hears >> expect d t None)) k).state

  kept : last.heard t ≡ Some (option_map_or (max heard) (k.heard t) heard)
  unfolding ◌>>◌ last
  kept = put_there k.heard t (Some (option_map_or (max heard) (k.heard t) heard))

  heard_then : (take_mission line c d t heard m k).state.heard t ≡ last.heard t
  unfolding ◌>>◌ last
  heard_then =
      ap (λ h. h t)
      (found line t last (find (λ s. is_home line c s && last.wish s) (range_with_len m.hand.first m.hand.count)))

  pub stays_stale : (stamp : ℕ) → (is_stale stamp (k.heard t) ≡ true) ⊎ (is_stale stamp (Some heard) ≡ true)
      → is_stale stamp ((take_mission line c d t heard m k).state.heard t) ≡ true
  stays_stale stamp old = ap (is_stale stamp) (heard_then ∙ kept) ∙ later_stale heard stamp (k.heard t) old

-- ## Cancels

not_both : (older number : ℕ) (o : Option Expectation) → older ≢ number
    → has (λ e. (e.number == number) && e.is_taking) o ≡ true → is_under older o ≡ true → ⊥
not_both older number None apart one two = cc
not_both older number (Some e) apart one two =
    apart (sym (eqb-true e.number older two)
    ∙ eqb-true e.number number (and_parts (e.number == number) e.is_taking one).0)

pub still_taken : (line : Line) (c d older number t : ℕ) (place : Place) (hand : SectionRun) (k : Centre)
    → older ≢ number
    → may_take line c k d number t place hand ≡ true
    → may_take line c (cancelled d older t k).state d number t place hand ≡ true
still_taken line c d older number t place hand k apart may = by_number (is_under older (k.expects d t)) refl
  where
    expected : has (λ e. (e.number == number) && e.is_taking) (k.expects d t) ≡ true
    expected =
        (and_parts (has (λ e. (e.number == number) && e.is_taking) (k.expects d t))
        (is_none (k.mission t) && not (k.has_right t))
        (and_parts (has (λ e. (e.number == number) && e.is_taking) (k.expects d t)
        && (is_none (k.mission t) && not (k.has_right t)))
        ((is_on_track line place.track hand && has (is_on line place.track) (section_of_group line place.group))
        && (nat_le (10 * group_start line place) place.front
        && all_of (may_arrive line c k t place.track) hand)) may).0).0

    by_number : (b : Bool) → is_under older (k.expects d t) ≡ b
        → may_take line c (if b then expect d t None k else rest k).state d number t place hand ≡ true
    by_number false other = may
    by_number true same = absurd (not_both older number (k.expects d t) apart expected same)
