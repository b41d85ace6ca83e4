-- The ranges of missions: as they begin, grow, shrink and arrive from another centre.
use Rattle.std.proofs.Common.{⊎_elim, ◌&&◌, ◌+◌, ◌-◌, ◌==◌, ◌||◌, ◌∙◌, ◌≡◌, ◌≤◌, ap, arith, Bool, eqb-true, false}
use Rattle.std.proofs.Common.{if◌then◌else◌, inl, inr, None, not, refl, Some, sym, true, ℕ}
use Rattle.std.proofs.lemmas.Bool.{and_parts, eqb-false, or_cases}
use Rattle.law_invariants.proofs.RangesLemmas.Basics.{of_some, on_below, run_range}
use Rattle.law_invariants.specs.Ranges.Ranges.{HasMissionRanges, HasStartRanges}
use Rattle.rbc_spec.proofs.Runs.{joined_count, joined_is, longest_each, longest_few, within_joined, within_true}
use Rattle.rbc_spec.specs.Acts.{begun}
use Rattle.rbc_spec.specs.Centre.{Centre, is_free, Mission}
use Rattle.rbc_spec.specs.Frame.{HasPlaceRange, HasRunRange, IsHandoverNumber, yielded_place}
use Rattle.rbc_spec.specs.Line.{end, is_linked, IsLine, Line}
use Rattle.rbc_spec.specs.Links.{is_wanted}
use Rattle.rbc_spec.specs.Place.{has_room, is_cleared, Place}
use Rattle.rbc_spec.specs.Rules.{cleared, extended_by, extension, may_follow}
use Rattle.rbc_spec.specs.SectionRuns.{is_empty, joined, most_in_hand, next_after, no_run, part_before, part_from}
use Rattle.rbc_spec.specs.SectionRuns.{SectionRun, within}
use Rattle.rbc_spec.specs.Sections.{is_on}

module _ (line : Line) (ok : IsLine line) (c : ℕ) where
  abbrev Fine : Mission → Type 0
  Fine m = HasMissionRanges line c m

  pub begun_range : (place : Place) → HasStartRanges line place → Fine (begun line place)
  begun_range place is =
      record { place = is.place; hand = is.hand; pool = omega arith; follows = inl refl; handing = λ h at. cc }

  pub come_range : (m : Mission) → HasPlaceRange (yielded_place m.place) → HasRunRange 1 most_in_hand m.hand
      → Fine (record m { pool = no_run; handing = None })
  come_range m placed hand =
      record { place = placed; hand = hand; pool = omega arith; follows = inl refl; handing = λ h at. cc }

  pub moved_range : (m : Mission) (place : Place) → HasPlaceRange (yielded_place place) → Fine m
      → Fine (record m { place = place })
  moved_range m place placed is =
      record { place = placed; hand = is.hand; pool = is.pool; follows = is.follows; handing = is.handing }

  pub handed_range : (m : Mission) (number d : ℕ) → IsHandoverNumber number → is_linked line c d ≡ true → Fine m
      → Fine (record m { handing = Some (record { number = number; to = d }) })
  handed_range m number d counted linked is = record {
    place = is.place;
    hand = is.hand;
    pool = is.pool;
    follows = is.follows;
    handing = of_some (λ h. IsHandoverNumber h.number × (is_linked line c h.to ≡ true))
        (record { number = number; to = d }) (counted, linked);
  }

  pub unhanded_range : (m : Mission) → Fine m → Fine (record m { handing = None })
  unhanded_range m is =
      record { place = is.place; hand = is.hand; pool = is.pool; follows = is.follows; handing = λ h at. cc }

  -- ## Pools

  pub unpooled_range : (m : Mission) → Fine m → Fine (record m { pool = no_run })
  unpooled_range m is =
      record { place = is.place; hand = is.hand; pool = omega arith; follows = inl refl; handing = is.handing }

  -- a shorter pool follows the hand too
  pub shorter_range : (m : Mission) (s : ℕ) → Fine m → Fine (record m { pool = part_before s m.pool })
  shorter_range m s is = record {
    place = is.place;
    hand = is.hand;
    pool = let few = is.pool in omega (arith, few);
    follows = ⊎_elim (λ (none : m.pool.count ≡ 0). inl (omega (arith, none)))
        (λ (after : m.pool.first ≡ next_after m.hand). inr after) is.follows;
    handing = is.handing;
  }

  pub pooled_range : (m : Mission) (r : SectionRun) → r.count ≤ 31 → is_wanted line r m ≡ true → Fine m
      → Fine (record m { pool = r })
  pooled_range m r few wanted is = record {
    place = is.place;
    hand = is.hand;
    pool = few;
    follows =
        inr (eqb-true r.first (next_after m.hand)
        (and_parts (r.first == next_after m.hand) (is_on line m.place.track r.first)
        (and_parts _ (not m.is_ended && is_empty m.pool) wanted).0).0);
    handing = is.handing;
  }

  -- ## Hands

  -- the hand after the cleared sections
  pub cleared_range : (m : Mission) (place : Place) → HasPlaceRange (yielded_place place)
      → ((cleared line place m).count == m.hand.count) ≡ false → Fine m
      → Fine (record m { place = place; hand = part_from (next_after (cleared line place m)) m.hand })
  cleared_range m place placed other is =
      let n : ℕ = (cleared line place m).count in
      let few = longest_few (is_cleared line place) m.hand.first m.hand.count in
      let some = eqb-false n m.hand.count other in
      let low = is.hand.count.1 in
      let last = is.hand.last in
      record {
        place = placed;
        hand = record {
          first = omega (arith, few, some, last);
          count = (omega (arith, few, some), omega (arith, low));
          last = omega (arith, few, some, last);
        };
        pool = is.pool;
        follows = ⊎_elim (λ (none : m.pool.count ≡ 0). inl none)
            (λ (after : m.pool.first ≡ next_after m.hand). inr (omega (arith, few, after))) is.follows;
        handing = is.handing;
      }

  -- the hand before a section
  pub cut_range : (m : Mission) (s : ℕ) → ((part_from s m.hand).count == m.hand.count) ≡ false → Fine m
      → Fine (record m { hand = part_before s m.hand; pool = no_run })
  cut_range m s other is =
      let some = eqb-false (part_from s m.hand).count m.hand.count other in
      let low = is.hand.count.1 in
      let last = is.hand.last in
      record {
        place = is.place;
        hand = record {
          first = is.hand.first;
          count = (omega (arith, some), omega (arith, low));
          last = omega (arith, last);
        };
        pool = omega arith;
        follows = inl refl;
        handing = is.handing;
      }

  -- the sections of an extension are free here, or were in the pool
  module _ (k : Centre) (m : Mission) (fine : Fine m) where
    abbrev more : SectionRun
    more = extension line c k m

    more_few : more.count ≤ most_in_hand - m.hand.count
    more_few = longest_few (may_follow line c k m) (next_after m.hand) (most_in_hand - m.hand.count)

    follows_on : (s : ℕ) → within more s ≡ true → is_on line m.place.track s ≡ true
    follows_on s is =
        let ends = within_true more s is in
        let may = longest_each (may_follow line c k m) (next_after m.hand)
        (most_in_hand - m.hand.count) s ends.0 ends.1 in
        (and_parts (is_on line m.place.track s) (is_free line c k s || within m.pool s)
        (and_parts _ (has_room line m.place (end line s)) may).0).0

    longer : HasRunRange 1 most_in_hand (joined m.hand more)
    longer = run_range 1 most_in_hand (joined m.hand more) (omega (arith, counts, some))
        (omega (arith, counts, more_few, few)) (omega (arith, counts, some))
        (λ s is. ⊎_elim
        (λ (old : within m.hand s ≡ true). let ends = within_true m.hand s old in let last = fine.hand.last in
        omega (arith, ends.1, last))
        (λ (added : within more s ≡ true). on_below line ok m.place.track s (follows_on s added))
        (or_cases (within m.hand s) (within more s) (sym (within_joined m.hand more s refl) ∙ is)))
      where
        counts : (joined m.hand more).count ≡ m.hand.count + more.count
        counts = joined_count m.hand more

        some : 1 ≤ m.hand.count
        some = fine.hand.count.0

        few : m.hand.count ≤ 32
        few = fine.hand.count.1

    pub extended_range : Fine (extended_by more m)
    extended_range = by_pool (is_empty m.pool) refl
      where
        by_pool : (b : Bool) → is_empty m.pool ≡ b
            → Fine (record m
            { hand = joined m.hand more; pool = if b then m.pool else part_from (next_after more) m.pool })
        by_pool true none =
            record {
              place = fine.place;
              hand = longer;
              pool = fine.pool;
              follows = inl (eqb-true m.pool.count 0 none);
              handing = fine.handing;
            }
        by_pool false some = record {
          place = fine.place;
          hand = longer;
          pool = let few = fine.pool in omega (arith, few);
          follows = ⊎_elim
              (λ (none : m.pool.count ≡ 0). inl (omega (arith, none)))
              (λ (after : m.pool.first ≡ next_after m.hand).
              inr (let e = ap next_after (joined_is m.hand more.count fine.hand.count.0) in
              omega (arith, after, e)))
              fine.follows;
          handing = fine.handing;
        }
