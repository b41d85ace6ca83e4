-- A mission that arrives from the handing-over centre.
use Rattle.std.proofs.Common.{[], if◌then◌else◌, ◌&&◌, ◌*◌, ◌+◌, ◌-◌, ◌<◌, ◌==◌, ◌∙◌, ◌≡◌, ◌≤◌, ap, arith, Bool, false}
use Rattle.std.proofs.Common.{inl, inr, is_none, length, List, max, nat_le, None, not, Option, refl, Some, subst, sym}
use Rattle.std.proofs.Common.{true, ℕ}
use Rattle.std.proofs.lemmas.Bool.{cases_lt, cond-true, false≢true}
use Rattle.std.proofs.lemmas.Bool.Decides.{nat_tests}
use Rattle.std.proofs.lemmas.Option.{same_Some, slice_get_past}
use Rattle.std.specs.List.{find, range_with_len}
use Rattle.std.specs.Option.{option_map_or}
use Rattle.rbc_book.specs.Book.{entry_at, is_own, Pages}
use Rattle.rbc_border.specs.Lending.{with_book}
use Rattle.rbc_hand.specs.Hands.{Holding}
use Rattle.rbc_handover.proofs.Expects.{expects_now}
use Rattle.rbc_handover.specs.Expectations.{expected_from, is_taking_under}
use Rattle.rbc_line.specs.SectionRuns.{run_of}
use Rattle.rbc_linkmsg.specs.declared.body.Yielding.{Yielding}
use Rattle.rbc_mission.specs.Passing.{IsBooked}
use Rattle.rbc_mission.specs.Supervisions.{HasRouteForm}
use Rattle.rbc_right.specs.Rights.{is_here, Rights}
use Rattle.rbc_spec.proofs.Lists.{each_of}
use Rattle.rbc_spec.specs.Acts.{◌>>◌, Act, become, booked, propose_if_so, Reply, rest, set_mission, with_some}
use Rattle.rbc_spec.specs.Centre.{beginning, Centre, Expectation, is_out_for, Mission, Taken}
use Rattle.rbc_spec.specs.Frame.{HasRunRange}
use Rattle.rbc_spec.specs.Line.{is_home, Line, Section, section_of_group}
use Rattle.rbc_spec.specs.Links.{expect, may_arrive, may_take, take_mission}
use Rattle.rbc_spec.specs.Maps.{has, put, put_pair}
use Rattle.rbc_spec.specs.Outcome.{Saying}
use Rattle.rbc_spec.specs.Place.{group_start, Place}
use Rattle.rbc_spec.specs.SectionRuns.{all_of, is_empty, no_run, SectionRun, within}
use Rattle.rbc_spec.specs.Sections.{is_on, is_on_track}
use Rattle.rbc_train.proofs.Desk.{asked_is, has_expectations, has_train, same_state}
use Rattle.rbc_train.proofs.Turns.{has_left, in_turn, parts_over}
use Rattle.rbc_train.specs.Arriving.{coming_mission, taken_up}
use Rattle.rbc_train.specs.declared.train.TrainState.{TrainState}
use Rattle.rbc_train.specs.Desk.{HasParts, IsKeptAt, replied, with_parts}
use Rattle.rbc_train.specs.Trains.{asked, HasTrain}

and_three : (a b d e : Bool) → (a && ((b && d) && e)) ≡ (a && (b && (d && e)))
and_three true true d e = refl
and_three true false d e = refl
and_three false b d e = refl

-- ## Facts of a train that may be taken over

both : (a b : Bool) → (a && b) ≡ true → (a ≡ true) × (b ≡ true)
both true true is = (refl, refl)
both true false is = cc
both false b is = cc

pub no_mission_here : (a here : Bool) (o : Option Mission) → (a && (is_none o && not here)) ≡ true → o ≡ None
no_mission_here a here None is = refl
no_mission_here a here (Some m) is = absurd (false≢true (both a false is).1)

-- a run whose sections are all on a track is of the line
pub run_of_line : (line : Line) (track : ℕ) (r : SectionRun) (a b : Bool) → 1 ≤ r.count
    → ((is_on_track line track r && a) && b) ≡ true → r.first + r.count ≤ length line.sections
run_of_line line track r a b some is =
    let on = (both (is_on_track line track r) a (both (is_on_track line track r && a) b is).0).0 in
    let last = r.first + r.count - 1 in
    let here : is_on line track last ≡ true =
    each_of (is_on line track) r.first r.count on last (omega (arith, some)) (omega (arith, some)) in
    elim (cases_lt last (length line.sections)) [
      | inl within ↦ omega (arith, within, some)
      | inr past ↦
          absurd
          (false≢true
          (sym (ap (λ o. has (λ (q : Section). q.track == track) o) (slice_get_past line.sections last past)) ∙ here))
    ]

-- an own section of a run that may arrive is out for the train
pub own_out : (line : Line) (c t track : ℕ) (book : Pages) (r : SectionRun)
    → ((s : ℕ) → is_own book s ≡ is_home line c s)
    → all_of (may_arrive line c (with_book book (beginning line c)) t track) r ≡ true
    → (s : ℕ) → within r s ≡ true → is_own book s ≡ true → is_out_for t (entry_at book s) ≡ true
unfolding within
own_out line c t track book r homes all s here own =
    let low : r.first ≤ s = grind (arith, nat_tests) in
    let high : s < r.first + r.count = grind (arith, nat_tests) in
    let arrives : may_arrive line c (with_book book (beginning line c)) t track s ≡ true =
    each_of (may_arrive line c (with_book book (beginning line c)) t track) r.first r.count all s low high in
    sym (cond-true (is_home line c s) (is_out_for t (entry_at book s)) _ (sym (homes s) ∙ own)) ∙ arrives

module _ (line : Line) (c : ℕ) (k : Centre) (p : TrainState) (book : Pages) (rights : Rights)
    (has_it : HasParts line c k p book rights) (d number : ℕ) (place : Place) (hand : SectionRun) where
  abbrev t : ℕ
  t = p.supervision.engine

  -- whether it may be taken, part by part
  pub
      may_be_taken : ((is_taking_under number (expected_from p.expectations d)
      && (is_none p.supervision.mission && not (is_here rights p.supervision.number)))
      && (((is_on_track line place.track hand && has (is_on line place.track) (section_of_group line place.group))
      && nat_le (10 * group_start line place) place.front) && all_of (may_arrive line c k t place.track) hand))
      ≡ may_take line c k d number t place hand
  may_be_taken =
      and_three (is_taking_under number (expected_from p.expectations d)
      && (is_none p.supervision.mission && not (is_here rights p.supervision.number)))
      (is_on_track line place.track hand && has (is_on line place.track) (section_of_group line place.group))
      (nat_le (10 * group_start line place) place.front) (all_of (may_arrive line c k t place.track) hand)
      ∙ (λ i.
      (is_taking_under number (sym (has_it.has_expects d) i)
      && (is_none (sym has_it.has_mission i) && not (sym has_it.has_right i)))
      && ((is_on_track line place.track hand && has (is_on line place.track) (section_of_group line place.group))
      && (nat_le (10 * group_start line place) place.front && all_of (may_arrive line c k t place.track) hand)))

-- nothing is within no run
nothing_within : (s : ℕ) → within no_run s ≡ false
unfolding within
nothing_within s = grind (arith, nat_tests)

-- ## It is taken

module _ (line : Line) (c : ℕ) (k : Centre) (p : TrainState) (book : Pages) (rights : Rights)
    (has_it : HasParts line c k p book rights) (from : ℕ) (y : Yielding) (place : Place) (hand : Holding)
    (e : List (Option Expectation)) (book' : Pages)
    (books : IsBooked (is_out_for p.supervision.engine) (Taken p.supervision.engine) (run_of y.hand) book book')
    (ends : (d : ℕ) → expected_from e d ≡ put (expected_from p.expectations) from None d) where
  abbrev u : ℕ
  u = p.supervision.engine

  abbrev m : Mission
  m = coming_mission y place

  abbrev mid : TrainState
  mid = taken_up y place hand e p

  abbrev at : Centre
  at = with_parts mid book' rights k

  abbrev coming : Act
  coming = (booked (is_out_for u) (Taken u) m.hand >> set_mission u (Some m))
      >> (become (λ j. record j { heard = put j.heard u (Some (option_map_or (max y.heard) (j.heard u) y.heard)) })
      >> expect from u None)

  comes : coming k ≡ replied (record k {
    book = λ s. if within m.hand s && is_out_for u (k.book s) then Taken u else k.book s;
    mission = put k.mission u (Some m);
    heard = put k.heard u (Some (option_map_or (max y.heard) (k.heard u) y.heard));
    expects = put_pair k.expects from u None;
  }) [] []
  unfolding ◌>>◌
  comes = refl

  expects_are : put_pair k.expects from u None ≡ (λ d. put (k.expects d) u (expected_from e d))
  expects_are =
      ap (λ (r : Reply). r.state.expects)
      (expects_now line u k p.expectations e (has_expectations line c k p book rights has_it) from None ends)

  comes_so : coming k ≡ replied at [] []
  comes_so =
      comes
      ∙ (λ i. replied (record k {
        book = λ s. if within m.hand s && is_out_for u (has_it.has_book s i) then Taken u else has_it.has_book s i;
        mission = put k.mission u (Some m);
        heard = put k.heard u (Some (option_map_or (max y.heard) (has_it.has_heard i) y.heard));
        expects = expects_are i;
      }) [] [])
      ∙ (λ i. replied (record (same_state line c k p book rights has_it i) {
        book = λ s. sym (books.entries s) i;
        wish = λ s. wish_is s i;
        mission = put k.mission u (Some m);
        heard = put k.heard u (Some (option_map_or (max y.heard) p.heard y.heard));
        expects = λ d. put (k.expects d) u (expected_from e d);
      }) [] [])
    where
      wish_is : (s : ℕ) → k.wish s ≡ at.wish s
      wish_is s = has_it.has_wish s ∙ sym (books.wish s)

  module _ (range : HasRunRange 1 32 (run_of y.hand)) (same_count : length e ≡ length p.expectations) where
    form : HasRouteForm m
    form =
        record {
          some = range.count.0;
          most = range.count.1;
          numbers = let last = range.last in omega (arith, last);
          few = omega arith;
        }

    kept : IsKeptAt line c mid
    kept = record {
      one_train = has_it.kept.one_train;
      form = λ n is. subst HasRouteForm (same_Some m n is) form;
      pool = record {
        follows =
            λ n is some.
            absurd (false≢true (sym some ∙ ap (λ (x : Mission). is_empty x.pool) (sym (same_Some m n is))));
        away =
            λ n is s here.
            absurd
            (false≢true (sym (nothing_within s) ∙ ap (λ (x : Mission). within x.pool s) (same_Some m n is) ∙ here));
      };
      covers = has_it.kept.covers;
      expected = same_count ∙ has_it.kept.expected;
    }

    has_mid : HasParts line c at mid book' rights
    has_mid = has_left line c k p mid book book' rights rights has_it books.homes kept

    abbrev wishes : ℕ → Bool
    wishes s = is_home line c s && at.wish s

    taken_then : (o : Option ℕ) (r : Reply) → find wishes (range_with_len m.hand.first m.hand.count) ≡ o
        → option_map_or (λ s. propose_if_so line u s at) o (rest at) ≡ r
        → take_mission line c from u y.heard m k ≡ record {
          state = r.state;
          frames = λ d. r.frames d;
          sayings = r.sayings;
          words = r.words;
        }
    taken_then o r found next =
        in_turn coming
        (with_some (λ j. find (λ s. is_home line c s && j.wish s) (range_with_len m.hand.first m.hand.count))
        (propose_if_so line u)) k (replied at [] []) r comes_so
        (ap (λ x. option_map_or (λ s. propose_if_so line u s at) x (rest at)) found ∙ next)

    -- none of its own sections is wished back
    pub unwished : find wishes (range_with_len m.hand.first m.hand.count) ≡ None
        → take_mission line c from u y.heard m k ≡ replied at [] []
    unwished none = taken_then None (rest at) none refl

    -- this is the first own section that is wished back
    pub wished_first : (s : ℕ) (q : TrainState) (sayings : List Saying)
        → find wishes (range_with_len m.hand.first m.hand.count) ≡ Some s
        → ((j : Centre) → HasTrain j u mid → propose_if_so line u s j ≡ asked u q sayings j)
        → q.supervision.engine ≡ u → q.supervision.number ≡ p.supervision.number
        → q.supervision.asked ≡ p.supervision.asked → q.session_state ≡ p.session_state
        → q.heard ≡ mid.heard → q.waiting ≡ p.waiting → q.expectations ≡ e
        → take_mission line c from u y.heard m k ≡ replied (with_parts q book' rights k) sayings []
    wished_first s q sayings found asks engine number question session heard waiting expectations =
        taken_then (Some s) (replied (with_parts q book' rights at) sayings []) found
        (asks at (has_train line c at mid book' rights has_mid)
        ∙ asked_is line c at mid book' rights has_mid q sayings engine number question session heard waiting
        expectations)
        ∙ (λ i. replied (parts_over mid q book' book' rights rights k engine i) sayings [])

-- a request of a train is the same for an equal train
pub asked_so : (line : Line) (s : ℕ) (p q new : TrainState) (sayings : List Saying) → p ≡ q
    → ((j : Centre) → HasTrain j p.supervision.engine p
    → propose_if_so line p.supervision.engine s j ≡ asked p.supervision.engine new sayings j)
    → (j : Centre) → HasTrain j q.supervision.engine q
    → propose_if_so line q.supervision.engine s j ≡ asked q.supervision.engine new sayings j
asked_so line s p q new sayings same =
    subst (λ (x : TrainState). (j : Centre) → HasTrain j x.supervision.engine x
    → propose_if_so line x.supervision.engine s j ≡ asked x.supervision.engine new sayings j) same
