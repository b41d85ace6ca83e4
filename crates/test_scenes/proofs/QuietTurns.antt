-- The one line centre may take the quiet steps of Moves.
use Rattle.std.proofs.Common.{[], ◌&&◌, ◌*◌, ◌+◌, ◌==◌, ◌∙◌, ◌∷◌, ◌≡◌, ap, arith, eq-eqb, false, List, not, refl, Some}
use Rattle.std.proofs.Common.{sym, true, true≢false, ℕ, ⊎_elim}
use Rattle.std.proofs.lemmas.Bool.{and_parts, cases_Bool, eqb-true, leb-true, ltb-true, not-true}
use Rattle.std.proofs.lemmas.Option.{none-some, same_Some}
use Rattle.std.specs.List.{find, list_all, range_with_len}
use Rattle.std.specs.Option.{option_map_or}
use Rattle.rbc_spec.proofs.Lists.{each_of, none_is}
use Rattle.rbc_spec.specs.Centre.{Closed, is_up, Opened, Phase, Up}
use Rattle.rbc_spec.specs.Line.{is_home, Line, next_centre, start}
use Rattle.rbc_spec.specs.LineCentre.{At, Given, is_at, is_given_to, is_kept_for, is_mark_open, is_waiting_at, Kept}
use Rattle.rbc_spec.specs.LineCentre.{LineMission, LineState, Mark, Open, Parted, Shut, supervises, Supervisor}
use Rattle.rbc_spec.specs.Place.{covered, group_start}
use Rattle.rbc_spec.specs.Quiet.{Admit, Dismiss, EndOrder, Keep, LayDown, Order, Propose, Quiet, TakesAll, TakesQuiet}
use Rattle.rbc_spec.specs.Quiet.{TakeUp, Unkeep}
use Rattle.rbc_spec.specs.SectionRuns.{within}
use Rattle.rbc_spec.specs.Sections.{section_count}
use Rattle.test_scenes.proofs.Bounds.{covered_within, home_within, IsWithinLine, within_free, within_given, within_put}
use Rattle.test_scenes.proofs.OwnTurns.{Does, hand_is}
use Rattle.test_scenes.proofs.Valid.{Valid, valid_allowed, valid_some, valid_then}
use Rattle.test_scenes.specs.Turns.{hand_of, is_over_border, parted_at, quiet_turn, quiet_turns, Turn}

-- ## Results of tests

open_is : (m : Mark) → is_mark_open m ≡ true → m ≡ Open
open_is Shut so = absurd (true≢false (sym so))
open_is Open so = refl
open_is (Kept t) so = absurd (true≢false (sym so))
open_is (Given t) so = absurd (true≢false (sym so))

kept_is : (t : ℕ) (m : Mark) → is_kept_for t m ≡ true → m ≡ Kept t
kept_is t Shut so = absurd (true≢false (sym so))
kept_is t Open so = absurd (true≢false (sym so))
kept_is t (Kept u) so = ap Kept (eqb-true u t so)
kept_is t (Given u) so = absurd (true≢false (sym so))

up_is : (phase : Phase) → is_up phase ≡ true → phase ≡ Up
up_is Closed so = absurd (true≢false (sym so))
up_is Opened so = absurd (true≢false (sym so))
up_is Up so = refl

at_is : (c : ℕ) (by : Supervisor) → is_at c by ≡ true → by ≡ At c
at_is c (At d) so = ap At (eqb-true d c so)
at_is c (Parted stamp) so = absurd (true≢false (sym so))

parted_is : (by : Supervisor) (stamp : ℕ) → parted_at by ≡ Some stamp → by ≡ Parted stamp
parted_is (At c) stamp so = absurd (none-some stamp so)
parted_is (Parted other) stamp so = ap Parted (same_Some other stamp so)

at_itself : (c : ℕ) (by : Supervisor) → by ≡ At c → is_at c by ≡ true
at_itself c by is = ap (is_at c) is ∙ eq-eqb c c refl

-- ## Each quiet step

abbrev pub IsQuiet : Line → LineState → Quiet → Turn → Type 0
IsQuiet line v q = Does line (TakesQuiet line v q)

-- if `supervises` is false for c, then c is not the supervisor of the mission
not_there : (v : LineState) (t c : ℕ) → supervises v c t ≡ false → (m : LineMission) → v.mission t ≡ Some m
    → m.supervisor ≡ At c → ⊥
not_there v t c not_so m of_train by = absurd (true≢false
    (sym (at_itself c m.supervisor by) ∙ sym
    (ap (λ o. option_map_or (λ n. is_at c n.supervisor) o false) of_train) ∙ not_so))

-- if no section of the line with home c is given to the train, then no section with home c is
none_at : (line : Line) (v : LineState) (t c : ℕ)
    → list_all (λ s. not (is_home line c s && is_given_to t (v.mark s))) (range_with_len 0 (section_count line)) ≡ true
    → (s : ℕ) → (is_home line c s && is_given_to t (v.mark s)) ≡ false
none_at line v t c none s = ⊎_elim
    (λ (both_so : (is_home line c s && is_given_to t (v.mark s)) ≡ true).
    not-true _ (each_of _ 0 (section_count line) none s (omega arith)
    (omega (arith, home_within line c s (and_parts _ _ both_so).0))))
    (λ (not_so : (is_home line c s && is_given_to t (v.mark s)) ≡ false). not_so)
    (cases_Bool (is_home line c s && is_given_to t (v.mark s)))

quiet_is : (line : Line) (v : LineState) (q : Quiet) → IsWithinLine line v.mark
    → Valid (IsQuiet line v q) (quiet_turn line v q)
quiet_is line v (Keep t s) bound = valid_allowed (IsQuiet line v (Keep t s)) _ _ (λ so. (
  record { is_open = open_is (v.mark s) so; leaves = record { said_is = refl; new_is = refl } },
  within_put line s (Kept t) v (λ u. refl) bound,
))
quiet_is line v (Unkeep t s) bound = valid_allowed (IsQuiet line v (Unkeep t s)) _ _ (λ so.
    let parts = and_parts _ _ so in (
      record {
        is_kept = kept_is t (v.mark s) parts.0;
        not_waiting = not-true _ parts.1;
        tells = record { said_is = refl; new_is = refl };
      },
      within_free line (λ e. e == s) v bound,
    ))
quiet_is line v (Admit t c) bound = valid_some (IsQuiet line v (Admit t c)) _ (v.wait t c) (λ place is.
    valid_allowed (IsQuiet line v (Admit t c)) _ _ (λ so. (
      record {
        place = place;
        waits = is;
        no_mission = none_is (v.mission t) so;
        says = record { said_is = refl; new_is = refl };
      },
      within_given line (within (covered line place)) t v (covered_within line place) bound,
    )))
quiet_is line v (Dismiss t c) bound = valid_some (IsQuiet line v (Dismiss t c)) _ (v.wait t c) (λ place is. (
  record { place = place; waits = is; says = record { said_is = refl; new_is = refl } },
  within_free line (is_waiting_at line v t c) v bound,
))
quiet_is line v (LayDown t c) bound = valid_some (IsQuiet line v (LayDown t c)) _ (v.mission t) (λ m of_train.
    valid_some (IsQuiet line v (LayDown t c)) _ (v.heard t c) (λ stamp heard.
    valid_allowed (IsQuiet line v (LayDown t c)) _ _ (λ so. (
      record {
        mission = m;
        stamp = stamp;
        of_train = of_train;
        supervises = at_is c m.supervisor so;
        heard = heard;
        leaves = record { said_is = refl; new_is = refl };
      },
      bound,
    ))))
quiet_is line v (TakeUp t c) bound = valid_some (IsQuiet line v (TakeUp t c)) _ (v.mission t) (λ m of_train.
    valid_some (IsQuiet line v (TakeUp t c)) _ (parted_at m.supervisor) (λ stamp parted. (
      record {
        mission = m;
        stamp = stamp;
        of_train = of_train;
        parted = parted_is m.supervisor stamp parted;
        leaves = record { said_is = refl; new_is = refl };
      },
      bound,
    )))
quiet_is line v (Propose t c s) bound = valid_some (IsQuiet line v (Propose t c s)) _ (v.mission t) (λ m of_train.
    valid_allowed (IsQuiet line v (Propose t c s)) _ _ (λ so.
    let parts = and_parts _ _ so in
    let firsts = and_parts _ _ parts.0 in
    let here = and_parts _ _ firsts.0 in
    let open_for = and_parts _ _ firsts.1 in
    let seconds = and_parts _ _ parts.1 in
    let hands = and_parts _ _ seconds.0 in
    let reach = and_parts _ _ seconds.1 in
    let ends = and_parts _ _ reach.1 in (
      record {
        mission = m;
        hand = hand_of line v t;
        of_train = of_train;
        supervises = at_is c m.supervisor here.0;
        is_up = up_is (v.phase t c) here.1;
        goes_on = not-true m.is_ended open_for.0;
        none_stands = none_is m.proposal open_for.1;
        is_hand = hand_is line v t (hand_of line v t) bound hands.0;
        in_hand = hands.1;
        not_first = ltb-true (hand_of line v t).first s reach.0;
        not_past = leb-true m.place.front (10 * start line s) ends.0;
        within_reach = leb-true (start line s) (group_start line m.place + 32767) ends.1;
        says = record { said_is = refl; new_is = refl };
      },
      bound,
    )))
quiet_is line v (Order t c) bound = valid_some (IsQuiet line v (Order t c)) _ (v.mission t) (λ m of_train.
    valid_some (IsQuiet line v (Order t c)) _ (next_centre line c m.place.track) (λ next next_is.
    valid_some (IsQuiet line v (Order t c)) _
    (find (is_over_border line v t next) (range_with_len 0 (section_count line))) (λ border is_border.
    valid_allowed (IsQuiet line v (Order t c)) _ _ (λ so.
    let halves = and_parts _ _ so in
    let here = and_parts _ _ halves.0 in
    let room = and_parts _ _ halves.1 in (
      record {
        mission = m;
        next = next;
        border = border;
        of_train = of_train;
        supervises = at_is c m.supervisor here.0;
        is_up = up_is (v.phase t c) here.1;
        next_is = next_is;
        at_border = is_border;
        ahead = leb-true (group_start line m.place) (start line border) room.0;
        within_reach = leb-true (start line border) (group_start line m.place + 32767) room.1;
        says = record { said_is = refl; new_is = refl };
      },
      bound,
    )))))
quiet_is line v (EndOrder t c) bound = valid_allowed (IsQuiet line v (EndOrder t c)) _ _ (λ so.
    let parts = and_parts _ _ so in
    let here = and_parts _ _ parts.0 in (
      record {
        not_here = not_there v t c (not-true _ here.0);
        is_up = up_is (v.phase t c) here.1;
        none_given = none_at line v t c parts.1;
        says = record { said_is = refl; new_is = refl };
      },
      bound,
    ))

-- ## Quiet steps in order

abbrev pub AreQuiet : Line → LineState → List Quiet → Turn → Type 0
AreQuiet line v qs = Does line (TakesAll line v qs)

pub quiets_are : (line : Line) (v : LineState) (qs : List Quiet) → IsWithinLine line v.mark
    → Valid (AreQuiet line v qs) (quiet_turns line v qs)
unfolding quiet_turns
quiets_are line v [] bound = ((refl, refl), bound)
quiets_are line v (q ∷ qs) bound =
    valid_then (IsQuiet line v q) (AreQuiet line v (q ∷ qs)) _ (quiet_turn line v q)
    (quiet_is line v q bound) (λ a first.
    valid_then (AreQuiet line a.state qs) (AreQuiet line v (q ∷ qs)) _ (quiet_turns line a.state qs)
    (quiets_are line a.state qs first.1) (λ b others.
    ((a.said, b.said, a.state, first.0, others.0, refl), others.1)))
