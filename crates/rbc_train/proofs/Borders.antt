-- The acts after a request at a border.
use Rattle.std.proofs.Common.{[], if◌then◌else◌, ◌++◌, ◌+◌, ◌-◌, ◌<◌, ◌==◌, ◌∙◌, ◌∷◌, ◌≡◌, ◌≤◌, ap, arith, inl, inr}
use Rattle.std.proofs.Common.{Option, Some, subst, sym, true, ℕ}
use Rattle.std.proofs.lemmas.Bool.{cases_lt}
use Rattle.std.proofs.lemmas.List.{append-nil}
use Rattle.rbc_handover.specs.Giving.{announcing, with_count}
use Rattle.rbc_mission.specs.Supervisions.{HasSupervision, SupervisionState, with_next, with_supervision}
use Rattle.rbc_spec.proofs.Lists.{put_over, put_there}
use Rattle.rbc_spec.proofs.Places.{end_of, ends_rise, section_on, start_is}
use Rattle.rbc_spec.proofs.Runs.{joined_is, within_from, within_true}
use Rattle.rbc_spec.specs.Acts.{part_at}
use Rattle.rbc_spec.specs.Centre.{Centre, Expectation, Mission}
use Rattle.rbc_spec.specs.Frame.{Announce}
use Rattle.rbc_spec.specs.Line.{end, Line, start}
use Rattle.rbc_spec.specs.Message.{Transition}
use Rattle.rbc_spec.specs.Place.{group_start, Place}
use Rattle.rbc_spec.specs.Rules.{announce_if_due, ask_route_if_due, at_border}
use Rattle.rbc_spec.specs.SectionRuns.{next_after, SectionRun, within}
use Rattle.rbc_spec.specs.Sections.{is_on, nid_rbc}
use Rattle.rbc_train.proofs.Turns.{in_turn}
use Rattle.rbc_train.specs.declared.letter.Letter.{Letter}
use Rattle.rbc_train.specs.declared.mail.Notice.{Notice}
use Rattle.rbc_train.specs.declared.mail.Notice.TheVariants as notice
use Rattle.rbc_train.specs.declared.saying.Saying.{Saying}
use Rattle.rbc_train.specs.Desk.{counted_to, posted, replied}
use Rattle.rbc_train.specs.Letters.{letters, notices}
use Rattle.rbc_train.specs.Sayings.{saying_of, sayings_of}

-- ## How far the border is

-- a section of a track starts no farther than it ends
starts_before : (line : Line) (track s : ℕ) → is_on line track s ≡ true → start line s ≤ end line s
starts_before line track s on =
    let p = section_on line track s on in
    let starts = start_is line track s p.0 p.1 in
    let ends = end_of line track s p.0 p.1 in
    omega (arith, starts, ends)

-- if the end of a longer hand is in range, so is the start of each of its sections
pub near_enough : (line : Line) (m : Mission) (place : Place) (count metres : ℕ) → 1 ≤ m.hand.count
    → ((s : ℕ) → within m.hand s ≡ true → is_on line m.place.track s ≡ true)
    → ((j : ℕ) → j < count → is_on line m.place.track (next_after m.hand + j) ≡ true)
    → metres ≡ end line (next_after m.hand + count - 1) - group_start line place → metres ≤ 32767
    → (s : ℕ) → within (with_next place count m).hand s ≡ true → start line s - group_start line place ≤ 32767
near_enough line m place count metres some on follow is fits s here =
    let ends =
    within_true (record { first = m.hand.first; count = m.hand.count + count }) s
    (ap (λ (r : SectionRun). within r s) (sym (joined_is m.hand count some)) ∙ here) in
    let last = next_after m.hand + count - 1 in
    let here_on = on_each s ends.0 (omega (arith, ends.1)) in
    let rises =
    ends_rise line m.place.track s last here_on (on_each last (omega (arith, some)) (omega (arith, some)))
    (omega (arith, ends.1)) in
    let starts = starts_before line m.place.track s here_on in
    omega (arith, is, fits, rises, starts)
  where
    on_each : (e : ℕ) → m.hand.first ≤ e → e < next_after m.hand + count → is_on line m.place.track e ≡ true
    on_each e low high = elim (cases_lt e (next_after m.hand)) [
      | inl within_hand ↦ on e (within_from m.hand e low within_hand)
      | inr past ↦ let same : next_after m.hand + (e - next_after m.hand) ≡ e = omega (arith, past) in
          ap (is_on line m.place.track) (sym same) ∙ follow (e - next_after m.hand) (omega (arith, past, high))
    ]

-- ## The messages and frames

-- a handover is announced, and the train gets the distance to the border
module _ (line : Line) (t to : ℕ) (k : Centre) (said number announced : ℕ) (m : Mission) (new : SupervisionState)
    (order : Saying) (counts : k.said t ≡ said)
    (due : announce_if_due line t to k
    ≡ announcing line t to m (Some number) (with_supervision new (with_count announced k)))
    (orders : saying_of order ≡ record {
      nid_engine = t;
      message = record {
        t_train = said + 1;
        nid_lrbg = m.place.group;
        body =
            Transition (start line (part_at line to m.place.track m.hand).first - group_start line m.place) line.nid_c
            (nid_rbc line to);
      };
    }) where
  pub announces : (e : ℕ → Option Expectation) → announce_if_due line t to k
      ≡ posted (notices t e (notice.Announce (record { number = number; to = to }) m.place.track))
      (replied (with_count announced (counted_to t (said + 1) (with_supervision new k))) (sayings_of (Some order)) [])
  announces e =
      due
      ∙ (λ i. posted (λ d. if d == to then Announce number t m.place.track ∷ [] else [])
      (replied (with_count announced (counted_to t (counts i + 1) (with_supervision new k)))
      (record {
        nid_engine = t;
        message = record {
          t_train = counts i + 1;
          nid_lrbg = m.place.group;
          body =
              Transition (start line (part_at line to m.place.track m.hand).first - group_start line m.place) line.nid_c
              (nid_rbc line to);
        };
      } ∷ []) []))
      ∙ (λ i. posted (λ d. if d == to then Announce number t m.place.track ∷ [] else [])
      (replied (with_count announced (counted_to t (said + 1) (with_supervision new k))) (sym orders i ∷ []) []))

-- then the next centre is asked for sections
module _ (line : Line) (c t next : ℕ) (k : Centre) (e : ℕ → Option Expectation) (one : Notice) (order : Option Saying)
    (letter : Option Letter) (said announced : ℕ) (mid : SupervisionState) (asked : Option ℕ) (engine : mid.engine ≡ t)
    (tells : announce_if_due line t next k
    ≡ posted (notices t e one)
    (replied (with_count announced (counted_to t said (with_supervision mid k))) (sayings_of order) []))
    (asks : (j : Centre) → HasSupervision j mid
    → ask_route_if_due line mid.engine next j
    ≡ posted (letters letter) (replied (with_supervision (record mid { asked = asked }) j) [] [])) where
  abbrev at : Centre
  at = with_count announced (counted_to t said (with_supervision mid k))

  abbrev left : SupervisionState
  left = record mid { asked = asked }

  asks_there : ask_route_if_due line t next at ≡ posted (letters letter) (replied (with_supervision left at) [] [])
  asks_there =
      subst (λ (u : ℕ). ask_route_if_due line u next at
      ≡ posted (letters letter) (replied (with_supervision left at) [] [])) engine
      (asks at (record {
        has_mission = put_there k.mission mid.engine mid.mission;
        has_question = put_there k.route_ask mid.engine mid.asked;
      }))

  over : with_supervision left at ≡ with_count announced (counted_to t said (with_supervision left k))
  over =
      λ i. record at {
        mission = λ u. put_over mid.engine mid.mission mid.mission k.mission u i;
        route_ask = λ u. put_over mid.engine asked mid.asked k.route_ask u i;
      }

  pub borders : at_border line c t next k
      ≡ posted (λ d. notices t e one d ++ letters letter d)
      (replied (with_count announced (counted_to t said (with_supervision left k))) (sayings_of order) [])
  borders =
      in_turn (announce_if_due line t next) (ask_route_if_due line t next) k
      (posted (notices t e one) (replied at (sayings_of order) []))
      (posted (letters letter) (replied (with_supervision left at) [] [])) tells asks_there
      ∙ (λ i. posted (λ d. notices t e one d ++ letters letter d)
      (replied (over i) (append-nil (sayings_of order) i) []))
