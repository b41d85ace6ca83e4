-- A request for a movement authority has the effect of its definition.
use Rattle.std.proofs.Common.{[], if◌then◌else◌, ◌&&◌, ◌++◌, ◌+◌, ◌-◌, ◌∙◌, ◌∷◌, ◌≡◌, ◌≤◌, ap, arith, false, is_some}
use Rattle.std.proofs.Common.{List, None, Option, option_map, refl, Some, subst, sym, true, ℕ}
use Rattle.std.proofs.lemmas.Bool.{cond-false, ne_eqb}
use Rattle.std.specs.Option.{option_map_or}
use Rattle.rbc_allocation.specs.Sections.{next_of, TakesRun}
use Rattle.rbc_book.specs.Book.{entry_at, Pages, wish_at}
use Rattle.rbc_grant.specs.Grants as grants
use Rattle.rbc_hand.specs.Hands.{Holding}
use Rattle.rbc_handover.specs.Expectations.{expected_from}
use Rattle.rbc_handover.specs.Giving.{with_count}
use Rattle.rbc_mission.specs.Supervisions.{HasSupervision, SupervisionState, with_next, with_supervision}
use Rattle.rbc_right.specs.Rights.{is_here, Rights}
use Rattle.rbc_session.specs.SessionStates.{session_phase}
use Rattle.rbc_spec.proofs.Lists.{put_over, put_there}
use Rattle.rbc_spec.specs.Acts.{◌>>◌, Act, booked, rest, say, set_mission}
use Rattle.rbc_spec.specs.Centre.{Centre, Expectation, is_open, Mission, Taken, Up}
use Rattle.rbc_spec.specs.Frame.{Body}
use Rattle.rbc_spec.specs.Line.{end, Line, next_centre}
use Rattle.rbc_spec.specs.Maps.{put}
use Rattle.rbc_spec.specs.Message.{Authority, Request, TrainMessage}
use Rattle.rbc_spec.specs.Outcome.{Saying as Said}
use Rattle.rbc_spec.specs.Place.{group_start, Place, place_on, Position}
use Rattle.rbc_spec.specs.Rules.{at_border, authority, extended_by, extension}
use Rattle.rbc_spec.specs.SectionRuns.{is_empty, joined, next_after, SectionRun, within}
use Rattle.rbc_spec.specs.Step.{effect, Train}
use Rattle.rbc_train.proofs.Desk.{answered_effect, by_reply, same_state}
use Rattle.rbc_train.proofs.Turns.{heard_at, in_turn}
use Rattle.rbc_train.specs.declared.letter.Letter.{Letter}
use Rattle.rbc_train.specs.declared.mail.Notice.{Notice}
use Rattle.rbc_train.specs.declared.saying.Saying.{Saying}
use Rattle.rbc_train.specs.declared.train.TrainState.{TrainState}
use Rattle.rbc_train.specs.Desk.{counted_to, HearsTrain, posted, replied, with_parts}
use Rattle.rbc_train.specs.Letters.{letters, notices}
use Rattle.rbc_train.specs.Sayings.{sayings_of}

-- only the count of messages and the supervision have changed
supervision_over : (k : Centre) (p : TrainState) (book : Pages) (rights : Rights) (said : ℕ) (left : SupervisionState)
    → left.engine ≡ p.supervision.engine → left.number ≡ p.supervision.number
    → counted_to p.supervision.engine said (with_supervision left (with_parts p book rights k))
    ≡ with_parts (record p { said = said; supervision = left }) book rights k
supervision_over k p book rights said left engine number =
    (λ i. record (with_parts p book rights k) {
      said = λ u. put_over p.supervision.engine said p.said k.said u i;
      mission = put (put k.mission p.supervision.engine p.supervision.mission) (engine i) left.mission;
      route_ask = put (put k.route_ask p.supervision.engine p.supervision.asked) (engine i) left.asked;
    })
    ∙ (λ i. record (with_parts p book rights k) {
      said = put k.said p.supervision.engine said;
      mission = λ u. put_over p.supervision.engine left.mission p.supervision.mission k.mission u i;
      route_ask = λ u. put_over p.supervision.engine left.asked p.supervision.asked k.route_ask u i;
    })
    ∙ (λ i. record k {
      book = entry_at book;
      wish = wish_at book;
      phase = put k.phase (sym engine i) (session_phase p.session_state);
      heard = put k.heard (sym engine i) p.heard;
      said = put k.said (sym engine i) said;
      mission = put k.mission (sym engine i) left.mission;
      route_ask = put k.route_ask (sym engine i) left.asked;
      wait = put k.wait (sym engine i) p.waiting.wait;
      has_asked = put k.has_asked (sym engine i) p.waiting.has_asked;
      has_right = put k.has_right (sym engine i) (is_here rights (sym number i));
      expects = λ d. put (k.expects d) (sym engine i) (expected_from p.expectations d);
    })

module _ (line : Line) (c : ℕ) (k : Centre) (stamp : ℕ) (old : TrainState) (book : Pages) (rights : Rights)
    (position : Position) (h : HearsTrain line c k stamp old book rights) where
  abbrev t : ℕ
  t = old.supervision.engine

  abbrev m : TrainMessage
  m = record { t_train = stamp; nid_engine = t; body = Request position }

  module _ (n : Mission) (place : Place) (count metres : ℕ) (left : SupervisionState) (hand : Holding) (book' : Pages)
      (new : TrainState) (order : Option Saying) (one : Notice) (letter : Option Letter) (announced announced' : ℕ)
      (counts : (extension line c k (record n { place = place })).count ≡ count)
      (ends : authority line (with_next place count n) ≡ metres)
      (is : left ≡ record old.supervision { mission = Some (with_next place count n); hand = hand })
      (takes : TakesRun t (next_of count n.hand) book book')
      (new_is : new ≡ record {
        session_state = old.session_state;
        heard = Some stamp;
        said = new.said;
        supervision = new.supervision;
        waiting = old.waiting;
        expectations = old.expectations;
      })
      (engine : new.supervision.engine ≡ left.engine) (number : new.supervision.number ≡ left.number)
      (so_many : k.announced ≡ announced)
      (borders : (e : ℕ → Option Expectation) (j : Centre) → HasSupervision j left → j.said left.engine ≡ old.said + 1
      → j.announced ≡ announced
      → option_map_or (at_border line c left.engine) (next_centre line c place.track) rest j
      ≡ posted (λ d. notices left.engine e one d ++ letters letter d)
      (replied (with_count announced' (counted_to left.engine new.said (with_supervision new.supervision j)))
      (sayings_of order) [])) where
    abbrev mid : TrainState
    mid =
        record {
          session_state = old.session_state;
          heard = Some stamp;
          said = old.said + 1;
          supervision = left;
          waiting = old.waiting;
          expectations = old.expectations;
        }

    abbrev at : Centre
    at = heard_at line c k stamp old book rights h.parts

    abbrev from : Mission
    from = record n { place = place }

    abbrev more : Mission
    more = extended_by (extension line c k from) from

    abbrev given : Act
    given =
        (booked is_open (Taken t) (extension line c k from) >> set_mission t (Some more))
        >> say t place.group (Authority (authority line more))

    abbrev bordering : Act
    bordering = option_map_or (at_border line c t) (next_centre line c place.track) rest

    abbrev answer : List Said
    answer =
        record {
          nid_engine = left.engine;
          message = record { t_train = old.said + 1; nid_lrbg = place.group; body = Authority metres };
        } ∷ []

    -- the hand is extended, and the train is answered
    extends : given at ≡ replied (with_parts mid book' rights k) answer []
    unfolding ◌>>◌
    extends =
        let has = h.parts in
        let run : ℕ → SectionRun = λ i. next_of i n.hand in
        (λ i. replied (record at {
          book = λ s. if within (run (counts i)) s && is_open (has.has_book s i) then Taken t else has.has_book s i;
          wish = λ s. has.has_wish s i;
          said = put k.said t (has.has_said i + 1);
          mission = put k.mission t (Some (extended_by (run (counts i)) (record n { place = place })));
        }) (record {
          nid_engine = t;
          message =
              record {
                t_train = has.has_said i + 1;
                nid_lrbg = place.group;
                body = Authority (authority line (extended_by (run (counts i)) (record n { place = place })));
              };
        } ∷ []) [])
        ∙ (λ i. replied (record (same_state line c k old book rights has i) {
          book = λ s. sym (takes.entry s) i;
          wish = λ s. sym (takes.wish s) i;
          heard = put k.heard t (Some stamp);
          said = put k.said t (old.said + 1);
          mission = put k.mission t (Some (with_next place count n));
        }) (record {
          nid_engine = t;
          message = record { t_train = old.said + 1; nid_lrbg = place.group; body = Authority (ends i) };
        } ∷ []) [])
        ∙ (λ i.
        replied
        (with_parts (record {
          session_state = old.session_state;
          heard = Some stamp;
          said = old.said + 1;
          supervision = sym is i;
          waiting = old.waiting;
          expectations = old.expectations;
        }) book' rights k)
        (record {
          nid_engine = (sym is i).engine;
          message = record { t_train = old.said + 1; nid_lrbg = place.group; body = Authority metres };
        } ∷ []) [])

    -- the bodies for the next centre
    abbrev told : (ℕ → Option Expectation) → ℕ → List Body
    told e d = notices t e one d ++ letters letter d

    -- then a handover is announced, and the next centre is asked, if that is due
    borders_there : (e : ℕ → Option Expectation)
        → bordering (with_parts mid book' rights k)
        ≡ posted (told e) (replied (with_count announced' (with_parts new book' rights k)) (sayings_of order) [])
    borders_there e =
        let j = with_parts mid book' rights k in
        subst (λ (u : ℕ). option_map_or (at_border line c u) (next_centre line c place.track) rest j
        ≡ posted (λ d. notices u e one d ++ letters letter d)
        (replied (with_count announced' (counted_to left.engine new.said (with_supervision new.supervision j)))
        (sayings_of order) [])) (ap (λ (x : SupervisionState). x.engine) is)
        (borders e j (record {
          has_mission = put_there k.mission left.engine left.mission;
          has_question = put_there k.route_ask left.engine left.asked;
        }) (put_there k.said left.engine (old.said + 1)) so_many)
        ∙ (λ i.
        posted (told e)
        (replied (with_count announced' (supervision_over k mid book' rights new.said new.supervision engine number i))
        (sayings_of order) []))
        ∙ (λ i. posted (told e)
        (replied (with_count announced' (with_parts (sym new_is i) book' rights k)) (sayings_of order) []))

    pub grants_more : (e : ℕ → Option Expectation) → session_phase old.session_state ≡ Up
        → old.supervision.mission ≡ Some n → n.is_ended ≡ false → n.has_data ≡ true → is_some n.proposal ≡ false
        → place_on line n.place.track position ≡ Some place → grants.may_request line n.hand place ≡ true
        → effect line c k (Train m)
        ≡ by_reply (posted (told e)
        (replied (with_count announced' (with_parts new book' rights k)) (answer ++ sayings_of order) []))
    grants_more e up there goes_on known none on may =
        let stands : k.mission t ≡ Some n = h.parts.has_mission ∙ there in
        answered_effect line c k m _
        (rw (h.known, h.parts.has_heard, h.timely, h.parts.has_phase, up, stands, goes_on, known, none, on, may) refl)
        (rw (stands, on)
        (in_turn given bordering at (replied (with_parts mid book' rights k) answer [])
        (posted (told e) (replied (with_count announced' (with_parts new book' rights k)) (sayings_of order) []))
        extends (borders_there e)))

-- the end of the hand with this many further sections
pub end_is : (line : Line) (n : Mission) (place : Place) (count metres : ℕ) → 1 ≤ n.hand.count
    → metres ≡ end line (next_after n.hand + count - 1) - group_start line place
    → authority line (with_next place count n) ≡ metres
end_is line n place count metres some is =
    let r = next_of count n.hand in
    let longer : joined n.hand r ≡ record { first = n.hand.first; count = n.hand.count + count } =
    cond-false (is_empty n.hand) r (record { first = n.hand.first; count = n.hand.count + count })
    (ne_eqb n.hand.count 0 (λ e. omega arith)) in
    let last : n.hand.first + (n.hand.count + count) - 1 ≡ n.hand.first + n.hand.count + count - 1 = omega arith in
    ap (λ (x : SectionRun). end line (next_after x - 1) - group_start line place) longer
    ∙ ap (λ e. end line e - group_start line place) last ∙ sym is

pub some_mapped : {A B : Type 0} (f : A → B) (o : Option A) → is_some (option_map f o) ≡ is_some o
some_mapped f (Some x) = refl
some_mapped f None = refl

-- the acts at a border are the same for an equal train
pub borders_as : (line : Line) (c track announced announced' : ℕ) (p q : TrainState) (said : ℕ) (new : SupervisionState)
    (order : Option Saying) (one : Notice) (letter : Option Letter) → p ≡ q
    → ((e : ℕ → Option Expectation) (j : Centre) → HasSupervision j p.supervision → j.said p.supervision.engine ≡ p.said
    → j.announced ≡ announced
    → option_map_or (at_border line c p.supervision.engine) (next_centre line c track) rest j
    ≡ posted (λ d. notices p.supervision.engine e one d ++ letters letter d)
    (replied (with_count announced' (counted_to p.supervision.engine said (with_supervision new j)))
    (sayings_of order) []))
    → (e : ℕ → Option Expectation) (j : Centre) → HasSupervision j q.supervision → j.said q.supervision.engine ≡ q.said
    → j.announced ≡ announced
    → option_map_or (at_border line c q.supervision.engine) (next_centre line c track) rest j
    ≡ posted (λ d. notices q.supervision.engine e one d ++ letters letter d)
    (replied (with_count announced' (counted_to q.supervision.engine said (with_supervision new j)))
    (sayings_of order) [])
borders_as line c track announced announced' p q said new order one letter same =
    subst (λ (x : TrainState). (e : ℕ → Option Expectation) (j : Centre) → HasSupervision j x.supervision
    → j.said x.supervision.engine ≡ x.said → j.announced ≡ announced
    → option_map_or (at_border line c x.supervision.engine) (next_centre line c track) rest j
    ≡ posted (λ d. notices x.supervision.engine e one d ++ letters letter d)
    (replied (with_count announced' (counted_to x.supervision.engine said (with_supervision new j)))
    (sayings_of order) [])) same
