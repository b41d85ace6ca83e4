-- The effect of a message of a train at a centre, by the parts of its state that it changes.
use Rattle.std.proofs.Common.{[], ◌∙◌, ◌∷◌, ◌≡◌, ap, List, None, Option, option_map, refl, Some, sym, ℕ}
use Rattle.rbc_book.specs.Book.{entry_at, Pages, wish_at}
use Rattle.rbc_hand.specs.Hands.{Holding}
use Rattle.rbc_handover.specs.Expectations.{expected_from, HasExpectations, with_expectations}
use Rattle.rbc_mission.specs.Supervisions.{HasSupervision, SupervisionState, with_supervision}
use Rattle.rbc_pending_start.proofs.Dropped.{same_wait as same_waiting}
use Rattle.rbc_pending_start.specs.Waits.{HasWait, WaitState, with_wait}
use Rattle.rbc_right.specs.Rights.{is_here, Rights}
use Rattle.rbc_session.specs.declared.session.SessionState.{SessionState}
use Rattle.rbc_session.specs.SessionStates.{session_phase}
use Rattle.rbc_spec.proofs.Lists.{put_same}
use Rattle.rbc_spec.specs.Acts.{◌>>◌, Act, hear, Reply, rest}
use Rattle.rbc_spec.specs.Centre.{Centre, Expectation, Mission, Phase}
use Rattle.rbc_spec.specs.Line.{Line}
use Rattle.rbc_spec.specs.Maps.{put}
use Rattle.rbc_spec.specs.Message.{TrackBody, TrainMessage, unknown_group}
use Rattle.rbc_spec.specs.Outcome.{Reason, Saying}
use Rattle.rbc_spec.specs.Rules.{answered}
use Rattle.rbc_spec.specs.Step.{Effect, effect, silence, Train}
use Rattle.rbc_train.specs.declared.heard.Heard.{Heard}
use Rattle.rbc_train.specs.declared.train.TrainState.{TrainState}
use Rattle.rbc_train.specs.Desk.{HasParts, replied, reply_left, with_parts}
use Rattle.rbc_train.specs.Letters.{mail_of}
use Rattle.rbc_train.specs.Sayings.{sayings_of}
use Rattle.rbc_train.specs.Trains.{asked, HasTrain}

-- ## Silent and answered

hear_then : (m : TrainMessage) (act : Act) (k : Centre) → (hear m >> act) k ≡ act (hear m k).state
unfolding ◌>>◌
hear_then m act k = refl

-- the effect with this reply
abbrev pub by_reply : Reply → Effect
by_reply r = record { reply = r; link = None; silence = None }

pub silent_effect : (line : Line) (c : ℕ) (k : Centre) (m : TrainMessage) (why : Reason) → silence line c k m ≡ Some why
    → effect line c k (Train m) ≡ record { reply = rest k; link = None; silence = Some why }
silent_effect line c k m why s = rw s refl

-- a message without a reason of silence has the effect of its answer, after its stamp was recorded
pub answered_effect : (line : Line) (c : ℕ) (k : Centre) (m : TrainMessage) (r : Reply) → silence line c k m ≡ None
    → answered line c m m.body (hear m k).state ≡ r
    → effect line c k (Train m) ≡ by_reply r
answered_effect line c k m r s e = rw s (ap by_reply (hear_then m (answered line c m m.body) k ∙ e))

-- ## Parts

-- the train with this session, this last T_TRAIN, this count of messages and this mission
abbrev pub turned : TrainState → SessionState → Option ℕ → ℕ → Option Mission → TrainState
turned p session heard said mission =
    record {
      session_state = session;
      heard = heard;
      said = said;
      supervision = record p.supervision { mission = mission };
      waiting = p.waiting;
      expectations = p.expectations;
    }

-- the train with this mission
abbrev pub with_mission : TrainState → Option Mission → TrainState
with_mission p mission = record p { supervision = record p.supervision { mission = mission } }

module _ (line : Line) (c : ℕ) (k : Centre) (p : TrainState) (book : Pages) (rights : Rights)
    (has : HasParts line c k p book rights) where
  abbrev t : ℕ
  t = p.supervision.engine

  pub same_phase : (u : ℕ) → k.phase u ≡ put k.phase t (session_phase p.session_state) u
  same_phase u = sym (put_same t (session_phase p.session_state) k.phase has.has_phase u)

  pub same_heard : (u : ℕ) → k.heard u ≡ put k.heard t p.heard u
  same_heard u = sym (put_same t p.heard k.heard has.has_heard u)

  pub same_said : (u : ℕ) → k.said u ≡ put k.said t p.said u
  same_said u = sym (put_same t p.said k.said has.has_said u)

  pub same_mission : (u : ℕ) → k.mission u ≡ put k.mission t p.supervision.mission u
  same_mission u = sym (put_same t p.supervision.mission k.mission has.has_mission u)

  pub same_question : (u : ℕ) → k.route_ask u ≡ put k.route_ask t p.supervision.asked u
  same_question u = sym (put_same t p.supervision.asked k.route_ask has.has_route_ask u)

  pub same_right : (u : ℕ) → k.has_right u ≡ put k.has_right t (is_here rights p.supervision.number) u
  same_right u = sym (put_same t (is_here rights p.supervision.number) k.has_right has.has_right u)

  pub same_expects : (d u : ℕ) → k.expects d u ≡ put (k.expects d) t (expected_from p.expectations d) u
  same_expects d u = sym (put_same t (expected_from p.expectations d) (k.expects d) (has.has_expects d) u)

  -- only the waiting start of the train and the book have changed
  pub wait_left : (w : WaitState) (book' : Pages) → w.engine ≡ t
      → with_wait w book' k ≡ with_parts (record p { waiting = w }) book' rights k
  wait_left w book' engine = λ i. record k {
    book = entry_at book';
    wish = wish_at book';
    phase = λ u. same_phase u i;
    heard = λ u. same_heard u i;
    said = λ u. same_said u i;
    mission = λ u. same_mission u i;
    route_ask = λ u. same_question u i;
    wait = put k.wait (engine i) w.wait;
    has_asked = put k.has_asked (engine i) w.has_asked;
    has_right = λ u. same_right u i;
    expects = λ d u. same_expects d u i;
  }

  -- the centre's part of a waiting start of the train
  pub has_waiting : HasWait line c k p.waiting book
  has_waiting = record {
    covers = has.kept.covers;
    homes = has.homes;
    has_book = has.has_book;
    has_wish = has.has_wish;
    has_wait = ap k.wait has.kept.one_train ∙ has.has_wait;
    has_ask = ap k.has_asked has.kept.one_train ∙ has.has_ask;
  }

  -- with the parts that it has a centre is as it was
  pub same_state : k ≡ with_parts p book rights k
  same_state = same_waiting line c k p.waiting book has_waiting ∙ wait_left p.waiting book has.kept.one_train

  pub same_parts : rest k ≡ replied (with_parts p book rights k) [] []
  same_parts = ap (λ (x : Centre). replied x [] []) same_state

  -- only the train's mission has changed
  pub mission_changed : (change : Mission → Mission)
      → record k { mission = put k.mission t (option_map change (k.mission t)) }
      ≡ with_parts (with_mission p (option_map change p.supervision.mission)) book rights k
  mission_changed change =
      λ i. record (same_state i) { mission = put k.mission t (option_map change (has.has_mission i)) }

  -- only these parts of the train have changed
  pub left_is : (session : SessionState) (stamp : Option ℕ) (said : ℕ) (mission : Option Mission) (phases : ℕ → Phase)
      (counts : ℕ → ℕ) (missions : ℕ → Option Mission)
      → ((u : ℕ) → phases u ≡ put k.phase t (session_phase session) u) → ((u : ℕ) → counts u ≡ put k.said t said u)
      → ((u : ℕ) → missions u ≡ put k.mission t mission u)
      → record k { phase = phases; heard = put k.heard t stamp; said = counts; mission = missions }
      ≡ with_parts (turned p session stamp said mission) book rights k
  left_is session stamp said mission phases counts missions a b d =
      λ i. record (same_state i) {
        phase = λ u. a u i;
        heard = put k.heard t stamp;
        said = λ u. b u i;
        mission = λ u. d u i;
      }

  -- only these parts of the train, its waiting start and the book have changed
  pub left_with : (session : SessionState) (stamp : Option ℕ) (said : ℕ) (mission : Option Mission) (w : WaitState)
      (book' : Pages) (phases : ℕ → Phase) (counts : ℕ → ℕ) (missions : ℕ → Option Mission)
      → w.engine ≡ t → ((u : ℕ) → phases u ≡ put k.phase t (session_phase session) u)
      → ((u : ℕ) → counts u ≡ put k.said t said u) → ((u : ℕ) → missions u ≡ put k.mission t mission u)
      → with_wait w book' (record k { phase = phases; heard = put k.heard t stamp; said = counts; mission = missions })
      ≡ with_parts (record (turned p session stamp said mission) { waiting = w }) book' rights k
  left_with session stamp said mission w book' phases counts missions engine a b d = λ i. record (same_state i) {
    book = entry_at book';
    wish = wish_at book';
    phase = λ u. a u i;
    heard = put k.heard t stamp;
    said = λ u. b u i;
    mission = λ u. d u i;
    wait = put k.wait (engine i) w.wait;
    has_asked = put k.has_asked (engine i) w.has_asked;
  }

  -- of the train's mission and of its right something has changed, and the book
  pub mission_left : (mission : Option Mission) (hand : Holding) (left : SupervisionState) (book' : Pages)
      (rights' : Rights) → left ≡ record p.supervision { mission = mission; hand = hand }
      → record k {
        book = entry_at book';
        wish = wish_at book';
        mission = put k.mission t mission;
        has_right = put k.has_right t (is_here rights' p.supervision.number);
      }
      ≡ with_parts (record p { supervision = left }) book' rights' k
  mission_left mission hand left book' rights' is =
      (λ i. record (same_state i) {
        book = entry_at book';
        wish = wish_at book';
        mission = put k.mission t mission;
        has_right = put k.has_right t (is_here rights' p.supervision.number);
      })
      ∙ (λ i. with_parts (record p { supervision = sym is i }) book' rights' k)

  -- of the train's mission and of its question something has changed
  pub supervision_left : (left : SupervisionState) → left.engine ≡ t → left.number ≡ p.supervision.number
      → with_supervision left k ≡ with_parts (record p { supervision = left }) book rights k
  supervision_left left engine number =
      (λ i. record (same_state i) {
        mission = put k.mission left.engine left.mission;
        route_ask = put k.route_ask left.engine left.asked;
      })
      ∙ (λ i. record k {
        book = entry_at book;
        wish = wish_at book;
        phase = put k.phase (sym engine i) (session_phase p.session_state);
        heard = put k.heard (sym engine i) p.heard;
        said = put k.said (sym engine i) p.said;
        mission = put k.mission left.engine left.mission;
        route_ask = put k.route_ask left.engine left.asked;
        wait = put k.wait (sym engine i) p.waiting.wait;
        has_asked = put k.has_asked (sym engine i) p.waiting.has_asked;
        has_right = put k.has_right (sym engine i) (is_here rights (sym number i));
        expects = λ d. put (k.expects d) (sym engine i) (expected_from p.expectations d);
      })

  -- the train was asked to shorten its authority, or was not
  pub asked_is : (q : TrainState) (sayings : List Saying) → q.supervision.engine ≡ t
      → q.supervision.number ≡ p.supervision.number → q.supervision.asked ≡ p.supervision.asked
      → q.session_state ≡ p.session_state
      → q.heard ≡ p.heard → q.waiting ≡ p.waiting → q.expectations ≡ p.expectations
      → asked t q sayings k ≡ replied (with_parts q book rights k) sayings []
  asked_is q sayings engine number question session heard waiting expectations =
      (λ i. replied (record (same_state i) {
        said = put k.said t q.said;
        mission = put k.mission t q.supervision.mission;
      }) sayings [])
      ∙ (λ i. replied (record k {
        book = entry_at book;
        wish = wish_at book;
        phase = put k.phase (sym engine i) (session_phase (sym session i));
        heard = put k.heard (sym engine i) (sym heard i);
        said = put k.said (sym engine i) q.said;
        mission = put k.mission (sym engine i) q.supervision.mission;
        route_ask = put k.route_ask (sym engine i) (sym question i);
        wait = put k.wait (sym engine i) (sym waiting i).wait;
        has_asked = put k.has_asked (sym engine i) (sym waiting i).has_asked;
        has_right = put k.has_right (sym engine i) (is_here rights (sym number i));
        expects = λ d. put (k.expects d) (sym engine i) (expected_from (sym expectations i) d);
      }) sayings [])

  -- only the book has changed
  pub book_left : (book' : Pages)
      → record k { book = entry_at book'; wish = wish_at book' } ≡ with_parts p book' rights k
  book_left book' = λ i. record (same_state i) { book = entry_at book'; wish = wish_at book' }

  -- only the supervision of the train matters, or its session, its mission and its count of messages
  pub has_supervision : HasSupervision k p.supervision
  has_supervision = record { has_mission = has.has_mission; has_question = has.has_route_ask }

  pub has_train : HasTrain k t p
  has_train = record { phase_is = has.has_phase; mission_is = has.has_mission; said_is = has.has_said }

  -- only the expectations of the train matter
  pub has_expectations : HasExpectations line t k p.expectations
  has_expectations = record { count = has.kept.expected; has = has.has_expects }

  -- only the expectations of the train have changed
  pub expects_left : (e : List (Option Expectation))
      → with_expectations t e k ≡ with_parts (record p { expectations = e }) book rights k
  expects_left e = λ i. record (same_state i) { expects = λ d. put (k.expects d) t (expected_from e d) }

-- a train that is asked nothing
pub asked_nothing : (t : ℕ) (k : Centre) (p : TrainState) → HasTrain k t p → asked t p [] k ≡ rest k
asked_nothing t k p has =
    λ i. replied (record k {
      said = λ u. put_same t p.said k.said has.said_is u i;
      mission = λ u. put_same t p.supervision.mission k.mission has.mission_is u i;
    }) [] []

-- one message to a train, from no balise group
abbrev pub answer_to : ℕ → ℕ → TrackBody → List Saying
answer_to t count body =
    record { nid_engine = t; message = record { t_train = count; nid_lrbg = unknown_group; body = body } } ∷ []

-- the effect of an answer, by the state after it, its messages and its reports
pub left_as : (k : Centre) (p q : TrainState) (book : Pages) (rights : Rights) (sayings sayings' : List Saying)
    (told told' : List ℕ) → p ≡ q → sayings ≡ sayings' → told ≡ told'
    → by_reply (replied (with_parts p book rights k) sayings told)
    ≡ by_reply (replied (with_parts q book rights k) sayings' told')
left_as k p q book rights sayings sayings' told told' a b d =
    λ i. by_reply (replied (with_parts (a i) book rights k) (b i) (d i))

-- the effect with these messages and no report
pub heard_said : (line : Line) (c t : ℕ) (k : Centre) (p q : TrainState) (book : Pages) (rights : Rights) (h : Heard)
    (sayings : List Saying) → p ≡ q → sayings_of h.saying ≡ sayings
    → h ≡ record { saying = h.saying; order = None; mail = mail_of None; told = [] }
    → reply_left line c t (with_parts p book rights k) h ≡ replied (with_parts q book rights k) sayings []
heard_said line c t k p q book rights h sayings left says is =
    ap (reply_left line c t (with_parts p book rights k)) is
    ∙ (λ i. replied (with_parts (left i) book rights k) (says i) [])
