-- A start of mission has the effect of its definition.
use Rattle.std.proofs.Common.{[], if◌then◌else◌, ◌&&◌, ◌+◌, ◌==◌, ◌∙◌, ◌∷◌, ◌≡◌, ◌≤◌, ap, arith, Bool, false, is_some}
use Rattle.std.proofs.Common.{None, Option, option_map, refl, Some, sym, true, ℕ}
use Rattle.std.specs.Option.{option_map_or}
use Rattle.law_base.proofs.LocalLemmas.Homes.{begun_local, fit_parts}
use Rattle.law_base.proofs.LocalLemmas.Worlds.{is_ordered}
use Rattle.rbc_allocation.specs.Sections.{TakesRun}
use Rattle.rbc_book.specs.Book.{Pages}
use Rattle.rbc_hand.specs.Hands.{Holding}
use Rattle.rbc_linkmsg.specs.declared.body.Body.TheVariants as code
use Rattle.rbc_mission.specs.Supervisions.{mission_at, SupervisionState}
use Rattle.rbc_pending_start.specs.Waits.{asking, asks, WaitState, with_wait}
use Rattle.rbc_right.specs.Answers.{answer}
use Rattle.rbc_right.specs.declared.registrar.Asked.TheVariants.{Given}
use Rattle.rbc_right.specs.declared.right.Right.{Right}
use Rattle.rbc_right.specs.Rights.{is_here, right_of, Rights}
use Rattle.rbc_session.specs.SessionStates.{session_phase}
use Rattle.rbc_spec.proofs.Lists.{put_there}
use Rattle.rbc_spec.specs.Acts.{◌>>◌, Reply, say}
use Rattle.rbc_spec.specs.Centre.{Centre, is_free, is_open, is_registrar_of, Mission, Taken, Up}
use Rattle.rbc_spec.specs.Frame.{AskRight}
use Rattle.rbc_spec.specs.Line.{IsLine, Line, registrar}
use Rattle.rbc_spec.specs.Maps.{put}
use Rattle.rbc_spec.specs.Message.{StartOfMission, TrackBody, TrainAccepted, TrainRejected, unknown_group}
use Rattle.rbc_spec.specs.Place.{covered, fit_place, is_fit, Place, Position}
use Rattle.rbc_spec.specs.Rules.{start_here, start_mission, start_waiting}
use Rattle.rbc_spec.specs.SectionRuns.{all_of, SectionRun, within}
use Rattle.rbc_spec.specs.Step.{effect, Train}
use Rattle.rbc_train.proofs.Desk.{answer_to, answered_effect, by_reply, heard_said, mission_changed, mission_left}
use Rattle.rbc_train.proofs.Desk.{same_state, wait_left, with_mission}
use Rattle.rbc_train.proofs.Turns.{heard_at, left_heard, parts_heard, says}
use Rattle.rbc_train.specs.declared.heard.Heard.{Heard}
use Rattle.rbc_train.specs.declared.letter.Letter.{Letter}
use Rattle.rbc_train.specs.declared.start_of_mission.Start.{Start}
use Rattle.rbc_train.specs.declared.start_of_mission.Start.TheVariants.{Waiting}
use Rattle.rbc_train.specs.declared.train.TrainState.{TrainState}
use Rattle.rbc_train.specs.Desk.{HasParts, HearsTrain, posted, replied, reply_left, with_parts}
use Rattle.rbc_train.specs.Letters.{letters, mail_of}
use Rattle.rbc_train.specs.Sayings.{sayings_of}
use Rattle.rbc_train.specs.Starts.{started}

-- the sections of a place that is fit are one at least
pub some_covered : (line : Line) (place : Place) (run : SectionRun) → IsLine line → is_fit line place ≡ true
    → run ≡ covered line place → 1 ≤ run.count
some_covered line place run of_line fit covers =
    let begun = begun_local line (is_ordered line of_line) place (fit_parts line place fit) in
    let count : run.count ≡ (covered line place).count = ap (λ (r : SectionRun). r.count) covers in
    let some = begun.some in
    omega (arith, some, count)

-- the mission that is here
pub standing : (o : Option Mission) → is_some o ≡ true → (m : Mission) × (o ≡ Some m)
standing (Some m) is = (m, refl)
standing None is = cc

-- a missing value is missing in the other form too
pub none_there : {X Y : Type 0} (f : X → Y) (o : Option X) → is_some o ≡ false → option_map f o ≡ None
none_there f (Some x) is = cc
none_there f None is = refl

-- a registrar that gives a right has that of the train
pub given : (is_here : Bool) (i : ℕ) (right : Right) → answer is_here i ≡ Given right
    → (is_here ≡ true) × (right ≡ right_of i)
given true i right is = (refl, cc)
given false i right is = cc

abbrev again : Place → Mission → Mission
again place m = record m { place = place; has_data = false; is_ended = false; proposal = None }

-- the letter to the registrar is the question of the rules
asked_by_letter : (t : ℕ) (o : Option ℕ)
    → letters (option_map (λ (r : ℕ). record { to = r; body = code.AskRight t }) o)
    ≡ (λ d. option_map_or (λ r. if d == r then AskRight t ∷ [] else []) o [])
asked_by_letter t (Some r) = refl
asked_by_letter t None = refl

module _ (line : Line) (c : ℕ) (k : Centre) (old : TrainState) (book : Pages) (rights : Rights)
    (has : HasParts line c k old book rights) where
  abbrev t : ℕ
  t = old.supervision.engine

  -- a start within the hand
  pub goes_on_again : (is_valid : Bool) (position : Position) (place : Place) (n : Mission)
      → fit_place line is_valid position ≡ Some place → old.supervision.mission ≡ Some n
      → all_of (within n.hand) (covered line place) ≡ true
      → start_mission line c t is_valid position k
      ≡ say t unknown_group TrainAccepted
      (with_parts (with_mission old (option_map (again place) old.supervision.mission)) book rights k)
  unfolding ◌>>◌
  goes_on_again is_valid position place n fits there all =
      let stands : k.mission t ≡ Some n = has.has_mission ∙ there in
      rw (fits, stands, all)
      (ap (say t unknown_group TrainAccepted) (mission_changed line c k old book rights has (again place)))

  -- a start that is rejected changes nothing
  rejected : say t unknown_group TrainRejected k ≡ say t unknown_group TrainRejected (with_parts old book rights k)
  rejected = ap (say t unknown_group TrainRejected) (same_state line c k old book rights has)

  pub past_the_hand : (is_valid : Bool) (position : Position) (place : Place) (n : Mission)
      → fit_place line is_valid position ≡ Some place → old.supervision.mission ≡ Some n
      → all_of (within n.hand) (covered line place) ≡ false
      → start_mission line c t is_valid position k ≡ say t unknown_group TrainRejected (with_parts old book rights k)
  past_the_hand is_valid position place n fits there all =
      let stands : k.mission t ≡ Some n = has.has_mission ∙ there in
      rw (fits, stands, all) rejected

  -- a start of a new mission with released sections, at the registrar and elsewhere
  module _ (is_valid : Bool) (position : Position) (place : Place) (reply : Reply)
      (fits : fit_place line is_valid position ≡ Some place) (none : old.supervision.mission ≡ None)
      (free : all_of (is_free line c k) (covered line place) ≡ true) where
    pub starts_here : is_registrar_of line c t ≡ true → start_here line t place k ≡ reply
        → start_mission line c t is_valid position k ≡ reply
    starts_here registered is = let missing : k.mission t ≡ None = has.has_mission ∙ none in
        rw (fits, missing, free, registered) is

    pub starts_elsewhere : is_registrar_of line c t ≡ false → start_waiting line t place k ≡ reply
        → start_mission line c t is_valid position k ≡ reply
    starts_elsewhere registered is = let missing : k.mission t ≡ None = has.has_mission ∙ none in
        rw (fits, missing, free, registered) is

  -- the right is there
  pub begins : (place : Place) (run : SectionRun) (hand : Holding) (left : SupervisionState) (book' : Pages)
      (rights' : Rights) → is_here rights old.supervision.number ≡ true
      → run ≡ covered line place → left ≡ record old.supervision { mission = Some (mission_at place run); hand = hand }
      → TakesRun t run book book'
      → ((j : ℕ) → is_here rights' j ≡ put (is_here rights) old.supervision.number false j)
      → start_here line t place k
      ≡ say t unknown_group TrainAccepted (with_parts (record old { supervision = left }) book' rights' k)
  unfolding ◌>>◌
  begins place run hand left book' rights' right covers is takes gone =
      let here : k.has_right t ≡ true = has.has_right ∙ right in
      let away : is_here rights' old.supervision.number ≡ false =
      gone old.supervision.number ∙ put_there (is_here rights) old.supervision.number false in
      rw here (ap (say t unknown_group TrainAccepted) ((λ i. record k {
        book = λ s. if within (sym covers i) s && is_open (has.has_book s i) then Taken t else has.has_book s i;
        wish = λ s. has.has_wish s i;
        mission = put k.mission t (Some (mission_at place (sym covers i)));
        has_right = put k.has_right t (sym away i);
      }) ∙ (λ i. record k {
        book = λ s. sym (takes.entry s) i;
        wish = λ s. sym (takes.wish s) i;
        mission = put k.mission t (Some (mission_at place run));
        has_right = put k.has_right t (is_here rights' old.supervision.number);
      }) ∙ mission_left line c k old book rights has (Some (mission_at place run)) hand left book' rights' is))

  -- the start waits, and the registrar is asked, unless it is asked already
  pub waits : (place : Place) (w : WaitState) (book' : Pages) (answer : Bool) (letter : Option Letter)
      → w.engine ≡ old.waiting.engine
      → start_waiting line old.waiting.engine place k ≡ asking line old.waiting.engine answer (with_wait w book' k)
      → letters letter ≡ asks line t answer
      → start_waiting line t place k
      ≡ posted (letters letter) (replied (with_parts (record old { waiting = w }) book' rights k) [] [])
  waits place w book' answer letter engine is sends =
      ap (λ (u : ℕ). start_waiting line u place k) (sym has.kept.one_train) ∙ is
      ∙ (λ i. asking line (has.kept.one_train i) answer
      (wait_left line c k old book rights has w book' (engine ∙ has.kept.one_train) i))
      ∙ (λ i. record {
        state = with_parts (record old { waiting = w }) book' rights k;
        frames = sym sends i;
        sayings = [];
        words = [];
      })

  pub sends_ask : (letter : Option Letter)
      → letter ≡ option_map (λ (r : ℕ). record { to = r; body = code.AskRight t }) (registrar line t)
      → letters letter ≡ asks line t true
  sends_ask letter is = ap letters is ∙ asked_by_letter t (registrar line t)

-- a start of mission with an answer
module _ (line : Line) (c : ℕ) (k : Centre) (stamp : ℕ) (old : TrainState) (book : Pages) (rights : Rights)
    (h : HearsTrain line c k stamp old book rights) (is_valid : Bool) (position : Position)
    (start : Start) (mid : TrainState) (book' : Pages) (rights' : Rights) (up : session_phase old.session_state ≡ Up)
    (none : old.waiting.wait ≡ None) (engine : mid.supervision.engine ≡ old.supervision.engine)
    (starting : (j : Centre) → HasParts line c j (record old { heard = Some stamp }) book rights
    → start_mission line c old.supervision.engine is_valid position j
    ≡ started old.supervision.engine start (with_parts mid book' rights' j)) where
  abbrev t' : ℕ
  t' = old.supervision.engine

  abbrev at : Centre
  at = heard_at line c k stamp old book rights h.parts

  starts : effect line c k
      (Train (record { t_train = stamp; nid_engine = old.supervision.engine; body = StartOfMission is_valid position }))
      ≡ by_reply (started t' start (with_parts mid book' rights' at))
  starts =
      answered_effect line c k (record { t_train = stamp; nid_engine = t'; body = StartOfMission is_valid position }) _
      (rw (h.known, h.parts.has_heard, h.timely, h.parts.has_phase, up, h.parts.has_wait, none) refl)
      (starting at (parts_heard line c k stamp old book rights h.parts))

  -- the train is answered after it
  pub starts_answered : (body : TrackBody) (new : TrainState) (heard : Heard)
      → ((j : Centre) → started t' start j ≡ say t' unknown_group body j) → new ≡ record mid { said = mid.said + 1 }
      → sayings_of heard.saying ≡ answer_to mid.supervision.engine (mid.said + 1) body
      → heard ≡ record { saying = heard.saying; order = None; mail = mail_of None; told = [] }
      → effect line c k
      (Train (record { t_train = stamp; nid_engine = old.supervision.engine; body = StartOfMission is_valid position }))
      ≡ by_reply (reply_left line c t' (with_parts new book' rights' k) heard)
  starts_answered body new heard is left said nothing_else =
      starts
      ∙ ap by_reply (is (with_parts mid book' rights' at) ∙ says t' unknown_group body mid book' rights' at engine
      ∙ ap (λ (x : Centre). replied x (answer_to t' (mid.said + 1) body) [])
      (left_heard line c k stamp old book rights h.parts (record mid { said = mid.said + 1 }) book' rights' engine)
      ∙ sym (heard_said line c t' k new (record mid { said = mid.said + 1 }) book' rights' heard
      (answer_to t' (mid.said + 1) body) left
      (said ∙ ap (λ (e : ℕ). answer_to e (mid.said + 1) body) engine) nothing_else))

  -- the start waits
  pub starts_waiting : (letter : Option Letter) → start ≡ Waiting letter
      → effect line c k
      (Train (record { t_train = stamp; nid_engine = old.supervision.engine; body = StartOfMission is_valid position }))
      ≡ by_reply (posted (letters letter) (replied (with_parts mid book' rights' k) [] []))
  starts_waiting letter is =
      starts ∙ ap (λ (s : Start). by_reply (started t' s (with_parts mid book' rights' at))) is
      ∙ ap (λ (x : Centre). by_reply (posted (letters letter) (replied x [] [])))
      (left_heard line c k stamp old book rights h.parts mid book' rights' engine)
