-- An end of mission has the effect of its definition.
use Rattle.std.proofs.Common.{[], if◌then◌else◌, ◌++◌, ◌+◌, ◌-◌, ◌==◌, ◌∙◌, ◌≡◌, ap, false, is_some, List, map, None}
use Rattle.std.proofs.Common.{Option, option_map, refl, Some, sym, true, ℕ}
use Rattle.std.proofs.lemmas.List.{append-nil, map-append}
use Rattle.std.specs.Option.{option_map_or}
use Rattle.rbc_allocation.specs.Sections.{rest_of, wished}
use Rattle.rbc_book.specs.Book.{is_own, Pages}
use Rattle.rbc_line.specs.declared.section_run.SectionRun.{SectionRun as SectionRunCode}
use Rattle.rbc_line.specs.SectionRuns.{run_of}
use Rattle.rbc_mission.specs.Supervisions.{hand_of, pool_of, SupervisionState, with_pool}
use Rattle.rbc_right.specs.Rights.{Rights}
use Rattle.rbc_session.specs.SessionStates.{session_phase}
use Rattle.rbc_shorten.proofs.Requests.{ahead_is_cut}
use Rattle.rbc_shorten.specs.declared.answer.Cut.TheVariants.{Nothing}
use Rattle.rbc_shorten.specs.Standstill.{ahead_of, standing_act}
use Rattle.rbc_spec.proofs.Lists.{put_over, put_there}
use Rattle.rbc_spec.specs.Acts.{◌>>◌, Act, change_mission, Reply, rest, return_pool, returned, with_some}
use Rattle.rbc_spec.specs.Centre.{Centre, Expectation, Mission, Up}
use Rattle.rbc_spec.specs.Frame.{Body}
use Rattle.rbc_spec.specs.Line.{Line}
use Rattle.rbc_spec.specs.Maps.{put}
use Rattle.rbc_spec.specs.Message.{EndOfMission, TrainMessage}
use Rattle.rbc_spec.specs.Outcome.{Told}
use Rattle.rbc_spec.specs.Place.{Place, place_on, Position}
use Rattle.rbc_spec.specs.Rules.{cut, cut_ahead, report_here, stand_still}
use Rattle.rbc_spec.specs.SectionRuns.{no_run, SectionRun}
use Rattle.rbc_spec.specs.Step.{effect, Train}
use Rattle.rbc_train.proofs.Desk.{answered_effect, by_reply, same_state}
use Rattle.rbc_train.proofs.Letters.{sends_home}
use Rattle.rbc_train.proofs.Standstill.{goes_so, left_hand, still_by, tells_all}
use Rattle.rbc_train.proofs.Turns.{has_left, heard_at, in_turn, left_heard, parts_heard, parts_over}
use Rattle.rbc_train.specs.declared.heard.Heard.{Heard}
use Rattle.rbc_train.specs.declared.letter.Letter.{Letter}
use Rattle.rbc_train.specs.declared.mail.Mail.{Mail}
use Rattle.rbc_train.specs.declared.mail.Notice.{Notice}
use Rattle.rbc_train.specs.declared.mail.Notice.TheVariants as notices_of
use Rattle.rbc_train.specs.declared.train.TrainState.{TrainState}
use Rattle.rbc_train.specs.Desk.{Does, HasParts, HearsTrain, IsKeptAt, posted, replied, reply_left, with_parts}
use Rattle.rbc_train.specs.Letters.{going_home, letters, mail_home, mail_to, notices}
use Rattle.rbc_train.specs.Sayings.{told_train}
use Rattle.rbc_train.specs.Standstill.{IsAhead, LeavesFront, left_ahead, uncleared}

abbrev pub ended : Mission → Mission
ended m = record m { is_ended = true; proposal = None }

-- the pool has gone, and the mission is ended
abbrev pub finished : SupervisionState → SupervisionState
finished s = record s { mission = option_map ended (with_pool no_run s).mission }

abbrev pub finishing : Line → ℕ → ℕ → Act
finishing line c t = with_some (λ i. i.mission t) (λ x. return_pool line c t x >> change_mission t ended)

-- ## The returned sections

module _ (line : Line) (c t track : ℕ) (x : ℕ → Option Expectation) (first pool : SectionRunCode) (notice : Notice)
    (letter : Option Letter) where
  abbrev sent : Mail
  sent = mail_home track first notice letter

  -- nothing more
  no_more : run_of pool ≡ no_run → (d : ℕ)
      → mail_to line c t x sent d ++ [] ≡ mail_to line c t x (record sent { second = pool }) d
  no_more none d =
      append-nil (mail_to line c t x sent d)
      ∙ ap (λ (r : SectionRun). going_home line c t track (run_of first) d
      ++ (going_home line c t track r d ++ (notices t x notice d ++ letters letter d))) (sym none)

  -- or a pool, if neither a notice nor a letter is sent
  and_pool : (r : SectionRun) → run_of pool ≡ r → (letter ≡ None) × (notice ≡ notices_of.Nothing) → (d : ℕ)
      → mail_to line c t x sent d ++ going_home line c t track r d
      ≡ mail_to line c t x (record sent { second = pool }) d
  and_pool r is none d =
      let goes : List Body = going_home line c t track (run_of first) d in
      (λ i. (goes ++ (notices t x (none.1 i) d ++ letters (none.0 i) d)) ++ going_home line c t track r d)
      ∙ ap (λ (xs : List Body). xs ++ going_home line c t track r d) (append-nil goes)
      ∙ (λ i. goes ++ sym (append-nil (going_home line c t track (sym is i) d)) i)
      ∙ (λ i. goes
      ++ (going_home line c t track (run_of pool) d ++ (notices t x (sym none.1 i) d ++ letters (sym none.0 i) d)))

-- a mission without a pool is ended as one whose pool has gone
same_finish : (s : SupervisionState) → pool_of s ≡ no_run
    → finished s ≡ record s { mission = option_map ended s.mission }
same_finish s none = λ i. record s { mission = by s.mission none i }
  where
    by : (o : Option Mission) → option_map_or (λ (m : Mission). m.pool) o no_run ≡ no_run
        → option_map ended (option_map (λ (m : Mission). record m { pool = no_run }) o) ≡ option_map ended o
    by None is = refl
    by (Some m) is = λ i. Some (record m { pool = sym is i; is_ended = true; proposal = None })

-- ## The mission, if it is still here, is ended

module _ (line : Line) (c : ℕ) (j : Centre) (mid : TrainState) (book : Pages) (rights : Rights)
    (has : HasParts line c j mid book rights) where
  abbrev t : ℕ
  t = mid.supervision.engine

  abbrev without_pool : Mission → Mission
  without_pool m = record m { pool = no_run }

  abbrev left : TrainState
  left = record mid { supervision = finished mid.supervision }

  abbrev dropped : Option Mission
  dropped = option_map without_pool (j.mission t)

  abbrev twice : Option Mission
  twice = option_map ended (put j.mission t dropped t)

  state_is : record j { mission = put (put j.mission t dropped) t twice } ≡ with_parts left book rights j
  state_is = λ i. record (same_state line c j mid book rights has i) {
    mission =
        λ u. (put_over t twice dropped j.mission u
        ∙ ap (λ o. put j.mission t (option_map ended o) u)
        (put_there j.mission t dropped ∙ ap (option_map without_pool) has.has_mission)) i;
  }

  changed : (n : Mission) → (return_pool line c t n >> change_mission t ended) j
      ≡ record {
        state = record j { mission = put (put j.mission t dropped) t twice };
        frames = λ d. ((returned line c t n.place.track n.pool j).frames d ++ []) ++ [];
        sayings = [];
        words = [];
      }
  unfolding ◌>>◌
  changed n = refl

  ends_some : (n : Mission) → mid.supervision.mission ≡ Some n
      → finishing line c t j ≡ posted (going_home line c t n.place.track n.pool)
      (replied (with_parts left book rights j) [] [])
  ends_some n there =
      let stands : j.mission t ≡ Some n = has.has_mission ∙ there in
      ap (λ o. option_map_or (λ x. (return_pool line c t x >> change_mission t ended) j) o (rest j)) stands ∙ changed n
      ∙ (λ i.
      posted (λ d. (append-nil ((returned line c t n.place.track n.pool j).frames d ++ [])
      ∙ append-nil ((returned line c t n.place.track n.pool j).frames d)
      ∙ sym (sends_home line c t n.place.track n.pool j d)) i) (replied (state_is i) [] []))

  ends_none : mid.supervision.mission ≡ None → finishing line c t j ≡ replied (with_parts left book rights j) [] []
  ends_none none =
      let missing : j.mission t ≡ None = has.has_mission ∙ none in
      ap (λ o. option_map_or (λ x. (return_pool line c t x >> change_mission t ended) j) o (rest j)) missing
      ∙ ap (λ (x : Centre). replied x [] []) (same_state line c j mid book rights has)
      ∙ (λ i.
      replied
      (with_parts
      (record mid {
        supervision =
            record mid.supervision {
              mission =
                  (none ∙ ap (λ o. option_map ended (option_map without_pool o)) (sym none)) i;
            };
      }) book rights j) [] [])

-- ## The message

module _ (line : Line) (c : ℕ) (k : Centre) (stamp : ℕ) (old : TrainState) (book : Pages) (rights : Rights)
    (position : Position) (h : HearsTrain line c k stamp old book rights) where
  abbrev e : ℕ
  e = old.supervision.engine

  abbrev m : TrainMessage
  m = record { t_train = stamp; nid_engine = e; body = EndOfMission position }

  abbrev at : Centre
  at = heard_at line c k stamp old book rights h.parts

  abbrev reporting : Act
  reporting = with_some (λ i. i.mission e) (report_here line c e position)

  abbrev standing : Act
  standing = with_some (λ i. i.mission e) (stand_still line c e position)

  module _ (n : Mission) (mid : TrainState) (book' : Pages) (rights' : Rights) (heard : Heard)
      (up : session_phase old.session_state ≡ Up) (there : old.supervision.mission ≡ Some n)
      (goes_on : n.is_ended ≡ false)
      (engine : mid.supervision.engine ≡ e) (homes : (s : ℕ) → is_own book' s ≡ is_own book s)
      (kept : IsKeptAt line c mid)
      (does : Does line c (report_here line c e position n)
      (record old { heard = Some stamp }) book rights mid book' rights' heard)
      (order : heard.order ≡ None)
      (mail : heard.mail ≡ mail_home n.place.track heard.mail.first heard.mail.notice heard.mail.letter)
      (silent : is_some mid.supervision.mission ≡ true
      → (heard.mail.letter ≡ None) × (heard.mail.notice ≡ notices_of.Nothing))
      (on : (x : Mission) → mid.supervision.mission ≡ Some x → x.place.track ≡ n.place.track)
      (front : (p : Place) → place_on line n.place.track position ≡ Some p
      → LeavesFront line p old.supervision mid.supervision heard.told book book') where
    abbrev mid_at : Centre
    mid_at = with_parts mid book' rights' at

    -- the expectations of the train
    abbrev x : ℕ → Option Expectation
    x d = mid_at.expects d e

    has_mid : HasParts line c mid_at mid book' rights'
    has_mid =
        has_left line c at (record old { heard = Some stamp }) mid book book' rights rights'
        (parts_heard line c k stamp old book rights h.parts) homes kept

    stands : mid_at.mission e ≡ mid.supervision.mission
    stands = ap mid_at.mission (sym engine) ∙ has_mid.has_mission

    reported : reporting at ≡ reply_left line c e mid_at heard
    reported =
        ap (λ o. option_map_or (λ y. report_here line c e position y at) o (rest at)) (h.parts.has_mission ∙ there)
        ∙ does at (parts_heard line c k stamp old book rights h.parts)

    -- the effect of the message, by the acts after its stamp was recorded
    answers : (r : Reply) → (((reporting >> standing) >> finishing line c e) at ≡ r)
        → effect line c k (Train m) ≡ by_reply r
    answers r is =
        let known : k.mission e ≡ Some n = h.parts.has_mission ∙ there in
        answered_effect line c k m r
        (rw (h.known, h.parts.has_heard, h.timely, h.parts.has_phase, up, known, goes_on) refl) is

    -- ## No section is ahead

    module _ (pool : SectionRunCode) (returns : run_of pool ≡ pool_of mid.supervision)
        (nothing : left_ahead line n.place.track position n.hand ≡ Nothing) where
      abbrev ended_train : TrainState
      ended_train = record mid { supervision = finished mid.supervision }

      abbrev home : Mail
      home = mail_home n.place.track heard.mail.first heard.mail.notice heard.mail.letter

      abbrev pub both_heard : Heard
      both_heard = record heard { mail = record heard.mail { second = pool } }

      -- the rest of the mission is not cut
      uncut : (y : Mission) → mid.supervision.mission ≡ Some y → stand_still line c e position y ≡ rest
      uncut y stays = still_by line c e position n.place.track n.hand nothing y (on y stays)
          (λ p is. left_hand line p old.supervision mid.supervision n y heard.told book book' there (front p is) stays)

      stays_so : (o : Option Mission) → mid.supervision.mission ≡ o
          → option_map_or (λ y. stand_still line c e position y mid_at) o (rest mid_at) ≡ rest mid_at
      stays_so None is = refl
      stays_so (Some y) is = ap (λ (act : Act). act mid_at) (uncut y is)

      both_stand : (reporting >> standing) at ≡ reply_left line c e mid_at heard
      both_stand =
          in_turn reporting standing at (reply_left line c e mid_at heard) (rest mid_at) reported
          (ap (λ o. option_map_or (λ y. stand_still line c e position y mid_at) o (rest mid_at)) stands
          ∙ stays_so mid.supervision.mission refl)
          ∙ (λ i. record {
            state = mid_at;
            frames = λ d. append-nil (mail_to line c e x heard.mail d) i;
            sayings = append-nil (told_train heard.saying heard.order) i;
            words = append-nil (map (λ s. Told s) heard.told) i;
          })

      -- the ended mission, and the sections that are returned with it
      abbrev Finishes : Option Mission → Type 0
      Finishes o = (frames : ℕ → List Body)
          × (finishing line c e mid_at ≡ posted frames (replied (with_parts ended_train book' rights' mid_at) [] []))
          × ((d : ℕ) → mail_to line c e x home d ++ frames d ≡ mail_to line c e x (record home { second = pool }) d)

      finishes : (o : Option Mission) → mid.supervision.mission ≡ o → Finishes o
      finishes None none = (
        (λ d. []),
        ap (λ (u : ℕ). finishing line c u mid_at) (sym engine) ∙ ends_none line c mid_at mid book' rights' has_mid none,
        no_more line c e n.place.track x heard.mail.first pool heard.mail.notice heard.mail.letter
            (returns ∙ ap (λ o. option_map_or (λ (y : Mission). y.pool) o no_run) none),
      )
      finishes (Some y) stays = (
        going_home line c e n.place.track y.pool,
        ap (λ (u : ℕ). finishing line c u mid_at) (sym engine)
            ∙ ends_some line c mid_at mid book' rights' has_mid y stays
            ∙ (λ i. posted (going_home line c (engine i) (on y stays i) y.pool)
            (replied (with_parts ended_train book' rights' mid_at) [] [])),
        and_pool line c e n.place.track x heard.mail.first pool heard.mail.notice heard.mail.letter y.pool
            (returns ∙ ap (λ o. option_map_or (λ (z : Mission). z.pool) o no_run) stays) (silent (ap is_some stays)),
      )

      pub ends : effect line c k (Train m)
          ≡ by_reply (reply_left line c e (with_parts ended_train book' rights' k) both_heard)
      ends =
          let f = finishes mid.supervision.mission refl in
          answers _
          (in_turn (reporting >> standing) (finishing line c e) at (reply_left line c e mid_at heard)
          (posted f.0 (replied (with_parts ended_train book' rights' mid_at) [] [])) both_stand f.1
          ∙ (λ i. record {
            state = parts_over mid ended_train book' book' rights' rights' at refl i;
            frames =
                λ d. (ap (λ (y : Mail). mail_to line c e x y d ++ f.0 d) mail ∙ f.2 d
                ∙ ap (λ (y : Mail). mail_to line c e x (record y { second = pool }) d) (sym mail)) i;
            sayings = append-nil (told_train heard.saying heard.order) i;
            words = append-nil (map (λ s. Told s) heard.told) i;
          })
          ∙ ap (λ (y : Centre). reply_left line c e y both_heard)
          (left_heard line c k stamp old book rights h.parts ended_train book' rights' engine))

    -- ## The sections ahead are cut off

    module _ (keep : ℕ) (told : List ℕ)
        (ahead : IsAhead line e n.place.track position (hand_of old.supervision) book keep told)
        (cut_train : TrainState) (book'' : Pages) (rights'' : Rights) (later : Heard)
        (cuts_off : (y : Mission) → mid.supervision.mission ≡ Some y → y.place.track ≡ n.place.track
        → Does line c (cut line c mid.supervision.engine (y.hand.first + keep - 1) y) mid book' rights' cut_train book''
        rights'' later)
        (stays : IsKeptAt line c mid → IsKeptAt line c cut_train) (says : later.saying ≡ None)
        (orders : later.order ≡ None)
        (tells : later.told ≡ wished mid.supervision.engine (rest_of keep (hand_of mid.supervision)) book')
        (sends : later.mail ≡ mail_home n.place.track later.mail.first later.mail.notice None)
        (pool : pool_of cut_train.supervision ≡ no_run)
        (left : cut_train ≡ record mid { supervision = cut_train.supervision })
        (same_engine : cut_train.supervision.engine ≡ mid.supervision.engine)
        (homes'' : (s : ℕ) → is_own book'' s ≡ is_own book' s) where
      abbrev cut_at : Centre
      cut_at = with_parts cut_train book'' rights'' at

      abbrev ended_cut : TrainState
      ended_cut =
          record cut_train {
            supervision =
                record cut_train.supervision { mission = option_map ended cut_train.supervision.mission };
          }

      abbrev pub all_heard : Heard
      all_heard =
          record heard {
            mail = record heard.mail { second = later.mail.first; notice = later.mail.notice };
            told = told;
          }

      y : Mission
      y = record n { place = ahead.place; hand = uncleared line ahead.place n.hand }

      abbrev leaves : LeavesFront line ahead.place old.supervision mid.supervision heard.told book book'
      leaves = front ahead.place ahead.at

      y_stands : mid.supervision.mission ≡ Some y
      unfolding y
      y_stands =
          goes_so line e n.place.track position book book' old.supervision mid.supervision n keep heard.told told there
          ahead leaves

      y_on : y.place.track ≡ n.place.track
      y_on = on y y_stands

      is_cut : stand_still line c e position y ≡ cut line c e (y.hand.first + keep - 1) y
      unfolding y
      is_cut =
          ap (λ v. if v == 0 then option_map_or (cut_ahead line c e y) (place_on line y.place.track position) rest
          else rest) ahead.still
          ∙ (λ i. option_map_or (cut_ahead line c e y) (place_on line (y_on i) position) rest)
          ∙ ap (λ o. option_map_or (cut_ahead line c e y) o rest) ahead.at
          ∙ ahead_is_cut line c e y ahead.place
          ∙ ap (standing_act line c e y)
          ((λ i. ahead_of line (uncleared line ahead.place (hand_of (record old.supervision { mission = sym there i })))
          ahead.place.front) ∙ ahead.cut)

      stood : standing mid_at ≡ reply_left line c e cut_at later
      stood =
          ap (λ o. option_map_or (λ z. stand_still line c e position z mid_at) o (rest mid_at)) (stands ∙ y_stands)
          ∙ ap (λ (act : Act). act mid_at) is_cut
          ∙ ap (λ (u : ℕ). cut line c u (y.hand.first + keep - 1) y mid_at) (sym engine)
          ∙ cuts_off y y_stands y_on mid_at has_mid
          ∙ ap (λ (u : ℕ). reply_left line c u (with_parts cut_train book'' rights'' mid_at) later) engine
          ∙ ap (λ (z : Centre). reply_left line c e z later)
          (parts_over mid cut_train book' book'' rights' rights'' at same_engine)

      has_cut : HasParts line c cut_at cut_train book'' rights''
      has_cut =
          has_left line c at (record old { heard = Some stamp }) cut_train book book'' rights rights''
          (parts_heard line c k stamp old book rights h.parts) (λ s. homes'' s ∙ homes s) (stays kept)

      closed : finishing line c e cut_at ≡ replied (with_parts ended_cut book'' rights'' cut_at) [] []
      closed =
          ap (λ (u : ℕ). finishing line c u cut_at) (sym (same_engine ∙ engine)) ∙ by cut_train.supervision.mission refl
          ∙ (λ i.
          replied (with_parts (record cut_train { supervision = same_finish cut_train.supervision pool i }) book''
          rights'' cut_at) [] [])
        where
          by : (o : Option Mission) → cut_train.supervision.mission ≡ o
              → finishing line c cut_train.supervision.engine cut_at
              ≡ replied (with_parts (record cut_train { supervision = finished cut_train.supervision }) book'' rights''
              cut_at) [] []
          by None none = ends_none line c cut_at cut_train book'' rights'' has_cut none
          by (Some z) is =
              ends_some line c cut_at cut_train book'' rights'' has_cut z is
              ∙ (λ i.
              posted (going_home line c cut_train.supervision.engine z.place.track
              ((ap (λ o. option_map_or (λ (w : Mission). w.pool) o no_run) (sym is) ∙ pool) i))
              (replied (with_parts (record cut_train { supervision = finished cut_train.supervision }) book'' rights''
              cut_at) [] []))

      -- the expectations of the train then
      abbrev x_cut : ℕ → Option Expectation
      x_cut d = cut_at.expects d e

      mail_is : heard.mail ≡ mail_home n.place.track heard.mail.first notices_of.Nothing None
      mail_is = let quiet = silent (ap is_some y_stands) in
          mail ∙ (λ i. mail_home n.place.track heard.mail.first (quiet.1 i) (quiet.0 i))

      frames_are : (d : ℕ) → (mail_to line c e x heard.mail d ++ mail_to line c e x_cut later.mail d) ++ []
          ≡ mail_to line c e x_cut all_heard.mail d
      frames_are d =
          append-nil (mail_to line c e x heard.mail d ++ mail_to line c e x_cut later.mail d)
          ∙ (λ i. mail_to line c e x (mail_is i) d ++ mail_to line c e x_cut (sends i) d)
          ∙ ap (λ (xs : List Body). xs
          ++ (going_home line c e n.place.track (run_of later.mail.first) d
          ++ (notices e x_cut later.mail.notice d ++ [])))
          (append-nil (going_home line c e n.place.track (run_of heard.mail.first) d))
          ∙ (λ i. mail_to line c e x_cut
          (record (sym mail_is i) { second = later.mail.first; notice = later.mail.notice }) d)

      words_are : (map (λ s. Told s) heard.told ++ map (λ s. Told s) later.told) ++ [] ≡ map (λ s. Told s) told
      unfolding y
      words_are =
          append-nil (map (λ s. Told s) heard.told ++ map (λ s. Told s) later.told)
          ∙ sym (map-append (λ s. Told s) heard.told later.told)
          ∙ ap (map (λ s. Told s))
          (tells_all line n.place.track position book book' old.supervision mid.supervision n keep heard.told later.told
          told there ahead leaves
          (tells
          ∙ (λ i. wished (engine i) (rest_of keep (option_map_or (λ (w : Mission). w.hand) (y_stands i) no_run)) book'))
          leaves.told)

      sayings_are : (told_train heard.saying heard.order ++ told_train later.saying later.order) ++ []
          ≡ told_train heard.saying heard.order
      sayings_are =
          (λ i. (told_train heard.saying heard.order ++ told_train (says i) (orders i)) ++ [])
          ∙ append-nil (told_train heard.saying heard.order ++ [])
          ∙ append-nil (told_train heard.saying heard.order)

      pub ends_ahead : effect line c k (Train m)
          ≡ by_reply (reply_left line c e (with_parts ended_cut book'' rights'' k) all_heard)
      ends_ahead =
          answers _ (in_turn (reporting >> standing) (finishing line c e) at (record {
            state = cut_at;
            frames = λ d. mail_to line c e x heard.mail d ++ mail_to line c e x_cut later.mail d;
            sayings = told_train heard.saying heard.order ++ told_train later.saying later.order;
            words = map (λ s. Told s) heard.told ++ map (λ s. Told s) later.told;
          }) (replied (with_parts ended_cut book'' rights'' cut_at) [] [])
          (in_turn reporting standing at (reply_left line c e mid_at heard)
          (reply_left line c e cut_at later) reported stood) closed
          ∙ (λ i. record {
            state = parts_over cut_train ended_cut book'' book'' rights'' rights'' at refl i;
            frames = λ d. frames_are d i;
            sayings = sayings_are i;
            words = words_are i;
          })
          ∙ ap (λ (z : Centre). reply_left line c e z all_heard)
          (left_heard line c k stamp old book rights h.parts ended_cut book'' rights'' (same_engine ∙ engine)))
