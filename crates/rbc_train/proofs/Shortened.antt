-- A train grants a request to shorten its authority: the effect is that of its definition.
use Rattle.std.proofs.Common.{[], if◌then◌else◌, ◌&&◌, ◌*◌, ◌<◌, ◌==◌, ◌∙◌, ◌≡◌, ap, Bool, Err, false, is_none, is_some}
use Rattle.std.proofs.Common.{length, List, nat_le, None, Ok, Option, option_and_then, option_map, refl, Result, Some}
use Rattle.std.proofs.Common.{subst, sym, true, ℕ}
use Rattle.rbc_allocation.specs.Sections.{FreesRun, rest_of, wished}
use Rattle.rbc_book.specs.Book.{Pages}
use Rattle.rbc_hand.specs.Hands.{Holding}
use Rattle.rbc_handover.specs.declared.handing.HandoverName.{HandoverName}
use Rattle.rbc_handover.specs.Handings.{handover_name}
use Rattle.rbc_line.specs.declared.section_run.SectionRun.{SectionRun as SectionRunCode}
use Rattle.rbc_line.specs.SectionRuns.{run_of}
use Rattle.rbc_mission.specs.declared.held.HeldRight.{HeldRight}
use Rattle.rbc_mission.specs.declared.held.HeldRight.TheVariants.{Held, Nothing as Nothing_held}
use Rattle.rbc_mission.specs.Supervisions.{cut_run, hand_of, handing_in, handover_left, right_left, SupervisionState}
use Rattle.rbc_mission.specs.Supervisions.{with_front}
use Rattle.rbc_right.specs.Rights.{right_of, Rights}
use Rattle.rbc_session.specs.SessionStates.{session_phase}
use Rattle.rbc_shorten.specs.Answers.{act_of, cut_of, freeing, on_asked}
use Rattle.rbc_shorten.specs.declared.answer.Cut.{Cut}
use Rattle.rbc_shorten.specs.declared.answer.Cut.TheVariants.{Keep, Nothing}
use Rattle.rbc_shorten.specs.declared.answer.Unasked.{Unasked}
use Rattle.rbc_shorten.specs.declared.facts.Proposal.{Proposal as ProposalCode}
use Rattle.rbc_spec.proofs.Worlds.{then_rest}
use Rattle.rbc_spec.specs.Acts.{◌>>◌, Act, change_mission, rest}
use Rattle.rbc_spec.specs.Centre.{Centre, Expectation, Mission, Proposal, Up}
use Rattle.rbc_spec.specs.Line.{end, Line}
use Rattle.rbc_spec.specs.Message.{ShorteningGranted, TrainMessage}
use Rattle.rbc_spec.specs.Place.{Position}
use Rattle.rbc_spec.specs.SectionRuns.{joined, SectionRun}
use Rattle.rbc_spec.specs.Step.{effect, is_unasked, Train}
use Rattle.rbc_train.proofs.Cuts.{cuts, kept_of}
use Rattle.rbc_train.proofs.Desk.{answered_effect, by_reply, mission_changed, with_mission}
use Rattle.rbc_train.proofs.Kept.{kept_changed}
use Rattle.rbc_train.proofs.Requests.{some_mapped}
use Rattle.rbc_train.proofs.Turns.{does_then, has_left, heard_at, left_heard, parts_heard}
use Rattle.rbc_train.specs.declared.heard.Heard.{Heard}
use Rattle.rbc_train.specs.declared.letter.Letter.{Letter}
use Rattle.rbc_train.specs.declared.train.TrainState.{TrainState}
use Rattle.rbc_train.specs.Desk.{HasParts, HearsTrain, IsKeptAt, replied, reply_left, with_parts}
use Rattle.rbc_train.specs.Homes.{GoesHome}
use Rattle.rbc_train.specs.Letters.{cancel_of, mail_home, mail_of, mail_to}

-- the pending request, if the answer is to it
pub asked_is : (f : ProposalCode → Cut) (o : Option ProposalCode) (stamp : ℕ) (x : Cut) → on_asked f o stamp ≡ Ok x
    → (p : ProposalCode) × (o ≡ Some p) × (f p ≡ x)
asked_is f None stamp x is = cc
asked_is f (Some p) stamp x is = by_stamp (p.stamp == stamp) is
  where
    same : (y : Cut) → ◌≡◌ {A = Result Cut Unasked} (Ok y) (Ok x) → y ≡ x
    same y e = cc

    by_stamp : (b : Bool) → ◌≡◌ {A = Result Cut Unasked} (if b then Ok (f p) else Err (record {})) (Ok x)
        → (q : ProposalCode) × (Some p ≡ Some q) × (f q ≡ x)
    by_stamp true e = (p, refl, same (f p) e)
    by_stamp false e = cc

pub kept_is : (line : Line) (hand : SectionRun) (front : Option ℕ) (p : ProposalCode) (keep : ℕ)
    → cut_of line hand front p ≡ Keep keep → keep ≡ kept_of p.last_kept hand
kept_is line hand None p keep is = cc
kept_is line hand (Some f) p keep is = by_end (nat_le f (10 * end line p.last_kept)) is
  where
    by_end : (b : Bool) → (if b then Keep (kept_of p.last_kept hand) else Nothing) ≡ Keep keep
        → keep ≡ kept_of p.last_kept hand
    by_end true e = cc
    by_end false e = cc

abbrev pub unasked : Mission → Mission
unasked m = record m { proposal = None }

-- a handover stays of a mission whose request is dropped
handing_unasked : (o : Option Mission)
    → option_and_then (λ (m : Mission). m.handing) (option_map unasked o)
    ≡ option_and_then (λ (m : Mission). m.handing) o
handing_unasked None = refl
handing_unasked (Some m) = refl

module _ (line : Line) (c : ℕ) (k : Centre) (stamp : ℕ) (old : TrainState) (book : Pages) (rights : Rights)
    (request : ℕ) (position : Position) (h : HearsTrain line c k stamp old book rights)
    (n : Mission) (p : Proposal) (up : session_phase old.session_state ≡ Up) (there : old.supervision.mission ≡ Some n)
    (standing : n.proposal ≡ Some p)
    (asked : is_unasked (Some n) (ShorteningGranted request position) ≡ false) where
  abbrev t : ℕ
  t = old.supervision.engine

  abbrev m : TrainMessage
  m = record { t_train = stamp; nid_engine = t; body = ShorteningGranted request position }

  abbrev at : Centre
  at = heard_at line c k stamp old book rights h.parts

  abbrev mid : TrainState
  mid = with_mission (record old { heard = Some stamp }) (option_map unasked old.supervision.mission)

  has : HasParts line c at (record old { heard = Some stamp }) book rights
  has = parts_heard line c k stamp old book rights h.parts

  dropped : change_mission t unasked at ≡ replied (with_parts mid book rights at) [] []
  dropped =
      ap (λ (x : Centre). replied x [] [])
      (mission_changed line c at (record old { heard = Some stamp }) book rights has unasked)

  mid_kept : IsKeptAt line c mid
  mid_kept =
      kept_changed line c (record old { heard = Some stamp }) unasked
      (λ m form. record { some = form.some; most = form.most; numbers = form.numbers; few = form.few }) (λ m. refl)
      (λ m. refl) has.kept

  mid_has : HasParts line c (with_parts mid book rights at) mid book rights
  mid_has = has_left line c at (record old { heard = Some stamp }) mid book book rights rights has (λ s. refl) mid_kept

  -- the effect of an answer
  answers : (act : Act) (left : TrainState) (book' : Pages) (rights' : Rights) (heard : Heard)
      → freeing line c t position n p ≡ act → left.supervision.engine ≡ t
      → (change_mission t unasked >> act) at ≡ reply_left line c t (with_parts left book' rights' at) heard
      → effect line c k (Train m) ≡ by_reply (reply_left line c t (with_parts left book' rights' k) heard)
  answers act left book' rights' heard frees engine both =
      let stands : k.mission t ≡ Some n = h.parts.has_mission ∙ there in
      answered_effect line c k m _
      (rw (h.known, h.parts.has_heard, h.timely, h.parts.has_phase, up, stands, asked) refl)
      (rw (stands, standing) (ap (λ (a : Act). (change_mission t unasked >> a) at) frees ∙ both
      ∙ ap (λ (x : Centre). reply_left line c t x heard)
      (left_heard line c k stamp old book rights h.parts left book' rights' engine)))

  -- a train that has run past the proposed end keeps its hand
  pub keeps_all : freeing line c t position n p ≡ rest
      → effect line c k (Train m)
      ≡ by_reply (reply_left line c t (with_parts mid book rights k)
      (record { saying = None; order = None; mail = mail_of None; told = [] }))
  keeps_all frees =
      answers rest mid book rights (record { saying = None; order = None; mail = mail_of None; told = [] }) frees refl
      (then_rest (change_mission t unasked) at ∙ dropped)

  -- another gives back the sections after the end
  pub gives_back : (keep : ℕ) (left : SupervisionState) (hand : Holding) (book' : Pages) (rights' : Rights)
      (told : List ℕ) (cancelled : Option HandoverName) (letter : Option Letter) (sections : SectionRunCode)
      → freeing line c t position n p ≡ act_of line c t n p (Keep keep)
      → keep ≡ kept_of p.last_kept n.hand → old.supervision.number < length rights
      → left ≡ record old.supervision {
        mission = option_and_then (with_front line keep) old.supervision.mission;
        hand = hand;
      }
      → FreesRun t (rest_of keep (hand_of old.supervision)) book book'
      → told ≡ wished t (rest_of keep (hand_of old.supervision)) book → run_of sections ≡ cut_run keep old.supervision
      → cancelled ≡ handover_left old.supervision left
      → GoesHome line c t (right_left old.supervision left) letter rights rights'
      → (heard : Heard) → heard ≡ record {
        saying = None;
        order = None;
        mail = mail_home n.place.track sections (cancel_of cancelled) letter;
        told = told;
      }
      → effect line c k (Train m)
      ≡ by_reply (reply_left line c t
      (with_parts (record old { heard = Some stamp; supervision = left }) book' rights' k) heard)
  gives_back keep left hand book' rights' told cancelled letter sections frees counts few is freed is_told goes cancels
      home heard heard_is =
      let run_is : rest_of keep (hand_of old.supervision) ≡ rest_of (kept_of p.last_kept n.hand) n.hand =
      λ i. rest_of (counts i) (hand_of (record old.supervision { mission = there i })) in
      let goes_is : run_of sections ≡ joined (rest_of (kept_of p.last_kept n.hand) n.hand) n.pool =
      goes ∙ (λ i. cut_run (counts i) (record old.supervision { mission = there i })) in
      let left_is : left ≡ record old.supervision {
        mission = with_front line (kept_of p.last_kept n.hand) n;
        hand = hand;
      } =
      is
      ∙ (λ i. record old.supervision {
        mission = option_and_then (with_front line (counts i)) (there i);
        hand = hand;
      }) in
      let goes_home : GoesHome line c t (right_left mid.supervision left) letter rights rights' =
      subst (λ (x : HeldRight). GoesHome line c t x letter rights rights')
      (λ i. if sym (some_mapped unasked old.supervision.mission) i && is_none left.mission
      then Held (right_of old.supervision.number) else Nothing_held) home in
      let cancels_mid : cancelled ≡ handover_left mid.supervision left =
      cancels
      ∙ (λ i. if is_some (handing_in left) then None
      else option_map handover_name (sym (handing_unasked old.supervision.mission) i)) in
      let left_train : TrainState = record old { heard = Some stamp; supervision = left } in
      let x : ℕ → Option Expectation = λ d. (with_parts left_train book' rights' at).expects d t in
      answers (act_of line c t n p (Keep keep)) left_train book' rights' heard frees
      (ap (λ (y : SupervisionState). y.engine) left_is)
      (does_then (change_mission t unasked)
      (act_of line c t n p (Keep keep)) at mid left_train book book' rights rights' [] told
      (mail_to line c t x (mail_home n.place.track sections (cancel_of cancelled) letter))
      (ap (λ (y : SupervisionState). y.engine) left_is) dropped
      (cuts line c (with_parts mid book rights at) mid book rights mid_has n None p.last_kept
      (ap (option_map unasked) there) few x left hand book' rights' told cancelled letter sections left_is cancels_mid
      (subst (λ (r : SectionRun). FreesRun t r book book') run_is freed)
      (is_told ∙ ap (λ r. wished t r book) run_is) goes_is goes_home)
      ∙ ap (reply_left line c t (with_parts left_train book' rights' at)) (sym heard_is))
