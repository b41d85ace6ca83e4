-- A position report has the effect of its definition.
use Rattle.std.proofs.Common.{[], if◌then◌else◌, ◌==◌, ◌∙◌, ◌≡◌, ap, Bool, eqb-true, false, List, None, Option, refl}
use Rattle.std.proofs.Common.{Some, sym, true, ℕ}
use Rattle.std.proofs.lemmas.List.{append-nil}
use Rattle.std.proofs.lemmas.Option.{same_Some}
use Rattle.std.specs.Option.{option_map_or}
use Rattle.rbc_book.specs.Book.{Pages}
use Rattle.rbc_handover.specs.declared.announcers.Announcers.{Announcers}
use Rattle.rbc_handover.specs.Expectations.{claims, expected_from, HasExpectations, telling, with_expectations}
use Rattle.rbc_right.specs.Rights.{Rights}
use Rattle.rbc_session.specs.SessionStates.{session_phase}
use Rattle.rbc_spec.proofs.Lists.{put_there}
use Rattle.rbc_spec.specs.Acts.{Reply}
use Rattle.rbc_spec.specs.Centre.{Centre, Expectation, Mission, Up}
use Rattle.rbc_spec.specs.Line.{Line}
use Rattle.rbc_spec.specs.Maps.{put}
use Rattle.rbc_spec.specs.Message.{Report, TrainMessage}
use Rattle.rbc_spec.specs.Outcome.{NotSupervised}
use Rattle.rbc_spec.specs.Place.{extent, Place, place_on, Position}
use Rattle.rbc_spec.specs.Rules.{clear, report_here, take_over}
use Rattle.rbc_spec.specs.Step.{effect, is_awaited, Train}
use Rattle.rbc_train.proofs.Desk.{answered_effect, by_reply, expects_left, has_expectations, same_parts, silent_effect}
use Rattle.rbc_train.proofs.Turns.{heard_at, left_heard, parts_heard}
use Rattle.rbc_train.specs.declared.heard.Heard.{Heard}
use Rattle.rbc_train.specs.declared.mail.Notice.TheVariants as notice
use Rattle.rbc_train.specs.declared.train.TrainState.{TrainState}
use Rattle.rbc_train.specs.Desk.{Does, HearsTrain, posted, replied, reply_left, with_parts}
use Rattle.rbc_train.specs.Letters.{mail_home, no_sections}

module _ (line : Line) (c : ℕ) (k : Centre) (stamp : ℕ) (old : TrainState) (book : Pages) (rights : Rights)
    (position : Position) (h : HearsTrain line c k stamp old book rights) where
  abbrev t : ℕ
  t = old.supervision.engine

  abbrev m : TrainMessage
  m = record { t_train = stamp; nid_engine = t; body = Report position }

  -- another centre supervises the train, and it is not expected or is not in the area
  pub not_supervised : session_phase old.session_state ≡ Up → old.supervision.mission ≡ None
      → is_awaited line c k t position ≡ false
      → effect line c k (Train m) ≡ record {
        reply = replied (with_parts old book rights k) [] [];
        link = None;
        silence = Some NotSupervised;
      }
  not_supervised up none away =
      silent_effect line c k m NotSupervised
      (rw (h.known, h.parts.has_heard, h.timely, h.parts.has_phase, up, h.parts.has_mission, none, away) refl)
      ∙ ap (λ (r : Reply). record { reply = r; link = None; silence = Some NotSupervised })
      (same_parts line c k old book rights h.parts)

  -- and else its announcers get a TakingOver
  pub takes_over : (e : List (Option Expectation)) (told : Announcers) → session_phase old.session_state ≡ Up
      → old.supervision.mission ≡ None → is_awaited line c k t position ≡ true
      → ((j : Centre) → HasExpectations line t j old.expectations
      → take_over line t j ≡ telling t told (expected_from e) (with_expectations t e j))
      → effect line c k (Train m)
      ≡ by_reply (reply_left line c t (with_parts (record old { heard = Some stamp; expectations = e }) book rights k)
      (record { saying = None; order = None; mail = mail_home 0 no_sections (notice.TakingOver told) None; told = [] }))
  takes_over e told up none here does =
      let at = heard_at line c k stamp old book rights h.parts in
      let mid : TrainState = record old { heard = Some stamp } in
      let new : TrainState = record mid { expectations = e } in
      let has = parts_heard line c k stamp old book rights h.parts in
      let missing : k.mission t ≡ None = h.parts.has_mission ∙ none in
      answered_effect line c k m _
      (rw (h.known, h.parts.has_heard, h.timely, h.parts.has_phase, up, missing, here) refl)
      (rw missing (does at (has_expectations line c at mid book rights has))
      ∙ (λ i. posted (claims t told (expected_from e))
      (replied
      ((expects_left line c at mid book rights has e
      ∙ left_heard line c k stamp old book rights h.parts new book rights refl) i) [] []))
      ∙ (λ i. posted (λ d. claims t told (λ b. sym (put_there (k.expects b) t (expected_from e b)) i) d)
      (replied (with_parts new book rights k) [] []))
      ∙ (λ i. posted (λ d. sym (append-nil (claims t told (λ b. put (k.expects b) t (expected_from e b) t) d)) i)
      (replied (with_parts new book rights k) [] [])))

  -- the sections that the train has cleared leave its hand
  pub reports : (n : Mission) (place : Place) (new : TrainState) (book' : Pages) (rights' : Rights) (heard : Heard)
      → session_phase old.session_state ≡ Up → old.supervision.mission ≡ Some n
      → place_on line n.place.track position ≡ Some place → new.supervision.engine ≡ t
      → Does line c (clear line c t n place) (record old { heard = Some stamp }) book rights new book' rights' heard
      → effect line c k (Train m) ≡ by_reply (reply_left line c t (with_parts new book' rights' k) heard)
  reports n place new book' rights' heard up there on engine does =
      let at = heard_at line c k stamp old book rights h.parts in
      let stands : k.mission t ≡ Some n = h.parts.has_mission ∙ there in
      let comes : report_here line c t position n at ≡ reply_left line c t (with_parts new book' rights' at) heard =
      rw on (does at (parts_heard line c k stamp old book rights h.parts)) in
      answered_effect line c k m _ (rw (h.known, h.parts.has_heard, h.timely, h.parts.has_phase, up, stands, on) refl)
      (rw stands
      (comes ∙ ap (λ (x : Centre). reply_left line c t x heard)
      (left_heard line c k stamp old book rights h.parts new book' rights' engine)))

-- a place on a track is of that track
pub on_track : (line : Line) (track : ℕ) (position : Position) (p : Place) → place_on line track position ≡ Some p
    → p.track ≡ track
on_track line track position p is = by (extent line position) is
  where
    by_test : (q : Place) (b : Bool) → (q.track == track) ≡ b → (if b then Some q else None) ≡ Some p → p.track ≡ track
    by_test q true same e = ap (λ (x : Place). x.track) (sym (same_Some q p e)) ∙ eqb-true q.track track same
    by_test q false other e = cc

    by : (o : Option Place) → option_map_or (λ (q : Place). if q.track == track then Some q else None) o None ≡ Some p
        → p.track ≡ track
    by None e = cc
    by (Some q) e = by_test q (q.track == track) refl e
