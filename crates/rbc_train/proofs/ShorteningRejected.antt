-- A train rejects a request to shorten its authority.
use Rattle.std.proofs.Common.{[], ◌≡◌, ap, false, None, option_map, refl, Some, ℕ}
use Rattle.rbc_book.specs.Book.{Pages}
use Rattle.rbc_right.specs.Rights.{Rights}
use Rattle.rbc_session.specs.SessionStates.{session_phase}
use Rattle.rbc_spec.specs.Centre.{Centre, Mission, Up}
use Rattle.rbc_spec.specs.Line.{Line}
use Rattle.rbc_spec.specs.Maps.{put}
use Rattle.rbc_spec.specs.Message.{ShorteningRejected}
use Rattle.rbc_spec.specs.Place.{Position}
use Rattle.rbc_spec.specs.Step.{effect, is_unasked, Train}
use Rattle.rbc_train.proofs.Desk.{answered_effect, by_reply, left_is, same_phase, same_said, turned}
use Rattle.rbc_train.specs.declared.train.TrainState.{TrainState}
use Rattle.rbc_train.specs.Desk.{HearsTrain, replied, with_parts}

module _ (line : Line) (c : ℕ) (k : Centre) (stamp : ℕ) (old : TrainState) (book : Pages) (rights : Rights)
    (h : HearsTrain line c k stamp old book rights) where
  abbrev unasked : Mission → Mission
  unasked m = record m { proposal = None }

  pub rejects : (request : ℕ) (position : Position) (n : Mission) → session_phase old.session_state ≡ Up
      → old.supervision.mission ≡ Some n → is_unasked (Some n) (ShorteningRejected request position) ≡ false
      → effect line c k
      (Train (record {
        t_train = stamp;
        nid_engine = old.supervision.engine;
        body = ShorteningRejected request position;
      }))
      ≡ by_reply
      (replied
      (with_parts (turned old old.session_state (Some stamp) old.said (option_map unasked old.supervision.mission)) book
      rights k) [] [])
  rejects request position n up there asked =
      let has = h.parts in
      let t = old.supervision.engine in
      answered_effect line c k
      (record { t_train = stamp; nid_engine = t; body = ShorteningRejected request position }) _
      (rw (h.known, has.has_heard, h.timely, has.has_phase, up, has.has_mission, there, asked) refl)
      (ap (λ (x : Centre). replied x [] [])
      (left_is line c k old book rights has old.session_state (Some stamp) old.said
      (option_map unasked old.supervision.mission)
      k.phase k.said (put k.mission t (option_map unasked (k.mission t)))
      (same_phase line c k old book rights has) (same_said line c k old book rights has)
      (λ u. ap (λ o. put k.mission t (option_map unasked o) u) has.has_mission)))
