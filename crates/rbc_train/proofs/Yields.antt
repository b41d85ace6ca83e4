-- A mission is yielded to the centre that takes over, if its handover is pending.
use Rattle.std.proofs.Common.{[], if◌then◌else◌, ◌++◌, ◌==◌, ◌∙◌, ◌∷◌, ◌≡◌, ap, List, None, Option, refl, Some, sym, ℕ}
use Rattle.std.proofs.lemmas.List.{append-nil}
use Rattle.std.specs.Option.{option_map_or}
use Rattle.rbc_book.specs.Book.{entry_at, Pages, wish_at}
use Rattle.rbc_border.specs.Lending.{with_book}
use Rattle.rbc_hand.specs.Hands.{Holding}
use Rattle.rbc_line.specs.SectionRuns.{run_of}
use Rattle.rbc_linkmsg.specs.Bodies.{body_of}
use Rattle.rbc_mission.specs.declared.handing_over.Yielded.{Yielded}
use Rattle.rbc_mission.specs.Handovers.{sends_off}
use Rattle.rbc_mission.specs.Supervisions.{SupervisionState, with_supervision}
use Rattle.rbc_place.specs.Places.{place_of}
use Rattle.rbc_right.specs.Rights.{Rights}
use Rattle.rbc_spec.specs.Acts.{◌>>◌, end_order, Reply, rest, returned}
use Rattle.rbc_spec.specs.Centre.{Centre}
use Rattle.rbc_spec.specs.Frame.{Body, Yield, yielded_place}
use Rattle.rbc_spec.specs.Line.{Line}
use Rattle.rbc_spec.specs.Links.{taking_over}
use Rattle.rbc_spec.specs.Maps.{put}
use Rattle.rbc_train.proofs.Desk.{same_state}
use Rattle.rbc_train.proofs.Letters.{sends_home}
use Rattle.rbc_train.specs.declared.heard.Heard.{Heard}
use Rattle.rbc_train.specs.declared.letter.Letter.{Letter}
use Rattle.rbc_train.specs.declared.mail.Notice.TheVariants as notice
use Rattle.rbc_train.specs.declared.saying.Saying.{Saying}
use Rattle.rbc_train.specs.declared.train.TrainState.{TrainState}
use Rattle.rbc_train.specs.Desk.{counted_to, HasParts, posted, replied, reply_left, with_parts}
use Rattle.rbc_train.specs.Letters.{going_home, letters, mail_home, mail_of, mail_to}
use Rattle.rbc_train.specs.Sayings.{sayings_of, told_train}

-- an order after a message
pub told_both : (saying order : Option Saying) → sayings_of saying ++ sayings_of order ≡ told_train saying order
told_both saying None = append-nil (sayings_of saying)
told_both saying (Some o) = refl

-- only an order is sent to the train
pub told_order : (order : Option Saying) → sayings_of order ≡ told_train None order
told_order None = refl
told_order (Some o) = refl

module _ (line : Line) (c from number : ℕ) (k : Centre) (old : TrainState) (book : Pages) (rights : Rights)
    (has : HasParts line c k old book rights) where
  abbrev t : ℕ
  t = old.supervision.engine

  -- no such handover is pending: nothing changes
  pub stays : (left : SupervisionState) (book' : Pages) → left ≡ old.supervision → book' ≡ book
      → taking_over line c from number t k ≡ rest (with_supervision left (with_book book' k))
      → taking_over line c from number t k
      ≡ reply_left line c t (with_parts (record old { supervision = left }) book' rights k)
      (record { saying = None; order = None; mail = mail_of None; told = [] })
  stays left book' same same_book is =
      is
      ∙ (λ i. rest (with_supervision (same i) (with_book (same_book i) k)))
      ∙ (λ i. replied (record (same_state line c k old book rights has i) {
        book = entry_at book;
        wish = wish_at book;
        mission = put k.mission t old.supervision.mission;
        route_ask = put k.route_ask t old.supervision.asked;
      }) [] [])
      ∙ (λ i. replied (with_parts (record old { supervision = sym same i }) (sym same_book i) rights k) [] [])

  module _ (y : Yielded) (letter : Letter) (order : Option Saying) (new : TrainState) (hand : Holding) (book' : Pages)
      (to : letter.to ≡ y.handover.to)
      (body : body_of letter.body
      ≡ Yield y.handover.number t (option_map_or (λ n. n) old.heard 0) y.mission.has_data y.mission.is_ended
      (yielded_place (place_of y.mission.place)) (run_of y.hand))
      (is : new ≡ record old { said = new.said; supervision = record old.supervision { mission = None; hand = hand } })
      (due : taking_over line c from number t k
      ≡ sends_off line c t y
      (with_supervision (record old.supervision { mission = None; hand = hand }) (with_book book' k)))
      (last : (if y.is_gone then end_order line c t else rest)
      (with_supervision (record old.supervision { mission = None; hand = hand }) (with_book book' k))
      ≡ replied (counted_to t new.said
      (with_supervision (record old.supervision { mission = None; hand = hand }) (with_book book' k)))
      (sayings_of order) []) where
    abbrev at : Centre
    at = with_supervision (record old.supervision { mission = None; hand = hand }) (with_book book' k)

    abbrev track : ℕ
    track = y.mission.place.track

    abbrev heard : Heard
    heard =
        record { saying = None; order = order; mail = mail_home track y.pool notice.Nothing (Some letter); told = [] }

    off : ℕ → List Body
    off d = if d == y.handover.to
        then Yield y.handover.number t (option_map_or (λ n. n) (k.heard t) 0) y.mission.has_data y.mission.is_ended
        (yielded_place (place_of y.mission.place)) (run_of y.hand) ∷ []
        else []

    -- the frame that takes the mission
    one_letter : (d : ℕ) → off d ≡ letters (Some letter) d
    unfolding off
    one_letter d = (λ i. if d == sym to i
        then (λ (x : Body). x ∷ [])
        ((ap (λ o. Yield y.handover.number t (option_map_or (λ n. n) o 0) y.mission.has_data y.mission.is_ended
        (yielded_place (place_of y.mission.place)) (run_of y.hand)) has.has_heard ∙ sym body) i)
        else [])

    home : ℕ → List Body
    home d = (returned line c t track (run_of y.pool) at).frames d

    home_is : (d : ℕ) → home d ≡ going_home line c t track (run_of y.pool) d
    unfolding home
    home_is d = sym (sends_home line c t track (run_of y.pool) at d)

    sent : sends_off line c t y at ≡ record {
      state = ((if y.is_gone then end_order line c t else rest) at).state;
      frames = λ d. (home d ++ off d) ++ ((if y.is_gone then end_order line c t else rest) at).frames d;
      sayings = ((if y.is_gone then end_order line c t else rest) at).sayings;
      words = ((if y.is_gone then end_order line c t else rest) at).words;
    }
    unfolding ◌>>◌ home off
    sent = refl

    -- the state after it, with the count of messages
    abbrev left : Centre
    left = counted_to t new.said at

    left_is : left ≡ with_parts new book' rights k
    left_is =
        (λ i. record (same_state line c k old book rights has i) {
          book = entry_at book';
          wish = wish_at book';
          said = put k.said t new.said;
          mission = put k.mission t None;
          route_ask = put k.route_ask t old.supervision.asked;
        })
        ∙ (λ i. with_parts (sym is i) book' rights k)

    frames_are : (d : ℕ) → (home d ++ off d) ++ [] ≡ mail_to line c t (λ d. left.expects d t) heard.mail d
    frames_are d = append-nil (home d ++ off d) ∙ (λ i. home_is d i ++ one_letter d i)

    pub goes : taking_over line c from number t k ≡ reply_left line c t (with_parts new book' rights k) heard
    goes =
        due ∙ sent
        ∙ ap (λ (b : Reply). record {
          state = b.state;
          frames = λ d. (home d ++ off d) ++ b.frames d;
          sayings = b.sayings;
          words = b.words;
        }) last
        ∙ (λ i. posted (λ d. frames_are d i) (replied left (told_order order i) []))
        ∙ (λ i. reply_left line c t (left_is i) heard)
