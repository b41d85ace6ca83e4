-- Frames about the right to supervise a train have the effect of their definitions.
use Rattle.std.proofs.Common.{[], ◌&&◌, ◌+◌, ◌<◌, ◌∙◌, ◌≡◌, ap, Bool, false, is_none, is_some, length, List, lt-ltb}
use Rattle.std.proofs.Common.{nat_lt, None, not, Option, option_map, refl, Some, subst, sym, true, ℕ}
use Rattle.rbc_book.specs.Book.{entry_at, Pages, wish_at}
use Rattle.rbc_hand.specs.Hands.{Holding}
use Rattle.rbc_linkmsg.specs.declared.body.Body.TheVariants as code
use Rattle.rbc_mission.specs.declared.held.HeldRight.TheVariants.{Held}
use Rattle.rbc_mission.specs.Supervisions.{mission_at, SupervisionState}
use Rattle.rbc_pending_start.proofs.Waits.{given}
use Rattle.rbc_pending_start.specs.Waits.{nothing_waits, WaitState, with_wait}
use Rattle.rbc_right.specs.Answers.{answer}
use Rattle.rbc_right.specs.declared.registrar.Asked.TheVariants.{Given, NotHere}
use Rattle.rbc_right.specs.declared.right.Right.{Right}
use Rattle.rbc_right.specs.Rights.{is_here, right_of, Rights}
use Rattle.rbc_spec.proofs.Lists.{put_same, put_there}
use Rattle.rbc_spec.specs.Acts.{◌>>◌, begun, say}
use Rattle.rbc_spec.specs.Centre.{Centre, is_registrar_of}
use Rattle.rbc_spec.specs.Line.{Line}
use Rattle.rbc_spec.specs.Links.{right_asked, right_given, right_returned}
use Rattle.rbc_spec.specs.Maps.{put}
use Rattle.rbc_spec.specs.Message.{TrainAccepted, unknown_group}
use Rattle.rbc_spec.specs.Place.{Place}
use Rattle.rbc_spec.specs.Rules.{begin}
use Rattle.rbc_train.proofs.Desk.{answer_to, has_waiting, same_parts, same_state}
use Rattle.rbc_train.proofs.Turns.{says}
use Rattle.rbc_train.specs.declared.heard.Heard.{Heard}
use Rattle.rbc_train.specs.declared.letter.Letter.{Letter}
use Rattle.rbc_train.specs.declared.mail.Mail.{Mail}
use Rattle.rbc_train.specs.declared.train.TrainState.{TrainState}
use Rattle.rbc_train.specs.Desk.{HasParts, posted, replied, reply_left, unsaid, with_parts, with_right}
use Rattle.rbc_train.specs.Homes.{GoesHome}
use Rattle.rbc_train.specs.Letters.{letters, mail_to}

-- ## The result of a call

pub not_so : (b : Bool) → false ≡ not b → b ≡ true
not_so true is = refl
not_so false is = cc

pub so_not : (b : Bool) → true ≡ not b → b ≡ false
so_not true is = cc
so_not false is = refl

-- whether there is one, by a value that was read
pub none_told : {A B : Type 0} (f : A → B) (o : Option A) (x : Option B) (b : Bool) → option_map f o ≡ x
    → is_some o ≡ not b → is_none x ≡ b
none_told {A = A} f o x b value says = ap is_none (sym value) ∙ by o b says
  where
    by : (o : Option A) (b : Bool) → is_some o ≡ not b → is_none (option_map f o) ≡ b
    by None true is = refl
    by None false is = cc
    by (Some y) true is = cc
    by (Some y) false is = refl

-- a right that was given was here, and one that was not is not
pub was_here : (b : Bool) (i : ℕ) (right : Right) → Given right ≡ answer b i → b ≡ true
was_here true i right is = refl
was_here false i right is = cc

pub was_gone : (b : Bool) (i : ℕ) → NotHere ≡ answer b i → b ≡ false
was_gone true i is = cc
was_gone false i is = refl

-- a returned right is here
pub is_back : (rights rights' : Rights) (i : ℕ) (right : Right) → right ≡ right_of i → i < length rights
    → ((j : ℕ) → is_here rights' j ≡ put (is_here rights) right.train (nat_lt right.train (length rights)) j)
    → is_here rights' i ≡ true
is_back rights rights' i right is few back =
    back i ∙ ap (λ (r : Right). put (is_here rights) r.train (nat_lt r.train (length rights)) i) is
    ∙ put_there (is_here rights) i (nat_lt i (length rights)) ∙ lt-ltb i (length rights) few

-- released sections have no message
pub released_as : (line : Line) (c t : ℕ) (k : Centre) (h : Heard) (told : List ℕ) (mail : Mail) → h ≡ unsaid mail told
    → reply_left line c t k h ≡ posted (mail_to line c t (λ d. k.expects d t) mail) (replied k [] told)
released_as line c t k h told mail is = ap (reply_left line c t k) is

-- ## The frames

module _ (line : Line) (c : ℕ) (k : Centre) (p : TrainState) (book : Pages) (rights : Rights)
    (has : HasParts line c k p book rights) where
  abbrev t : ℕ
  t = p.supervision.engine

  -- only the train's right has changed
  pub right_is : (rights' : Rights) (b : Bool) → is_here rights' p.supervision.number ≡ b
      → with_right t b k ≡ with_parts p book rights' k
  right_is rights' b at =
      (λ i. record (same_state line c k p book rights has i) { has_right = put k.has_right t b })
      ∙ (λ i. record (with_parts p book rights k) { has_right = put k.has_right t (sym at i) })

  -- ## The registrar is asked

  pub gives : (d : ℕ) (rights' : Rights) → is_registrar_of line c t ≡ true → is_here rights p.supervision.number ≡ true
      → is_here rights' p.supervision.number ≡ false
      → right_asked line c d t k
      ≡ posted (letters (Some (record { to = d; body = code.GiveRight t })))
      (replied (with_parts p book rights' k) [] [])
  unfolding ◌>>◌
  gives d rights' here there gone =
      rw (here, has.has_right ∙ there)
      (ap (λ (x : Centre). posted (letters (Some (record { to = d; body = code.GiveRight t }))) (replied x [] []))
      (right_is rights' false gone))

  pub refuses : (d : ℕ) (rights' : Rights) → is_registrar_of line c t ≡ true
      → is_here rights p.supervision.number ≡ false → is_here rights' p.supervision.number ≡ false
      → right_asked line c d t k
      ≡ posted (letters (Some (record { to = d; body = code.RefuseRight t })))
      (replied (with_parts p book rights' k) [] [])
  refuses d rights' here gone still =
      rw (here, has.has_right ∙ gone)
      (ap (λ (x : Centre). posted (letters (Some (record { to = d; body = code.RefuseRight t }))) (replied x [] []))
      ((λ i. record k { has_right = λ u. sym (put_same t false k.has_right (has.has_right ∙ gone) u) i })
      ∙ right_is rights' false still))

  -- ## A right is returned

  pub not_returned : (is_registrar_of line c t && is_none p.supervision.mission) ≡ false
      → right_returned line c t k ≡ replied (with_parts p book rights k) [] []
  not_returned other =
      rw (
        has.has_right,
        has.has_mission,
        cases (is_registrar_of line c t) (is_here rights p.supervision.number) (is_none p.supervision.mission) other,
      ) (same_parts line c k p book rights has)
    where
      cases : (a b d : Bool) → (a && d) ≡ false → (a && (not b && d)) ≡ false
      cases true true d h = refl
      cases true false d h = h
      cases false b d h = refl

  pub returned : (rights' : Rights) → is_registrar_of line c t ≡ true → p.supervision.mission ≡ None
      → is_here rights' p.supervision.number ≡ true
      → right_returned line c t k ≡ replied (with_parts p book rights' k) [] []
  returned rights' here none back = by (is_here rights p.supervision.number) refl
    where
      by : (b : Bool) → is_here rights p.supervision.number ≡ b
          → right_returned line c t k ≡ replied (with_parts p book rights' k) [] []
      by true there = rw (here, has.has_right ∙ there) (ap (λ (x : Centre). replied x [] [])
          ((λ i. record k { has_right = λ u. sym (put_same t true k.has_right (has.has_right ∙ there) u) i })
          ∙ right_is rights' true back))
      by false gone =
          rw (here, has.has_right ∙ gone, has.has_mission ∙ none)
          (ap (λ (x : Centre). replied x [] []) (right_is rights' true back))

  -- ## A right arrives

  -- a start that waits becomes a mission
  admitted_at : (place : Place) → p.waiting.has_asked ≡ true → p.supervision.mission ≡ None
      → p.waiting.wait ≡ Some place
      → right_given line c t k
      ≡ replied
      (with_parts (record p {
        said = p.said + 1;
        supervision = record p.supervision { mission = Some (begun line place) };
        waiting = nothing_waits p.waiting.engine false;
      }) book rights k)
      (answer_to t (p.said + 1) TrainAccepted) []
  unfolding ◌>>◌
  admitted_at place asked none waits =
      let mid : TrainState =
      record p {
        supervision = record p.supervision { mission = Some (begun line place) };
        waiting = nothing_waits p.waiting.engine false;
      } in
      let state : record (with_wait (nothing_waits t false) book k) {
        mission = put k.mission t
            (Some (begun line place));
      } ≡ with_parts mid book rights k =
      λ i. record (same_state line c k p book rights has i) {
        book = entry_at book;
        wish = wish_at book;
        mission = put k.mission t (Some (begun line place));
        wait = put k.wait t None;
        has_asked = put k.has_asked t false;
      } in
      subst (λ (u : ℕ). right_given line c u k ≡ begin line u place (with_wait (nothing_waits u false) book k))
      has.kept.one_train
      (given line c k p.waiting book place (has_waiting line c k p book rights has) asked
      (ap k.mission has.kept.one_train ∙ has.has_mission ∙ none) waits)
      ∙ ap (say t unknown_group TrainAccepted) state ∙ says t unknown_group TrainAccepted mid book rights k refl

  pub admits : (left : SupervisionState) (hand : Holding) (w : WaitState) → p.waiting.has_asked ≡ true
      → p.supervision.mission ≡ None → is_some p.waiting.wait ≡ true
      → left ≡ record p.supervision {
        mission = option_map (λ place. mission_at place p.waiting.sections) p.waiting.wait;
        hand = hand;
      } → w ≡ nothing_waits p.waiting.engine false
      → right_given line c t k
      ≡ replied (with_parts (record p { said = p.said + 1; supervision = left; waiting = w }) book rights k)
      (answer_to t (p.said + 1) TrainAccepted) []
  admits left hand w asked none some is waits = by p.waiting.wait refl
    where
      by : (o : Option Place) → p.waiting.wait ≡ o
          → right_given line c t k
          ≡ replied (with_parts (record p { said = p.said + 1; supervision = left; waiting = w }) book rights k)
          (answer_to t (p.said + 1) TrainAccepted) []
      by None at = absurd (let wrong : false ≡ true = ap is_some (sym at) ∙ some in cc)
      by (Some place) at =
          let left_is : left ≡ record p.supervision { mission = Some (begun line place); hand = hand } =
          is
          ∙ (λ i. record p.supervision {
            mission = option_map (λ q. mission_at q p.waiting.sections) (at i);
            hand = hand;
          })
          ∙ (λ i. record p.supervision {
            mission = Some (mission_at place (has.kept.covers place at i));
            hand = hand;
          }) in
          admitted_at place asked none at
          ∙ (λ i.
          replied (with_parts (record p { said = p.said + 1; supervision = sym left_is i; waiting = sym waits i }) book
          rights k) (answer_to t (p.said + 1) TrainAccepted) [])

  -- a right for which nothing waits is returned
  pub given_in_vain : (letter : Option Letter) (rights' : Rights) (w : WaitState) → p.waiting.has_asked ≡ true
      → (is_some p.waiting.wait && is_none p.supervision.mission) ≡ false → p.supervision.number < length rights
      → GoesHome line c t (Held (right_of p.supervision.number)) letter rights rights'
      → w ≡ record p.waiting { has_asked = false }
      → right_given line c t k
      ≡ posted (letters letter) (replied (with_parts (record p { waiting = w }) book rights' k) [] [])
  unfolding ◌>>◌
  given_in_vain letter rights' w asked busy few home is =
      let j : Centre = record k { has_asked = put k.has_asked t false } in
      rw (has.has_ask ∙ asked, has.has_wait, has.has_mission, busy)
      (home.goes p.supervision.number j refl few has.has_right
      ∙ (λ i. posted (letters letter)
      (replied (record (same_state line c k p book rights has i) {
        has_asked = put k.has_asked t false;
        has_right = put k.has_right t (is_here rights' p.supervision.number);
      }) [] []))
      ∙ (λ i. posted (letters letter) (replied (with_parts (record p { waiting = sym is i }) book rights' k) [] [])))
