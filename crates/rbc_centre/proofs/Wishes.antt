-- An event of the interlocking for a section, as the change of the book and of a train's state.
use Rattle.std.proofs.Common.{[], ◌&&◌, ◌<◌, ◌==◌, ◌∙◌, ◌∷◌, ◌≡◌, ap, arith, Bool, eq-eqb, false, if◌then◌else◌, inl}
use Rattle.std.proofs.Common.{inr, length, List, None, not, refl, set, slice_get, Some, sym, true, ℕ}
use Rattle.std.proofs.lemmas.Bool.{cases_Bool}
use Rattle.law_base.specs.Local.Local.{hand_has}
use Rattle.law_invariants.specs.Flow.Counts.{wait_has}
use Rattle.law_invariants.specs.Flow.Sound.{IsCentreSound}
use Rattle.rbc_book.proofs.Pages.{foreign_is_shut}
use Rattle.rbc_book.specs.Answers.{unset_answer}
use Rattle.rbc_book.specs.Book.{entry_at, is_own, Pages, wish_at}
use Rattle.rbc_book.specs.declared.answer.Unset.TheVariants as Unset
use Rattle.rbc_book.specs.declared.page.Entry.{Entry as EntryCode}
use Rattle.rbc_book.specs.declared.page.Entry.TheVariants as entries
use Rattle.rbc_book.specs.Entries.{entry_of}
use Rattle.rbc_centre.proofs.States.{number_within, of_trains-set, part_of_foreign, part_of_train}
use Rattle.rbc_centre.proofs.Steps.{replied}
use Rattle.rbc_centre.specs.declared.centre.Centre.{Centre as CentreCode}
use Rattle.rbc_centre.specs.declared.desk.Desk.{Desk}
use Rattle.rbc_centre.specs.Posts.{to_others}
use Rattle.rbc_centre.specs.State.{of_trains, stands_for}
use Rattle.rbc_handover.specs.Expectations.{expected_from}
use Rattle.rbc_link.specs.declared.link.Link.{Link}
use Rattle.rbc_linkmsg.specs.declared.body.Body.{Body}
use Rattle.rbc_session.specs.SessionStates.{session_phase}
use Rattle.rbc_spec.proofs.Lists.{put_same}
use Rattle.rbc_spec.specs.Acts.{◌>>◌, propose_if_so}
use Rattle.rbc_spec.specs.Centre as centre
use Rattle.rbc_spec.specs.Centre.{Entry, is_taken_for, is_unused, Open, Out, Shut, Taken}
use Rattle.rbc_spec.specs.Frame.{RouteWithdraw}
use Rattle.rbc_spec.specs.Line.{is_home, Line, train_number}
use Rattle.rbc_spec.specs.Maps.{put}
use Rattle.rbc_spec.specs.Outcome.{Asked, Done, NotHome, Saying}
use Rattle.rbc_spec.specs.Step as step
use Rattle.rbc_train.proofs.Tellings.{asked_of_taken, kept_in_use, left_at_set, left_at_unset, opened_at_once}
use Rattle.rbc_train.proofs.Tellings.{shut_at_once}
use Rattle.rbc_train.specs.declared.train.TrainState.{TrainState}
use Rattle.rbc_train.specs.Tellings.{wishing}
use Rattle.rbc_train.specs.Trains.{asked, HasTrain}

-- a section that is out is withdrawn
withdrawn : (line : Line) (c s t : ℕ) (k : centre.Centre) → is_home line c s ≡ true → k.book s ≡ Out t
    → step.unset line c s k ≡ replied (wishing s k) (to_others line c (RouteWithdraw t s)) [] (Asked s ∷ [])
unfolding ◌>>◌
withdrawn line c s t k home out = rw (home, out) refl

-- a section that is out is of the home
pub out_at_home : (pages : Pages) (s t : ℕ) → entry_at pages s ≡ Out t → is_own pages s ≡ true
out_at_home pages s t out = elim (cases_Bool (is_own pages s)) [
  | inl own ↦ own
  | inr foreign ↦ let no : Shut ≡ Out t = sym (foreign_is_shut pages s foreign) ∙ out in cc
]

-- the state of a section, as its page shows it
pub shown_out : (e : EntryCode) → ((t : ℕ) → e ≡ entries.Out t → ⊥) → (t : ℕ) → entry_of e ≡ Out t → ⊥
shown_out entries.Shut apart t is = cc
shown_out entries.Open apart t is = cc
shown_out (entries.Taken u) apart t is = cc
shown_out (entries.Out u) apart t is = apart u refl

module _ (line : Line) (c clock : ℕ) (old new : Pages) (desk : Desk) (links : List (Link Body))
    (states : List TrainState) (s : ℕ) (home : is_own old s ≡ is_home line c s) where
  abbrev k : centre.Centre
  k = stands_for line c clock old desk links states

  abbrev left : centre.Centre
  left = stands_for line c clock new desk links states

  pub set_turns : ((n : ℕ)
      → entry_at new n ≡ (if (is_own old s && is_unused (entry_at old s)) && (n == s) then Open else entry_at old n))
      → ((n : ℕ) → wish_at new n ≡ (if is_own old s && (n == s) then false else wish_at old n))
      → (own unused : Bool) → is_own old s ≡ own → is_unused (entry_at old s) ≡ unused
      → replied left (λ d. []) [] ((if own then Done s else NotHome s) ∷ []) ≡ step.set line c s k
  unfolding stands_for
  set_turns entry wish true true own unused =
      let entries : (n : ℕ) → entry_at new n ≡ put (entry_at old) s Open n = λ n. rw (own, unused) at (entry n) in
      let wishes : (n : ℕ) → wish_at new n ≡ put (wish_at old) s false n = λ n. rw own at (wish n) in
      (λ i. replied (record k { book = λ n. entries n i; wish = λ n. wishes n i }) (λ d. []) [] (Done s ∷ []))
      ∙ sym (opened_at_once line c s k (sym home ∙ own) unused)
  set_turns entry wish true false own unused =
      let entries : (n : ℕ) → entry_at new n ≡ entry_at old n = λ n. rw (own, unused) at (entry n) in
      let wishes : (n : ℕ) → wish_at new n ≡ put (wish_at old) s false n = λ n. rw own at (wish n) in
      (λ i. replied (record k { book = λ n. entries n i; wish = λ n. wishes n i }) (λ d. []) [] (Done s ∷ []))
      ∙ sym (kept_in_use line c s k (sym home ∙ own) unused)
  set_turns entry wish false unused own used =
      let entries : (n : ℕ) → entry_at new n ≡ entry_at old n = λ n. rw own at (entry n) in
      let wishes : (n : ℕ) → wish_at new n ≡ wish_at old n = λ n. rw own at (wish n) in
      (λ i. replied (record k { book = λ n. entries n i; wish = λ n. wishes n i }) (λ d. []) [] (NotHome s ∷ []))
      ∙ sym (left_at_set line c s k (sym home ∙ own))

  module _ (entry : (n : ℕ)
      → entry_at new n ≡ (if (is_own old s && is_unused (entry_at old s)) && (n == s) then Shut else entry_at old n))
      (wish : (n : ℕ)
      → wish_at new n ≡ (if is_own old s && (n == s) then not (is_unused (entry_at old s)) else wish_at old n)) where
    pub unset_turns : (own : Bool) → is_own old s ≡ own → (own ≡ true → is_unused (entry_at old s) ≡ true)
        → replied left (λ d. []) [] ((if own then Done s else NotHome s) ∷ []) ≡ step.unset line c s k
    unfolding stands_for
    unset_turns true own never =
        let unused : is_unused (entry_at old s) ≡ true = never refl in
        let entries : (n : ℕ) → entry_at new n ≡ put (entry_at old) s Shut n = λ n. rw (own, unused) at (entry n) in
        let wishes : (n : ℕ) → wish_at new n ≡ put (wish_at old) s false n = λ n. rw (own, unused) at (wish n) in
        (λ i. replied (record k { book = λ n. entries n i; wish = λ n. wishes n i }) (λ d. []) [] (Done s ∷ []))
        ∙ sym (shut_at_once line c s k (sym home ∙ own) unused)
    unset_turns false own never =
        let entries : (n : ℕ) → entry_at new n ≡ entry_at old n = λ n. rw own at (entry n) in
        let wishes : (n : ℕ) → wish_at new n ≡ wish_at old n = λ n. rw own at (wish n) in
        (λ i. replied (record k { book = λ n. entries n i; wish = λ n. wishes n i }) (λ d. []) [] (NotHome s ∷ []))
        ∙ sym (left_at_unset line c s k (sym home ∙ own))

    -- a section that is out
    pub out_turns : (t : ℕ) → is_own old s ≡ true → entry_at old s ≡ Out t
        → replied left (to_others line c (RouteWithdraw t s)) [] (Asked s ∷ []) ≡ step.unset line c s k
    unfolding stands_for
    out_turns t own out =
        let used : is_unused (entry_at old s) ≡ false = ap is_unused out in
        let entries : (n : ℕ) → entry_at new n ≡ entry_at old n = λ n. rw (own, used) at (entry n) in
        let wishes : (n : ℕ) → wish_at new n ≡ put (wish_at old) s true n = λ n. rw (own, used) at (wish n) in
        (λ j. replied (record k { book = λ n. entries n j; wish = λ n. wishes n j })
        (to_others line c (RouteWithdraw t s)) [] (Asked s ∷ []))
        ∙ sym (withdrawn line c s t k (sym home ∙ own) out)

    -- a section that is in use for a train
    module _ (t i : ℕ) (before after : TrainState) (sayings : List Saying) (own : is_own old s ≡ true)
        (taken : entry_at old s ≡ Taken t)
        (number : train_number line t ≡ Some i) (at : slice_get states i ≡ Some before) (within : i < length states)
        (session_state : after.session_state ≡ before.session_state) (heard : after.heard ≡ before.heard)
        (question : after.supervision.asked ≡ before.supervision.asked)
        (waiting : after.waiting ≡ before.waiting) (expects : after.expectations ≡ before.expectations)
        (asks : (j : centre.Centre) → HasTrain j t before → propose_if_so line t s j ≡ asked t after sayings j) where
      wishing_is : HasTrain (wishing s k) t before
      unfolding stands_for
      wishing_is = record {
        phase_is =
            sym (part_of_train (λ p. session_phase p.session_state) centre.Closed line states t i before number at);
        mission_is = sym (part_of_train (λ p. p.supervision.mission) None line states t i before number at);
        said_is = sym (part_of_train (λ p. p.said) 0 line states t i before number at);
      }

      -- a part that is as before is so for each train
      same_part : {X : Type 0} (part : TrainState → X) (none : X) → part after ≡ part before → (u : ℕ)
          → of_trains part none line (set states i after) u ≡ of_trains part none line states u
      same_part part none same u =
          of_trains-set part none line states t i after number within u
          ∙ put_same t (part after) (of_trains part none line states)
          (sym (part_of_train part none line states t i before number at) ∙ sym same) u

      pub asked_turns : replied (stands_for line c clock new desk links (set states i after)) (λ d. []) sayings
          (Asked s ∷ []) ≡ step.unset line c s k
      unfolding stands_for
      asked_turns =
          let used : is_unused (entry_at old s) ≡ false = ap is_unused taken in
          let entries : (n : ℕ) → entry_at new n ≡ entry_at old n = λ n. rw (own, used) at (entry n) in
          let wishes : (n : ℕ) → wish_at new n ≡ put (wish_at old) s true n = λ n. rw (own, used) at (wish n) in
          (λ j. replied (record k {
            book = λ n. entries n j;
            wish = λ n. wishes n j;
            phase =
                λ u. same_part (λ p. session_phase p.session_state) centre.Closed (ap session_phase session_state) u j;
            heard = λ u. same_part (λ p. p.heard) None heard u j;
            said = λ u. of_trains-set (λ p. p.said) 0 line states t i after number within u j;
            mission = λ u. of_trains-set (λ p. p.supervision.mission) None line states t i after number within u j;
            route_ask = λ u. same_part (λ p. p.supervision.asked) None question u j;
            wait = λ u. same_part (λ p. p.waiting.wait) None (λ l. (waiting l).wait) u j;
            has_asked = λ u. same_part (λ p. p.waiting.has_asked) false (λ l. (waiting l).has_asked) u j;
            expects =
                λ d u. same_part (λ p. expected_from p.expectations d) None (λ l. expected_from (expects l) d) u j;
          }) (λ d. []) sayings (Asked s ∷ []))
          ∙ sym (asked_of_taken line c s t k (asked t after sayings (wishing s k)) (sym home ∙ own) taken
          (asks (wishing s k) wishing_is))

  -- if the centre is sound, a section is in use only for a train of the line
  pub user_number : IsCentreSound line c k → (t : ℕ) → entry_at old s ≡ Taken t → train_number line t ≡ None → ⊥
  unfolding stands_for
  user_number sound t taken foreign = elim (cases_Bool (is_home line c s)) [
    | inl at_home ↦
        let here : is_taken_for t (entry_at old s) ≡ true = ap (is_taken_for t) taken ∙ eq-eqb t t refl in
        let no_wait : wait_has line (k.wait t) s ≡ false =
        ap (λ o. wait_has line o s) (sym (part_of_foreign (λ p. p.waiting.wait) None line states t foreign)) in
        let no_hand : hand_has (k.mission t) s ≡ false =
        ap (λ o. hand_has o s) (sym (part_of_foreign (λ p. p.supervision.mission) None line states t foreign)) in
        let claims = rw (here, no_wait, no_hand) at (sound.claims s t at_home) in
        omega (arith, claims)
    | inr away ↦ let no : Shut ≡ Taken t = sym (sound.foreign s away) ∙ taken in cc
  ]

-- a section that is in use and not out is so for a train
pub user_stands : (e : Entry) → ((t : ℕ) → e ≡ Out t → ⊥) → is_unused e ≡ false → (t : ℕ) × (e ≡ Taken t)
user_stands Shut here used = cc
user_stands Open here used = cc
user_stands (Taken t) here used = (t, refl)
user_stands (Out t) here used = absurd (here t refl)

-- by the answer of a book to an unset, the section is in use or not
pub done_unused : (e : Entry) → Unset.Done ≡ unset_answer e → is_unused e ≡ true
done_unused e h = by_test (is_unused e) h
  where
    by_test : (b : Bool) → Unset.Done ≡ (if b then Unset.Done else Unset.Asked) → b ≡ true
    by_test true h = refl
    by_test false h = cc

pub asked_used : (e : Entry) → Unset.Asked ≡ unset_answer e → is_unused e ≡ false
asked_used e h = by_test (is_unused e) h
  where
    by_test : (b : Bool) → Unset.Asked ≡ (if b then Unset.Done else Unset.Asked) → b ≡ false
    by_test true h = cc
    by_test false h = refl

-- the train that a section is in use for, with this number in the line file and this of it
pub record IsUser (k : CentreCode) (s i : ℕ) (before : TrainState) (t : ℕ) : Type 0 where
  pub taken : entry_at k.book s ≡ Taken t
  pub number : train_number k.line t ≡ Some i
  pub within : i < length k.trains.items
  pub at : slice_get k.trains.items i ≡ Some before
  pub engine : before.supervision.engine ≡ t

pub user_of : (k : CentreCode) (s : ℕ) → ((t : ℕ) → entry_at k.book s ≡ Out t → ⊥)
    → Unset.Asked ≡ unset_answer (entry_at k.book s) → (t : ℕ) × (entry_at k.book s ≡ Taken t)
user_of k s here asked = user_stands (entry_at k.book s) here (asked_used (entry_at k.book s) asked)

pub user_at : (k : CentreCode) (s i : ℕ) (before : TrainState) (here : (t : ℕ) → entry_at k.book s ≡ Out t → ⊥)
    (asked : Unset.Asked ≡ unset_answer (entry_at k.book s))
    → ((t : ℕ) → entry_at k.book s ≡ Taken t → train_number k.line t ≡ Some i)
    → (i < length k.trains.items → slice_get k.trains.items i ≡ Some before)
    → IsUser k s i before (user_of k s here asked).0
user_at k s i before here asked found read =
    let u = user_of k s here asked in
    let number = found u.0 u.1 in
    let within = number_within k.line k.trains.items u.0 i number k.rules.all_trains.count in
    record {
      taken = u.1;
      number = number;
      within = within;
      at = read within;
      engine = (k.rules.all_trains.each u.0 i before number (read within)).engine;
    }

pub no_user : (k : CentreCode) (s : ℕ) (here : (t : ℕ) → entry_at k.book s ≡ Out t → ⊥)
    (asked : Unset.Asked ≡ unset_answer (entry_at k.book s))
    → ((t : ℕ) → entry_at k.book s ≡ Taken t → train_number k.line t ≡ None) → ⊥
no_user k s here asked none =
    let u = user_of k s here asked in
    user_number k.line k.number k.clock k.book k.book k.desk k.links k.trains.items s (k.rules.own_sections s)
    k.rules.sound u.0 u.1 (none u.0 u.1)
