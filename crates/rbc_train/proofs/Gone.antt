-- A train that will not return to a centre is ordered to end its session.
use Rattle.std.proofs.Common.{[], if◌then◌else◌, ◌&&◌, ◌+◌, ◌∙◌, ◌≡◌, ap, Bool, cond, false, is_none, is_some, not}
use Rattle.std.proofs.Common.{Option, refl, sym, true, ℕ}
use Rattle.std.specs.List.{list_any}
use Rattle.rbc_book.specs.Book.{Pages}
use Rattle.rbc_handover.proofs.TakesOver.{any_expected}
use Rattle.rbc_right.specs.Rights.{Rights}
use Rattle.rbc_session.specs.SessionStates.{session_phase}
use Rattle.rbc_spec.proofs.Lists.{put_same}
use Rattle.rbc_spec.specs.Acts.{Act, end_order, rest, say, where_so}
use Rattle.rbc_spec.specs.Centre.{Centre, is_expected, is_up, uses_some}
use Rattle.rbc_spec.specs.Line.{Line}
use Rattle.rbc_spec.specs.Maps.{put}
use Rattle.rbc_spec.specs.Message.{EndSession, unknown_group}
use Rattle.rbc_spec.specs.Sections.{nid_rbc}
use Rattle.rbc_train.proofs.Desk.{answer_to, has_expectations, same_parts, same_state}
use Rattle.rbc_train.specs.declared.saying.Saying.{Saying}
use Rattle.rbc_train.specs.declared.train.TrainState.{TrainState}
use Rattle.rbc_train.specs.Desk.{counted_to, HasParts, replied, with_parts}
use Rattle.rbc_train.specs.Sayings.{sayings_of}

-- ## The order

module _ (line : Line) (c : ℕ) (k : Centre) (p : TrainState)
    (phase : k.phase p.supervision.engine ≡ session_phase p.session_state)
    (said : k.said p.supervision.engine ≡ p.said) where
  abbrev t : ℕ
  t = p.supervision.engine

  -- a train whose session is not up gets no order
  pub not_up : is_up (session_phase p.session_state) ≡ false
      → end_order line c t k ≡ replied (counted_to t p.said k) [] []
  not_up down =
      (λ i. cond ((ap is_up phase ∙ down) i) (say t unknown_group (EndSession line.nid_c (nid_rbc line c)) k) (rest k))
      ∙ (λ i. replied (record k { said = λ u. sym (put_same t p.said k.said said u) i }) [] [])

  -- a train that will return gets no order
  pub comes_again : (b : Bool) → b ≡ false
      → (if b then end_order line c t else rest) k ≡ replied (counted_to t p.said k) [] []
  comes_again b is = (λ i. (if is i then end_order line c t else rest) k)
      ∙ (λ i. replied (record k { said = λ u. sym (put_same t p.said k.said said u) i }) [] [])

  pub ordered : is_up (session_phase p.session_state) ≡ true
      → end_order line c t k ≡ replied (counted_to t (p.said + 1) k)
      (answer_to t (p.said + 1) (EndSession line.nid_c (nid_rbc line c))) []
  ordered up =
      (λ i. cond ((ap is_up phase ∙ up) i) (say t unknown_group (EndSession line.nid_c (nid_rbc line c)) k) (rest k))
      ∙ (λ i. replied (counted_to t (said i + 1) k)
      (answer_to t (said i + 1) (EndSession line.nid_c (nid_rbc line c))) [])

-- ## A train that will not return

-- one of the tests fails
not_gone : {X : Type 0} (u n e : Bool) (x y : X) → (n && not e) ≡ false → cond (not u && (n && not e)) x y ≡ y
not_gone true n e x y h = refl
not_gone false n e x y h = ap (λ b. cond b x y) h

in_use : {X : Type 0} (u b : Bool) (x y : X) → u ≡ true → cond (not u && b) x y ≡ y
in_use true b x y h = refl
in_use false b x y h = cc

-- all of them hold
all_gone : {X : Type 0} (u b : Bool) (x y : X) → b ≡ true → u ≡ false → cond (not u && b) x y ≡ x
all_gone false b x y h f = ap (λ v. cond v x y) h
all_gone true b x y h f = cc

module _ (line : Line) (c : ℕ) (k : Centre) (p : TrainState) (book : Pages) (rights : Rights)
    (has : HasParts line c k p book rights) where
  abbrev e : ℕ
  e = p.supervision.engine

  abbrev none_here : Bool
  none_here = is_none (k.mission e) && is_none (k.wait e)

  abbrev ending : Act
  ending =
      where_so (λ j. not (uses_some line c j e)
      && ((is_none (j.mission e) && is_none (j.wait e)) && not (is_expected line j e))) (end_order line c e)

  gone_by : (b : Bool)
      → ((is_none p.supervision.mission && is_none p.waiting.wait) && not (list_any is_some p.expectations)) ≡ b
      → (none_here && not (is_expected line k e)) ≡ b
  gone_by b is =
      (λ i. (is_none (has.has_mission i) && is_none (has.has_wait i))
      && not (sym (any_expected line e k p.expectations (has_expectations line c k p book rights has)) i)) ∙ is

  pub stays_here : ((is_none p.supervision.mission && is_none p.waiting.wait) && not (list_any is_some p.expectations))
      ≡ false → ending k ≡ replied (with_parts p book rights k) [] []
  stays_here is =
      not_gone (uses_some line c k e) none_here (is_expected line k e) (end_order line c e k) (rest k)
      (gone_by false is) ∙ same_parts line c k p book rights has

  pub still_used : uses_some line c k e ≡ true → ending k ≡ replied (with_parts p book rights k) [] []
  still_used is =
      in_use (uses_some line c k e) (none_here && not (is_expected line k e)) (end_order line c e k) (rest k) is
      ∙ same_parts line c k p book rights has

  pub is_ordered : ((is_none p.supervision.mission && is_none p.waiting.wait) && not (list_any is_some p.expectations))
      ≡ true → uses_some line c k e ≡ false
      → (q : TrainState) (order : Option Saying) → q ≡ record p { said = q.said }
      → ((j : Centre) → j.phase e ≡ session_phase p.session_state → j.said e ≡ p.said
      → end_order line c e j ≡ replied (counted_to e q.said j) (sayings_of order) [])
      → ending k ≡ replied (with_parts q book rights k) (sayings_of order) []
  is_ordered gone unused q order is orders =
      all_gone (uses_some line c k e) (none_here && not (is_expected line k e)) (end_order line c e k) (rest k)
      (gone_by true gone) unused
      ∙ orders k has.has_phase has.has_said
      ∙ (λ i. replied (record (same_state line c k p book rights has i) { said = put k.said e q.said })
      (sayings_of order) [])
      ∙ (λ i. replied (with_parts (sym is i) book rights k) (sayings_of order) [])
