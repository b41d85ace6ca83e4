-- The sections that an own step of the one line centre frees.
use Rattle.std.proofs.Common.{◌&&◌, ◌*◌, ◌==◌, ◌∙◌, ◌≡◌, ap, arith, Bool, false, if◌then◌else◌, inl, inr, nat_le}
use Rattle.std.proofs.Common.{nat_lt, None, not, Option, refl, Some, subst, sym, true, ℕ}
use Rattle.std.proofs.lemmas.Bool.{and_parts}
use Rattle.law_base.proofs.PiecesLemmas.Frees.{by_cut, by_end, by_report, by_standstill, extends_leave, Frees}
use Rattle.law_base.proofs.PiecesLemmas.Frees.{of_leaves, OwnLeaves, release_leaves, released_gone, released_stay}
use Rattle.law_base.proofs.PiecesLemmas.Frees.{starts_leave}
use Rattle.law_base.proofs.PiecesLemmas.Waits.{end_leaves, Leaves, plain_leaves, WaitsKeep}
use Rattle.rbc_spec.proofs.Lists.{any-range_some}
use Rattle.rbc_spec.specs.Line.{end, is_centre, Line, start}
use Rattle.rbc_spec.specs.LineCentre.{close_if_empty, is_given_to, LineState, Mark, release, Said}
use Rattle.rbc_spec.specs.Message.{EndOfMission, InitiationOfSession, Report, Request, SessionEstablished}
use Rattle.rbc_spec.specs.Message.{ShorteningGranted, ShorteningRejected, StartOfMission, TerminationOfSession}
use Rattle.rbc_spec.specs.Message.{TrainBody, TrainData, TrainMessage}
use Rattle.rbc_spec.specs.OwnSteps.{ended, Ending, has_reached, is_ahead_of, is_cleared_of, is_cut_of, last_kept_of}
use Rattle.rbc_spec.specs.OwnSteps.{Own, release_words, reported, shortened, stopped, Tells, track_of, waits}
use Rattle.rbc_spec.specs.OwnSteps.{without_ask}
use Rattle.rbc_spec.specs.Place.{fit_place, is_cleared, Place, place_on, Position}
use Rattle.rbc_spec.specs.Sections.{section_count}

pub closed_mark : (b : Bool) (x y : LineState) → y.mark ≡ x.mark → (if b then x else y).mark ≡ x.mark
closed_mark true x y same = refl
closed_mark false x y same = same

pub closed_wait : (b : Bool) (x y : LineState) → y.wait ≡ x.wait → (if b then x else y).wait ≡ x.wait
closed_wait true x y same = refl
closed_wait false x y same = same

module _ (line : Line) (v : LineState) (keep : WaitsKeep line v) (c : ℕ) (at : is_centre line c ≡ true)
    (m : TrainMessage) where
  abbrev t : ℕ
  t = m.nid_engine

  abbrev May : TrainBody → ℕ → ℕ → Type 0
  May body u s = Frees line v t u s body

  plainly : (body : TrainBody) (new changed : LineState) → new ≡ changed → changed.mark ≡ v.mark → changed.wish ≡ v.wish
      → changed.wait ≡ v.wait → OwnLeaves line v new (May body)
  plainly body new changed is marks wishes waits =
      of_leaves line v new (May body)
      (subst (Leaves line v) (sym is) (plain_leaves line v keep changed marks wishes waits))

  cleared_given : (place : Place) (s : ℕ) → is_cleared_of line v t place s ≡ true → (is_given_to t (v.mark s) ≡ true)
      × (is_cleared line place s ≡ true)
  cleared_given place s so = and_parts (is_given_to t (v.mark s)) (is_cleared line place s) so

  cut_given : (last_kept s : ℕ) → is_cut_of v t last_kept s ≡ true → (is_given_to t (v.mark s) ≡ true)
      × (nat_lt last_kept s ≡ true)
  cut_given last_kept s so = and_parts (is_given_to t (v.mark s)) (nat_lt last_kept s) so

  report_leaves : (position : Position) (place : Place) (said : Said) (new : LineState)
      → place_on line (track_of v t) position ≡ Some place
      → Tells (release_words line c (is_cleared_of line v t place) v) (reported line t c place v) said new
      → OwnLeaves line v new (May (Report position))
  report_leaves position place said new on h =
      release_leaves line v keep c at t (is_cleared_of line v t place) (λ s so. (cleared_given place s so).0)
      new (May (Report position))
      (ap (λ (x : LineState). x.mark) h.new_is ∙ closed_mark _ _ _ refl) (ap (λ (x : LineState). x.wait) h.new_is
      ∙ closed_wait _ _ _ refl) (λ s so. by_report position place refl on (cleared_given place s so).1)

  -- after a report
  abbrev after_report : Place → LineState
  after_report place = reported line t c place v

  report_keeps : (body : TrainBody) (place : Place) → ((s : ℕ) → is_cleared line place s ≡ true → May body t s)
      → OwnLeaves line v (after_report place) (May body)
  report_keeps body place may = release_leaves line v keep c at t (is_cleared_of line v t place)
      (λ s so. (cleared_given place s so).0) (after_report place) (May body)
      (closed_mark _ _ _ refl) (closed_wait _ _ _ refl) (λ s so. may s (cleared_given place s so).1)

  closed_is : (place : Place) → (after_report place).mark ≡ (release line c t (is_cleared_of line v t place) v).mark
  closed_is place = closed_mark _ _ _ refl

  -- a section that is given after a report was given before, and the report does not clear it
  given_before : (place : Place) (s : ℕ) → is_given_to t ((after_report place).mark s) ≡ true
      → (is_given_to t (v.mark s) ≡ true) × (is_cleared line place s ≡ false)
  given_before place s is = by_cleared (is_cleared_of line v t place s) refl
    where
      marks : (after_report place).mark s ≡ (release line c t (is_cleared_of line v t place) v).mark s
      marks = ap (λ (f : ℕ → Mark). f s) (closed_is place)

      of_hand : (e : ℕ) → is_cleared_of line v t place e ≡ true → is_given_to t (v.mark e) ≡ true
      of_hand e so = (cleared_given place e so).0

      by_cleared : (b : Bool) → is_cleared_of line v t place s ≡ b
          → (is_given_to t (v.mark s) ≡ true) × (is_cleared line place s ≡ false)
      by_cleared true so =
          let wrong : true ≡ false = sym is ∙ ap (is_given_to t) marks
          ∙ released_gone line v keep c at t (is_cleared_of line v t place) of_hand s so in
          cc
      by_cleared false so =
          let stays = marks ∙ released_stay line v keep c at t (is_cleared_of line v t place) of_hand s
          (λ yes. let wrong : true ≡ false = sym yes ∙ so in cc) in
          let given : is_given_to t (v.mark s) ≡ true = ap (is_given_to t) (sym stays) ∙ is in
          (given, ap (λ (b : Bool). b && is_cleared line place s) (sym given) ∙ so)

  ahead_given : (place : Place) (s : ℕ) → is_ahead_of line (after_report place) t place s ≡ true
      → (is_given_to t ((after_report place).mark s) ≡ true) × (nat_le place.front (10 * start line s) ≡ true)
  ahead_given place s so = and_parts (is_given_to t ((after_report place).mark s))
      (nat_le place.front (10 * start line s)) so

  -- one change and then another
  both_leave : (body : TrainBody) (mid new : LineState) → OwnLeaves line v mid (May body)
      → OwnLeaves line mid new (May body) → OwnLeaves line v new (May body)
  both_leave body mid new one two = record {
    given = λ u s is. elim (one.given u s is) [ inl stays ↦ two.given u s stays | inr may ↦ inr may ];
    waits = two.waits;
  }

  standstill_leaves : (position : Position) (place : Place) (new : LineState)
      → place_on line (track_of v t) position ≡ Some place → (position.v_train == 0) ≡ true
      → new ≡ ended t (stopped line t c place (after_report place)) → OwnLeaves line v new (May (EndOfMission position))
  standstill_leaves position place new on still is = by_reached (has_reached line (after_report place) t place) refl is
    where
      one : OwnLeaves line v (after_report place) (May (EndOfMission position))
      one = report_keeps (EndOfMission position) place (λ s so. by_end position place refl on so)

      by_reached : (b : Bool) → has_reached line (after_report place) t place ≡ b
          → new ≡ ended t (if b then release line c t (is_ahead_of line (after_report place) t place)
          (after_report place) else after_report place) → OwnLeaves line v new (May (EndOfMission position))
      by_reached false not is = both_leave (EndOfMission position) (after_report place) new one
          (of_leaves line (after_report place) new _
          (subst (Leaves line (after_report place)) (sym is)
          (plain_leaves line (after_report place) one.waits (ended t (after_report place)) refl refl refl)))
      by_reached true so is =
          let r = any-range_some (λ s. is_given_to t ((after_report place).mark s)
          && nat_lt (10 * start line s) place.front) 0 (section_count line) so in
          let below = r.2 in
          let parts = and_parts (is_given_to t ((after_report place).mark r.0))
          (nat_lt (10 * start line r.0) place.front) r.3 in
          let before = given_before place r.0 parts.0 in
          both_leave (EndOfMission position) (after_report place) new one
          (release_leaves line (after_report place) one.waits c at t (is_ahead_of line (after_report place) t place)
          (λ s so. (ahead_given place s so).0) new (May (EndOfMission position))
          (ap (λ (x : LineState). x.mark) is) (ap (λ (x : LineState). x.wait) is)
          (λ s so. by_standstill position place r.0 refl on still (omega (arith, below))
          before.0 before.1 parts.1 (ahead_given place s so).1))

  end_leaves_all : (position : Position) (still : Bool) (o : Option Place) (said : Said) (new : LineState)
      → (position.v_train == 0) ≡ still → place_on line (track_of v t) position ≡ o → Ending line t c still o v said new
      → OwnLeaves line v new (May (EndOfMission position))
  end_leaves_all position still None said new runs on h = plainly (EndOfMission position) new _ h.new_is refl refl refl
  end_leaves_all position false (Some place) said new runs on h =
      release_leaves line v keep c at t (is_cleared_of line v t place) (λ s so. (cleared_given place s so).0) new
      (May (EndOfMission position))
      (ap (λ (x : LineState). x.mark) h.new_is ∙ closed_mark _ _ _ refl) (ap (λ (x : LineState). x.wait) h.new_is
      ∙ closed_wait _ _ _ refl) (λ s so. by_end position place refl on (cleared_given place s so).1)
  end_leaves_all position true (Some place) said new runs on h = standstill_leaves position place new on runs h.new_is

  cut_leaves : (stamp : ℕ) (position : Position) (o : Option Place) (new : LineState)
      → place_on line (track_of v t) position ≡ o → new ≡ shortened line t c o (last_kept_of v t) (without_ask t v)
      → OwnLeaves line v new (May (ShorteningGranted stamp position))
  cut_leaves stamp position None new on h =
      plainly (ShorteningGranted stamp position) new (without_ask t v) h refl refl refl
  cut_leaves stamp position (Some place) new on h =
      by_time (nat_le place.front (10 * end line (last_kept_of v t))) refl h
    where
      by_time : (b : Bool) → nat_le place.front (10 * end line (last_kept_of v t)) ≡ b
          → new ≡ (if b then close_if_empty line t
          (release line c t (is_cut_of (without_ask t v) t (last_kept_of v t)) (without_ask t v)) else without_ask t
          v) → OwnLeaves line v new (May (ShorteningGranted stamp position))
      by_time false time is = plainly (ShorteningGranted stamp position) new (without_ask t v) is refl refl refl
      by_time true time is = release_leaves line v keep c at t (is_cut_of v t (last_kept_of v t))
          (λ s so. (cut_given (last_kept_of v t) s so).0) new (May (ShorteningGranted stamp position))
          (ap (λ (x : LineState). x.mark) is ∙ closed_mark _ _ _ refl) (ap (λ (x : LineState). x.wait) is
          ∙ closed_wait _ _ _ refl)
          (λ s so. by_cut stamp position place refl on time (cut_given (last_kept_of v t) s so).1)

  pub own_leaves : (body : TrainBody) (said : Said) (new : LineState) → Own line v c m body said new
      → OwnLeaves line v new (May body)
  own_leaves InitiationOfSession said new h =
      of_leaves line v new _ (subst (Leaves line v) (sym h.new_is) (end_leaves line v keep t c _ refl refl refl))
  own_leaves TerminationOfSession said new h =
      of_leaves line v new _ (subst (Leaves line v) (sym h.new_is) (end_leaves line v keep t c _ refl refl refl))
  own_leaves SessionEstablished said new h = plainly SessionEstablished new _ h.new_is refl refl refl
  own_leaves (StartOfMission is_valid position) said new h =
      of_leaves line v new _ (starts_leave line v keep c at t (fit_place line is_valid position) said new h)
  own_leaves (TrainData position) said new h = plainly (TrainData position) new _ h.new_is refl refl refl
  own_leaves (Request position) said new h = of_leaves line v new _ (extends_leave line v keep c at t h.0 said new h.2)
  own_leaves (Report position) said new h = report_leaves position h.0 said new h.1 h.2
  own_leaves (ShorteningGranted stamp position) said new h =
      cut_leaves stamp position (place_on line (track_of v t) position) new refl h.new_is
  own_leaves (ShorteningRejected stamp position) said new h =
      plainly (ShorteningRejected stamp position) new _ h.new_is refl refl refl
  own_leaves (EndOfMission position) said new h =
      end_leaves_all position (position.v_train == 0) (place_on line (track_of v t) position) said new refl refl h
