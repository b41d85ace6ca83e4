-- The sections that an own step of the one line centre frees. A report clears them, a granted shortening cuts them off,
-- or they are ahead of a train that ends its mission at standstill.
use Rattle.std.proofs.Common.{◌&&◌, ◌*◌, ◌<◌, ◌==◌, ◌∙◌, ◌≡◌, ◌⊎◌, ap, Bool, eqb-true, false, if◌then◌else◌, inl, inr}
use Rattle.std.proofs.Common.{nat_le, nat_lt, None, not, Option, refl, Some, subst, sym, true, ℕ}
use Rattle.std.proofs.lemmas.Bool.{and_parts, not-true, or_cases}
use Rattle.std.proofs.lemmas.Option.{same_Some}
use Rattle.std.specs.Bool.{MatchBool}
use Rattle.law_base.proofs.PiecesLemmas.Waits.{elsewhere, if_not, IsLoose, IsWaited, kept_for, Leaves, loose_leaves}
use Rattle.law_base.proofs.PiecesLemmas.Waits.{not_waiting_kept, opened, plain_leaves, put_at, PutAt, there, wait_on}
use Rattle.law_base.proofs.PiecesLemmas.Waits.{waiting_at, WaitsKeep}
use Rattle.rbc_spec.proofs.Runs.{each_within}
use Rattle.rbc_spec.specs.Centre.{is_registrar_of}
use Rattle.rbc_spec.specs.Line.{end, is_centre, is_home, Line, start}
use Rattle.rbc_spec.specs.LineCentre.{Given, is_given_to, is_kept_for, is_mark_open, is_waiting, Kept, LineState, Mark}
use Rattle.rbc_spec.specs.LineCentre.{Open, release, Said, Shut, supervises}
use Rattle.rbc_spec.specs.Message.{EndOfMission, Report, ShorteningGranted, TrainBody}
use Rattle.rbc_spec.specs.OwnSteps.{begins, Extends, last_kept_of, may_be_given, may_start, Rejects, Restarts, Starts}
use Rattle.rbc_spec.specs.OwnSteps.{StartsHere, StartsNew, track_of, waits}
use Rattle.rbc_spec.specs.Place.{covered, is_cleared, Place, place_on, Position}
use Rattle.rbc_spec.specs.SectionRuns.{all_of, next_after, SectionRun, within}
use Rattle.rbc_spec.specs.Sections.{is_on, section_count}

-- Why a section stops being given to train u by a message of train t. Its report or end of mission clears it. Its
-- granted shortening cuts it off. Or it ends at standstill, has reached a section that it has not cleared, and the
-- section is ahead.
pub data Frees (line : Line) (v : LineState) (t u s : ℕ) : TrainBody → Type 0 where
  by_report : (position : Position) (place : Place) → t ≡ u → place_on line (track_of v t) position ≡ Some place
      → is_cleared line place s ≡ true → Frees line v t u s (Report position)
  by_end : (position : Position) (place : Place) → t ≡ u → place_on line (track_of v t) position ≡ Some place
      → is_cleared line place s ≡ true → Frees line v t u s (EndOfMission position)
  by_standstill : (position : Position) (place : Place) (r : ℕ) → t ≡ u
      → place_on line (track_of v t) position ≡ Some place → (position.v_train == 0) ≡ true → r < section_count line
      → is_given_to t (v.mark r) ≡ true → is_cleared line place r ≡ false
      → nat_lt (10 * start line r) place.front ≡ true
      → nat_le place.front (10 * start line s) ≡ true → Frees line v t u s (EndOfMission position)
  by_cut : (stamp : ℕ) (position : Position) (place : Place) → t ≡ u
      → place_on line (track_of v t) position ≡ Some place
      → nat_le place.front (10 * end line (last_kept_of v t)) ≡ true
      → nat_lt (last_kept_of v t) s ≡ true → Frees line v t u s (ShorteningGranted stamp position)

pub record OwnLeaves (line : Line) (v new : LineState) (May : ℕ → ℕ → Type 0) : Type 0 where
  pub given : (u s : ℕ) → v.mark s ≡ Given u → (new.mark s ≡ Given u) ⊎ May u s
  pub waits : WaitsKeep line new

pub of_leaves : (line : Line) (v new : LineState) (May : ℕ → ℕ → Type 0) → Leaves line v new → OwnLeaves line v new May
of_leaves line v new May leaves = record { given = λ u s is. inl (leaves.given u s is); waits = leaves.waits }

pub by_test : {R : Type 0} (b : Bool) (P Q : Type 0) → (b ≡ true → P → R) → (b ≡ false → Q → R) → MatchBool b P Q → R
by_test true P Q one two h = one refl h
by_test false P Q one two h = two refl h

mark_open : (m : Mark) → is_mark_open m ≡ true → m ≡ Open
mark_open Shut h = cc
mark_open Open h = refl
mark_open (Kept t) h = cc
mark_open (Given t) h = cc

mark_kept : (t : ℕ) (m : Mark) → is_kept_for t m ≡ true → m ≡ Kept t
mark_kept t Shut h = cc
mark_kept t Open h = cc
mark_kept t (Kept u) h = ap (λ (x : ℕ). Kept x) (eqb-true u t h)
mark_kept t (Given u) h = cc

pub train_given : (t u : ℕ) (m : Mark) → is_given_to t m ≡ true → m ≡ Given u → t ≡ u
train_given t u Shut h is = cc
train_given t u Open h is = cc
train_given t u (Kept x) h is = cc
train_given t u (Given x) h is = let same : x ≡ u = cc in sym (eqb-true x t h) ∙ same

kept_not_open : (t : ℕ) (m : Mark) → m ≡ Kept t → m ≡ Open → ⊥
kept_not_open t m kept is = let wrong : Kept t ≡ Open = sym kept ∙ is in cc

module _ (line : Line) (v : LineState) (keep : WaitsKeep line v) (c : ℕ) (at : is_centre line c ≡ true) (t : ℕ) where
  -- ## A start

  module _ (place : Place) (may : may_start line v c place ≡ true) where
    start_is : (s : ℕ) → within (covered line place) s ≡ true → (is_home line c s ≡ true) × (v.mark s ≡ Open)
    start_is s so =
        let both = and_parts (is_home line c s) (is_mark_open (v.mark s))
        (each_within (λ e. is_home line c e && is_mark_open (v.mark e)) (covered line place) may s so) in
        (both.0, mark_open (v.mark s) both.1)

    begun : (new : LineState) → new.mark ≡ (begins line t c place v).mark → new.wish ≡ v.wish
        → new.wait ≡ v.wait → Leaves line v new
    begun new marks wishes same = loose_leaves line v keep new (within (covered line place)) stay
        (λ s so. opened (start_is s so).1) (λ s is. ap (λ (f : ℕ → Bool). f s) wishes ∙ is)
        (wait_on line v keep new same
        (λ u d s waited. stay s (λ so. kept_not_open u (v.mark s) waited.kept (start_is s so).1)))
      where
        stay : (s : ℕ) → (within (covered line place) s ≡ true → ⊥) → new.mark s ≡ v.mark s
        stay s other = ap (λ (f : ℕ → Mark). f s) marks
            ∙ if_not (within (covered line place) s) (Given t) (v.mark s) other

    waits_leave : Leaves line v (waits line t c place v)
    waits_leave = loose_leaves line v keep (waits line t c place v) (within (covered line place)) stay
        (λ s so. opened (start_is s so).1) (λ s is. is)
        (record {
          each = λ u d p s waiting in_place. by_pair u d p s
              (put_at v.wait t c (Some place) u d) waiting in_place;
        })
      where
        stay : (s : ℕ) → (within (covered line place) s ≡ true → ⊥) → (waits line t c place v).mark s ≡ v.mark s
        stay s other = if_not (within (covered line place) s) (Kept t) (v.mark s) other

        kept_there : (s : ℕ) → within (covered line place) s ≡ true → (waits line t c place v).mark s ≡ Kept t
        kept_there s so = rw (so) refl

        by_pair : (u d : ℕ) (p : Place) (s : ℕ) → PutAt v.wait t c (Some place) u d
            → (waits line t c place v).wait u d ≡ Some p → within (covered line p) s ≡ true
            → IsWaited line (waits line t c place v) u d s
        by_pair u d p s (there a b is) waiting in_place =
            let same : place ≡ p = same_Some place p (sym is ∙ waiting) in
            let so : within (covered line place) s ≡ true =
            ap (λ (q : Place). within (covered line q) s) same ∙ in_place in
            record {
              kept = kept_there s so ∙ ap (λ (x : ℕ). Kept x) (sym a);
              home = ap (λ (x : ℕ). is_home line x s) b ∙ (start_is s so).0;
              centre = ap (is_centre line) b ∙ at;
              waits = waiting_at line (waits line t c place v) u d s p waiting in_place;
            }
        by_pair u d p s (elsewhere apart is) waiting in_place =
            let was = keep.each u d p s (sym is ∙ waiting) in_place in
            record {
              kept = stay s (λ so. kept_not_open u (v.mark s) was.kept (start_is s so).1) ∙ was.kept;
              home = was.home;
              centre = was.centre;
              waits = waiting_at line (waits line t c place v) u d s p waiting in_place;
            }

  pub starts_leave : (o : Option Place) (said : Said) (new : LineState)
      → Starts line t c o v said new → Leaves line v new
  starts_leave None said new h = subst (Leaves line v) (sym h.new_is) (plain_leaves line v keep _ refl refl refl)
  starts_leave (Some place) said new h = by_test (supervises v c t) _ _ (λ _ r. restarts r) (λ _ n. starts n) h
    where
      rejects : Rejects t c v said new → Leaves line v new
      rejects h = subst (Leaves line v) (sym h.new_is) (plain_leaves line v keep _ refl refl refl)

      restarts : Restarts line t c place v said new → Leaves line v new
      restarts h = by_test (all_of (λ s. is_given_to t (v.mark s)) (covered line place)) _ _
          (λ _ a. subst (Leaves line v) (sym a.new_is) (plain_leaves line v keep _ refl refl refl)) (λ _ r. rejects r) h

      here : may_start line v c place ≡ true → StartsHere line t c place v said new → Leaves line v new
      here may (inl h) = subst (Leaves line v) (sym h.1.new_is) (begun place may _ refl refl refl)
      here may (inr h) = rejects h

      starts : StartsNew line t c place v said new → Leaves line v new
      starts h = by_test (may_start line v c place) _ _
          (λ may n. by_test (is_registrar_of line c t) _ _ (λ _ a. here may a)
          (λ _ a. subst (Leaves line v) (sym a.new_is) (waits_leave place may)) n)
          (λ _ r. rejects r) h

  -- ## A request

  pub extends_leave : (place : Place) (said : Said) (new : LineState)
      → Extends line v t c place said new → Leaves line v new
  extends_leave place said new h = subst (Leaves line v) (sym h.says_it.new_is)
      (loose_leaves line v keep _ (within more) stay loose (λ s is. is)
      (wait_on line v keep _ refl (λ u d s waited. stay s (λ so. not_more u d s waited so))))
    where
      more : SectionRun
      more = record { first = next_after h.hand; count = h.count }

      may_be : (s : ℕ) → within more s ≡ true → may_be_given line v c t s ≡ true
      may_be s so =
          (and_parts (may_be_given line v c t s) (is_on line place.track s)
          (each_within (λ e. may_be_given line v c t e && is_on line place.track e) more h.each s so)).0

      cases : (s : ℕ) → within more s ≡ true → (v.mark s ≡ Open)
          ⊎ ((v.mark s ≡ Kept t) × (is_waiting line v t s ≡ false))
      cases s so =
          elim (or_cases (is_home line c s && is_mark_open (v.mark s)) (is_kept_for t (v.mark s)
          && not (is_waiting line v t s)) (may_be s so)) [
            | inl o ↦ inl (mark_open (v.mark s) (and_parts (is_home line c s) (is_mark_open (v.mark s)) o).1)
            | inr k ↦ let parts = and_parts (is_kept_for t (v.mark s)) (not (is_waiting line v t s)) k in
                inr (mark_kept t (v.mark s) parts.0, not-true (is_waiting line v t s) parts.1)
          ]

      loose : (s : ℕ) → within more s ≡ true → IsLoose (v.mark s)
      loose s so = elim (cases s so) [ inl o ↦ opened o | inr k ↦ kept_for t k.0 ]

      not_more : (u d s : ℕ) → IsWaited line v u d s → within more s ≡ true → ⊥
      not_more u d s waited so = elim (cases s so) [
        | inl o ↦ kept_not_open u (v.mark s) waited.kept o
        | inr k ↦ not_waiting_kept line v keep t s k.0 k.1 u d s waited refl
      ]

      stay : (s : ℕ) → (within more s ≡ true → ⊥) → (if within more s then Given t else v.mark s) ≡ v.mark s
      stay s other = if_not (within more s) (Given t) (v.mark s) other

  -- ## Sections are released

  module _ (is_released : ℕ → Bool) (of_hand : (s : ℕ) → is_released s ≡ true → is_given_to t (v.mark s) ≡ true) where
    pub released_stay : (s : ℕ) → (is_released s ≡ true → ⊥) → (release line c t is_released v).mark s ≡ v.mark s
    released_stay s other =
        if_not (is_released s && is_home line c s) (if v.wish s then Shut else Open) (if is_released s
        && not (is_home line c s) then Kept t else v.mark s)
        (λ so. other (and_parts (is_released s) (is_home line c s) so).0)
        ∙ if_not (is_released s && not (is_home line c s)) (Kept t) (v.mark s)
        (λ so. other (and_parts (is_released s) (not (is_home line c s)) so).0)

    -- a released section is not given any more
    pub released_gone : (s : ℕ) → is_released s ≡ true → is_given_to t ((release line c t is_released v).mark s) ≡ false
    released_gone s = by_home (is_released s) (is_home line c s) (v.wish s)
      where
        by_home : (is_so at_home is_wished : Bool) → is_so ≡ true
            → is_given_to t (if is_so && at_home then (if is_wished then Shut else Open)
            else (if is_so && not at_home then Kept t else v.mark s)) ≡ false
        by_home false at_home is_wished so = cc
        by_home true true true so = refl
        by_home true true false so = refl
        by_home true false is_wished so = refl

    waited_stay : (u d s : ℕ) → IsWaited line v u d s → is_released s ≡ true → ⊥
    waited_stay u d s waited so = let wrong : true ≡ false = sym (of_hand s so) ∙ ap (is_given_to t) waited.kept in cc

    pub release_leaves : (new : LineState) (May : ℕ → ℕ → Type 0) → new.mark ≡ (release line c t is_released v).mark
        → new.wait ≡ v.wait → ((s : ℕ) → is_released s ≡ true → May t s) → OwnLeaves line v new May
    release_leaves new May marks same may = record {
      given = λ u s is. by_released u s is (is_released s) refl;
      waits = wait_on line v keep new same (λ u d s waited. ap (λ (f : ℕ → Mark). f s) marks
          ∙ released_stay s (waited_stay u d s waited));
    }
      where
        by_released : (u s : ℕ) → v.mark s ≡ Given u → (b : Bool) → is_released s ≡ b → (new.mark s ≡ Given u) ⊎ May u s
        by_released u s is true so =
            inr (subst (λ (x : ℕ). May x s) (train_given t u (v.mark s) (of_hand s so) is) (may s so))
        by_released u s is false so = inl (ap (λ (f : ℕ → Mark). f s) marks
            ∙ released_stay s (λ yes. let wrong : true ≡ false = sym yes ∙ so in cc) ∙ is)
