-- A quiet step gives a section only by the admission of a start, and frees no given one.
use Rattle.law_base.proofs.PiecesLemmas.Frees.{by_test}
use Rattle.law_base.proofs.PiecesLemmas.GivenSections.{is_not_used}
use Rattle.law_base.proofs.PiecesLemmas.OwnFrees.{own_leaves}
use Rattle.law_base.proofs.PiecesLemmas.Waits.{if_not, is_waited, quiet_leaves, wait_on, waiting_at, WaitsKeep}
use Rattle.law_mutants.specs.Quiet.{FreesAny, GivesAtOnce, one_freed, one_given, one_open, StartsAreKept}
use Rattle.law_mutants.specs.Small.{small}
use Rattle.rbc_spec.specs.Line.{is_centre, is_home, Line}
use Rattle.rbc_spec.specs.LineCentre.{Given, hears, is_given_to, is_waiting_at, Kept, line_beginning, LineState, Mark}
use Rattle.rbc_spec.specs.LineCentre.{nothing, Open, Said, Shut}
use Rattle.rbc_spec.specs.Message.{TrainMessage}
use Rattle.rbc_spec.specs.Outcome.{Reason}
use Rattle.rbc_spec.specs.OwnSteps.{is_unused_mark, set_mark, Sets, Unsets, wished_back}
use Rattle.rbc_spec.specs.Place.{covered, Place}
use Rattle.rbc_spec.specs.Quiet.{Admit, Dismiss, EndOrder, Keep, LayDown, Order, Propose, Quiet, TakesQuiet, TakeUp}
use Rattle.rbc_spec.specs.Quiet.{Unkeep}
use Rattle.rbc_spec.specs.Run.{heard, listened, OwnStep, silent, Steps}
use Rattle.rbc_spec.specs.SectionRuns.{within}
use Rattle.rbc_spec.specs.World.{Bytes, Delivery, Event, Set, Unset}
use Rattle.std.proofs.Common.{◌==◌, ◌∙◌, ◌≡◌, ap, Bool, eqb-true, Err, false, if◌then◌else◌, inr, None, Ok, Option}
use Rattle.std.proofs.Common.{refl, Some, subst, sym, true, true≢false, ℕ}

-- ## Waiting starts

waits_of : (line : Line) (v : LineState) → StartsAreKept line v → WaitsKeep line v
waits_of line v so = record {
  each = λ t c place s waits in_place.
      let is = waiting_at line v t c s place waits in_place in
      record { kept = so.kept t c s is; home = so.home t c s is; centre = so.centre t c s is; waits = is };
}

starts_of : (line : Line) (v : LineState) → WaitsKeep line v → StartsAreKept line v
starts_of line v keep = record {
  kept = λ t c s is. (is_waited line v keep t c s is).kept;
  home = λ t c s is. (is_waited line v keep t c s is).home;
  centre = λ t c s is. (is_waited line v keep t c s is).centre;
}

pub none_wait : (line : Line) (v : LineState) → ((t c : ℕ) → v.wait t c ≡ None) → StartsAreKept line v
none_wait line v none = starts_of line v (record {
  each = λ t c place s waits in_place. absurd (let wrong : None ≡ Some place = sym (none t c) ∙ waits in cc);
})

pub at_first : (line : Line) → StartsAreKept line line_beginning
unfolding line_beginning
at_first line = none_wait line line_beginning (λ t c. refl)

-- ## Own steps

module _ (line : Line) (v : LineState) (keep : WaitsKeep line v) where
  same_waits : (mid new : LineState) → mid ≡ new → new.wait ≡ v.wait → new.mark ≡ v.mark → WaitsKeep line mid
  same_waits mid new is waits marks = subst (WaitsKeep line) (sym is)
      (wait_on line v keep new waits (λ t c s waited. ap (λ (f : ℕ → Mark). f s) marks))

  -- an unused section gets another mark
  marked_waits : (mid : LineState) (s : ℕ) (mark : Mark) → is_unused_mark (v.mark s) ≡ true → mid ≡ set_mark s mark v
      → WaitsKeep line mid
  marked_waits mid s mark unused is = subst (WaitsKeep line) (sym is)
      (wait_on line v keep (set_mark s mark v) refl
      (λ t c e waited. if_not (e == s) mark (v.mark e)
      (λ so. is_not_used (v.mark s) t unused (inr (ap v.mark (sym (eqb-true e s so)) ∙ waited.kept)))))

  sets_wait : (c s : ℕ) (said : Said) (mid : LineState) → Sets line v c s said mid → WaitsKeep line mid
  sets_wait c s said mid h = by_test (is_home line c s) _ _
      (λ _ tells. by_use (is_unused_mark (v.mark s)) refl tells.new_is)
      (λ _ tells. same_waits mid v tells.new_is refl refl) h
    where
      by_use : (b : Bool) → is_unused_mark (v.mark s) ≡ b
          → mid ≡ (if b then set_mark s Open v else wished_back s false v) → WaitsKeep line mid
      by_use true unused is = marked_waits mid s Open unused is
      by_use false used is = same_waits mid (wished_back s false v) is refl refl

  unsets_wait : (c s : ℕ) (said : Said) (mid : LineState) → Unsets line v c s said mid → WaitsKeep line mid
  unsets_wait c s said mid h = by_test (is_home line c s) _ _
      (λ _ used. by_test (is_unused_mark (v.mark s)) _ _
      (λ unused tells. marked_waits mid s Shut unused tells.new_is)
      (λ _ tells. same_waits mid (wished_back s true v) tells.new_is refl refl) used)
      (λ _ tells. same_waits mid v tells.new_is refl refl) h

  steps_wait : (c : ℕ) (m : TrainMessage) (said : Said) (mid : LineState) (why : Option Reason)
      → is_centre line c ≡ true → Steps line v c m said mid why → WaitsKeep line mid
  steps_wait c m said mid why at (silent reason is so none new) = same_waits mid v new refl refl
  steps_wait c m said mid why at (listened may so none new) = same_waits mid (hears c m v) new refl refl
  steps_wait c m said mid why at (heard is so hearing) =
      (own_leaves line (hears c m v) (same_waits (hears c m v) (hears c m v) refl refl refl) c at m m.body said mid
      hearing).waits

  own_waits : (event : Event) (said : Said) (mid : LineState) (why : Option Reason)
      → OwnStep line v event said mid why → WaitsKeep line mid
  own_waits (Bytes c (Ok m)) said mid why (at, steps) = steps_wait c m said mid why at steps
  own_waits (Bytes c (Err number)) said mid why never = absurd never
  own_waits (Set c s) said mid why (at, sets, none) = sets_wait c s said mid sets
  own_waits (Unset c s) said mid why (at, unsets, none) = unsets_wait c s said mid unsets
  own_waits (Delivery from to number) said mid why (none, is, spoken) = same_waits mid v is refl refl

pub own_keeps : (line : Line) (v mid : LineState) (event : Event) (said : Said) (why : Option Reason)
    → StartsAreKept line v → OwnStep line v event said mid why → StartsAreKept line mid
own_keeps line v mid event said why so h =
    starts_of line mid (own_waits line v (waits_of line v so) event said mid why h)

-- ## Quiet steps

pub quiet_keeps : (line : Line) (v new : LineState) (q : Quiet) (said : Said) → StartsAreKept line v
    → TakesQuiet line v q said new
    → ((t s : ℕ) → v.mark s ≡ Given t → new.mark s ≡ Given t) × StartsAreKept line new
quiet_keeps line v new q said so h =
    let leaves = quiet_leaves line v (waits_of line v so) q said new h in
    (leaves.given, starts_of line new leaves.waits)

-- a section of which the mark did not change was given before
not_so : (t : ℕ) (old new : Mark) → new ≡ old → is_given_to t old ≡ false → is_given_to t new ≡ true → ⊥
not_so t old new same before after = true≢false (sym after ∙ ap (is_given_to t) same ∙ before)

-- nor does a freed section become given
freed_not : (t : ℕ) (b wish : Bool) (old : Mark) → is_given_to t old ≡ false
    → is_given_to t (if b then (if wish then Shut else Open) else old) ≡ true → ⊥
freed_not t true true old before after = true≢false (sym after)
freed_not t true false old before after = true≢false (sym after)
freed_not t false wish old before after = true≢false (sym after ∙ before)

kept_not : (t u : ℕ) (b : Bool) (old : Mark) → is_given_to t old ≡ false
    → is_given_to t (if b then Kept u else old) ≡ true → ⊥
kept_not t u true old before after = true≢false (sym after)
kept_not t u false old before after = true≢false (sym after ∙ before)

given_is : (t u : ℕ) (b : Bool) (old : Mark) → is_given_to t old ≡ false
    → is_given_to t (if b then Given u else old) ≡ true → (b ≡ true) × (u ≡ t)
given_is t u true old before after = (refl, eqb-true u t after)
given_is t u false old before after = absurd (true≢false (sym after ∙ before))

module _ (line : Line) (v : LineState) (t s : ℕ) (before : is_given_to t (v.mark s) ≡ false) where
  abbrev ByAdmission : Quiet → Type 0
  ByAdmission q = (c : ℕ) × (q ≡ Admit t c) × (is_waiting_at line v t c s ≡ true)

  -- the mark of the section in the new state
  is_now : (new changed : LineState) → new ≡ changed → is_given_to t (new.mark s) ≡ true
      → is_given_to t (changed.mark s) ≡ true
  is_now new changed is after = sym (ap (λ (x : LineState). is_given_to t (x.mark s)) is) ∙ after

  same_not : (q : Quiet) (new changed : LineState) → new ≡ changed → changed.mark s ≡ v.mark s
      → is_given_to t (new.mark s) ≡ true → ByAdmission q
  same_not q new changed is same after =
      absurd (not_so t (v.mark s) (changed.mark s) same before (is_now new changed is after))

  admitted : (u c : ℕ) (place : Place) → v.wait u c ≡ Some place
      → is_given_to t (if within (covered line place) s then Given u else v.mark s) ≡ true → ByAdmission (Admit u c)
  admitted u c place waits after =
      let there = given_is t u (within (covered line place) s) (v.mark s) before after in (
        c,
        ap (λ (n : ℕ). Admit n c) there.1,
        ap (λ (n : ℕ). is_waiting_at line v n c s) (sym there.1) ∙ waiting_at line v u c s place waits there.0,
      )

  by_admission : (q : Quiet) (said : Said) (new : LineState) → TakesQuiet line v q said new
      → is_given_to t (new.mark s) ≡ true → ByAdmission q
  by_admission (Keep u e) said new h after =
      absurd (kept_not t u (s == e) (v.mark s) before (is_now new _ h.leaves.new_is after))
  by_admission (Unkeep u e) said new h after =
      absurd (freed_not t (s == e) (v.wish s) (v.mark s) before (is_now new _ h.tells.new_is after))
  by_admission (Admit u c) said new h after = admitted u c h.place h.waits (is_now new _ h.says.new_is after)
  by_admission (Dismiss u c) said new h after = absurd
      (freed_not t (is_waiting_at line v u c s) (v.wish s) (v.mark s) before (is_now new _ h.says.new_is after))
  by_admission (LayDown u c) said new h after = same_not _ new _ h.leaves.new_is refl after
  by_admission (TakeUp u c) said new h after = same_not _ new _ h.leaves.new_is refl after
  by_admission (Propose u c e) said new h after = same_not _ new _ h.says.new_is refl after
  by_admission (Order u c) said new h after = same_not _ new _ h.says.new_is refl after
  by_admission (EndOrder u c) said new h after = same_not _ new _ h.says.new_is refl after

pub gives_by_admission : (line : Line) (v new : LineState) (q : Quiet) (said : Said) (t s : ℕ)
    → TakesQuiet line v q said new
    → is_given_to t (v.mark s) ≡ false → is_given_to t (new.mark s) ≡ true
    → (c : ℕ) × (q ≡ Admit t c) × (is_waiting_at line v t c s ≡ true)
gives_by_admission line v new q said t s h before after = by_admission line v t s before q said new h after

-- ## The wrong steps, computed

pub given_at_once : GivesAtOnce small one_open (Keep 1 1) nothing one_given
    × (is_given_to 1 (one_open.mark 1) ≡ false) × (is_given_to 1 (one_given.mark 1) ≡ true)
unfolding line_beginning
given_at_once = ((refl, record { said_is = refl; new_is = refl }), refl, refl)

pub freed_when_given : StartsAreKept small one_given × FreesAny small one_given (Unkeep 1 1) nothing one_freed
    × (one_given.mark 1 ≡ Given 1) × (one_freed.mark 1 ≡ Open)
unfolding line_beginning
freed_when_given =
    (none_wait small one_given (λ t c. refl), (refl, record { said_is = refl; new_is = refl }), refl, refl)
