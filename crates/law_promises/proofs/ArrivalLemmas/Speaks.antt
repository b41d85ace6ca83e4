-- The messages of the one line centre in one step: at most one, which it counts.
use Rattle.std.proofs.Common.{[], ◌*◌, ◌+◌, ◌==◌, ◌∙◌, ◌∷◌, ◌≡◌, ◌≤◌, ap, arith, Bool, eqb-true, false, if◌then◌else◌}
use Rattle.std.proofs.Common.{inl, inr, List, nat_le, None, Option, refl, Some, subst, true, ℕ}
use Rattle.std.specs.List.{list_any, range_with_len}
use Rattle.law_base.proofs.PiecesLemmas.Frees.{by_test}
use Rattle.law_base.proofs.PiecesLemmas.Waits.{elsewhere, put_at, PutAt, there}
use Rattle.rbc_spec.specs.Centre.{is_registrar_of}
use Rattle.rbc_spec.specs.Line.{end, is_home, Line}
use Rattle.rbc_spec.specs.LineCentre.{close_if_empty, is_given_to, LineState, Open, release, Said, saying_of}
use Rattle.rbc_spec.specs.LineCentre.{set_mission, supervises}
use Rattle.rbc_spec.specs.Maps.{put_pair}
use Rattle.rbc_spec.specs.Message.{EndOfMission, InitiationOfSession, Report, Request, SessionEstablished}
use Rattle.rbc_spec.specs.Message.{ShorteningGranted, ShorteningRejected, StartOfMission, TerminationOfSession}
use Rattle.rbc_spec.specs.Message.{TrackBody, TrainAccepted, TrainBody, TrainData, TrainMessage}
use Rattle.rbc_spec.specs.Outcome.{Saying, Word}
use Rattle.rbc_spec.specs.OwnSteps.{Ending, has_reached, is_ahead_of, is_cut_of, is_unused_mark, last_kept_of}
use Rattle.rbc_spec.specs.OwnSteps.{may_start, Own, Rejects, reported, Restarts, Says, set_mark, Sets, shortened}
use Rattle.rbc_spec.specs.OwnSteps.{Starts, StartsHere, StartsNew, stopped, Tells, track_of, Unsets, wished_back}
use Rattle.rbc_spec.specs.OwnSteps.{without_ask}
use Rattle.rbc_spec.specs.Place.{covered, fit_place, Place, place_on}
use Rattle.rbc_spec.specs.Quiet.{Admit, Dismiss, EndOrder, is_of_centre, Keep, LayDown, Order, Propose, Quiet}
use Rattle.rbc_spec.specs.Quiet.{TakesQuiet, TakeUp, Unkeep}
use Rattle.rbc_spec.specs.SectionRuns.{all_of}
use Rattle.rbc_spec.specs.Sections.{section_count}

-- centre c sends at most one message, and accepts a train only if that may be
pub data Speaks (may_accept : Type 0) (c : ℕ) (v : LineState) (sayings : List Saying) (new : LineState) : Type 0 where
  no_word : sayings ≡ [] → new.said ≡ v.said → Speaks may_accept c v sayings new
  one_word : (t group : ℕ) (body : TrackBody) → (body ≡ TrainAccepted → may_accept)
      → sayings ≡ saying_of t c group body v ∷ [] → new.said ≡ put_pair v.said t c (v.said t c + 1)
      → Speaks may_accept c v sayings new

-- counts only rise
pub said_rises : (v new : LineState) (c : ℕ) (sayings : List Saying) (may : Type 0) → Speaks may c v sayings new
    → (u d : ℕ) → v.said u d ≤ new.said u d
said_rises v new c sayings may (no_word none same) u d = let is = ap (λ (f : ℕ → ℕ → ℕ). f u d) same in
    omega (arith, is)
said_rises v new c sayings may (one_word t group body accepts is same) u d =
    by_pair (put_at v.said t c (v.said t c + 1) u d)
  where
    by_pair : PutAt v.said t c (v.said t c + 1) u d → v.said u d ≤ new.said u d
    by_pair (there a b one) =
        let now = ap (λ (f : ℕ → ℕ → ℕ). f u d) same ∙ one in
        let was : v.said u d ≡ v.said t c = ap (λ (n : ℕ). v.said n d) a ∙ ap (v.said t) b in
        omega (arith, now, was)
    by_pair (elsewhere apart one) = let now = ap (λ (f : ℕ → ℕ → ℕ). f u d) same ∙ one in omega (arith, now)

speaks_one : (may : Type 0) (t c group : ℕ) (body : TrackBody) (words : List Word) (v changed : LineState) (said : Said)
    (new : LineState) → (body ≡ TrainAccepted → may) → changed.said ≡ v.said
    → Says t c group body words v changed said new → Speaks may c v said.sayings new
speaks_one may t c group body words v changed said new accepts same h =
    one_word t group body accepts (ap (λ (p : Said). p.sayings) h.said_is)
    (ap (λ (x : LineState). x.said) h.new_is ∙ ap (λ (f : ℕ → ℕ → ℕ). put_pair f t c (f t c + 1)) same)

speaks_none : (may : Type 0) (c : ℕ) (words : List Word) (v changed : LineState) (said : Said) (new : LineState)
    → changed.said ≡ v.said → Tells words changed said new → Speaks may c v said.sayings new
speaks_none may c words v changed said new same h =
    no_word (ap (λ (p : Said). p.sayings) h.said_is) (ap (λ (x : LineState). x.said) h.new_is ∙ same)

-- ## Quiet steps

pub quiet_speaks : (line : Line) (c : ℕ) (v : LineState) (q : Quiet) (said : Said) (new : LineState)
    → is_of_centre line c q ≡ true → TakesQuiet line v q said new → Speaks (Unit {0}) c v said.sayings new
quiet_speaks line c v (Keep t s) said new at h = speaks_none _ c _ v _ said new refl h.leaves
quiet_speaks line c v (Unkeep t s) said new at h = speaks_none _ c _ v _ said new refl h.tells
quiet_speaks line c v (Admit t d) said new at h =
    subst (λ (e : ℕ). Speaks (Unit {0}) e v said.sayings new) (eqb-true d c at)
    (speaks_one _ t d _ _ _ v _ said new (λ is. tt) refl h.says)
quiet_speaks line c v (Dismiss t d) said new at h =
    subst (λ (e : ℕ). Speaks (Unit {0}) e v said.sayings new) (eqb-true d c at)
    (speaks_one _ t d _ _ _ v _ said new (λ is. tt) refl h.says)
quiet_speaks line c v (LayDown t d) said new at h = speaks_none _ c _ v _ said new refl h.leaves
quiet_speaks line c v (TakeUp t d) said new at h = speaks_none _ c _ v _ said new refl h.leaves
quiet_speaks line c v (Propose t d s) said new at h =
    subst (λ (e : ℕ). Speaks (Unit {0}) e v said.sayings new) (eqb-true d c at)
    (speaks_one _ t d _ _ _ v _ said new (λ is. tt) refl h.says)
quiet_speaks line c v (Order t d) said new at h =
    subst (λ (e : ℕ). Speaks (Unit {0}) e v said.sayings new) (eqb-true d c at)
    (speaks_one _ t d _ _ _ v _ said new (λ is. tt) refl h.says)
quiet_speaks line c v (EndOrder t d) said new at h =
    subst (λ (e : ℕ). Speaks (Unit {0}) e v said.sayings new) (eqb-true d c at)
    (speaks_one _ t d _ _ _ v _ said new (λ is. tt) refl h.says)

-- ## Own steps

-- the messages with which a train's message may be answered
abbrev pub IsStart : TrainBody → Type 0
IsStart (StartOfMission is_valid position) = Unit {0}
IsStart body = ⊥

closed_said : (line : Line) (t : ℕ) (v : LineState) → (close_if_empty line t v).said ≡ v.said
closed_said line t v = by_any (list_any (λ s. is_given_to t (v.mark s)) (range_with_len 0 (section_count line)))
  where
    by_any : (b : Bool) → (if b then v else set_mission t None v).said ≡ v.said
    by_any true = refl
    by_any false = refl

reported_said : (line : Line) (t c : ℕ) (place : Place) (v : LineState) → (reported line t c place v).said ≡ v.said
reported_said line t c place v = closed_said line t _

stopped_said : (line : Line) (t c : ℕ) (place : Place) (v : LineState) → (stopped line t c place v).said ≡ v.said
stopped_said line t c place v = by_any (has_reached line v t place)
  where
    by_any : (b : Bool) → (if b then release line c t (is_ahead_of line v t place) v else v).said ≡ v.said
    by_any true = refl
    by_any false = refl

shortened_said : (line : Line) (t c : ℕ) (o : Option Place) (last : ℕ) (v : LineState)
    → (shortened line t c o last v).said ≡ v.said
shortened_said line t c None last v = refl
shortened_said line t c (Some place) last v = by_test (nat_le place.front (10 * end line last))
  where
    by_test : (b : Bool) → (if b then close_if_empty line t (release line c t (is_cut_of v t last) v) else v).said
        ≡ v.said
    by_test true = closed_said line t _
    by_test false = refl

module _ (line : Line) (c : ℕ) (v : LineState) (m : TrainMessage) (said : Said) (new : LineState) where
  abbrev t : ℕ
  t = m.nid_engine

  starts_speak : (o : Option Place) → Starts line t c o v said new → Speaks (Unit {0}) c v said.sayings new
  starts_speak None h = speaks_one _ t c _ _ _ v _ said new (λ is. tt) refl h
  starts_speak (Some place) h = by_test (supervises v c t) _ _ (λ _ r. restarts r) (λ _ n. begins n) h
    where
      rejects : Rejects t c v said new → Speaks (Unit {0}) c v said.sayings new
      rejects h = speaks_one _ t c _ _ _ v _ said new (λ is. tt) refl h

      restarts : Restarts line t c place v said new → Speaks (Unit {0}) c v said.sayings new
      restarts h = by_test (all_of (λ s. is_given_to t (v.mark s)) (covered line place)) _ _
          (λ _ a. speaks_one _ t c _ _ _ v _ said new (λ is. tt) refl a) (λ _ r. rejects r) h

      here : StartsHere line t c place v said new → Speaks (Unit {0}) c v said.sayings new
      here (inl h) = speaks_one _ t c _ _ _ v _ said new (λ is. tt) refl h.1
      here (inr h) = rejects h

      begins : StartsNew line t c place v said new → Speaks (Unit {0}) c v said.sayings new
      begins h = by_test (may_start line v c place) _ _
          (λ _ n. by_test (is_registrar_of line c t) _ _ (λ _ q. here q) (λ _ q. speaks_none _ c _ v _ said new refl q)
          n) (λ _ r. rejects r) h

  ending_speaks : (may : Type 0) (is_still : Bool) (o : Option Place) → Ending line t c is_still o v said new
      → Speaks may c v said.sayings new
  ending_speaks may is_still None h = speaks_none may c _ v _ said new refl h
  ending_speaks may false (Some place) h = speaks_none may c _ v _ said new (reported_said line t c place v) h
  ending_speaks may true (Some place) h =
      speaks_none may c _ v _ said new (stopped_said line t c place (reported line t c place v)
      ∙ reported_said line t c place v) h

  pub own_speaks : (body : TrainBody) → Own line v c m body said new → Speaks (IsStart body) c v said.sayings new
  own_speaks InitiationOfSession h = speaks_one _ t c _ _ _ v _ said new (λ is. cc) refl h
  own_speaks TerminationOfSession h = speaks_one _ t c _ _ _ v _ said new (λ is. cc) refl h
  own_speaks SessionEstablished h = speaks_none _ c _ v _ said new refl h
  own_speaks (StartOfMission is_valid position) h = starts_speak (fit_place line is_valid position) h
  own_speaks (TrainData position) h = speaks_one _ t c _ _ _ v _ said new (λ is. cc) refl h
  own_speaks (Request position) (place, at, h) = speaks_one _ t c _ _ _ v _ said new (λ is. cc) refl h.says_it
  own_speaks (Report position) (place, at, h) = speaks_none _ c _ v _ said new (reported_said line t c place v) h
  own_speaks (ShorteningGranted stamp position) h =
      speaks_none _ c _ v _ said new (shortened_said line t c (place_on line (track_of v t) position)
      (last_kept_of v t) (without_ask t v)) h
  own_speaks (ShorteningRejected stamp position) h = speaks_none _ c _ v _ said new refl h
  own_speaks (EndOfMission position) h =
      ending_speaks _ (position.v_train == 0) (place_on line (track_of v t) position) h

-- ## Set and unset

pub sets_say : (line : Line) (v : LineState) (c s : ℕ) (said : Said) (new : LineState) (may : Type 0)
    → Sets line v c s said new → Speaks may c v said.sayings new
sets_say line v c s said new may h =
    by_test (is_home line c s) _ _ (λ _ n. speaks_none may c _ v _ said new (by_use (is_unused_mark (v.mark s))) n)
    (λ _ n. speaks_none may c _ v _ said new refl n) h
  where
    by_use : (b : Bool) → (if b then set_mark s Open v else wished_back s false v).said ≡ v.said
    by_use true = refl
    by_use false = refl

pub unsets_say : (line : Line) (v : LineState) (c s : ℕ) (said : Said) (new : LineState) (may : Type 0)
    → Unsets line v c s said new → Speaks may c v said.sayings new
unsets_say line v c s said new may h = by_test (is_home line c s) _ _
    (λ _ n. by_test (is_unused_mark (v.mark s)) _ _ (λ _ q. speaks_none may c _ v _ said new refl q)
    (λ _ q. speaks_none may c _ v _ said new refl q) n)
    (λ _ n. speaks_none may c _ v _ said new refl n) h
