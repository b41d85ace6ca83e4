-- The messages of the one line centre in one step: at most one, which it counts.
use Rattle.std.proofs.Common.{[], ◌*◌, ◌+◌, ◌≤◌, ◌==◌, ◌∙◌, ◌∷◌, ◌≡◌, ap, arith, Bool, eqb-true, false, if◌then◌else◌}
use Rattle.std.proofs.Common.{inl, inr, List, max, nat_le, None, Option, refl, Some, subst, sym, true, ℕ}
use Rattle.std.proofs.lemmas.Option.{same_Some}
use Rattle.std.specs.List.{list_any, range_with_len}
use Rattle.std.specs.Option.{option_map_or}
use Rattle.law_base.proofs.PiecesLemmas.Frees.{by_test}
use Rattle.law_base.proofs.PiecesLemmas.Waits.{elsewhere, put_at, PutAt, there}
use Rattle.law_promises.proofs.Follows.{put_later}
use Rattle.law_promises.proofs.Marks.{Later, same_later}
use Rattle.rbc_spec.specs.Centre.{is_registrar_of}
use Rattle.rbc_spec.specs.Line.{end, is_home, Line}
use Rattle.rbc_spec.specs.LineCentre.{close_if_empty, is_given_to, LineState, Open, release, Said, saying_of}
use Rattle.rbc_spec.specs.LineCentre.{set_mission, supervises}
use Rattle.rbc_spec.specs.Maps.{put_pair}
use Rattle.rbc_spec.specs.Message.{EndOfMission, InitiationOfSession, Report, Request, SessionEstablished}
use Rattle.rbc_spec.specs.Message.{ShorteningGranted, ShorteningRejected, StartOfMission, TerminationOfSession}
use Rattle.rbc_spec.specs.Message.{TrackBody, TrainBody, TrainData, TrainMessage, Authority, DataAcknowledged}
use Rattle.rbc_spec.specs.Outcome.{Saying, Word}
use Rattle.rbc_spec.specs.OwnSteps.{Ending, has_reached, is_ahead_of, is_cut_of, is_unused_mark, last_kept_of}
use Rattle.rbc_spec.specs.OwnSteps.{may_start, Own, Rejects, reported, Restarts, Says, set_mark, Sets, shortened}
use Rattle.rbc_spec.specs.OwnSteps.{Starts, StartsHere, StartsNew, stopped, Tells, track_of, Unsets, wished_back}
use Rattle.rbc_spec.specs.OwnSteps.{without_ask}
use Rattle.rbc_spec.specs.Place.{covered, fit_place, Place, place_on}
use Rattle.rbc_spec.specs.Quiet.{Admit, Dismiss, EndOrder, is_of_centre, Keep, LayDown, Order, Propose, Quiet}
use Rattle.rbc_spec.specs.Quiet.{TakesQuiet, TakeUp, Unkeep}
use Rattle.rbc_spec.specs.SectionRuns.{all_of}
use Rattle.rbc_spec.specs.Sections.{section_count}

-- centre c sends at most one message, with this property
pub data Speaks (P : TrackBody → ℕ
    → Type 0) (c : ℕ) (v : LineState) (sayings : List Saying) (new : LineState) : Type 0 where
  no_word : sayings ≡ [] → new.said ≡ v.said → Speaks P c v sayings new
  one_word : (t group : ℕ) (body : TrackBody) → P body t → sayings ≡ saying_of t c group body v ∷ []
      → new.said ≡ put_pair v.said t c (v.said t c + 1) → Speaks P c v sayings new

pub record Speech (P : TrackBody → ℕ
    → Type 0) (c : ℕ) (v : LineState) (sayings : List Saying) (new : LineState) : Type 0 where
  pub speaks : Speaks P c v sayings new
  pub heard : (t d : ℕ) → Later (v.heard t d) (new.heard t d)

-- counts only rise
pub said_rises : (P : TrackBody → ℕ → Type 0) (c : ℕ) (v : LineState) (sayings : List Saying) (new : LineState)
    → Speaks P c v sayings new → (u d : ℕ) → v.said u d ≤ new.said u d
said_rises P c v sayings new (no_word none same) u d = let is = ap (λ (f : ℕ → ℕ → ℕ). f u d) same in omega (arith, is)
said_rises P c v sayings new (one_word t group body may is same) u d = by_pair (put_at v.said t c (v.said t c + 1) u d)
  where
    by_pair : PutAt v.said t c (v.said t c + 1) u d → v.said u d ≤ new.said u d
    by_pair (there a b one) =
        let now = ap (λ (f : ℕ → ℕ → ℕ). f u d) same ∙ one in
        let was : v.said u d ≡ v.said t c = ap (λ (n : ℕ). v.said n d) a ∙ ap (v.said t) b in
        omega (arith, now, was)
    by_pair (elsewhere apart one) = let now = ap (λ (f : ℕ → ℕ → ℕ). f u d) same ∙ one in omega (arith, now)

-- a change of the state in which nothing is sent or received
pub record IsSilent (v new : LineState) : Type 0 where
  pub said : new.said ≡ v.said
  pub heard : new.heard ≡ v.heard

heard_still : (v new : LineState) → new.heard ≡ v.heard → (t d : ℕ) → Later (v.heard t d) (new.heard t d)
heard_still v new same t d =
    same_later (v.heard t d) (new.heard t d) (ap (λ (f : ℕ → ℕ → Option ℕ). f t d) same)

module _ (P : TrackBody → ℕ → Type 0) (c : ℕ) (v : LineState) (said : Said) (new : LineState) where
  pub speaks_one : (t group : ℕ) (body : TrackBody) (words : List Word) (changed : LineState) → P body t
      → IsSilent v changed → Says t c group body words v changed said new → Speech P c v said.sayings new
  speaks_one t group body words changed may same h = record {
    speaks = one_word t group body may (ap (λ (p : Said). p.sayings) h.said_is)
        (ap (λ (x : LineState). x.said) h.new_is ∙ ap (λ (f : ℕ → ℕ → ℕ). put_pair f t c (f t c + 1)) same.said);
    heard = heard_still v new (ap (λ (x : LineState). x.heard) h.new_is ∙ same.heard);
  }

  pub speaks_none : (words : List Word) (changed : LineState) → IsSilent v changed → Tells words changed said new
      → Speech P c v said.sayings new
  speaks_none words changed same h = record {
    speaks = no_word (ap (λ (p : Said). p.sayings) h.said_is) (ap (λ (x : LineState). x.said) h.new_is ∙ same.said);
    heard = heard_still v new (ap (λ (x : LineState). x.heard) h.new_is ∙ same.heard);
  }

silent : (v : LineState) → IsSilent v v
silent v = record { said = refl; heard = refl }

-- ## Quiet steps

-- no authority, and no acknowledgement of train data
abbrev pub IsPlain : TrackBody → ℕ → Type 0
IsPlain (Authority l) t = ⊥
IsPlain (DataAcknowledged s) t = ⊥
IsPlain body t = Unit {0}

later_of_both : (stamp : ℕ) (o : Option ℕ) → Later o (Some (option_map_or (max stamp) o stamp))
later_of_both stamp None n h = let wrong : None ≡ Some h.last = h.is in cc
later_of_both stamp (Some k) n h =
    record {
      last = max stamp k;
      is = refl;
      le = (let same : k ≡ h.last = same_Some k h.last h.is in let le = h.le in
          omega (arith, same, le));
    }

pub quiet_speaks : (line : Line) (c : ℕ) (v : LineState) (q : Quiet) (said : Said) (new : LineState)
    → is_of_centre line c q ≡ true → TakesQuiet line v q said new → Speech IsPlain c v said.sayings new
quiet_speaks line c v (Keep t s) said new at h =
    speaks_none IsPlain c v said new _ _ (record { said = refl; heard = refl }) h.leaves
quiet_speaks line c v (Unkeep t s) said new at h =
    speaks_none IsPlain c v said new _ _ (record { said = refl; heard = refl }) h.tells
quiet_speaks line c v (Admit t d) said new at h =
    subst (λ (e : ℕ). Speech IsPlain e v said.sayings new) (eqb-true d c at)
    (speaks_one IsPlain d v said new t _ _ _ _ tt (record { said = refl; heard = refl }) h.says)
quiet_speaks line c v (Dismiss t d) said new at h =
    subst (λ (e : ℕ). Speech IsPlain e v said.sayings new) (eqb-true d c at)
    (speaks_one IsPlain d v said new t _ _ _ _ tt (record { said = refl; heard = refl }) h.says)
quiet_speaks line c v (LayDown t d) said new at h =
    speaks_none IsPlain c v said new _ _ (record { said = refl; heard = refl }) h.leaves
quiet_speaks line c v (TakeUp t d) said new at h = record {
  speaks = no_word (ap (λ (p : Said). p.sayings) h.leaves.said_is) (ap (λ (x : LineState). x.said) h.leaves.new_is);
  heard = λ u e. subst (λ (f : ℕ → ℕ → Option ℕ). Later (v.heard u e) (f u e))
      (sym (ap (λ (x : LineState). x.heard) h.leaves.new_is))
      (put_later v.heard t d (Some (option_map_or (max h.stamp) (v.heard t d) h.stamp))
      (later_of_both h.stamp (v.heard t d)) u e);
}
quiet_speaks line c v (Propose t d s) said new at h =
    subst (λ (e : ℕ). Speech IsPlain e v said.sayings new) (eqb-true d c at)
    (speaks_one IsPlain d v said new t _ _ _ _ tt (record { said = refl; heard = refl }) h.says)
quiet_speaks line c v (Order t d) said new at h =
    subst (λ (e : ℕ). Speech IsPlain e v said.sayings new) (eqb-true d c at)
    (speaks_one IsPlain d v said new t _ _ _ _ tt (silent v) h.says)
quiet_speaks line c v (EndOrder t d) said new at h =
    subst (λ (e : ℕ). Speech IsPlain e v said.sayings new) (eqb-true d c at)
    (speaks_one IsPlain d v said new t _ _ _ _ tt (silent v) h.says)

-- ## Own steps

-- train data are acknowledged by their own T_TRAIN
abbrev pub MaySay : TrainMessage → TrackBody → ℕ → Type 0
MaySay m (DataAcknowledged s) u = (u ≡ m.nid_engine) × (s ≡ m.t_train)
MaySay m body u = Unit {0}

closed_silent : (line : Line) (t : ℕ) (v w : LineState) → IsSilent v w → IsSilent v (close_if_empty line t w)
closed_silent line t v w same = by_any (list_any (λ s. is_given_to t (w.mark s)) (range_with_len 0
    (section_count line)))
  where
    by_any : (b : Bool) → IsSilent v (if b then w else set_mission t None w)
    by_any true = same
    by_any false = record { said = same.said; heard = same.heard }

reported_silent : (line : Line) (t c : ℕ) (place : Place) (v w : LineState) → IsSilent v w
    → IsSilent v (reported line t c place w)
reported_silent line t c place v w same =
    closed_silent line t v _ (record { said = same.said; heard = same.heard })

stopped_silent : (line : Line) (t c : ℕ) (place : Place) (v w : LineState) → IsSilent v w
    → IsSilent v (stopped line t c place w)
stopped_silent line t c place v w same = by_reach (has_reached line w t place)
  where
    by_reach : (b : Bool) → IsSilent v (if b then release line c t (is_ahead_of line w t place) w else w)
    by_reach true = record { said = same.said; heard = same.heard }
    by_reach false = same

shortened_silent : (line : Line) (t c : ℕ) (o : Option Place) (last : ℕ) (v w : LineState) → IsSilent v w
    → IsSilent v (shortened line t c o last w)
shortened_silent line t c None last v w same = same
shortened_silent line t c (Some place) last v w same = by_front (nat_le place.front (10 * end line last))
  where
    by_front : (b : Bool)
        → IsSilent v (if b then close_if_empty line t (release line c t (is_cut_of w t last) w) else w)
    by_front true = closed_silent line t v _ (record { said = same.said; heard = same.heard })
    by_front false = same

module _ (line : Line) (c : ℕ) (v : LineState) (m : TrainMessage) (said : Said) (new : LineState) where
  abbrev t : ℕ
  t = m.nid_engine

  abbrev Speaking : Type 0
  Speaking = Speech (MaySay m) c v said.sayings new

  none : (words : List Word) (changed : LineState) → IsSilent v changed → Tells words changed said new → Speaking
  none = speaks_none (MaySay m) c v said new

  one : (group : ℕ) (body : TrackBody) (words : List Word) (changed : LineState) → MaySay m body t
      → IsSilent v changed → Says t c group body words v changed said new → Speaking
  one = speaks_one (MaySay m) c v said new t

  starts_speak : (o : Option Place) → Starts line t c o v said new → Speaking
  starts_speak None h = one _ _ _ _ tt (silent v) h
  starts_speak (Some place) h = by_test (supervises v c t) _ _ (λ _ r. restarts r) (λ _ n. begins n) h
    where
      rejects : Rejects t c v said new → Speaking
      rejects h = one _ _ _ _ tt (silent v) h

      restarts : Restarts line t c place v said new → Speaking
      restarts h = by_test (all_of (λ s. is_given_to t (v.mark s)) (covered line place)) _ _
          (λ _ a. one _ _ _ _ tt (record { said = refl; heard = refl }) a) (λ _ r. rejects r) h

      here : StartsHere line t c place v said new → Speaking
      here (inl h) = one _ _ _ _ tt (record { said = refl; heard = refl }) h.1
      here (inr h) = rejects h

      begins : StartsNew line t c place v said new → Speaking
      begins h = by_test (may_start line v c place) _ _
          (λ _ n. by_test (is_registrar_of line c t) _ _ (λ _ q. here q)
          (λ _ q. none _ _ (record { said = refl; heard = refl }) q) n) (λ _ r. rejects r) h

  ending_speaks : (is_still : Bool) (o : Option Place) → Ending line t c is_still o v said new → Speaking
  ending_speaks is_still None h = none _ _ (record { said = refl; heard = refl }) h
  ending_speaks false (Some place) h =
      let r = reported_silent line t c place v v (silent v) in
      none _ _ (record { said = r.said; heard = r.heard }) h
  ending_speaks true (Some place) h =
      let r = stopped_silent line t c place v _ (reported_silent line t c place v v (silent v)) in
      none _ _ (record { said = r.said; heard = r.heard }) h

  pub own_speaks : (body : TrainBody) → Own line v c m body said new → Speaking
  own_speaks InitiationOfSession h = one _ _ _ _ tt (record { said = refl; heard = refl }) h
  own_speaks TerminationOfSession h = one _ _ _ _ tt (record { said = refl; heard = refl }) h
  own_speaks SessionEstablished h = none _ _ (record { said = refl; heard = refl }) h
  own_speaks (StartOfMission is_valid position) h = starts_speak (fit_place line is_valid position) h
  own_speaks (TrainData position) h = one _ _ _ _ (refl, refl) (record { said = refl; heard = refl }) h
  own_speaks (Request position) (place, at, h) =
      one _ _ _ _ tt (record { said = refl; heard = refl }) h.says_it
  own_speaks (Report position) (place, at, h) = none _ _ (reported_silent line t c place v v (silent v)) h
  own_speaks (ShorteningGranted stamp position) h = none _ _
      (shortened_silent line t c (place_on line (track_of v t) position) (last_kept_of v t) v (without_ask t v)
      (record { said = refl; heard = refl })) h
  own_speaks (ShorteningRejected stamp position) h = none _ _ (record { said = refl; heard = refl }) h
  own_speaks (EndOfMission position) h =
      ending_speaks (position.v_train == 0) (place_on line (track_of v t) position) h

-- ## Set and unset

pub sets_say : (line : Line) (v : LineState) (c s : ℕ) (said : Said) (new : LineState)
    → Sets line v c s said new → Speech IsPlain c v said.sayings new
sets_say line v c s said new h =
    by_test (is_home line c s) _ _
    (λ _ n. speaks_none IsPlain c v said new _ _ (by_use (is_unused_mark (v.mark s))) n)
    (λ _ n. speaks_none IsPlain c v said new _ _ (silent v) n) h
  where
    by_use : (b : Bool) → IsSilent v (if b then set_mark s Open v else wished_back s false v)
    by_use true = record { said = refl; heard = refl }
    by_use false = record { said = refl; heard = refl }

pub unsets_say : (line : Line) (v : LineState) (c s : ℕ) (said : Said) (new : LineState)
    → Unsets line v c s said new → Speech IsPlain c v said.sayings new
unsets_say line v c s said new h = by_test (is_home line c s) _ _
    (λ _ n. by_test (is_unused_mark (v.mark s)) _ _
    (λ _ q. speaks_none IsPlain c v said new _ _ (record { said = refl; heard = refl }) q)
    (λ _ q. speaks_none IsPlain c v said new _ _ (record { said = refl; heard = refl }) q) n)
    (λ _ n. speaks_none IsPlain c v said new _ _ (silent v) n) h
