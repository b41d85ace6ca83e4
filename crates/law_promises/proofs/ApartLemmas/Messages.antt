use Rattle.std.proofs.Common.{[], ◌+◌, ◌-◌, ◌==◌, ◌||◌, ◌∷◌, ◌≡◌, ap, Bool, Err, false, if◌then◌else◌, inl, inr, List}
use Rattle.std.proofs.Common.{None, Ok, Option, refl, Result, Some, subst, sym, true, ℕ}
use Rattle.std.proofs.lemmas.Bool.Decides.{eqb_tells}
use Rattle.std.proofs.lemmas.List.Elements.{All-cons, All-head, All-nil, All-tail, All-weaker}
use Rattle.std.specs.List.{All}
use Rattle.std.specs.Option.{option_map_or}
use Rattle.law_base.specs.Walk.Trains.{train_of}
use Rattle.law_promises.proofs.ApartLemmas.Acts.{Its, its_become, its_freed, its_if, its_option, its_rest, its_returned}
use Rattle.law_promises.proofs.ApartLemmas.Acts.{its_say, its_take_over, its_then, its_with, of_option, same_heard}
use Rattle.law_promises.proofs.ApartLemmas.Speaks.{IsOf, same_itself, words_of}
use Rattle.law_promises.proofs.ApartLemmas.Starts.{its_cancel, its_change, its_close, its_phase, its_pool, its_request}
use Rattle.law_promises.proofs.ApartLemmas.Starts.{its_set, its_start, its_wait}
use Rattle.law_promises.specs.Apart.Apart.{IsOfTrain, IsolationTheorem, IsSameOf, IsToldOf}
use Rattle.rbc_spec.proofs.Lists.{put_here, put_other}
use Rattle.rbc_spec.specs.Acts.{◌>>◌, Act, become, cancel, change_mission, close, freed, hear, leave, part_at, rest}
use Rattle.rbc_spec.specs.Acts.{return_pool, returned, say, set_mission, with_mission}
use Rattle.rbc_spec.specs.Centre.{Centre, Closed, is_taken_for, Mission, Opened, Proposal, Up}
use Rattle.rbc_spec.specs.Frame.{Body, Frame}
use Rattle.rbc_spec.specs.Line.{is_centre, Line}
use Rattle.rbc_spec.specs.Maps.{put}
use Rattle.rbc_spec.specs.Message.{DataAcknowledged, EndOfMission, InitiationOfSession, Report, Request}
use Rattle.rbc_spec.specs.Message.{SessionEstablished, ShorteningGranted, ShorteningRejected, StartOfMission}
use Rattle.rbc_spec.specs.Message.{SystemVersion, TerminationAcknowledged, TerminationOfSession, TrainBody, TrainData}
use Rattle.rbc_spec.specs.Message.{TrainMessage, unknown_group}
use Rattle.rbc_spec.specs.Outcome.{Asked, Done, NotHome, Outcome, Reason, Told, Word}
use Rattle.rbc_spec.specs.Place.{covered, Place, place_on, Position}
use Rattle.rbc_spec.specs.Rules.{answer_granted, answered, clear, cleared, close_session, cut, cut_ahead, drop_wait}
use Rattle.rbc_spec.specs.Rules.{end_mission, granted, reached, report, report_here, set_phase, stand_still, take_over}
use Rattle.rbc_spec.specs.SectionRuns.{is_empty, joined, next_after, no_run, part_before, part_from, SectionRun}
use Rattle.rbc_spec.specs.Step.{Effect, effect, hear_and_answer, numbered, Refusal, refusal, silence, step, taken}
use Rattle.rbc_spec.specs.Step.{ticked, Train}
use Rattle.rbc_spec.specs.World.{Answer, Answered, mention, NoCentre, stepped, World, world_step}

-- ## Sections leave

module _ (line : Line) (c t : ℕ) where
  its_leave : (track : ℕ) (r : SectionRun) → Its false t (leave line c t track r)
  its_leave track r = its_then false t (freed line c (is_taken_for t) r) (returned line c t track r)
      (its_freed t line c r) (its_returned false t line c track r)

  its_drop : Its false t (drop_wait line c t)
  its_drop = its_with false t (λ k. k.wait t) (λ place. freed line c (is_taken_for t) (covered line place)
      >> become (λ k. record k { wait = put k.wait t None }))
      (λ place. its_then false t (freed line c (is_taken_for t) (covered line place))
      (become (λ k. record k { wait = put k.wait t None })) (its_freed t line c (covered line place))
      (its_wait false line c t None))

  its_close_session : Its false t (close_session line c t)
  its_close_session = its_then false t (set_phase t Closed >> change_mission t (λ m. record m { proposal = None }))
      (drop_wait line c t)
      (its_then false t (set_phase t Closed) (change_mission t (λ m. record m { proposal = None }))
      (its_phase false line c t Closed) (its_change false line c t (λ m. record m { proposal = None }))) its_drop

  its_clear : (m : Mission) (place : Place) → Its false t (clear line c t m place)
  its_clear m place =
      let r = cleared line place m in
      its_if false t (r.count == m.hand.count) (leave line c t m.place.track (joined m.hand m.pool) >> close line c t m)
      (leave line c t m.place.track r
      >> set_mission t (Some (record m { place = place; hand = part_from (next_after r) m.hand })))
      (its_then false t (leave line c t m.place.track (joined m.hand m.pool)) (close line c t m)
      (its_leave m.place.track (joined m.hand m.pool)) (its_close false line c t m))
      (its_then false t (leave line c t m.place.track r)
      (set_mission t (Some (record m { place = place; hand = part_from (next_after r) m.hand })))
      (its_leave m.place.track r)
      (its_set false line c t (Some (record m { place = place; hand = part_from (next_after r) m.hand }))))

  its_report_here : (position : Position) (m : Mission) → Its false t (report_here line c t position m)
  its_report_here position m = its_option false t (place_on line m.place.track position) (clear line c t m) rest
      (its_clear m) (its_rest false t)

  its_report : (position : Position) → Its false t (report line c t position)
  its_report position k = of_option false t (k.mission t) k (λ m. report_here line c t position m k)
      (take_over line t k) (λ m. its_report_here position m k) (its_take_over false t line k)

  its_cut : (last : ℕ) (m : Mission) → Its false t (cut line c t last m)
  its_cut last m =
      let tail = part_from (last + 1) m.hand in
      let kept = record m { hand = part_before (last + 1) m.hand; pool = no_run; proposal = None } in
      let due : Act =
      option_map_or (λ h. if is_empty (part_at line h.to m.place.track kept.hand) then cancel t kept else rest)
      m.handing rest in
      its_then false t (leave line c t m.place.track (joined tail m.pool))
      (if tail.count == m.hand.count then close line c t m else (set_mission t (Some kept) >> due))
      (its_leave m.place.track (joined tail m.pool))
      (its_if false t (tail.count == m.hand.count) (close line c t m) (set_mission t (Some kept) >> due)
      (its_close false line c t m)
      (its_then false t (set_mission t (Some kept)) due (its_set false line c t (Some kept))
      (its_option false t m.handing (λ h. if is_empty (part_at line h.to m.place.track kept.hand)
      then cancel t kept else rest) rest
      (λ h. its_if false t (is_empty (part_at line h.to m.place.track kept.hand)) (cancel t kept) rest
      (its_cancel false line c t kept) (its_rest false t)) (its_rest false t))))

  its_granted : (position : Position) (m : Mission) (p : Proposal) → Its false t (granted line c t position m p)
  its_granted position m p = its_then false t (change_mission t (λ n. record n { proposal = None })) _
      (its_change false line c t (λ n. record n { proposal = None }))
      (its_option false t (place_on line m.place.track position) _ rest
      (λ place. its_if false t _ (cut line c t p.last_kept m) rest (its_cut p.last_kept m) (its_rest false t))
      (its_rest false t))

  its_answer : (position : Position) → Its false t (answer_granted line c t position)
  its_answer position = its_with false t (λ k. k.mission t) _
      (λ m. its_with false t (λ k. m.proposal) (granted line c t position m) (its_granted position m))

  its_stand : (position : Position) (m : Mission) → Its false t (stand_still line c t position m)
  its_stand position m = its_if false t (position.v_train == 0)
      (option_map_or (cut_ahead line c t m) (place_on line m.place.track position) rest) rest
      (its_option false t (place_on line m.place.track position) (cut_ahead line c t m) rest
      (λ place. its_if false t ((reached line place m == 0) || (reached line place m == m.hand.count)) rest
      (cut line c t (m.hand.first + reached line place m - 1) m) (its_rest false t)
      (its_cut (m.hand.first + reached line place m - 1) m)) (its_rest false t)) (its_rest false t)

  its_end : (position : Position) → Its false t (end_mission line c t position)
  its_end position = its_then false t (with_mission t (report_here line c t position)
      >> with_mission t (stand_still line c t position))
      (with_mission t (λ m. return_pool line c t m
      >> change_mission t (λ n. record n { is_ended = true; proposal = None })))
      (its_then false t (with_mission t (report_here line c t position))
      (with_mission t (stand_still line c t position))
      (its_with false t (λ k. k.mission t) (report_here line c t position) (its_report_here position))
      (its_with false t (λ k. k.mission t) (stand_still line c t position) (its_stand position)))
      (its_with false t (λ k. k.mission t) (λ m. return_pool line c t m
      >> change_mission t (λ n. record n { is_ended = true; proposal = None }))
      (λ m. its_then false t (return_pool line c t m)
      (change_mission t (λ n. record n { is_ended = true; proposal = None })) (its_pool false line c t m)
      (its_change false line c t (λ n. record n { is_ended = true; proposal = None }))))

-- ## A message

-- a start and a request may take sections
takes_sections : TrainBody → Bool
takes_sections (StartOfMission is_valid position) = true
takes_sections (Request position) = true
takes_sections body = false

its_answered : (line : Line) (c : ℕ) (m : TrainMessage) (body : TrainBody)
    → Its (takes_sections body) m.nid_engine (answered line c m body)
unfolding takes_sections
its_answered line c m (TrainData position) =
    its_then false m.nid_engine (change_mission m.nid_engine (λ n. record n { has_data = true }))
    (say m.nid_engine unknown_group (DataAcknowledged m.t_train))
    (its_change false line c m.nid_engine (λ n. record n { has_data = true }))
    (its_say false m.nid_engine unknown_group (DataAcknowledged m.t_train))
its_answered line c m (Request position) = its_request line c m.nid_engine position
its_answered line c m (Report position) = its_report line c m.nid_engine position
its_answered line c m (ShorteningGranted stamp position) = its_answer line c m.nid_engine position
its_answered line c m (ShorteningRejected stamp position) =
    its_change false line c m.nid_engine (λ n. record n { proposal = None })
its_answered line c m (EndOfMission position) = its_end line c m.nid_engine position
its_answered line c m InitiationOfSession =
    its_then false m.nid_engine (close_session line c m.nid_engine >> set_phase m.nid_engine Opened)
    (say m.nid_engine unknown_group SystemVersion)
    (its_then false m.nid_engine (close_session line c m.nid_engine) (set_phase m.nid_engine Opened)
    (its_close_session line c m.nid_engine) (its_phase false line c m.nid_engine Opened))
    (its_say false m.nid_engine unknown_group SystemVersion)
its_answered line c m TerminationOfSession =
    its_then false m.nid_engine (close_session line c m.nid_engine)
    (say m.nid_engine unknown_group TerminationAcknowledged) (its_close_session line c m.nid_engine)
    (its_say false m.nid_engine unknown_group TerminationAcknowledged)
its_answered line c m (StartOfMission is_valid position) = its_start line c m.nid_engine is_valid position
its_answered line c m SessionEstablished = its_phase false line c m.nid_engine Up

its_hear : (takes : Bool) (m : TrainMessage) → Its takes m.nid_engine (hear m)
its_hear takes m = its_become takes m.nid_engine (λ k. record k { heard = put k.heard m.nid_engine (Some m.t_train) })
    (λ k s. refl) (λ k u apart. same_heard takes m.nid_engine k (Some m.t_train) u apart)

effect_of : (line : Line) (c : ℕ) (m : TrainMessage) (k : Centre)
    → IsOf (takes_sections m.body) m.nid_engine k (effect line c k (Train m)).reply
effect_of line c m k = by_silence (silence line c k m)
  where
    by_silence : (o : Option Reason) → IsOf (takes_sections m.body) m.nid_engine k
        (option_map_or {U = Effect} (λ why. record { reply = rest k; link = None; silence = Some why }) o
        (record { reply = hear_and_answer line c m k; link = None; silence = None })).reply
    by_silence None = its_then (takes_sections m.body) m.nid_engine (hear m) (answered line c m m.body)
        (its_hear (takes_sections m.body) m) (its_answered line c m m.body) k
    by_silence (Some why) = its_rest (takes_sections m.body) m.nid_engine k

numbered_of : (t stamp count : ℕ) (bodies : List Body) → All (λ (b : Body). train_of b ≡ t) bodies
    → All (λ (f : Frame). train_of f.body ≡ t) (numbered stamp count bodies)
numbered_of t stamp count [] all = All-nil (λ (f : Frame). train_of f.body ≡ t)
numbered_of t stamp count (body ∷ bodies) all =
    All-cons (λ (f : Frame). train_of f.body ≡ t) _ _ (All-head (λ (b : Body). train_of b ≡ t) body bodies all)
    (numbered_of t stamp (count + 1) bodies (All-tail (λ (b : Body). train_of b ≡ t) body bodies all))

-- ## A step of the world

ok_same : (p q : Answer × World) → ◌≡◌ {A = Result (Answer × World) Refusal} (Ok p) (Ok q) → p ≡ q
ok_same p q same = cc

answered_same : (a b : Outcome) → ◌≡◌ {A = Answer} (Answered a) (Answered b) → a ≡ b
answered_same a b same = cc

outcome_is : (a b : Outcome) (x y : World)
    → ◌≡◌ {A = Result (Answer × World) Refusal} (Ok (Answered a, x)) (Ok (Answered b, y)) → a ≡ b
outcome_is a b x y same =
    answered_same a b (ap (λ (p : Answer × World). p.0) (ok_same (Answered a, x) (Answered b, y) same))

world_is : (a b : Outcome) (x y : World)
    → ◌≡◌ {A = Result (Answer × World) Refusal} (Ok (Answered a, x)) (Ok (Answered b, y)) → x ≡ y
world_is a b x y same = ap (λ (p : Answer × World). p.1) (ok_same (Answered a, x) (Answered b, y) same)

refused : (why : Refusal) (p : Answer × World) {P : Type 0}
    → ◌≡◌ {A = Result (Answer × World) Refusal} (Err why) (Ok p) → P
refused why p same = cc

no_centre : (w new : World) (o : Outcome) {P : Type 0}
    → ◌≡◌ {A = Result (Answer × World) Refusal} (Ok (NoCentre, w)) (Ok (Answered o, new)) → P
no_centre w new o same =
    not_answered o (ap (λ (p : Answer × World). p.0) (ok_same (NoCentre, w) (Answered o, new) same))
  where
    not_answered : (o : Outcome) {P : Type 0} → ◌≡◌ {A = Answer} NoCentre (Answered o) → P
    not_answered o same = cc

pub isolates : IsolationTheorem
unfolding world_step step
isolates line w new c m outcome is = by_centre (is_centre line c) (refusal line c (w.at c) (Train m)) is
  where
    t : ℕ
    t = m.nid_engine

    k : Centre
    k = ticked ((w.at c).clock + 1) (w.at c)

    done : Outcome × Centre
    done = taken line c (Train m) (w.at c)

    named : List ℕ
    named = mention line m.nid_engine w.trains

    of_it : IsOf (takes_sections m.body) t k (effect line c k (Train m)).reply
    of_it = effect_of line c m k

    here : (u : ℕ) → (u ≡ t → ⊥) → IsSameOf u (w.at c) done.1
    here u apart = let h = of_it.others u apart in
        record {
          phase = h.phase;
          heard = h.heard;
          said = h.said;
          mission = h.mission;
          wait = h.wait;
          has_asked = h.has_asked;
          has_right = h.has_right;
          route_ask = h.route_ask;
          expects = h.expects;
          used =
              h.used;
          entries = h.entries;
        }

    after : World
    after = record { at = put w.at c done.1; trains = named }

    told_of : (word : Word) → IsToldOf t k word → IsToldOf t (w.at c) word
    told_of (Told s) is = is
    told_of (Done s) is = is
    told_of (Asked s) is = is
    told_of (NotHome s) is = is

    whole : IsOfTrain c t w done.0 after
    whole = record {
      others = λ u apart d. elim (eqb_tells d c) [
        | inl h ↦ subst (λ (x : Centre). IsSameOf u (w.at d) x) (sym (put_here w.at c d done.1 (h.1)))
            (subst (λ (x : Centre). IsSameOf u x done.1) (sym (ap w.at (h.1))) (here u apart))
        | inr h ↦ subst (λ (x : Centre). IsSameOf u (w.at d) x) (sym (put_other w.at c d done.1 (h.1)))
            (same_itself u (w.at d))
      ];
      sayings = of_it.sayings;
      frames = λ d. numbered_of t _ _ _ (of_it.frames d);
      words = All-weaker (IsToldOf t k) (IsToldOf t (w.at c)) told_of done.0.words
          (words_of (takes_sections m.body) t k (effect line c k (Train m)).reply of_it.speaks);
    }

    by_centre : (b : Bool) (o : Option Refusal)
        → (if b then stepped w c named (option_map_or (λ why. Err why) o (Ok done)) else Ok (NoCentre, w))
        ≡ Ok (Answered outcome, new) → IsOfTrain c t w outcome new
    by_centre true None same = subst (λ (a : Outcome). IsOfTrain c t w a new) (outcome_is done.0 outcome after new same)
        (subst (λ (x : World). IsOfTrain c t w done.0 x) (world_is done.0 outcome after new same) whole)
    by_centre true (Some why) same = refused why (Answered outcome, new) same
    by_centre false o same = no_centre w new outcome same
